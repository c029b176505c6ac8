use Rattle.std.proofs.Common.{◌≡◌, ◌++◌, drop}
use Rattle.sexp.specs.Forms.{views}
use Rattle.pddl_syntax.specs.Faults.{first_of}
use Rattle.pddl_effect.specs.Conditions.{conditions_in, condition_places, conditions_faults_in}
use Rattle.pddl_effect.specs.Literals.{literal_places}
use Rattle.pddl_effect.proofs.condition.+conditions.Given as goal

abbrev pub invariant-read_conditions-loop-item : goal.invariant-read_conditions-loop-item
invariant-read_conditions-loop-item l = record {
  meaning : l.conditions.conditions.items ++ conditions_in l.setting l.reader (views (drop l.item-index l.items)) ≡ l.fn.conditions.conditions.items ++ conditions_in l.setting l.reader (views l.items);
  places : l.conditions.places.items ++ condition_places l.setting l.reader (views (drop l.item-index l.items)) ≡ l.fn.conditions.places.items ++ condition_places l.setting l.reader (views l.items);
  literals : l.conditions.literals.items ++ literal_places l.setting (views (drop l.item-index l.items)) ≡ l.fn.conditions.literals.items ++ literal_places l.setting (views l.items);
  faults : first_of l.first (conditions_faults_in l.setting l.reader (views (drop l.item-index l.items))) ≡ first_of l.fn.first (conditions_faults_in l.setting l.reader (views l.items));
}
