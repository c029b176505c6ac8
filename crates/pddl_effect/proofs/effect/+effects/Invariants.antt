use Rattle.std.proofs.Common.{◌≡◌, ◌++◌, drop}
use Rattle.sexp.specs.Forms.{views}
use Rattle.pddl_syntax.specs.Faults.{first_of}
use Rattle.pddl_terms.specs.declared.beginning.Setting.TheVariants.{InEffect}
use Rattle.pddl_effect.specs.Effects.{effects, increases, effects_faults}
use Rattle.pddl_effect.specs.Literals.{literal_places, increase_places}
use Rattle.pddl_effect.proofs.effect.+effects.Given as goal

abbrev pub invariant-read_effects-loop-item : goal.invariant-read_effects-loop-item
invariant-read_effects-loop-item l = record {
  effects : l.effects.effects.items ++ effects l.reader (views (drop l.item-index l.items)) ≡ l.fn.effects.effects.items ++ effects l.reader (views l.items);
  increases : l.effects.increases.items ++ increases l.reader (views (drop l.item-index l.items)) ≡ l.fn.effects.increases.items ++ increases l.reader (views l.items);
  literals : l.effects.literals.items ++ literal_places InEffect (views (drop l.item-index l.items)) ≡ l.fn.effects.literals.items ++ literal_places InEffect (views l.items);
  increase_places : l.effects.increase_places.items ++ increase_places InEffect (views (drop l.item-index l.items)) ≡ l.fn.effects.increase_places.items ++ increase_places InEffect (views l.items);
  faults : first_of l.first (effects_faults l.reader (views (drop l.item-index l.items))) ≡ first_of l.fn.first (effects_faults l.reader (views l.items));
}
