use Rattle.std.proofs.Common.{◌≡◌, ◌++◌, drop, map}
use Rattle.std.specs.Option.{option_map}
use Rattle.pddl_syntax.specs.Faults.{first_of}
use Rattle.pddl_effect.specs.Conditions.{conditions}
use Rattle.pddl_effect.specs.Effects.{effects, increases}
use Rattle.pddl_action.specs.declared.keyword.Keyword.TheVariants.{Precondition, Effect}
use Rattle.pddl_action.specs.Keywords.{part_of, value_of}
use Rattle.pddl_action.specs.Actions.{all_literals, all_increases}
use Rattle.pddl_action.specs.Readings.{value_or, bodies_faults}
use Rattle.pddl_action.proofs.schema.read_body.Given as goal

abbrev pub invariant-loop-part : goal.invariant-loop-part
invariant-loop-part l = let all = map part_of l.parts in let left = map part_of (drop l.part-index l.parts) in record {
  precondition : value_or (option_map (λ v. v.items) l.body.precondition) (conditions l.reader) Precondition left ≡ conditions l.reader (value_of Precondition all);
  effects : value_or (option_map (λ e. e.effects.items) l.body.effect) (effects l.reader) Effect left ≡ effects l.reader (value_of Effect all);
  increasing : value_or (option_map (λ e. e.increases.items) l.body.effect) (increases l.reader) Effect left ≡ increases l.reader (value_of Effect all);
  literals : l.body.literals.items ++ all_literals left ≡ all_literals all;
  increases : l.body.increases.items ++ all_increases left ≡ all_increases all;
  faults : first_of l.first (bodies_faults l.reader left) ≡ first_of l.fn.first (bodies_faults l.reader all);
}
