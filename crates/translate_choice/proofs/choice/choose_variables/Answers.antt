use Rattle.std.proofs.Common.{rules}
use Rattle.std.proofs.Common.{length}
use Rattle.std.proofs.lemmas.List.Sorted.{All-permutation, IsNonDecreasingBy-from_sort_by_key}
use Rattle.translate_theory.specs.Variables.{IsPlaced}
use Rattle.ground_atoms.specs.Order.{AreDistinct}
use Rattle.translate_choice.specs.Choices.{least_place}
use Rattle.translate_choice.proofs.ChoiceLaws.{are_variables}
use Rattle.translate_choice.proofs.choice.choose_variables.Goals as goal

pub returns-clause-placed : goal.returns-clause-placed
returns-clause-placed c =
    All-permutation (IsPlaced (length c.args.index.now.atoms)) c.take_atoms.new.choice.variables.items c.sort_unstable_by_key.new.self.items
    c.sort_unstable_by_key.ensures.permutation c.in_ok-take_atoms.ensures.choice.placed

pub returns-clause-fit : goal.returns-clause-fit
returns-clause-fit c =
    let index = c.args.index.now in
    let distinct : AreDistinct index.atoms = rw c.atoms.ensures at c.as_slice.ensures.distinct in
    are_variables index c.take_atoms.new.choice c.sort_unstable_by_key.new.self.items distinct c.in_ok-take_atoms.ensures.choice
    c.in_ok-take_atoms.ensures.done c.sort_unstable_by_key.ensures.permutation

pub returns-clause-ordered : goal.returns-clause-ordered
returns-clause-ordered c = IsNonDecreasingBy-from_sort_by_key least_place _ c.sort_unstable_by_key.ensures.sorted (λ a r q k. search rules)
