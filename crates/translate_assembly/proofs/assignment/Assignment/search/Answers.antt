use Rattle.std.proofs.Common.{rules}
use Rattle.std.proofs.lemmas.List.Sorted.{answers_always}
use Rattle.translate_assembly.proofs.SetLaws.{searched}
use Rattle.translate_assembly.proofs.assignment.Assignment.search.Goals as goal

pub returns-clause-place : goal.returns-clause-place
returns-clause-place c =
    let facts = c.binary_search_by_key.ensures in
    let by_key = facts.position (λ fact. fact.variable) (answers_always _ _ _ (λ f a r g called. search rules)) in
    rw (← c.self.view_is, ← c.deref.ensures.value) (searched _ c.args.variable _ (rw c.deref.ensures.value c.self.invariant) facts.bound by_key)
