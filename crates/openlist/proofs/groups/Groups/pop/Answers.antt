use Rattle.std.proofs.Common.{◌≡◌, ◌∷◌, [], ap, arith, refl, subst, sym, ◌∙◌}
use Rattle.std.specs.Prelude.{IsPermutation}
use Rattle.openlist.specs.Groups.{grouped}
use Rattle.openlist.proofs.GroupLists.{AreGroups-removed, AreGroups-set, filled_unless, grouped-pop, grouped-removed, IsBefore-grouped, lowers_of_last, never_empty, same_as_set}
use Rattle.openlist.proofs.groups.Groups.pop.Goals as goal

pub invariant_of-self : goal.invariant_of-self
invariant_of-self c =
    absurd (never_empty c.self.inside.groups.items c.in_ok-place.place c.index_mut.result.now (omega arith)
    c.index_mut.ensures.value c.self.invariant.0 c.in_err-entry.ensures.none)

pub returns-in_err-entry-clause-none : goal.returns-in_err-entry-clause-none
returns-in_err-entry-clause-none c =
    absurd (never_empty c.self.inside.groups.items c.in_ok-place.place c.index_mut.result.now (omega arith)
    c.index_mut.ensures.value c.self.invariant.0 c.in_err-entry.ensures.none)

pub returns-in_err-entry-clause-empty : goal.returns-in_err-entry-clause-empty
returns-in_err-entry-clause-empty c =
    absurd (never_empty c.self.inside.groups.items c.in_ok-place.place c.index_mut.result.now (omega arith)
    c.index_mut.ensures.value c.self.invariant.0 c.in_err-entry.ensures.none)

pub invariant_of-self-then-is_empty : goal.invariant_of-self-then-is_empty
invariant_of-self-then-is_empty c =
    let same = same_as_set c.self.inside.groups.items c.in_ok-place.place c.pop.new.self c.index.result.now
    (omega arith) c.index.ensures in
    let empty : c.pop.new.self.lowers ≡ [] = ap (λ g. g.lowers) (sym same) ∙ c.if-is_empty.ensures.0 refl in (
      AreGroups-removed c.self.inside.groups.items _ c.in_ok-place.place _ c.pop.new.self (omega arith)
          c.remove_last.ensures.groups c.self.invariant.0,
      omega arith,
      c.remove_last.ensures.kept c.pop.new.self
          ∙ lowers_of_last c.self.inside.groups.items c.in_ok-place.place _ c.pop.new.self c.pop.new.self (omega arith) (omega arith) empty,
    )

pub invariant_of-self-else-is_empty : goal.invariant_of-self-else-is_empty
invariant_of-self-else-is_empty c =
    let same = same_as_set c.self.inside.groups.items c.in_ok-place.place c.pop.new.self c.index.result.now
    (omega arith) c.index.ensures in (
      AreGroups-set c.self.inside.groups.items c.in_ok-place.place c.index_mut.result.now c.pop.new.self (omega arith)
          c.index_mut.ensures.value c.in_ok-entry.ensures.same_key
          (filled_unless c.pop.new.self.lowers
          (λ empty. c.if-is_empty.ensures.1 (ap (λ g. g.lowers) same ∙ empty)))
          c.self.invariant.0,
      c.self.invariant.1,
      c.self.invariant.2,
    )

pub returns-then-is_empty-clause-first : goal.returns-then-is_empty-clause-first
returns-then-is_empty-clause-first c =
    rw (← c.self.view_is)
    (IsBefore-grouped c.in_ok-entry.entry c.self.inside.groups.items c.in_ok-place.place c.index_mut.result.now (omega arith)
    c.index_mut.ensures.value c.in_ok-entry.ensures.key c.in_ok-entry.ensures.first c.self.invariant.0)

pub returns-then-is_empty-clause-rest : goal.returns-then-is_empty-clause-rest
returns-then-is_empty-clause-rest c =
    let same = same_as_set c.self.inside.groups.items c.in_ok-place.place c.pop.new.self c.index.result.now
    (omega arith) c.index.ensures in
    let empty : c.pop.new.self.lowers ≡ [] = ap (λ g. g.lowers) (sym same) ∙ c.if-is_empty.ensures.0 refl in
    rw (← c.self.view_is)
    (subst (λ v. IsPermutation (grouped c.self.inside.groups.items) (c.in_ok-entry.entry ∷ v))
    (grouped-removed c.self.inside.groups.items _ c.in_ok-place.place _ c.pop.new.self (omega arith) (omega arith)
    c.remove_last.ensures.groups empty)
    (grouped-pop c.in_ok-entry.entry c.self.inside.groups.items c.in_ok-place.place c.index_mut.result.now c.pop.new.self
    (omega arith) c.index_mut.ensures.value c.in_ok-entry.ensures.rest))

pub returns-else-is_empty-clause-first : goal.returns-else-is_empty-clause-first
returns-else-is_empty-clause-first c =
    rw (← c.self.view_is)
    (IsBefore-grouped c.in_ok-entry.entry c.self.inside.groups.items c.in_ok-place.place c.index_mut.result.now (omega arith)
    c.index_mut.ensures.value c.in_ok-entry.ensures.key c.in_ok-entry.ensures.first c.self.invariant.0)

pub returns-else-is_empty-clause-rest : goal.returns-else-is_empty-clause-rest
returns-else-is_empty-clause-rest c =
    rw (← c.self.view_is)
    (grouped-pop c.in_ok-entry.entry c.self.inside.groups.items c.in_ok-place.place c.index_mut.result.now c.pop.new.self
    (omega arith) c.index_mut.ensures.value c.in_ok-entry.ensures.rest)
