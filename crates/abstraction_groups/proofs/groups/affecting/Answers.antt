use Rattle.std.proofs.Common.{◌≡◌, ℕ, ◌+◌, ◌++◌, List, [], ◌∷◌, take, get_or, sym, subst, arith}
use Rattle.std.specs.Prelude.{◌↔◌, Contains}
use Rattle.std.proofs.lemmas.List.{take_more, take_all}
use Rattle.std.proofs.lemmas.List.Filters.{dedup_is}
use Rattle.std.proofs.lemmas.List.Kept.{Contains-dedup_nat, Contains-from_dedup}
use Rattle.std.proofs.lemmas.List.Sorted.{Contains-permutation, IsPermutation-sym}
use Rattle.std.proofs.lemmas.Map.Keys.{IsStrictlyIncreasing-dedup}
use Rattle.abstraction_groups.specs.Indexes.{HasEffectOn}
use Rattle.abstraction_groups.proofs.IndexLaws.{affecting_more}
use Rattle.abstraction_groups.proofs.groups.affecting.Goals as goal

pub loop-variable-preserved : goal.loop-variable-preserved
loop-variable-preserved c =
    let task = c.args.index.now in
    let i = c.loop-variable.variable-index in
    let vs : List ℕ = c.args.variables.now in
    let next : take (i + 1) vs ≡ take i vs ++ get_or vs i 0 ∷ [] = take_more vs i 0 (omega arith) in
    let made : c.extend_from_slice.new.self.items ≡ c.loop-variable.operators.items ++ c.operators_of.result.now = c.in_ok-extend_from_slice.ensures.items in
    λ o. subst (λ (ws : List ℕ). Contains c.extend_from_slice.new.self.items o ↔ ((v : ℕ) × Contains ws v × HasEffectOn task o v)) (sym next)
    (subst (λ (xs : List ℕ). Contains xs o ↔ ((v : ℕ) × Contains (take i vs ++ get_or vs i 0 ∷ []) v × HasEffectOn task o v)) (sym made)
    (affecting_more task (take i vs) (get_or vs i 0) c.loop-variable.operators.items c.operators_of.result.now c.loop-variable.invariant c.operators_of.ensures.operators o))

pub returns : goal.returns
returns c =
    let is = dedup_is _ _ _ c.dedup.ensures.filtered in
    let moved = c.sort_unstable.ensures.permutation in
    let vs : List ℕ = c.args.variables.now in
    let all : take c.loop-variable.variable-index vs ≡ vs = take_all c.loop-variable.variable-index vs (omega arith) in
    let told = λ (o : ℕ). subst (λ (ws : List ℕ). Contains c.loop-variable.operators.items o ↔ ((v : ℕ) × Contains ws v × HasEffectOn c.args.index.now o v)) all (c.loop-variable.invariant o) in
    record {
      increasing = rw is (IsStrictlyIncreasing-dedup _ c.sort_unstable.ensures.sorted);
      exactly = λ o. (
        λ h. (told o).0 (Contains-permutation _ _ o (IsPermutation-sym _ _ moved) (Contains-from_dedup _ _ o (rw is at h))),
        λ h. rw is (Contains-dedup_nat _ o (Contains-permutation _ _ o moved ((told o).1 h))),
      );
    }
