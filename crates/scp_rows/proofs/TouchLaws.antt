-- The operators that keep the abstract states of mappings.
use Rattle.std.proofs.Common.{◌≡◌, ℕ, ◌+◌, ◌-◌, ◌<◌, ◌++◌, append_assoc, false, List, [], ◌∷◌, length, take, get_or, Option, Some, sym, ap, ◌∙◌, arith}
use Rattle.std.specs.Prelude.{slice_range, All, Vec, IfSome}
use Rattle.std.specs.List.{range_with_len}
use Rattle.std.proofs.lemmas.List.Sorted.{IsPermutation-refl, IsPermutation-sym, IsPermutation-trans, IsPermutation-middle, IsPermutation-to_front, IsPermutation-append_left}
use Rattle.std.proofs.lemmas.List.Elements.{All-nil, All-push, at_read}
use Rattle.std.proofs.lemmas.List.FromFn.{map-range_with_len_more}
use Rattle.std.specs.Global.{Global}
use Rattle.std.proofs.lemmas.List.{take_all, map-id}
use Rattle.cost.specs.Distances.{larger}
use Rattle.fdr.specs.Tasks.{FiniteDomainTask, ranges, IsState, step}
use Rattle.abstraction.specs.Abstractions.{Abstraction, IsAbstractionOf}
use Rattle.scp_rows.specs.Moves.{AreTouched, Keeps, KeepsAt}
use Rattle.scp_rows.specs.Rows.{MappingRows, block_value, blocks_value}

pub first_and_rest : (most : ℕ) (state : List ℕ) (blocks : List (Vec MappingRows Global)) (b : Vec MappingRows Global) → 0 < length blocks → b ≡ get_or blocks 0 b
    → larger (block_value most state b.items) (blocks_value most state (slice_range blocks 1 (length blocks))) ≡ blocks_value most state blocks
first_and_rest most state [] b some is = absurd (omega arith)
first_and_rest most state (c ∷ cs) b some is =
    ap (λ (x : Vec MappingRows Global). larger (block_value most state x.items) (blocks_value most state (take (length (c ∷ cs) - 1) cs))) is
    ∙ ap (λ bs. larger (block_value most state c.items) (blocks_value most state bs)) (take_all (length (c ∷ cs) - 1) cs (omega arith))

pub at_some : {X : Type 0} (P : X → Type 0) (r : Option X) (x : X) → r ≡ Some x → IfSome r P → P x
at_some P r x e h = rw e at h

-- an operator that does not touch the abstraction leads to the same abstract state
pub same_index : (task : FiniteDomainTask) (a : Abstraction) → IsAbstractionOf task a → (state next : List ℕ) (o : ℕ) → IsState (ranges task) state → step task state o ≡ Some next
    → a.touches o ≡ false → a.index next ≡ a.index state
same_index task a is state next o ok leads untouched =
    let moved : a.transition (a.index state) o ≡ Some (a.index next) =
    at_some (λ t. a.transition (a.index state) o ≡ Some (a.index t)) (step task state o) next leads (is.steps state o ok) in
    at_some (λ j. j ≡ a.index state) _ (a.index next) moved (is.untouched (a.index state) o (is.indices state ok) untouched)

-- ---- mappings that are touched

module _ (rows : List MappingRows) (o : ℕ) where
  pub touched_none : AreTouched rows o 0 []
  touched_none = record { within = All-nil (λ k. k < 0); others = []; kept = All-nil (KeepsAt rows o); places = IsPermutation-refl [] }

  module _ (n : ℕ) (touched : List ℕ) (so_far : AreTouched rows o n touched) where
    below : All (λ k. k < n + 1) touched
    below = λ k d l. omega (arith, so_far.within k d l)

    one_more : range_with_len 0 (n + 1) ≡ range_with_len 0 n ++ n ∷ []
    one_more = sym (map-id (range_with_len 0 (n + 1))) ∙ map-range_with_len_more (λ k. k) 0 n n (omega arith) ∙ ap (λ ks. ks ++ n ∷ []) (map-id (range_with_len 0 n))

    pub touched_more : AreTouched rows o (n + 1) (touched ++ n ∷ [])
    touched_more = record {
      within = All-push (λ k. k < n + 1) touched n below (omega arith);
      others = so_far.others;
      kept = so_far.kept;
      places = rw (one_more, ← append_assoc) (IsPermutation-append_left (n ∷ []) (so_far.others ++ touched) (range_with_len 0 n) so_far.places);
    }

    pub kept_more : (p : MappingRows) → n < length rows → p ≡ get_or rows n p → Keeps p o → AreTouched rows o (n + 1) touched
    kept_more p l is keeps = record {
      within = below;
      others = so_far.others ++ n ∷ [];
      kept = All-push (KeepsAt rows o) so_far.others n so_far.kept (record { within = l; keeps = at_read rows (λ p. Keeps p o) n p l is keeps });
      places = rw (one_more, append_assoc)
          (IsPermutation-trans (so_far.others ++ n ∷ touched) (n ∷ (so_far.others ++ touched)) (range_with_len 0 n ++ n ∷ [])
          (IsPermutation-middle so_far.others n touched)
          (IsPermutation-trans (n ∷ (so_far.others ++ touched)) ((so_far.others ++ touched) ++ n ∷ []) (range_with_len 0 n ++ n ∷ [])
          (IsPermutation-sym ((so_far.others ++ touched) ++ n ∷ []) (n ∷ (so_far.others ++ touched)) (IsPermutation-to_front (so_far.others ++ touched) n))
          (IsPermutation-append_left (n ∷ []) (so_far.others ++ touched) (range_with_len 0 n) so_far.places)));
    }
