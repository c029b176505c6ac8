-- What operators add to the numbers of abstract states.
use Rattle.std.proofs.Common.{◌≡◌, ℕ, ◌+◌, ◌<◌, ◌≤◌, ◌++◌, List, [], ◌∷◌, length, take, get_or, ⊎_elim, Option, Some, None, refl, sym, ap, ◌∙◌, subst, arith}
use Rattle.std.specs.Prelude.{IfSome, Vec}
use Rattle.std.specs.Global.{Global}
use Rattle.cost.specs.Distances.{Distance, Finite, Infinite, larger}
use Rattle.std.proofs.Math.Seq.{get_or-append_seam}
use Rattle.std.proofs.lemmas.Bool.{cases_lt}
use Rattle.std.proofs.lemmas.List.{get_or-take, get_or_append_left, get_or_default, length-append, length-take-le}
use Rattle.fdr.specs.Tasks.{FiniteDomainTask, ranges, IsState, step}
use Rattle.abstraction.specs.Abstractions.{Abstraction, IsAbstractionOf}
use Rattle.abstraction_groups.specs.declared.shift.Shift.{Shift}
use Rattle.abstraction_groups.specs.Entrances.{LeadsTo}
use Rattle.scp_rows.specs.declared.moves.Move.{Move}
use Rattle.scp_rows.specs.Moves.{AreMoves, AreMovesOf, first_rows}
use Rattle.scp_rows.specs.Rows.{MappingRows, block_value, blocks_value}
use Rattle.scp_rows.proofs.TouchLaws.{at_some}

-- what an operator adds to the number of an abstract state, it adds to that of a state
pub shift_moves : (task : FiniteDomainTask) (a : Abstraction) → IsAbstractionOf task a → (o : ℕ) (s : Shift) → ((i j : ℕ) → j < a.size → LeadsTo a o i j → j + s.less ≡ i + s.more) →
    (state next : List ℕ) → IsState (ranges task) state → step task state o ≡ Some next → a.index next + s.less ≡ a.index state + s.more
shift_moves task a is o s shifts state next ok leads =
    let low = is.indices state ok in
    let moved : a.transition (a.index state) o ≡ Some (a.index next) =
    at_some (λ t. a.transition (a.index state) o ≡ Some (a.index t)) (step task state o) next leads (is.steps state o ok) in
    let below = at_some (λ j. j < a.size) (a.transition (a.index state) o) (a.index next) moved (is.transitions (a.index state) o low) in
    shifts (a.index state) (a.index next) below (low, moved)

-- what holds of a value if there is one
pub each_some : {X : Type 0} (P Q : X → Type 0) (r : Option X) → ((x : X) → P x → Q x) → IfSome r P → IfSome r Q
each_some P Q None each h = tt
each_some P Q (Some x) each h = each x h

-- ---- a single block

larger_zero : (d : Distance) → larger d (Finite 0) ≡ d
larger_zero Infinite = refl
larger_zero (Finite n) = ap Finite (omega arith)

module _ (blocks : List (Vec MappingRows Global)) (b : Vec MappingRows Global) (one : length blocks ≡ 1) (is : b ≡ get_or blocks 0 b) where
  pub only_rows : first_rows blocks ≡ b.items
  only_rows = go blocks one is
    where
      go : (bs : List (Vec MappingRows Global)) → length bs ≡ 1 → b ≡ get_or bs 0 b → first_rows bs ≡ b.items
      go [] e same = absurd (omega arith)
      go (c ∷ cs) e same = ap (λ (x : Vec MappingRows Global). x.items) (sym same)

  pub only_value : (most : ℕ) (state : List ℕ) → block_value most state b.items ≡ blocks_value most state blocks
  only_value most state = go blocks one is
    where
      go : (bs : List (Vec MappingRows Global)) → length bs ≡ 1 → b ≡ get_or bs 0 b → block_value most state b.items ≡ blocks_value most state bs
      go [] e same = absurd (omega arith)
      go (c ∷ []) e same = ap (λ (x : Vec MappingRows Global). block_value most state x.items) same ∙ sym (larger_zero (block_value most state c.items))
      go (c ∷ d ∷ ds) e same = absurd (omega arith)

-- ---- the moves of one operator more

pub moves_more : (rows : List MappingRows) (touches : List (Vec ℕ Global)) (moves : List (Option (Vec Move Global))) (o : ℕ) (t : Vec ℕ Global) (m : Option (Vec Move Global)) →
    o < length touches → t ≡ get_or touches o t → AreMoves rows (take o touches) moves → AreMovesOf rows o t.items m → AreMoves rows (take (o + 1) touches) (moves ++ m ∷ [])
moves_more rows touches moves o t m l is so_far now = record { as_many = many; each = each }
  where
    short : length (take o touches) ≡ o
    short = length-take-le o touches (omega arith)

    long : length (take (o + 1) touches) ≡ o + 1
    long = length-take-le (o + 1) touches (omega arith)

    many : length (moves ++ m ∷ []) ≡ length (take (o + 1) touches)
    many = length-append moves (m ∷ []) ∙ omega (arith, so_far.as_many, short, long)

    each : (k : ℕ) (t' : Vec ℕ Global) (m' : Option (Vec Move Global)) → k < length (take (o + 1) touches) → AreMovesOf rows k (get_or (take (o + 1) touches) k t').items (get_or (moves ++ m ∷ []) k m')
    each k t' m' below = ⊎_elim before here (cases_lt k o)
      where
        before : k < o → AreMovesOf rows k (get_or (take (o + 1) touches) k t').items (get_or (moves ++ m ∷ []) k m')
        before h =
            let same_t : get_or (take (o + 1) touches) k t' ≡ get_or (take o touches) k t' = get_or-take (o + 1) touches k t' (omega arith) ∙ sym (get_or-take o touches k t' h) in
            let same_m : get_or (moves ++ m ∷ []) k m' ≡ get_or moves k m' = get_or_append_left moves (m ∷ []) m' k (omega (arith, so_far.as_many, short)) in
            subst (λ (x : Vec ℕ Global). AreMovesOf rows k x.items (get_or (moves ++ m ∷ []) k m')) (sym same_t)
            (subst (λ (x : Option (Vec Move Global)). AreMovesOf rows k (get_or (take o touches) k t').items x) (sym same_m)
            (so_far.each k t' m' (omega (arith, short))))

        here : o ≤ k → AreMovesOf rows k (get_or (take (o + 1) touches) k t').items (get_or (moves ++ m ∷ []) k m')
        here h =
            let e : o ≡ k = omega (arith, long) in
            let same_t : t ≡ get_or (take (o + 1) touches) o t' = is ∙ get_or_default touches o t t' l ∙ sym (get_or-take (o + 1) touches o t' (omega arith)) in
            let many : length moves ≡ o = omega (arith, so_far.as_many, short) in
            let same_m : m ≡ get_or (moves ++ m ∷ []) o m' = sym (get_or-append_seam moves m [] m') ∙ ap (λ (n : ℕ). get_or (moves ++ m ∷ []) n m') many in
            subst (λ (n : ℕ). AreMovesOf rows n (get_or (take (o + 1) touches) n t').items (get_or (moves ++ m ∷ []) n m')) e
            (subst (λ (x : Vec ℕ Global). AreMovesOf rows o x.items (get_or (moves ++ m ∷ []) o m')) same_t
            (subst (λ (x : Option (Vec Move Global)). AreMovesOf rows o t.items x) same_m now))
