-- Blocks while they are made.
use Rattle.std.proofs.Common.{◌≡◌, ℕ, zero, suc, ◌+◌, ◌<◌, ◌≤◌, Bool, true, false, List, [], ◌∷◌, ◌++◌, ◌-◌, length, map, get_or, set, take, drop, min, refl, sym, ap, ◌∙◌, subst, arith, cond, eqb, ⊎_elim, ne_eqb, eq-eqb}
use Rattle.std.specs.Prelude.{slice_index, slice_get, slice_index_or, slice_range, IsSomeAnd, All, Vec}
use Rattle.std.proofs.Math.Seq.{take-add}
use Rattle.std.proofs.lemmas.Option.{slice_get-get_or}
use Rattle.std.specs.Global.{Global}
use Rattle.std.proofs.lemmas.Bool.{cases_lt, cases_eq}
use Rattle.std.proofs.lemmas.List.{map-append, length-map, length-take, take_all, take_more, get_or_past, get_or_append_left, get_or-append_right}
use Rattle.std.proofs.lemmas.List.Sums.{sum_by-set, sum_by-cons, sum_by-append, sum_by_more_le}
use Rattle.std.proofs.lemmas.List.Elements.{All-nil, All-cons, All-head, All-tail, All-append, All-take, All-drop}
use Rattle.std.proofs.lemmas.Grind.{common_steps}
use Rattle.cost.specs.Distances.{Distance, Finite, Infinite, ◌+ᵈ◌, larger, greatest}
use Rattle.cost.proofs.DistanceLaws.{greatest-append, greatest-push}
use Rattle.fdr.specs.Tasks.{FiniteDomainTask, ranges, IsState}
use Rattle.abstraction_mapping.specs.Mappings.{Mapping, abstraction_by}
use Rattle.abstraction.specs.Abstractions.{value_at}
use Rattle.abstraction.specs.Columns.{column_value}
use Rattle.scp_columns.specs.ColumnTables.{ColumnTable, on_abstraction}
use Rattle.scp_rows.specs.Rows.{MappingRows, abstraction_of, word_of, distance_below, lanes, word_at, lane_sum, added, Gains, AreOf, IsBlockOf, HasWord, value_of, block_value, blocks_value}

-- ---- words

sum_words : (most : ℕ) (d e : Distance) → word_of most (d +ᵈ e) ≡ min (word_of most d + word_of most e) most
sum_words most Infinite e = omega arith
sum_words most (Finite m) Infinite = omega arith
sum_words most (Finite m) (Finite n) = omega arith

within_most : (most : ℕ) (d : Distance) → min (word_of most d) most ≡ word_of most d
within_most most Infinite = omega arith
within_most most (Finite n) = omega arith

zero_word : (most lane other : ℕ) → added most lane (Finite 0) other ≡ 0
zero_word most lane other = go (eqb other lane)
  where
    go : (b : Bool) → cond b (min 0 most) 0 ≡ 0
    go true = omega arith
    go false = refl

added_more : (most lane other : ℕ) (d e : Distance) (x y z : ℕ) → min y most ≡ min (x + added most lane d other) most → min z most ≡ min (y + added most lane e other) most
    → min z most ≡ min (x + added most lane (d +ᵈ e) other) most
added_more most lane other d e x y z = go (eqb other lane)
  where
    go : (b : Bool) → min y most ≡ min (x + cond b (word_of most d) 0) most → min z most ≡ min (y + cond b (word_of most e) 0) most
        → min z most ≡ min (x + cond b (word_of most (d +ᵈ e)) 0) most
    go true h k = omega (arith, h, k, sum_words most d e)
    go false h k = omega (arith, h, k)

-- ---- one lane

module _ (task : FiniteDomainTask) (most lane : ℕ) where
  pub gains_nothing : (ps : List MappingRows) → AreOf task ps → Gains task most lane (λ state. Finite 0) ps ps
  gains_nothing ps of = record {
    of_task = of;
    sums = λ state ok other. omega (arith, zero_word most lane other);
  }

  pub gains_same : (v w : List ℕ → Distance) (old new : List MappingRows) → ((state : List ℕ) → v state ≡ w state) → Gains task most lane v old new → Gains task most lane w old new
  gains_same v w old new same h = record {
    of_task = h.of_task;
    sums = λ state ok other. h.sums state ok other ∙ ap (λ d. min (lane_sum state other old + added most lane d other) most) (same state);
  }

  pub gains_more : (u v w : List ℕ → Distance) (old mid new : List MappingRows) → ((state : List ℕ) → w state ≡ u state +ᵈ v state)
      → Gains task most lane u old mid → Gains task most lane v mid new → Gains task most lane w old new
  gains_more u v w old mid new is h k = record {
    of_task = k.of_task;
    sums = λ state ok other. rw (is state)
        (added_more most lane other (u state) (v state) (lane_sum state other old) (lane_sum state other mid) (lane_sum state other new) (h.sums state ok other) (k.sums state ok other));
  }

  -- the rows of one mapping grow
  pub gains_in_one : (v : List ℕ → Distance) (old mid : List MappingRows) (k : ℕ) (p q : MappingRows) → AreOf task mid → q.task ≡ task → k < length mid → get_or mid k p ≡ p
      → ((state : List ℕ) (other : ℕ) → lane_sum state other mid ≡ lane_sum state other old)
      → ((state : List ℕ) → IsState (ranges task) state → (other : ℕ) → min (word_at state other q) most ≡ min (word_at state other p + added most lane (v state) other) most)
      → Gains task most lane v old (set mid k q)
  gains_in_one v old mid k p q of own l is same gain = record {
    of_task = of_set;
    sums = λ state ok other.
        let moved = sum_by-set (word_at state other) mid k q p l in
        let here : word_at state other (get_or mid k p) ≡ word_at state other p = ap (word_at state other) is in
        let part = sum_by_more_le (word_at state other) mid k p l in
        omega (arith, moved, here, part, same state other, gain state ok other);
  }
    where
      of_set : AreOf task (set mid k q)
      of_set = grind (arith, common_steps, of, own)

  -- a mapping with rows of zeros
  pub sums_push : (ps : List MappingRows) (p : MappingRows) → ((state : List ℕ) (other : ℕ) → word_at state other p ≡ 0)
      → (state : List ℕ) (other : ℕ) → lane_sum state other (ps ++ p ∷ []) ≡ lane_sum state other ps
  sums_push ps p none state other = omega (arith, sum_by-append (word_at state other) ps (p ∷ []), sum_by-cons (word_at state other) p [], none state other)

-- ---- a block

module _ (task : FiniteDomainTask) (most : ℕ) where
  pub no_block : IsBlockOf task most [] []
  no_block = record { of_task = All-nil (λ p. p.task ≡ task); sums = λ state ok lane. omega arith }

  pub block_more : (columns : List (Vec ColumnTable Global)) (column : Vec ColumnTable Global) (old new : List MappingRows) → IsBlockOf task most columns old
      → Gains task most (length columns) (λ state. value_of state column) old new → IsBlockOf task most (columns ++ column ∷ []) new
  block_more columns column old new is gains = record {
    of_task = gains.of_task;
    sums = λ state ok lane. gains.sums state ok lane ∙ ⊎_elim (here state ok lane) (apart state ok lane) (cases_eq lane (length columns));
  }
    where
      long : (state : List ℕ) → length (map (value_of state) columns) ≡ length columns
      long state = length-map columns (value_of state)

      both : (state : List ℕ) (lane : ℕ) → slice_index_or (map (value_of state) (columns ++ column ∷ [])) lane (Finite 0) ≡ slice_index_or (map (value_of state) columns ++ value_of state column ∷ []) lane (Finite 0)
      both state lane = ap (λ ds. slice_index_or ds lane (Finite 0)) (map-append (value_of state) columns (column ∷ []))

      first : (d : Distance) (k : ℕ) → k ≡ 0 → slice_index_or (d ∷ []) k (Finite 0) ≡ d
      first d k e = rw e refl

      beyond : (d : Distance) (k : ℕ) → 0 < k → slice_index_or (d ∷ []) k (Finite 0) ≡ Finite 0
      beyond d zero l = absurd (omega arith)
      beyond d (suc k) l = refl

      here : (state : List ℕ) → IsState (ranges task) state → (lane : ℕ) → lane ≡ length columns
          → min (lane_sum state lane old + added most (length columns) (value_of state column) lane) most ≡ word_of most (slice_index_or (map (value_of state) (columns ++ column ∷ [])) lane (Finite 0))
      here state ok lane e =
          let none : slice_index_or (map (value_of state) columns) lane (Finite 0) ≡ Finite 0 = get_or_past (map (value_of state) columns) lane (Finite 0) (omega (arith, e, long state)) in
          let before : min (lane_sum state lane old) most ≡ 0 = is.sums state ok lane ∙ ap (word_of most) none ∙ omega arith in
          let last : slice_index_or (map (value_of state) columns ++ value_of state column ∷ []) lane (Finite 0) ≡ value_of state column =
          get_or-append_right (map (value_of state) columns) (value_of state column ∷ []) (length (map (value_of state) columns)) lane (Finite 0) refl (omega (arith, e, long state)) ∙ first (value_of state column) _ (omega (arith, e, long state)) in
          rw (both state lane, last, eq-eqb lane (length columns) e) (omega (arith, before, within_most most (value_of state column)))

      apart : (state : List ℕ) → IsState (ranges task) state → (lane : ℕ) → (lane ≡ length columns → ⊥)
          → min (lane_sum state lane old + added most (length columns) (value_of state column) lane) most ≡ word_of most (slice_index_or (map (value_of state) (columns ++ column ∷ [])) lane (Finite 0))
      apart state ok lane ne =
          let same : slice_index_or (map (value_of state) columns ++ value_of state column ∷ []) lane (Finite 0) ≡ slice_index_or (map (value_of state) columns) lane (Finite 0) =
          ⊎_elim
          (λ (l : lane < length (map (value_of state) columns)). get_or_append_left (map (value_of state) columns) (value_of state column ∷ []) (Finite 0) lane l)
          (λ (h : length (map (value_of state) columns) ≤ lane).
          get_or-append_right (map (value_of state) columns) (value_of state column ∷ []) (length (map (value_of state) columns)) lane (Finite 0) refl h
          ∙ beyond (value_of state column) _ (omega (arith, h, ne, long state)) ∙ sym (get_or_past (map (value_of state) columns) lane (Finite 0) h))
          (cases_lt lane (length (map (value_of state) columns))) in
          rw (both state lane, same, ne_eqb lane (length columns) ne) (omega (arith, is.sums state ok lane))

-- the block of the columns up to a place, and the next column
pub next_lane : (task : FiniteDomainTask) (most lane : ℕ) (columns : List (Vec ColumnTable Global)) (column : Vec ColumnTable Global) (tables : List ColumnTable) (old new : List MappingRows)
    → lane < length columns → column ≡ get_or columns lane column → tables ≡ column.items → IsBlockOf task most (take lane columns) old
    → Gains task most lane (λ state. column_value state (map on_abstraction tables)) old new → IsBlockOf task most (take (lane + 1) columns) new
next_lane task most lane columns column tables old new l is equal block gains =
    let given : take (lane + 1) columns ≡ take lane columns ++ column ∷ [] = take_more columns lane column l ∙ ap (λ c. take lane columns ++ c ∷ []) (sym is) in
    let long : lane ≡ length (take lane columns) = omega (arith, length-take lane columns, l) in
    rw given (block_more task most (take lane columns) column old new block
    (subst (λ n. Gains task most n (λ state. value_of state column) old new) long
    (gains_same task most lane (λ state. column_value state (map on_abstraction tables)) (λ state. value_of state column) old new
    (λ state. ap (λ ts. column_value state (map on_abstraction ts)) equal) gains)))

-- ---- blocks

below_min : (most n : ℕ) → distance_below most (min n most) ≡ distance_below most n
below_min most n = grind (arith, common_steps)

module _ (most : ℕ) where
  -- sums of limited words represent the same distances
  pub limited_block : (state : List ℕ) (rows : List MappingRows) (words : List ℕ) → ((lane : ℕ) → slice_index words lane ≡ min (lane_sum state lane rows) most)
      → greatest (map (λ lane. distance_below most (slice_index words lane)) lanes) ≡ block_value most state rows
  limited_block state rows words are =
      let same : (λ lane. distance_below most (slice_index words lane)) ≡ (λ lane. distance_below most (lane_sum state lane rows)) =
      λ i lane. (ap (distance_below most) (are lane) ∙ below_min most (lane_sum state lane rows)) i in
      ap (λ f. greatest (map f lanes)) same

  -- eight distances are the first ones of a list, and 0 past its end
  first_lanes : (ds : List Distance) → length ds ≤ 8 → greatest (map (λ lane. slice_index_or ds lane (Finite 0)) lanes) ≡ greatest ds
  first_lanes [] l = refl
  first_lanes (a ∷ []) l = refl
  first_lanes (a ∷ b ∷ []) l = refl
  first_lanes (a ∷ b ∷ c ∷ []) l = refl
  first_lanes (a ∷ b ∷ c ∷ d ∷ []) l = refl
  first_lanes (a ∷ b ∷ c ∷ d ∷ e ∷ []) l = refl
  first_lanes (a ∷ b ∷ c ∷ d ∷ e ∷ f ∷ []) l = refl
  first_lanes (a ∷ b ∷ c ∷ d ∷ e ∷ f ∷ g ∷ []) l = refl
  first_lanes (a ∷ b ∷ c ∷ d ∷ e ∷ f ∷ g ∷ h ∷ []) l = refl
  first_lanes (a ∷ b ∷ c ∷ d ∷ e ∷ f ∷ g ∷ h ∷ i ∷ ds) l = absurd (omega arith)

  abbrev Has : List ℕ → Vec ColumnTable Global → Type 0
  Has state column = HasWord most (value_of state column)

  lane_has : 0 < most → (state : List ℕ) (columns : List (Vec ColumnTable Global)) → All (Has state) columns → (lane : ℕ) → HasWord most (slice_index_or (map (value_of state) columns) lane (Finite 0))
  lane_has some state [] all lane = grind (arith, common_steps)
  lane_has some state (c ∷ cs) all zero = All-head (Has state) c cs all
  lane_has some state (c ∷ cs) all (suc lane) = lane_has some state cs (All-tail (Has state) c cs all) lane

  block_is : 0 < most → (task : FiniteDomainTask) (columns : List (Vec ColumnTable Global)) (rows : List MappingRows) → length columns ≤ 8 → IsBlockOf task most columns rows
      → (state : List ℕ) → IsState (ranges task) state → All (Has state) columns → block_value most state rows ≡ greatest (map (value_of state) columns)
  block_is some task columns rows few is state ok all =
      let same : ◌≡◌ {A = ℕ → Distance} (λ lane. distance_below most (lane_sum state lane rows)) (λ lane. slice_index_or (map (value_of state) columns) lane (Finite 0)) =
      λ i lane. (sym (below_min most (lane_sum state lane rows)) ∙ ap (distance_below most) (is.sums state ok lane) ∙ lane_has some state columns all lane) i in
      ap (λ f. greatest (map f lanes)) same ∙ first_lanes (map (value_of state) columns) (omega (arith, few, length-map columns (value_of state)))

-- ---- places

pub found_mapping : (ps : List MappingRows) (k : ℕ) (x : MappingRows) → k < length ps → x ≡ get_or ps k x → (mapping : Mapping) → x.mapping ≡ mapping
    → IsSomeAnd (slice_get ps k) (λ p. p.mapping ≡ mapping)
found_mapping ps k x l is mapping same = rw (slice_get-get_or ps k x l, ← is) same

-- a mapping that was appended stands last
pub found_last : (ps : List MappingRows) (x : MappingRows) (mapping : Mapping) → x.mapping ≡ mapping → IsSomeAnd (slice_get (ps ++ x ∷ []) (length ps)) (λ p. p.mapping ≡ mapping)
found_last [] x mapping same = same
found_last (p ∷ ps) x mapping same = found_last ps x mapping same

-- the mapping stands at the place
pub placed : (ps : List MappingRows) (k : ℕ) (mapping : Mapping) (p : MappingRows) → IsSomeAnd (slice_get ps k) (λ p. p.mapping ≡ mapping) → p ≡ get_or ps k p → (k < length ps) × (p.mapping ≡ mapping)
placed [] k mapping p at is = absurd at
placed (q ∷ ps) zero mapping p at is = (omega arith, ap (λ (x : MappingRows). x.mapping) is ∙ at)
placed (q ∷ ps) (suc k) mapping p at is = let rest = placed ps k mapping p at is in (omega (arith, rest.0), rest.1)

-- a table whose values are added to the rows of its mapping
pub table_gains : (task : FiniteDomainTask) (most lane : ℕ) (old mid : List MappingRows) (k : ℕ) (p q : MappingRows) (t : ColumnTable) (values : List Distance) (mapping : Mapping)
    → t.task ≡ task → AreOf task mid → ((state : List ℕ) (other : ℕ) → lane_sum state other mid ≡ lane_sum state other old)
    → IsSomeAnd (slice_get mid k) (λ p. p.mapping ≡ mapping) → mapping ≡ t.table.mapping → p ≡ get_or mid k p → q.task ≡ p.task → values ≡ t.table.values
    → ((state : List ℕ) → IsState (ranges p.task) state → (other : ℕ) → min (word_at state other q) most
    ≡ min (word_at state other p + added most lane (slice_index_or values ((abstraction_of p).index state) Infinite) other) most)
    → Gains task most lane (λ state. value_at state (on_abstraction t)) old (set mid k q)
table_gains task most lane old mid k p q t values mapping own of same at named is kept equal words =
    let there = placed mid k mapping p at is in
    let p_own : p.task ≡ task = ap (λ (x : MappingRows). x.task) is ∙ of k p there.0 in
    gains_in_one task most lane (λ state. value_at state (on_abstraction t)) old mid k p q of (kept ∙ p_own) there.0 (sym is) same (λ state ok other.
    let ok' : IsState (ranges p.task) state = subst (λ own. IsState (ranges own) state) (sym p_own) ok in
    let value : slice_index_or values ((abstraction_of p).index state) Infinite ≡ value_at state (on_abstraction t) =
    ap (λ vs. slice_index_or vs ((abstraction_of p).index state) Infinite) equal
    ∙ ap (λ own. slice_index_or t.table.values ((abstraction_by own p.mapping).index state) Infinite) (p_own ∙ sym own)
    ∙ ap (λ m. slice_index_or t.table.values ((abstraction_by t.task m).index state) Infinite) (there.1 ∙ named) in
    words state ok' other ∙ ap (λ d. min (word_at state other p + added most lane d other) most) value)

-- ---- all blocks

-- one block more
pub blocks_more : (most : ℕ) (state : List ℕ) (blocks : List (Vec MappingRows Global)) (b : Vec MappingRows Global)
    → blocks_value most state (blocks ++ b ∷ []) ≡ larger (blocks_value most state blocks) (block_value most state b.items)
blocks_more most state blocks b =
    ap greatest (map-append (λ (b : Vec MappingRows Global). block_value most state b.items) blocks (b ∷ []))
    ∙ greatest-push (map (λ (b : Vec MappingRows Global). block_value most state b.items) blocks) (block_value most state b.items)

abbrev pub IsColumnOf : FiniteDomainTask → Vec ColumnTable Global → Type 0
IsColumnOf task column = All (λ t. t.task ≡ task) column.items

-- the blocks of the first columns
pub record AreBlocksSoFar (task : FiniteDomainTask) (most : ℕ) (columns : List (Vec ColumnTable Global)) (first : ℕ) (blocks : List (Vec MappingRows Global)) : Type 0 where
  pub of_task : All (λ b. AreOf task b.items) blocks
  pub within : first ≤ length columns
  pub value : 0 < most → (state : List ℕ) → IsState (ranges task) state → All (λ column. HasWord most (value_of state column)) columns
      → blocks_value most state blocks ≡ greatest (map (value_of state) (take first columns))

module _ (task : FiniteDomainTask) (most : ℕ) (columns : List (Vec ColumnTable Global)) where
  pub no_blocks : AreBlocksSoFar task most columns 0 []
  no_blocks = record { of_task = All-nil (λ (b : Vec MappingRows Global). AreOf task b.items); within = omega arith; value = λ some state ok all. refl }

  pub all_blocks : (first : ℕ) (blocks : List (Vec MappingRows Global)) → AreBlocksSoFar task most columns first blocks → length columns ≤ first
      → 0 < most → (state : List ℕ) → IsState (ranges task) state → All (λ column. HasWord most (value_of state column)) columns
      → blocks_value most state blocks ≡ greatest (map (value_of state) columns)
  all_blocks first blocks so_far l some state ok all = so_far.value some state ok all ∙ ap (λ cs. greatest (map (value_of state) cs)) (take_all first columns l)

  pub one_block : (first end : ℕ) (blocks : List (Vec MappingRows Global)) (b : Vec MappingRows Global) → AreBlocksSoFar task most columns first blocks → first ≤ end → end ≤ length columns → end ≤ first + 8
      → IsBlockOf task most (slice_range columns first end) b.items → AreBlocksSoFar task most columns end (blocks ++ b ∷ [])
  one_block first end blocks b so_far low high short is = record {
    of_task = All-append (λ (b : Vec MappingRows Global). AreOf task b.items) blocks (b ∷ []) so_far.of_task (All-cons (λ (b : Vec MappingRows Global). AreOf task b.items) b [] is.of_task (All-nil (λ (b : Vec MappingRows Global). AreOf task b.items)));
    within = high;
    value = λ some state ok all.
        let part : All (λ column. HasWord most (value_of state column)) (slice_range columns first end) =
        All-take (λ column. HasWord most (value_of state column)) (end - first) (drop first columns) (All-drop (λ column. HasWord most (value_of state column)) first columns all) in
        let few : length (slice_range columns first end) ≤ 8 = omega (arith, length-take_le (end - first) (drop first columns)) in
        blocks_more most state blocks b
        ∙ ap (λ d. larger d (block_value most state b.items)) (so_far.value some state ok all)
        ∙ ap (larger (greatest (map (value_of state) (take first columns)))) (block_is most some task (slice_range columns first end) b.items few is state ok part)
        ∙ sym (ap (λ cs. greatest (map (value_of state) cs)) parts ∙ ap greatest (map-append (value_of state) (take first columns) (slice_range columns first end)) ∙ greatest-append (map (value_of state) (take first columns)) (map (value_of state) (slice_range columns first end)));
  }
    where
      parts : take end columns ≡ take first columns ++ slice_range columns first end
      parts = let e : end ≡ first + (end - first) = omega arith in ap (λ n. take n columns) e ∙ take-add first (end - first) columns

      length-take_le : (n : ℕ) (xs : List (Vec ColumnTable Global)) → length (take n xs) ≤ n
      length-take_le n xs = omega (arith, length-take n xs)
