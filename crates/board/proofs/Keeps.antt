-- Each step at the board keeps its rule.
use Rattle.std.proofs.Common.{◌≡◌, ℕ, zero, suc, ◌+◌, ◌-◌, ◌/◌, ◌%◌, ◌^◌, ◌<◌, ◌≤◌, inl, inr, ◌⊎◌, ⊎_elim, min, List, [], ◌∷◌, ◌++◌, set, get_or, length, sym, refl, ap, ◌∙◌, subst, arith, ℤ, pos, ◌+ℤ◌, ◌-ℤ◌, length-set, get_or-set_same, get_or-set_other, bit_or}
use Rattle.std.proofs.lemmas.Nat.{div-add-mod'}
use Rattle.std.proofs.lemmas.Int.{ints}
use mathlib.Core.Option.{none, some, some-injective, some-ne-none}
use lib.ListN.{get_elem?}
use Rattle.cost.specs.Distances.{◌≤ᵈ◌, lesser}
use Rattle.atomic_table.specs.Table.{State, Me, keeps, step, stepped, Allows, Splits, Joins, Final, Seen}
use Rattle.atomic_table.proofs.Lists.{at_set, at_snoc, set_else, set_again}
use Rattle.board.specs.declared.views.View.{View}
use Rattle.board.specs.Rule.{word_of, distance_at, all_parts, total_share, IsModulo, Holds, IsRuled, spent_view, with_seen, with_offered, with_share, kept_part, new_part, joined}
use Rattle.board.specs.Steps.{looks, offers, adds, subtracts, stays, finds_flag}
use Rattle.board.proofs.Wording.{Small, at_word, at_small, order_same, lesser_word, lesser_small, least_word, IsFairWord, HoldsWord, to_words, from_words}
use Rattle.board.proofs.Sums.{AllFair, alone, least_at, least_small, least_set, least_snoc, share_set, share_snoc, parts_set, parts_snoc}

abbrev TableState : Type 0
TableState = State (Unit {0}) View

abbrev SeatState : Type 0
SeatState = Me (Unit {0}) View

-- ---- a step on one word, where the other words stay
at_three : (P : ℕ → ℕ → ℕ → Type 0) {a b c a' b' c' : ℕ} → a ≡ a' → b ≡ b' → c ≡ c' → P a' b' c' → P a b c
at_three P p q r t = let Q : ℕ × ℕ × ℕ → Type 0 = λ z. P z.0 z.1 z.2 in subst Q (λ i. (sym p i, sym q i, sym r i)) t

bound_set : (s : TableState) (n id : ℕ) (me : SeatState) (w : View) → length s.words ≡ 17
    → HoldsWord n (get_or s.words 16 0) (get_or s.words 1 0) (set s.views id w) → IsRuled (stepped s 0 n id me.1 w keeps)
bound_set s n id me w wide h = (
  length-set s.words 0 n ∙ wide,
  at_three (λ a b c. Holds a b c (set s.views id w)) (get_or-set_same s.words 0 n 0 (omega arith))
      (get_or-set_other s.words 0 16 n 0 (λ e. absurd (omega arith))) (get_or-set_other s.words 0 1 n 0 (λ e. absurd (omega arith)))
      (from_words _ _ _ (set s.views id w) h),
)

units_set : (s : TableState) (n id : ℕ) (me : SeatState) (w : View) → length s.words ≡ 17
    → HoldsWord (get_or s.words 0 0) n (get_or s.words 1 0) (set s.views id w) → IsRuled (stepped s 16 n id me.1 w keeps)
units_set s n id me w wide h = (
  length-set s.words 16 n ∙ wide,
  at_three (λ a b c. Holds a b c (set s.views id w)) (get_or-set_other s.words 16 0 n 0 (λ e. absurd (omega arith)))
      (get_or-set_same s.words 16 n 0 (omega arith)) (get_or-set_other s.words 16 1 n 0 (λ e. absurd (omega arith)))
      (from_words _ _ _ (set s.views id w) h),
)

stop_set : (s : TableState) (n id : ℕ) (me : SeatState) (w : View) → length s.words ≡ 17
    → HoldsWord (get_or s.words 0 0) (get_or s.words 16 0) n (set s.views id w) → IsRuled (stepped s 1 n id me.1 w keeps)
stop_set s n id me w wide h = (
  length-set s.words 1 n ∙ wide,
  at_three (λ a b c. Holds a b c (set s.views id w)) (get_or-set_other s.words 1 0 n 0 (λ e. absurd (omega arith)))
      (get_or-set_other s.words 1 16 n 0 (λ e. absurd (omega arith))) (get_or-set_same s.words 1 n 0 (omega arith))
      (from_words _ _ _ (set s.views id w) h),
)

-- ---- one view is changed
-- to a bound that has fallen every view is fair, where the changed one is
fair_set : (b b' : ℕ) (vs : List View) (id : ℕ) (w : View) → AllFair b vs → b' ≤ b → IsFairWord b' w → AllFair b' (set vs id w)
fair_set b b' vs id w fair falls here j x at = ⊎_elim
    (λ t. subst (IsFairWord b') t.1 here)
    (λ t. let f = fair j x t.1 in let s = f.seen in record {
      seen = omega arith;
      seen_small = f.seen_small;
      offered_small = f.offered_small;
      offered = f.offered;
      spent = f.spent;
    })
    (at_set vs id j w x at)

there : (vs : List View) (id : ℕ) (v w : View) → get_elem? vs id ≡ some v → get_elem? (set vs id w) id ≡ some w
there [] id v w e = absurd (some-ne-none v (sym e))
there (x ∷ xs) zero v w e = refl
there (x ∷ xs) (suc i) v w e = there xs i v w e

-- a view that has offered no more than before
offered_set : (vs : List View) (id : ℕ) (v w : View) → get_elem? vs id ≡ some v → word_of w.offered ≤ word_of v.offered
    → least_word (set vs id w) ≡ min (least_word vs) (word_of w.offered)
offered_set vs id v w at less =
    let s = least_set vs id v w at in let l = least_at vs id v at in let here = least_at (set vs id w) id w (there vs id v w at) in omega arith

-- the whole rule after a change of one live view
changed : (b u h b' u' h' : ℕ) (vs : List View) (id : ℕ) (v w : View) → HoldsWord b u h vs → get_elem? vs id ≡ some v → w.parts ≡ v.parts
    → 0 < v.parts → word_of w.offered ≤ word_of v.offered → Small w.offered → b' ≡ min b (word_of w.offered) → b' ≤ word_of w.seen
    → Small w.seen → IsModulo u' (total_share (set vs id w)) → h' < 2 → HoldsWord b' u' h' (set vs id w)
changed b u h b' u' h' vs id v w is at parts live less small bound seen seen_small counted flag =
    let was = (is.fair id v at).offered in let p = parts_set vs id v w at in let q = is.whole in let l = is.least in
    record {
      least = let s = offered_set vs id v w at less in omega arith;
      counted = counted;
      flag = flag;
      whole = omega arith;
      fair = fair_set b b' vs id w is.fair (omega arith) record {
        seen = seen;
        seen_small = seen_small;
        offered_small = small;
        offered = omega arith;
        spent = λ none. absurd (omega arith);
      };
    }

same_share : (u : ℕ) (vs : List View) (id : ℕ) (v w : View) → get_elem? vs id ≡ some v → w.share ≡ v.share → IsModulo u (total_share vs)
    → IsModulo u (total_share (set vs id w))
same_share u vs id v w at same m =
    let s = share_set vs id v w at in let e : total_share vs ≡ total_share (set vs id w) = omega (arith, ints) in subst (IsModulo u) e m

-- the bound is the least offered, which the seat's own offer is not below
bound_at : (b u h : ℕ) (vs : List View) (id : ℕ) (v : View) → HoldsWord b u h vs → get_elem? vs id ≡ some v → b ≤ word_of v.offered
bound_at b u h vs id v is at = let l = is.least in let m = least_at vs id v at in omega arith

-- the bound is the word of a distance
least_word_back : (vs : List View) → ((id : ℕ) (v : View) → get_elem? vs id ≡ some v → Small v.offered) → word_of (distance_at (least_word vs)) ≡ least_word vs
least_word_back [] h = refl
least_word_back (v ∷ vs) h = lower (word_of v.offered) (least_word vs) (ap word_of (at_word v.offered (h 0 v refl)))
    (least_word_back vs (λ i w at. h (suc i) w at))
  where
    -- the lesser of two words is one of them
    lower : (m n : ℕ) → word_of (distance_at m) ≡ m → word_of (distance_at n) ≡ n → word_of (distance_at (min m n)) ≡ min m n
    lower m n em en = either (is_one m n)
      where
        is_one : (m n : ℕ) → (min m n ≡ m) ⊎ (min m n ≡ n)
        is_one m n = grind arith

        either : ((min m n ≡ m) ⊎ (min m n ≡ n)) → word_of (distance_at (min m n)) ≡ min m n
        either (inl e) = ap (λ k. word_of (distance_at k)) e ∙ (em ∙ sym e)
        either (inr e) = ap (λ k. word_of (distance_at k)) e ∙ (en ∙ sym e)

bound_back : (b u h : ℕ) (vs : List View) → HoldsWord b u h vs → word_of (distance_at b) ≡ b
bound_back b u h vs is =
    ap (λ k. word_of (distance_at k)) is.least ∙ (least_word_back vs (λ i v at. (is.fair i v at).offered_small) ∙ sym is.least)

-- ---- the steps
pub look_keeps : (slots id : ℕ) (me : SeatState) → 0 < me.0.parts → Allows IsRuled slots id me 0 (λ n. n) (looks (step slots 0 0 0 none) me)
look_keeps slots id me live s (wide, rule) _ at _ =
    let is = to_words _ _ _ s.views rule in
    let b : ℕ = get_or s.words 0 0 in let d = distance_at b in let w = with_seen me.0 d in
    let below : b ≤ word_of me.0.offered = bound_at b _ _ s.views id me.0 is at in
    let f = is.fair id me.0 at in let seen = f.seen in
    let back = bound_back b _ _ s.views is in (
      w,
      keeps,
      tt,
      bound_set s b id me w wide
          (changed b _ _ b _ _ s.views id me.0 w is at refl live (omega arith) f.offered_small (omega arith) (omega (arith, back)) (at_small b)
          (same_share _ s.views id me.0 w at refl is.counted) is.flag),
      (
        refl,
        order_same d me.0.seen f.seen_small (omega (arith, back, seen)),
        order_same d me.0.offered f.offered_small (omega (arith, back, below)),
      ),
    )

pub offer_keeps : (slots id : ℕ) (me : SeatState) (k : ℕ) → 0 < me.0.parts → word_of (distance_at k) ≡ k
    → Allows IsRuled slots id me 0 (λ n. min n k) (offers (step slots 0 k 0 none) me)
offer_keeps slots id me k live word s (wide, rule) _ at _ =
    let is = to_words _ _ _ s.views rule in
    let b : ℕ = get_or s.words 0 0 in let w = with_offered me.0 (lesser me.0.offered (distance_at k)) in
    let below : b ≤ word_of me.0.offered = bound_at b _ _ s.views id me.0 is at in
    let f = is.fair id me.0 at in let seen = f.seen in
    let less = lesser_word me.0.offered (distance_at k) f.offered_small (at_small k) in (
      w,
      keeps,
      tt,
      bound_set s (min b k) id me w wide
          (changed b _ _ (min b k) _ _ s.views id me.0 w is at refl live (omega (arith, less, word))
          (lesser_small me.0.offered (distance_at k) f.offered_small (at_small k)) (omega (arith, less, word, below)) (omega (arith, seen)) f.seen_small
          (same_share _ s.views id me.0 w at refl is.counted) is.flag),
      refl,
    )

more : (u k : ℕ) (t t' : ℤ) → t' ≡ t +ℤ pos k → IsModulo u t → IsModulo ((u + k) % 2 ^ 64) t'
more u k t t' e (up, down, m) = let d = div-add-mod' (u + k) (2 ^ 64) in (up + (u + k) / 2 ^ 64, down, omega (arith, ints))

fewer : (u k : ℕ) (t t' : ℤ) → k < 2 ^ 64 → t' ≡ t -ℤ pos k → IsModulo u t → IsModulo ((u + (2 ^ 64 - k)) % 2 ^ 64) t'
fewer u k t t' small e (up, down, m) =
    let d = div-add-mod' (u + (2 ^ 64 - k)) (2 ^ 64) in (up + (u + (2 ^ 64 - k)) / 2 ^ 64, down + 1, omega (arith, ints))

pub add_keeps : (slots id : ℕ) (me : SeatState) (k : ℕ) → 0 < me.0.parts → Allows IsRuled slots id me 16 (λ n. (n + k) % 2 ^ 64) (adds (step slots 16 k 0 none) me)
add_keeps slots id me k live s (wide, rule) _ at _ =
    let is = to_words _ _ _ s.views rule in
    let b : ℕ = get_or s.words 0 0 in let u : ℕ = get_or s.words 16 0 in let w = with_share me.0 (me.0.share +ℤ pos k) in
    let below : b ≤ word_of me.0.offered = bound_at b _ _ s.views id me.0 is at in let f = is.fair id me.0 at in
    let sum = share_set s.views id me.0 w at in let e : total_share (set s.views id w) ≡ total_share s.views +ℤ pos k = omega (arith, ints) in (
      w,
      keeps,
      tt,
      units_set s ((u + k) % 2 ^ 64) id me w wide
          (changed b u _ b ((u + k) % 2 ^ 64) _ s.views id me.0 w is at refl live (omega arith) f.offered_small (omega arith) f.seen f.seen_small
          (more u k _ _ e is.counted) is.flag),
      refl,
    )

pub sub_keeps : (slots id : ℕ) (me : SeatState) (k : ℕ) → 0 < me.0.parts → k < 2 ^ 64
    → Allows IsRuled slots id me 16 (λ n. (n + (2 ^ 64 - k)) % 2 ^ 64) (subtracts (step slots 16 k 0 none) me)
sub_keeps slots id me k live small s (wide, rule) _ at _ =
    let is = to_words _ _ _ s.views rule in
    let b : ℕ = get_or s.words 0 0 in let u : ℕ = get_or s.words 16 0 in let w = with_share me.0 (me.0.share -ℤ pos k) in
    let below : b ≤ word_of me.0.offered = bound_at b _ _ s.views id me.0 is at in let f = is.fair id me.0 at in
    let sum = share_set s.views id me.0 w at in let e : total_share (set s.views id w) ≡ total_share s.views -ℤ pos k = omega (arith, ints) in (
      w,
      keeps,
      tt,
      units_set s ((u + (2 ^ 64 - k)) % 2 ^ 64) id me w wide
          (changed b u _ b ((u + (2 ^ 64 - k)) % 2 ^ 64) _ s.views id me.0 w is at refl live (omega arith) f.offered_small (omega arith) f.seen f.seen_small
          (fewer u k _ _ small e is.counted) is.flag),
      refl,
    )

-- the rule with the seat's view written again
again : (b u h h' : ℕ) (vs : List View) (id : ℕ) (v : View) → Holds b u h vs → get_elem? vs id ≡ some v → h' < 2 → HoldsWord b u h' (set vs id v)
again b u h h' vs id v rule at flag =
    let is = to_words b u h vs rule in
    subst (HoldsWord b u h') (sym (set_again vs id v at))
    record { least = is.least; counted = is.counted; flag = flag; whole = is.whole; fair = is.fair }

pub count_keeps : (slots id : ℕ) (me : SeatState) → Allows IsRuled slots id me 16 (λ n. n) (stays (step slots 16 0 0 none) me)
count_keeps slots id me s (wide, is) _ at _ =
    (me.0, keeps, tt, units_set s (get_or s.words 16 0) id me me.0 wide (again _ _ _ _ s.views id me.0 is at is.flag), refl)

flagged : (n : ℕ) → n < 2 → bit_or n 1 < 2
flagged zero h = omega arith
flagged (suc zero) h = omega arith
flagged (suc (suc n)) h = absurd (omega arith)

pub halt_keeps : (slots id : ℕ) (me : SeatState) → Allows IsRuled slots id me 1 (λ n. bit_or n 1) (stays (step slots 1 1 0 none) me)
halt_keeps slots id me s (wide, is) _ at _ =
    let h : ℕ = get_or s.words 1 0 in
    (me.0, keeps, tt, stop_set s (bit_or h 1) id me me.0 wide (again _ _ _ _ s.views id me.0 is at (flagged h is.flag)), refl)

pub halted_keeps : (slots id : ℕ) (me : SeatState) → Allows IsRuled slots id me 1 (λ n. n) (finds_flag (step slots 1 0 0 none) me)
halted_keeps slots id me s (wide, is) _ at _ =
    (me.0, keeps, tt, stop_set s (get_or s.words 1 0) id me me.0 wide (again _ _ _ _ s.views id me.0 is at is.flag), (refl, is.flag))

-- ---- seats are cut and joined
pub split_keeps : (id : ℕ) (v : View) → 2 ≤ v.parts → Splits IsRuled id v (kept_part v) (new_part v)
split_keeps id v live s (wide, rule) at = (wide, from_words _ _ _ (set s.views id (kept_part v) ++ new_part v ∷ []) (cut _ _ _ s.views (to_words _ _ _ s.views rule) at))
  where
    cut : (b u h : ℕ) (vs : List View) → HoldsWord b u h vs → get_elem? vs id ≡ some v → HoldsWord b u h (set vs id (kept_part v) ++ new_part v ∷ [])
    cut b u h vs is at =
        let left = kept_part v in let right = new_part v in let after = set vs id left in
        let f = is.fair id v at in let small = f.offered in let l = is.least in
        let o = offered_set vs id v left at (omega arith) in let m = least_at vs id v at in
        let o' = least_snoc after right (omega arith) in
        let z = share_set vs id v left at in let z' = share_snoc after right in
        let p = parts_set vs id v left at in let p' = parts_snoc after right in let q = is.whole in
        let e : total_share vs ≡ total_share (after ++ right ∷ []) = omega (arith, ints) in
        let seen = f.seen in
        record {
          least = omega arith;
          counted = subst (IsModulo u) e is.counted;
          flag = is.flag;
          whole = omega arith;
          fair = λ j x here. ⊎_elim
              (λ there. fair_set b b vs id left is.fair (omega arith) record {
                seen = seen;
                seen_small = f.seen_small;
                offered_small = f.offered_small;
                offered = small;
                spent = λ none. absurd (omega arith);
              } j x there)
              (λ new. subst (IsFairWord b) new record {
                seen = seen;
                seen_small = f.seen_small;
                offered_small = tt;
                offered = omega arith;
                spent = λ none. absurd (omega arith);
              })
              (at_snoc after right x j here);
        }

pub join_keeps : (id : ℕ) (v : View) (other : ℕ) (w : View) → 0 < v.parts → Joins IsRuled id v other w (joined v w) spent_view
join_keeps id v other w live s (wide, rule) at apart found =
    (wide, from_words _ _ _ (set (set s.views id (joined v w)) other spent_view) (merged _ _ _ s.views (to_words _ _ _ s.views rule) at found))
  where
    merged : (b u h : ℕ) (vs : List View) → HoldsWord b u h vs → get_elem? vs id ≡ some v → get_elem? (set vs id (joined v w)) other ≡ some w
        → HoldsWord b u h (set (set vs id (joined v w)) other spent_view)
    merged b u h vs is at found =
        let both = joined v w in let mid = set vs id both in let last = set mid other spent_view in
        let before : get_elem? vs other ≡ some w = sym (set_else vs id other both apart) ∙ found in
        let f = is.fair id v at in let g = is.fair other w before in
        let small = f.offered in let small' = g.offered in let l = is.least in let seen = f.seen in let seen' = g.seen in
        let both_offered = lesser_word v.offered w.offered f.offered_small g.offered_small in
        let both_seen = lesser_word v.seen w.seen f.seen_small g.seen_small in
        let o = offered_set vs id v both at (omega (arith, both_offered)) in
        let m = least_at vs id v at in let m' = least_at vs other w before in
        let o' = least_set mid other w spent_view found in
        let here : get_elem? last id ≡ some both = set_else mid other id spent_view (λ e. apart (sym e)) ∙ there vs id v both at in
        let m'' = least_at last id both here in let l' = least_small mid in let l'' = least_small last in
        let z = share_set vs id v both at in let z' = share_set mid other w spent_view found in
        let p = parts_set vs id v both at in let p' = parts_set mid other w spent_view found in let q = is.whole in
        let e : total_share vs ≡ total_share last = omega (arith, ints) in
        record {
          least = omega arith;
          counted = subst (IsModulo u) e is.counted;
          flag = is.flag;
          whole = omega arith;
          fair = fair_set b b mid other spent_view
              (fair_set b b vs id both is.fair (omega arith) record {
                seen = omega arith;
                seen_small = lesser_small v.seen w.seen f.seen_small g.seen_small;
                offered_small = lesser_small v.offered w.offered f.offered_small g.offered_small;
                offered = omega arith;
                spent = λ none. absurd (omega arith);
              })
              (omega arith)
              record { seen = omega arith; seen_small = tt; offered_small = tt; offered = omega arith; spent = λ none. (refl, refl) };
        }

-- ---- the end
read_at : (l : List ℕ) (i a : ℕ) → get_elem? l i ≡ some a → get_or l i 0 ≡ a
read_at [] i a e = absurd (some-ne-none a (sym e))
read_at (x ∷ xs) zero a e = some-injective x a e
read_at (x ∷ xs) (suc i) a e = read_at xs i a e

-- who has every part knows the last bound and units
pub record IsLast (v : View) (bound units : ℕ) : Type 0 where
  pub bound_is : distance_at bound ≡ v.offered
  pub seen : v.offered ≤ᵈ v.seen
  pub counted : IsModulo units v.share

pub closes : (ws : List ℕ) (xs : List (Unit {0})) (id : ℕ) (v : View) (bound units : ℕ) → Final (Seen IsRuled id v) ws xs → v.parts ≡ all_parts
    → get_elem? ws 0 ≡ some bound → get_elem? ws 16 ≡ some units → IsLast v bound units
closes ws xs id v bound units (s, ((wide, rule), at), same, _, _) all first second =
    let is = to_words _ _ _ s.views rule in
    let f = is.fair id v at in
    let only = alone _ s.views id v is.fair at (is.whole ∙ sym all) in
    let o : least_word s.views ≡ word_of v.offered = only.0 in
    let b : get_or s.words 0 0 ≡ bound = ap (λ (l : List ℕ). get_or l 0 0) same ∙ read_at ws 0 bound first in
    let u : get_or s.words 16 0 ≡ units = ap (λ (l : List ℕ). get_or l 16 0) same ∙ read_at ws 16 units second in
    let l = is.least in let seen = f.seen in
    let word : bound ≡ word_of v.offered = omega (arith, b, o, l) in
    let P : ℕ × ℤ → Type 0 = λ z. IsModulo z.0 z.1 in
    record {
      bound_is = ap distance_at word ∙ at_word v.offered f.offered_small;
      seen = order_same v.offered v.seen f.seen_small (omega (arith, seen, o, l));
      counted = subst P (λ i. (u i, only.1 i)) is.counted;
    }
