-- Distances as words: the order, the lesser and the least are those of the words. The rule of the board, told of words.
use Rattle.std.proofs.Common.{◌≡◌, ℕ, suc, ◌-◌, ◌^◌, ◌<◌, ◌≤◌, ⊎_elim, min, List, [], ◌∷◌, map, sym, refl, ap, ◌∙◌, subst, arith, pos}
use Rattle.std.specs.Prelude.{nat_le}
use Rattle.std.proofs.lemmas.Bool.{cases_lt, le-leb, lt-leb, cond-true, cond-false}
use mathlib.Core.Option.{some}
use lib.ListN.{get_elem?}
use Rattle.cost.specs.Distances.{Distance, Finite, Infinite, ◌≤ᵈ◌, lesser, least, IsWithin}
use Rattle.board.specs.declared.views.View.{View}
use Rattle.board.specs.Rule.{word_of, distance_at, all_parts, total_share, total_parts, IsModulo, Holds}

abbrev pub Small : Distance → Type 0
Small d = IsWithin (2 ^ 63) d

-- ---- one word

pub word_small : (d : Distance) → Small d → word_of d ≤ 2 ^ 64 - 1
word_small (Finite n) h = omega (arith, h)
word_small Infinite h = omega arith

pub at_word : (d : Distance) → Small d → distance_at (word_of d) ≡ d
at_word (Finite n) h = cond-true (nat_le n (2 ^ 63)) (Finite n) Infinite (le-leb n (2 ^ 63) h)
at_word Infinite h = refl

pub at_small : (n : ℕ) → Small (distance_at n)
at_small n = ⊎_elim
    (λ (gt : 2 ^ 63 < n). subst Small (sym (cond-false (nat_le n (2 ^ 63)) (Finite n) Infinite (lt-leb n (2 ^ 63) gt))) tt)
    (λ (le : n ≤ 2 ^ 63). subst Small (sym (cond-true (nat_le n (2 ^ 63)) (Finite n) Infinite (le-leb n (2 ^ 63) le))) le)
    (cases_lt (2 ^ 63) n)

pub same_order : (d e : Distance) → Small d → d ≤ᵈ e → word_of d ≤ word_of e
same_order (Finite m) (Finite n) h le = le
same_order d Infinite h le = word_small d h
same_order Infinite (Finite n) h le = absurd le

pub order_same : (d e : Distance) → Small e → word_of d ≤ word_of e → d ≤ᵈ e
order_same (Finite m) (Finite n) h le = le
order_same d Infinite h le = tt
order_same Infinite (Finite n) h le = absurd (omega (arith, h, le))

pub lesser_word : (d e : Distance) → Small d → Small e → word_of (lesser d e) ≡ min (word_of d) (word_of e)
lesser_word (Finite m) (Finite n) h k = refl
lesser_word (Finite m) Infinite h k = omega (arith, h)
lesser_word Infinite e h k = let s = word_small e k in omega (arith, s)

pub lesser_small : (d e : Distance) → Small d → Small e → Small (lesser d e)
lesser_small (Finite m) (Finite n) h k = omega (arith, h, k)
lesser_small (Finite m) Infinite h k = h
lesser_small Infinite e h k = k

pub infinite_word : (d : Distance) → Small d → word_of d ≡ 2 ^ 64 - 1 → d ≡ Infinite
infinite_word (Finite n) h e = absurd (omega (arith, h, e))
infinite_word Infinite h e = refl

-- ---- the least of all words

abbrev pub least_word : List View → ℕ
least_word [] = 2 ^ 64 - 1
least_word (v ∷ vs) = min (word_of v.offered) (least_word vs)

-- what each view must have for that: its distances are small
abbrev pub AllSmall : List View → Type 0
AllSmall vs = (id : ℕ) (v : View) → get_elem? vs id ≡ some v → Small v.offered

pub least_small : (vs : List View) → AllSmall vs → Small (least (map (λ v. v.offered) vs))
least_small [] h = tt
least_small (v ∷ vs) h = lesser_small v.offered (least (map (λ w. w.offered) vs)) (h 0 v refl) (least_small vs (λ i w at. h (suc i) w at))

pub least_is_word : (vs : List View) → AllSmall vs → word_of (least (map (λ v. v.offered) vs)) ≡ least_word vs
least_is_word [] h = refl
least_is_word (v ∷ vs) h =
    lesser_word v.offered (least (map (λ w. w.offered) vs)) (h 0 v refl) (least_small vs (λ i w at. h (suc i) w at))
    ∙ ap (min (word_of v.offered)) (least_is_word vs (λ i w at. h (suc i) w at))

-- ---- the rule told of words

pub record IsFairWord (bound : ℕ) (v : View) : Type 0 where
  pub seen : bound ≤ word_of v.seen
  pub seen_small : Small v.seen
  pub offered_small : Small v.offered
  pub offered : word_of v.offered ≤ 2 ^ 64 - 1
  pub spent : v.parts ≡ 0 → (word_of v.offered ≡ 2 ^ 64 - 1) × (v.share ≡ pos 0)

pub record HoldsWord (bound units stop : ℕ) (views : List View) : Type 0 where
  pub least : bound ≡ least_word views
  pub counted : IsModulo units (total_share views)
  pub flag : stop < 2
  pub whole : total_parts views ≡ all_parts
  pub fair : (id : ℕ) (v : View) → get_elem? views id ≡ some v → IsFairWord bound v

pub to_words : (b u h : ℕ) (vs : List View) → Holds b u h vs → HoldsWord b u h vs
to_words b u h vs is =
    let small : AllSmall vs = λ id v at. (is.fair id v at).offered_within in
    let bound : word_of (least (map (λ v. v.offered) vs)) ≡ b = sym is.bound_is in
    record {
      least = is.bound_is ∙ least_is_word vs small;
      counted = is.counted;
      flag = is.flag;
      whole = is.whole;
      fair = λ id v at.
          let f = is.fair id v at in
          record {
            seen = subst (λ n. n ≤ word_of v.seen) bound (same_order (least (map (λ w. w.offered) vs)) v.seen (least_small vs small) f.seen);
            seen_small = f.seen_within;
            offered_small = f.offered_within;
            offered = word_small v.offered f.offered_within;
            spent = λ none. let s = f.spent none in (ap word_of s.0, s.1);
          };
    }

pub from_words : (b u h : ℕ) (vs : List View) → HoldsWord b u h vs → Holds b u h vs
from_words b u h vs is =
    let small : AllSmall vs = λ id v at. (is.fair id v at).offered_small in
    let bound : b ≡ word_of (least (map (λ v. v.offered) vs)) = is.least ∙ sym (least_is_word vs small) in
    record {
      bound_is = bound;
      counted = is.counted;
      flag = is.flag;
      whole = is.whole;
      fair = λ id v at.
          let f = is.fair id v at in
          record {
            seen = order_same (least (map (λ w. w.offered) vs)) v.seen f.seen_small (subst (λ n. n ≤ word_of v.seen) bound f.seen);
            seen_within = f.seen_small;
            offered_within = f.offered_small;
            spent = λ none. let s = f.spent none in (infinite_word v.offered f.offered_small s.0, s.1);
          };
    }
