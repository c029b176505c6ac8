-- Hashes and owners of states in which values are changed.
use Rattle.std.proofs.Common.{◌≡◌, ◌≢◌, ℕ, zero, suc, ◌+◌, ◌<◌, ◌≤◌, ◌%◌, eqb, true, false, List, [], ◌∷◌, length, map, get_or, refl, sym, ap, ◌∙◌, arith, add-one, not, if◌then◌else◌, ◌==◌, length-set, get_or-set_same, get_or-set_other}
use Rattle.std.specs.Prelude.{slice_index, slice_set, fold, bit_xor, All}
use Rattle.std.specs.List.{range_with_len}
use Rattle.std.specs.Int.Bits.{xor_self, xor_zero_l}
use lib.Bits.{xor_assoc}
use Rattle.std.proofs.Math.Logic.{⊎_elim}
use Rattle.std.proofs.lemmas.Nat.{xor_comm}
use Rattle.std.proofs.lemmas.Bool.{cases_eq, cond-false, ne_eqb, eqb-false, not-true, or_parts, and_parts}
use Rattle.std.proofs.lemmas.List.Elements.{All-head, All-tail}
use Rattle.fdr.specs.declared.fact.Fact.{Fact}
use Rattle.fdr.specs.Tasks.{with_values, names_variable, are_distinct}
use Rattle.packed_spread.specs.Spreads.{value_owner, word_of, hash}
use Rattle.packed_spread.proofs.Places.{hash_more}

-- ---- the value of variable 0

-- the value of variable 0, where it had this one before the fact
abbrev pub first_after : ℕ → Fact → ℕ
first_after value f = if f.variable == 0 then f.value else value

pub owner_of_none : (facts : List Fact) (owners : ℕ) → value_owner (with_values facts []) owners ≡ 0
owner_of_none [] owners = refl
owner_of_none (f ∷ fs) owners = owner_of_none fs owners

pub owner_of_first : (facts : List Fact) (value : ℕ) (values : List ℕ) (owners : ℕ)
    → value_owner (with_values facts (value ∷ values)) owners ≡ fold first_after value facts % owners
owner_of_first [] value values owners = refl
owner_of_first (f ∷ fs) value values owners = at (λ x xs. owner_of_first fs x xs owners) f.variable
  where
    at : ((x : ℕ) (xs : List ℕ) → value_owner (with_values fs (x ∷ xs)) owners ≡ fold first_after x fs % owners)
        → (v : ℕ) → value_owner (with_values fs (slice_set (value ∷ values) v f.value)) owners
        ≡ fold first_after (if v == 0 then f.value else value) fs % owners
    at rest zero = rest f.value values
    at rest (suc v) =
        rest value (slice_set values v f.value)
        ∙ ap (λ x. fold first_after x fs % owners) (sym (cond-false (eqb (suc v) 0) f.value value (ne_eqb (suc v) 0 (λ e. omega (arith, e)))))

-- in a state without variables
pub owner_after_none : (state : List ℕ) (facts : List Fact) (owners : ℕ) → length state ≡ 0 → 0 ≡ value_owner (with_values facts state) owners
owner_after_none [] facts owners none = sym (owner_of_none facts owners)
owner_after_none (value ∷ values) facts owners none = absurd (omega (arith, none))

-- and in one with variables
pub owner_after_first : (state : List ℕ) (facts : List Fact) (owners : ℕ) → length state ≢ 0
    → fold first_after (get_or state 0 0) facts % owners ≡ value_owner (with_values facts state) owners
owner_after_first [] facts owners some = absurd (some refl)
owner_after_first (value ∷ values) facts owners some = sym (owner_of_first facts value values owners)

-- ---- exclusive ors

-- one number in place of another
in_place : (h old new : ℕ) → bit_xor (bit_xor h old) (bit_xor old new) ≡ bit_xor h new
in_place h old new =
    xor_assoc h old (bit_xor old new)
    ∙ ap (λ z. bit_xor h z) (sym (xor_assoc old old new) ∙ ap (λ z. bit_xor z new) (xor_self old) ∙ xor_zero_l new)

-- the order of the last two is free
turned : (h x y : ℕ) → bit_xor (bit_xor h x) y ≡ bit_xor (bit_xor h y) x
turned h x y = xor_assoc h x y ∙ ap (λ z. bit_xor h z) (xor_comm x y) ∙ sym (xor_assoc h y x)

-- ---- the hash of a state

module _ (words firsts : List ℕ) where
  -- the exclusive or of the words of the first n variables' values
  abbrev hash_to : List ℕ → ℕ → ℕ
  hash_to state n = fold bit_xor 0 (map (word_of words firsts state) (range_with_len 0 n))

  one_more : (state : List ℕ) (n : ℕ) → hash_to state (suc n) ≡ bit_xor (hash_to state n) (word_of words firsts state n)
  one_more state n = ap (λ m. hash_to state m) (sym (add-one n)) ∙ hash_more words firsts state n

  -- the word of a value
  abbrev pub word_for : ℕ → ℕ → ℕ
  word_for variable value = slice_index words (slice_index firsts variable + value)

  word_kept : (state : List ℕ) (k x v : ℕ) → v ≢ k → word_of words firsts (slice_set state k x) v ≡ word_of words firsts state v
  word_kept state k x v other = ap (λ a. word_for v a) (get_or-set_other state k v x 0 other)

  -- variables up to one that is changed
  before : (state : List ℕ) (k x n : ℕ) → n ≤ k → hash_to (slice_set state k x) n ≡ hash_to state n
  before state k x zero up_to = refl
  before state k x (suc n) up_to =
      one_more (slice_set state k x) n
      ∙ ap (λ h. bit_xor h (word_of words firsts (slice_set state k x) n)) (before state k x n (omega (arith, up_to)))
      ∙ ap (λ w. bit_xor (hash_to state n) w) (word_kept state k x n (λ e. omega (arith, up_to, e)))
      ∙ sym (one_more state n)

  -- variables beyond it
  beyond : (state : List ℕ) (k x n : ℕ) → k < length state → k < n
      → hash_to (slice_set state k x) n ≡ bit_xor (hash_to state n) (bit_xor (word_of words firsts state k) (word_for k x))
  beyond state k x zero exists below = absurd (omega (arith, below))
  beyond state k x (suc n) exists below = ⊎_elim here (λ other. later other (beyond state k x n exists (omega (arith, below, other)))) (cases_eq n k)
    where
      changed : List ℕ
      changed = slice_set state k x

      change : ℕ
      change = bit_xor (word_of words firsts state k) (word_for k x)

      here : n ≡ k → hash_to changed (suc n) ≡ bit_xor (hash_to state (suc n)) change
      here e =
          one_more changed n
          ∙ ap (λ h. bit_xor h (word_of words firsts changed n)) (before state k x n (omega (arith, e)))
          ∙ ap (λ v. bit_xor (hash_to state n) (word_of words firsts changed v)) e
          ∙ ap (λ a. bit_xor (hash_to state n) (word_for k a)) (get_or-set_same state k x 0 exists)
          ∙ sym (in_place (hash_to state n) (word_of words firsts state k) (word_for k x))
          ∙ ap (λ v. bit_xor (bit_xor (hash_to state n) (word_of words firsts state v)) change) (sym e)
          ∙ ap (λ h. bit_xor h change) (sym (one_more state n))

      later : (n ≡ k → ⊥) → hash_to changed n ≡ bit_xor (hash_to state n) change → hash_to changed (suc n) ≡ bit_xor (hash_to state (suc n)) change
      later other rest =
          one_more changed n
          ∙ ap (λ h. bit_xor h (word_of words firsts changed n)) rest
          ∙ ap (λ w. bit_xor (bit_xor (hash_to state n) change) w) (word_kept state k x n other)
          ∙ turned (hash_to state n) change (word_of words firsts state n)
          ∙ ap (λ h. bit_xor h change) (sym (one_more state n))

  -- the number with the word of the fact's value in place of that of the variable's value in the state
  abbrev pub with_word : List ℕ → ℕ → Fact → ℕ
  with_word state h f = bit_xor h (bit_xor (word_of words firsts state f.variable) (word_for f.variable f.value))

  -- variables that the facts do not name play no part
  unnamed : (state : List ℕ) (k x h : ℕ) (facts : List Fact) → names_variable facts k ≡ false
      → fold (with_word (slice_set state k x)) h facts ≡ fold (with_word state) h facts
  unnamed state k x h [] none = refl
  unnamed state k x h (f ∷ fs) none =
      let parts = or_parts (eqb f.variable k) (names_variable fs k) none in
      ap (λ w. fold (with_word (slice_set state k x)) (bit_xor h (bit_xor w (word_for f.variable f.value))) fs)
      (word_kept state k x f.variable (eqb-false f.variable k parts.0))
      ∙ unnamed state k x (with_word state h f) fs parts.1

  -- the hash of a changed state, from that of the state
  pub hash_changed : (state : List ℕ) (facts : List Fact) → length firsts ≡ length state → All (λ f. f.variable < length firsts) facts
      → are_distinct facts ≡ true → fold (with_word state) (hash words firsts state) facts ≡ hash words firsts (with_values facts state)
  hash_changed state [] long exist distinct = refl
  hash_changed state (f ∷ fs) long exist distinct =
      ap (λ h. fold (with_word state) h fs) (sym (beyond state f.variable f.value (length firsts) (omega (arith, long, here)) here))
      ∙ sym (unnamed state f.variable f.value (hash words firsts changed) fs (not-true (names_variable fs f.variable) parts.0))
      ∙ hash_changed changed fs (long ∙ sym (length-set state f.variable f.value))
      (All-tail (λ (g : Fact). g.variable < length firsts) f fs exist) parts.1
    where
      changed : List ℕ
      changed = slice_set state f.variable f.value

      here : f.variable < length firsts
      here = All-head (λ (g : Fact). g.variable < length firsts) f fs exist

      parts : (not (names_variable fs f.variable) ≡ true) × (are_distinct fs ≡ true)
      parts = and_parts (not (names_variable fs f.variable)) (are_distinct fs) distinct
