-- Tables of strings, seen as their texts.
use Rattle.std.proofs.Common.{◌≡◌, suc, zero, ℕ, ◌+◌, Bool, true, false, cond, if◌then◌else◌, ◌||◌, ltb, List, [], ◌∷◌, ◌++◌, slice_get, position, Some, None, refl, sym, ap, subst, ◌∙◌}
use Rattle.std.proofs.Math.Nat.{add_comm}
use Rattle.std.proofs.Math.Numerals.{add-one}
use Rattle.std.proofs.lemmas.List.{length-map, map-append}
use Rattle.std.proofs.lemmas.List.Recursion.{is_position_or_len}
use Rattle.std.proofs.lemmas.Map.Keys.{IsDistinct-head, IsDistinct-tail}
use Rattle.std.proofs.lemmas.Option.{none-some, same_Some}
use Rattle.std.specs.List.{list_any, position_or_len, IsDistinct, AllByRecursion, AllZip}
use Rattle.std.specs.Str.{bytes_eq}
use Rattle.std.specs.declared.string.String.{String}
use Rattle.std.specs.String.{string_bytes, string_eq}
use Rattle.indexmap.specs.IndexSet.{insert_key}
use Rattle.pddl_names.specs.Names.{same_text, texts_of, place_of, number_of, is_there, with_name, AreDistinct}
use Rattle.pddl_names.proofs.NameLists.{same_text-flip, same_text-equal, is_there-cons, number_of-here, number_of-behind, place_of-number, AreDistinct-number}

module _ {Z : Type 0} (t : List ℕ) where
  -- a look-up by text
  pub list_any-texts : (strings : List (String Z)) → list_any (λ k. bytes_eq t (string_bytes k)) strings ≡ is_there (texts_of strings) t
  list_any-texts [] = refl
  list_any-texts (k ∷ ks) =
      (λ i. same_text-flip t (string_bytes k) i || list_any-texts ks i) ∙ sym (is_there-cons (string_bytes k) t (texts_of ks))

  pub number_of-texts : (strings : List (String Z)) → number_of (texts_of strings) t ≡ position_or_len (λ k. bytes_eq t (string_bytes k)) strings
  number_of-texts strings =
      is_position_or_len (λ (ks : List (String Z)). number_of (texts_of ks) t) (λ (k : String Z). bytes_eq t (string_bytes k)) refl
      (λ k ks. λ i. cond (same_text-flip (string_bytes k) t i) 0 (add_comm (number_of (texts_of ks) t) 1 i)) strings

  pub place_of-texts : (strings : List (String Z)) → position (λ k. bytes_eq t (string_bytes k)) strings ≡ place_of (texts_of strings) t
  place_of-texts strings =
      let number = number_of-texts strings in
      let long = length-map strings (string_bytes {Z = Z}) in
      (λ i. cond (ltb (sym number i) (sym long i)) (Some (sym number i)) None) ∙ sym (place_of-number (texts_of strings) t)

-- an insert into the table
pub insert_key-texts : {Z : Type 0} (strings : List (String Z)) (k : String Z) → texts_of (insert_key string_eq strings k) ≡ with_name (texts_of strings) (string_bytes k)
insert_key-texts strings k = by (is_there (texts_of strings) (string_bytes k)) refl
  where
    by : (b : Bool) → is_there (texts_of strings) (string_bytes k) ≡ b → texts_of (insert_key string_eq strings k) ≡ with_name (texts_of strings) (string_bytes k)
    by true e =
        ap (λ (b : Bool). texts_of (if b then strings else strings ++ k ∷ [])) (list_any-texts (string_bytes k) strings ∙ e)
        ∙ sym (ap (λ (b : Bool). if b then texts_of strings else texts_of strings ++ string_bytes k ∷ []) e)
    by false e =
        ap (λ (b : Bool). texts_of (if b then strings else strings ++ k ∷ [])) (list_any-texts (string_bytes k) strings ∙ e)
        ∙ map-append string_bytes strings (k ∷ [])
        ∙ sym (ap (λ (b : Bool). if b then texts_of strings else texts_of strings ++ string_bytes k ∷ []) e)

-- clones of the strings
pub texts_of-clones : {Z : Type 0} (xs ys : List (String Z)) → AllZip (λ x y. string_bytes y ≡ string_bytes x) xs ys → texts_of ys ≡ texts_of xs
texts_of-clones [] [] h = refl
texts_of-clones [] (y ∷ ys) h = absurd h
texts_of-clones (x ∷ xs) [] h = absurd h
texts_of-clones (x ∷ xs) (y ∷ ys) h = λ i. h.0 i ∷ texts_of-clones xs ys h.1 i

-- keys that differ have texts that differ
module _ {Z : Type 0} where
  apart : (k : String Z) (ks : List (String Z)) → AllByRecursion (λ y. string_eq k y ≡ false) ks → (n : ℕ) (t : List ℕ) → slice_get (texts_of ks) n ≡ Some t → same_text (string_bytes k) t ≡ false
  apart k [] h n t at = absurd (none-some t at)
  apart k (y ∷ ys) h zero t at = subst (λ (u : List ℕ). same_text (string_bytes k) u ≡ false) (same_Some (string_bytes y) t at) h.0
  apart k (y ∷ ys) h (suc n) t at = apart k ys h.1 n t at

  numbered : (ks : List (String Z)) → IsDistinct string_eq ks → (n : ℕ) (t : List ℕ) → slice_get (texts_of ks) n ≡ Some t → number_of (texts_of ks) t ≡ n
  numbered [] d n t at = absurd (none-some t at)
  numbered (k ∷ ks) d zero t at =
      number_of-here (string_bytes k) t (texts_of ks) (same_text-equal (string_bytes k) t (same_Some (string_bytes k) t at))
  numbered (k ∷ ks) d (suc n) t at =
      number_of-behind (string_bytes k) t (texts_of ks) (apart k ks (IsDistinct-head string_eq k ks d) n t at)
      ∙ ap (λ (m : ℕ). m + 1) (numbered ks (IsDistinct-tail string_eq k ks d) n t at) ∙ add-one n

  pub AreDistinct-texts : (ks : List (String Z)) → IsDistinct string_eq ks → AreDistinct (texts_of ks)
  AreDistinct-texts ks d = AreDistinct-number (texts_of ks) (numbered ks d)
