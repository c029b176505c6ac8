-- Two lists, place by place, that grow at their ends.
use Rattle.std.proofs.Common.{◌≡◌, ℕ, ◌==◌, true, List, [], ◌∷◌, ◌++◌, length, Some, sym, subst, ap, ◌∙◌, arith}
use Rattle.std.specs.Prelude.{All}
use Rattle.std.specs.List.{AllZip}
use Rattle.std.proofs.lemmas.List.Elements.{All-pop, All-nil}

pub empty_is : (n m : ℕ) → (n == 0) ≡ true → n ≡ m → m ≡ 0
empty_is n m e f = grind arith

module _ {A : Type 0} where
  append_none : (xs : List A) → xs ++ [] ≡ xs
  append_none [] = λ i. []
  append_none (x ∷ xs) = ap (λ ys. x ∷ ys) (append_none xs)

  -- where nothing is left, what was taken is all
  pub all_taken : (xs ys zs : List A) → length ys ≡ 0 → xs ++ ys ≡ zs → xs ≡ zs
  all_taken xs [] zs none e = sym (append_none xs) ∙ e
  all_taken xs (y ∷ ys) zs none e = absurd (omega (arith, none))

  pub all_of_none : (P : A → Type 0) (ys : List A) → length ys ≡ 0 → All P ys
  all_of_none P [] none = All-nil P
  all_of_none P (y ∷ ys) none = absurd (omega (arith, none))

  pub all_but_last : (P : A → Type 0) (xs ys : List A) (x : A) → xs ≡ ys ++ x ∷ [] → All P xs → All P ys × P x
  all_but_last P xs ys x e all = All-pop P xs ys (Some x) e all

  module _ {B : Type 0} (R : A → B → Type 0) where
    zip_push : (ys : List A) (rs : List B) (x : A) (r : B) → AllZip R ys rs → R x r → AllZip R (ys ++ x ∷ []) (rs ++ r ∷ [])
    zip_push [] [] x r zipped last = (last, tt)
    zip_push [] (s ∷ rs) x r zipped last = absurd zipped
    zip_push (y ∷ ys) [] x r zipped last = absurd zipped
    zip_push (y ∷ ys) (s ∷ rs) x r zipped last = (zipped.0, zip_push ys rs x r zipped.1 last)

    pub one_more : (xs ys : List A) (x : A) (rs ss : List B) (r : B) → xs ≡ ys ++ x ∷ [] → ss ≡ rs ++ r ∷ [] → AllZip R ys rs → R x r → AllZip R xs ss
    one_more xs ys x rs ss r e f zipped last =
        subst (λ zs. AllZip R zs ss) (sym e) (subst (AllZip R (ys ++ x ∷ [])) (sym f) (zip_push ys rs x r zipped last))

    pub none_left : (ys : List A) (rs : List B) → length ys ≡ 0 → rs ≡ [] → AllZip R ys rs
    none_left [] rs none e = subst (AllZip R []) (sym e) tt
    none_left (y ∷ ys) rs none e = absurd (omega (arith, none))

    pub as_long : (ys : List A) (rs : List B) → AllZip R ys rs → length rs ≡ length ys
    as_long [] [] zipped = omega arith
    as_long [] (s ∷ rs) zipped = absurd zipped
    as_long (y ∷ ys) [] zipped = absurd zipped
    as_long (y ∷ ys) (s ∷ rs) zipped = let e = as_long ys rs zipped.1 in omega (arith, e)
