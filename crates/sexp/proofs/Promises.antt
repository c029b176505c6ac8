-- What the public calls promise.
use Rattle.std.proofs.Common.{◌⊎◌, inl, inr, ◌≡◌, ◌≢◌, ℕ, true, false, List, [], refl, sym, ap, subst, ◌∙◌, Result, Ok, Err}
use Rattle.std.specs.Prelude.{IfOk, IfErr}
use Rattle.sexp.specs.declared.fault.SexpFault.{SexpFault}
use Rattle.sexp.specs.declared.fault.SexpFault.TheVariants as fault
use Rattle.sexp.specs.Forms.{Forms, none, word, group, IsOne}
use Rattle.sexp.specs.Grammar.{SpellsAll}
use Rattle.sexp.specs.Faults.{IsFault, IsFirstFault}
use Rattle.sexp.specs.Running.{◌>>=◌, Gives, items, item, some}
use Rattle.sexp.proofs.Reach.{bind_ok, bind_err, first, second}
use Rattle.sexp.proofs.Complete.{Room, room_all, items_complete}
use Rattle.sexp.proofs.Sound.{items_sound}
use Rattle.sexp.proofs.Blame.{items_err_first, items_none_first, items_clean}
use Rattle.sexp.proofs.Ones.{IsSingle, items_one}

-- a result that gives what reading gives is right where reading is
pub found : {X : Type 0} (view : X → Forms) (P : Forms → Type 0) (r : Result X SexpFault) (q : Result Forms SexpFault) → Gives view r q → ((f : Forms) → q ≡ Ok f → P f) → IfOk r (λ x. P (view x))
found view P (Ok x) q h p = p (view x) h
found view P (Err e) q h p = tt

pub blamed : {X : Type 0} (view : X → Forms) (P : SexpFault → Type 0) (r : Result X SexpFault) (q : Result Forms SexpFault) → Gives view r q → ((e : SexpFault) → q ≡ Err e → P e) → IfErr r (λ e. e ≢ fault.OutOfMemory → P e)
blamed view P (Ok x) q h p = tt
blamed view P (Err fault.OutOfMemory) q h p = λ ne. absurd (ne refl)
blamed view P (Err (fault.NotAscii n)) q h p = λ _. p (fault.NotAscii n) h
blamed view P (Err (fault.Unclosed n)) q h p = λ _. p (fault.Unclosed n) h
blamed view P (Err (fault.StrayClose n)) q h p = λ _. p (fault.StrayClose n) h
blamed view P (Err (fault.TooDeep n)) q h p = λ _. p (fault.TooDeep n) h
blamed view P (Err fault.TooLong) q h p = λ _. p fault.TooLong h
blamed view P (Err fault.Empty) q h p = λ _. p fault.Empty h
blamed view P (Err (fault.Trailing n)) q h p = λ _. p (fault.Trailing n) h

pub all_again : (bytes : List ℕ) (f : Forms) → SpellsAll bytes f → items false bytes ≡ Ok f
all_again bytes f h = items_complete false bytes f (room_all none [] f) h

some_is : (f g : Forms) → some f ≡ Ok g → f ≡ g
some_is none g e = absurd cc
some_is (word s t x f) g e = cc
some_is (group s t i f) g e = cc

some_err : (f : Forms) (e : SexpFault) → some f ≡ Err e → (f ≡ none) × (fault.Empty ≡ e)
some_err none e h = (refl, cc)
some_err (word s t x f) e h = absurd cc
some_err (group s t i f) e h = absurd cc

pub item_sound : (bytes : List ℕ) (f : Forms) → item bytes ≡ Ok f → SpellsAll bytes f
unfolding item
item_sound bytes f e =
    let b = bind_ok (items true bytes) some f e in
    items_sound true bytes f (b.1 ∙ ap (λ (x : Forms). Ok x) (some_is b.0 f b.2))

pub item_err : (bytes : List ℕ) (e : SexpFault) → item bytes ≡ Err e → IsFirstFault true bytes e
unfolding item
item_err bytes e h = elim (bind_err (items true bytes) some e h) [
  | first f ↦ items_err_first true bytes e f
  | second x is f ↦
      let p = some_err x e f in
      subst (IsFirstFault true bytes) p.1 (items_none_first true bytes refl (is ∙ ap (λ (y : Forms). Ok y) p.0))
]

items_again : (bytes : List ℕ) (f : Forms) → IsOne f → SpellsAll bytes f → items true bytes ≡ Ok f
items_again bytes none one h = absurd one
items_again bytes (word s t x f) one h = items_complete true bytes (word s t x f) (refl, subst (λ (g : Forms). Room true (word s t x none) [] g) (sym one) tt) h
items_again bytes (group s t i f) one h = items_complete true bytes (group s t i f) (refl, subst (λ (g : Forms). Room true (group s t i none) [] g) (sym one) tt) h

some_one : (f : Forms) → IsOne f → some f ≡ Ok f
some_one none one = absurd one
some_one (word s t x f) one = refl
some_one (group s t i f) one = refl

pub item_again : (bytes : List ℕ) (f : Forms) → IsOne f → SpellsAll bytes f → item bytes ≡ Ok f
unfolding item
item_again bytes f one h = ap (λ (r : Result Forms SexpFault). r >>= some) (items_again bytes f one h) ∙ some_one f one

abbrev okf : Forms → Result Forms SexpFault
okf f = Ok f

pub one_reading_is : (bytes : List ℕ) (f g : Forms) → SpellsAll bytes f → SpellsAll bytes g → f ≡ g
one_reading_is bytes f g h k = let e : okf f ≡ okf g = sym (all_again bytes f h) ∙ all_again bytes g k in cc

-- ---- where any number is wanted

pub no_fault_is : (bytes : List ℕ) (f : Forms) (e : SexpFault) → SpellsAll bytes f → IsFault false bytes e → ⊥
no_fault_is bytes f e h bad = items_clean false bytes f e (λ w. absurd cc) (all_again bytes f h) bad

spelled_or : (bytes : List ℕ) (r : Result Forms SexpFault) → items false bytes ≡ r → ((f : Forms) × SpellsAll bytes f) ⊎ ((e : SexpFault) × IsFirstFault false bytes e)
spelled_or bytes (Ok f) e = inl (f, items_sound false bytes f e)
spelled_or bytes (Err d) e = inr (d, items_err_first false bytes d e)

pub spelled_or_not_is : (bytes : List ℕ) → ((f : Forms) × SpellsAll bytes f) ⊎ ((e : SexpFault) × IsFirstFault false bytes e)
spelled_or_not_is bytes = spelled_or bytes (items false bytes) refl

-- ---- where one is wanted

one_not_none : (f : Forms) → IsOne f → f ≢ none
one_not_none none one = absurd one
one_not_none (word s t x f) one = λ e. absurd cc
one_not_none (group s t i f) one = λ e. absurd cc

pub one_without_fault_is : (bytes : List ℕ) (f : Forms) (e : SexpFault) → IsOne f → SpellsAll bytes f → IsFault true bytes e → ⊥
one_without_fault_is bytes f e one h bad = items_clean true bytes f e (λ w. one_not_none f one) (items_again bytes f one h) bad

single_some : (f g : Forms) → IsSingle f → some f ≡ Ok g → IsOne g
single_some none g single e = absurd cc
single_some (word s t x f) g single e = subst IsOne (some_is (word s t x f) g e) single
single_some (group s t i f) g single e = subst IsOne (some_is (group s t i f) g e) single

item_one : (bytes : List ℕ) (f : Forms) → item bytes ≡ Ok f → IsOne f
unfolding item
item_one bytes f e = let b = bind_ok (items true bytes) some f e in single_some b.0 f (items_one bytes b.0 b.1) b.2

one_spelled_or : (bytes : List ℕ) (r : Result Forms SexpFault) → item bytes ≡ r → ((f : Forms) × IsOne f × SpellsAll bytes f) ⊎ ((e : SexpFault) × IsFirstFault true bytes e)
one_spelled_or bytes (Ok f) e = inl (f, item_one bytes f e, item_sound bytes f e)
one_spelled_or bytes (Err d) e = inr (d, item_err bytes d e)

pub one_spelled_or_not_is : (bytes : List ℕ) → ((f : Forms) × IsOne f × SpellsAll bytes f) ⊎ ((e : SexpFault) × IsFirstFault true bytes e)
one_spelled_or_not_is bytes = one_spelled_or bytes (item bytes) refl
