-- Types of objects, and objects that fit parameters.
use Rattle.std.proofs.Common.{◌≡◌, ◌≢◌, ℕ, zero, suc, Bool, true, false, ◌&&◌, List, [], ◌∷◌, length, refl, ap}
use Rattle.std.specs.Prelude.{◌==◌, slice_index}
use Rattle.pddl_task.specs.Planning.{PlanningTask, is_below, is_of_type, fits}

-- a type is below itself
pub below_self : (supertypes : List ℕ) (type other n : ℕ) → (type == other) ≡ true → is_below supertypes type other n ≡ true
below_self supertypes type other zero e = e
below_self supertypes type other (suc n) e = rw e refl

-- a type that is its own supertype is below no other
pub below_own : (supertypes : List ℕ) (type other n : ℕ) → slice_index supertypes type ≡ type → (type == other) ≡ false → is_below supertypes type other n ≡ false
below_own supertypes type other zero own e = e
below_own supertypes type other (suc n) own e = rw (e, own) (below_own supertypes type other n own e)

-- one step up from a type that is not the other
pub below_step : (supertypes : List ℕ) (type other n : ℕ) → (type == other) ≡ false → is_below supertypes type other (suc n) ≡ is_below supertypes (slice_index supertypes type) other n
below_step supertypes type other n e = rw e refl

-- objects of another number than the parameters do not fit
pub fits_unequal : (task : PlanningTask) (types objects : List ℕ) → length types ≢ length objects → fits task types objects ≡ false
fits_unequal task [] [] h = absurd (h refl)
fits_unequal task [] (o ∷ objects) h = refl
fits_unequal task (t ∷ types) [] h = refl
fits_unequal task (t ∷ types) (o ∷ objects) h = go (is_of_type task t o) (fits_unequal task types objects (λ e. h (ap suc e)))
  where
    go : (b : Bool) → fits task types objects ≡ false → (b && fits task types objects) ≡ false
    go true e = e
    go false e = refl
