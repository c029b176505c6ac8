-- States of one width.
use Rattle.std.proofs.Common.{◌≡◌, ℕ, List, [], ◌∷◌, ◌++◌, length, Some, Ok, refl, sym, ap, ◌∙◌}
use Rattle.std.specs.List.{AllByRecursion}
use Rattle.cert_value.specs.Certificates.{Entry, width_of}
use Rattle.cert_text.specs.Reading.{entry_of}
use Rattle.cert_text.proofs.Steps.{some_is, entry_width}

-- each as wide as the first of these
abbrev pub AreAsWide : List Entry → List Entry → Type 0
AreAsWide all entries = AllByRecursion (λ (e : Entry). Some (length e.state) ≡ width_of all) entries

fits_all : (all es : List Entry) (w n : ℕ) → width_of all ≡ Some w → n ≡ w → AreAsWide all es → AllByRecursion (λ (e : Entry). length e.state ≡ n) es
fits_all all [] w n is same wide = tt
fits_all all (e ∷ es) w n is same wide = (some_is (length e.state) w (wide.0 ∙ is) ∙ sym same, fits_all all es w n is same wide.1)

-- a state that is read behind others is as wide as they are
pub next_fits : (es : List Entry) (new : Entry) (line : ℕ) (ws : List (List ℕ)) → AreAsWide es es → entry_of (width_of es) line ws ≡ Ok new → AllByRecursion (λ (e : Entry). length e.state ≡ length new.state) es
next_fits [] new line ws wide read = tt
next_fits (e ∷ es) new line ws wide read = fits_all (e ∷ es) (e ∷ es) (length e.state) (length new.state) refl (entry_width (length e.state) line ws new read) wide

width_behind : (es : List Entry) (new : Entry) → AllByRecursion (λ (e : Entry). length e.state ≡ length new.state) es → width_of (es ++ new ∷ []) ≡ Some (length new.state)
width_behind [] new all = refl
width_behind (e ∷ es) new all = ap Some all.0

more_fits : (all es : List Entry) (new : Entry) → width_of all ≡ Some (length new.state) → AllByRecursion (λ (e : Entry). length e.state ≡ length new.state) es → AreAsWide all (es ++ new ∷ [])
more_fits all [] new is fit = (sym is, tt)
more_fits all (e ∷ es) new is fit = (ap Some fit.0 ∙ sym is, more_fits all es new is fit.1)

pub wide_push : (es : List Entry) (new : Entry) → AllByRecursion (λ (e : Entry). length e.state ≡ length new.state) es → AreAsWide (es ++ new ∷ []) (es ++ new ∷ [])
wide_push es new fit = more_fits (es ++ new ∷ []) es new (width_behind es new fit) fit
