-- The moves of one more digit.
use Rattle.std.proofs.Common.{◌≡◌, ℕ, ◌+◌, ◌*◌, ◌<◌, List, [], ◌∷◌, ◌++◌, Option, Some, None, refl, sym, ap, ◌∙◌, arith}
use Rattle.std.specs.Prelude.{◌↔◌, unwrap_or}
use Rattle.abstraction.specs.declared.digit.Digit.{Digit}
use Rattle.checker_tables.specs.declared.moves.FreeDigit.{FreeDigit}
use Rattle.checker_tables.specs.declared.moves.Moves.{Moves}
use Rattle.checker_tables.specs.Moves.{Reaches, Leads, IsExtended}
use Rattle.checker_tables.proofs.ReachLaws.{moved, shifted, shifts, by_last, with_last}

module _ (m : Moves) (d : Digit) where
  -- a digit with a condition
  pub fixed : (effect : Option ℕ) (c after : ℕ) → c < d.range → unwrap_or effect c ≡ after → (a b : ℕ)
      → Reaches m.free.items (m.source + c * d.weight) (m.target + after * d.weight) a b ↔ IsExtended m d (Some c) effect a b
  fixed effect c after l e a b = (to, from)
    where
      to : Reaches m.free.items (m.source + c * d.weight) (m.target + after * d.weight) a b → IsExtended m d (Some c) effect a b
      to h =
          let s = shifted m.free.items m.source m.target (c * d.weight) (after * d.weight) a b h in
          record { before = c; after = after; source = s.0; target = s.1; in_range = l; changes = (refl, e); leads = s.2; from = s.3; to = s.4 }

      from : IsExtended m d (Some c) effect a b → Reaches m.free.items (m.source + c * d.weight) (m.target + after * d.weight) a b
      from h =
          let same : h.after ≡ after = sym h.changes.1 ∙ ap (λ (x : ℕ). unwrap_or effect x) h.changes.0 ∙ e in
          moved m.free.items (m.source + c * d.weight) (m.target + after * d.weight) (m.source + c * d.weight) (m.target + after * d.weight)
          (h.source + c * d.weight) (h.target + after * d.weight) a b refl refl
          (ap (λ (x : ℕ). h.source + x * d.weight) (sym h.changes.0) ∙ sym h.from) (ap (λ (x : ℕ). h.target + x * d.weight) (sym same) ∙ sym h.to)
          (shifts m.free.items m.source m.target (c * d.weight) (after * d.weight) h.source h.target h.leads)

  -- a digit with an effect alone
  pub assigned : (e : ℕ) (a b : ℕ)
      → Reaches (m.free.items ++ record { range = d.range; source = d.weight; target = 0 } ∷ []) m.source (m.target + e * d.weight) a b ↔ IsExtended m d None (Some e) a b
  assigned e a b = (to, from)
    where
      to : Reaches (m.free.items ++ record { range = d.range; source = d.weight; target = 0 } ∷ []) m.source (m.target + e * d.weight) a b → IsExtended m d None (Some e) a b
      to h =
          let last = by_last (record { range = d.range; source = d.weight; target = 0 }) m.free.items m.source (m.target + e * d.weight) a b h in
          let s = shifted m.free.items m.source m.target 0 (e * d.weight) last.1 last.2
          (moved m.free.items m.source (m.target + e * d.weight) (m.source + 0) (m.target + e * d.weight) last.1 last.2 last.1 last.2 (omega arith) refl refl refl last.4) in
          record {
            before = last.0;
            after = e;
            source = s.0;
            target = s.1;
            in_range = last.3;
            changes = (tt, refl);
            leads = s.2;
            from = omega (arith, last.5, s.3);
            to = omega (arith, last.6, s.4);
          }

      from : IsExtended m d None (Some e) a b → Reaches (m.free.items ++ record { range = d.range; source = d.weight; target = 0 } ∷ []) m.source (m.target + e * d.weight) a b
      from h =
          let same : e ≡ h.after = h.changes.1 in
          let start = moved m.free.items (m.source + 0) (m.target + e * d.weight) m.source (m.target + e * d.weight) (h.source + 0) (h.target + e * d.weight) h.source b (omega arith) refl (omega arith)
          (ap (λ (x : ℕ). h.target + x * d.weight) same ∙ sym h.to)
          (shifts m.free.items m.source m.target 0 (e * d.weight) h.source h.target h.leads) in
          moved (m.free.items ++ record { range = d.range; source = d.weight; target = 0 } ∷ []) m.source (m.target + e * d.weight) m.source (m.target + e * d.weight)
          (h.source + h.before * d.weight) (b + h.before * 0) a b refl refl (sym h.from) (omega arith)
          (with_last (record { range = d.range; source = d.weight; target = 0 }) m.free.items m.source (m.target + e * d.weight) h.before h.source b h.in_range start)

  -- a digit with neither
  pub kept : (a b : ℕ)
      → Reaches (m.free.items ++ record { range = d.range; source = d.weight; target = d.weight } ∷ []) m.source m.target a b ↔ IsExtended m d None None a b
  kept a b = (to, from)
    where
      to : Reaches (m.free.items ++ record { range = d.range; source = d.weight; target = d.weight } ∷ []) m.source m.target a b → IsExtended m d None None a b
      to h =
          let last = by_last (record { range = d.range; source = d.weight; target = d.weight }) m.free.items m.source m.target a b h in
          record {
            before = last.0;
            after = last.0;
            source = last.1;
            target = last.2;
            in_range = last.3;
            changes = (tt, refl);
            leads = moved m.free.items m.source m.target m.source m.target last.1 last.2 last.1 last.2 refl (omega arith) refl refl last.4;
            from = last.5;
            to = last.6;
          }

      from : IsExtended m d None None a b → Reaches (m.free.items ++ record { range = d.range; source = d.weight; target = d.weight } ∷ []) m.source m.target a b
      from h =
          moved (m.free.items ++ record { range = d.range; source = d.weight; target = d.weight } ∷ []) m.source m.target m.source m.target
          (h.source + h.before * d.weight) (h.target + h.before * d.weight) a b refl (omega arith) (sym h.from)
          (ap (λ (x : ℕ). h.target + x * d.weight) h.changes.1 ∙ sym h.to)
          (with_last (record { range = d.range; source = d.weight; target = d.weight }) m.free.items m.source m.target h.before h.source h.target h.in_range h.leads)

-- what a digit more at the end reaches, told of the moves that have it
pub by_pushed : (new : Moves) (ds : List FreeDigit) (s t : ℕ) → new.source ≡ s → new.target ≡ t
    → ((u v a b : ℕ) → Reaches new.free.items u v a b ↔ Reaches ds u v a b) → (a b : ℕ) (P : Type 0) → Reaches ds s t a b ↔ P → Leads new a b ↔ P
by_pushed new ds s t p q same a b P told = (
  λ h. told.0 ((same s t a b).0 (moved new.free.items new.source new.target s t a b a b p q refl refl h)),
  λ h. moved new.free.items s t new.source new.target a b a b (sym p) (sym q) refl refl ((same s t a b).1 (told.1 h)),
)
