-- One of what there is for each of finitely many.
use Rattle.std.proofs.Common.{◌≡◌, ℕ, zero, suc, ◌≤◌, List, [], ◌∷◌, length, refl, subst, arith}
use Rattle.std.proofs.Math.Logic.{∥∥₁_elim}
use Rattle.owner_theory.specs.Owners.{At}

-- a choice for each element, and what is given past the last one
pub record IsChoice {W L : Type 0} (P : W → L → Type 0) (ws : List W) (past : ℕ → L) (chosen : ℕ → L) : Type 0 where
  pub each : (v : ℕ) (w : W) → At ws v w → P w (chosen v)
  pub others : (v : ℕ) → length ws ≤ v → chosen v ≡ past v

abbrev with_first : {L : Type 0} → L → (ℕ → L) → ℕ → L
with_first l f zero = l
with_first l f (suc v) = f v

one_more : {W L : Type 0} (P : W → L → Type 0) (w : W) (ws : List W) (past : ℕ → L) (l : L) (f : ℕ → L) → P w l
    → IsChoice P ws (λ v. past (suc v)) f → IsChoice P (w ∷ ws) past (with_first l f)
one_more {W = W} {L = L} P w ws past l f here rest = record { each = each; others = others }
  where
    each : (v : ℕ) (x : W) → At (w ∷ ws) v x → P x (with_first l f v)
    each zero x at = subst (λ y. P y l) at here
    each (suc v) x at = rest.each v x at

    others : (v : ℕ) → length (w ∷ ws) ≤ v → with_first l f v ≡ past v
    others zero le = absurd (omega arith)
    others (suc v) le = rest.others v (omega arith)

pub choice : {W L : Type 0} (P : W → L → Type 0) (ws : List W) (past : ℕ → L) → ((v : ℕ) (w : W) → At ws v w → ∥ ((l : L) × P w l) ∥₁)
    → ∥ ((chosen : ℕ → L) × IsChoice P ws past chosen) ∥₁
choice P [] past each = ∣ (past, record { each = λ v w at. absurd at; others = λ v le. refl }) ∣₁
choice {W = W} {L = L} P (w ∷ ws) past each = ∥∥₁_elim (each 0 w refl) squash₁ (λ (here : (l : L) × P w l).
    ∥∥₁_elim (choice P ws (λ v. past (suc v)) (λ v x at. each (suc v) x at)) squash₁
    (λ (rest : (chosen : ℕ → L) × IsChoice P ws (λ v. past (suc v)) chosen).
    ∣ (with_first here.0 rest.0, one_more P w ws past here.0 rest.0 here.1 rest.1) ∣₁))
