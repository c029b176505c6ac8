-- The messages underway to one owner.
use Rattle.std.proofs.Common.{◌≡◌, ◌≢◌, ℕ, zero, suc, Bool, true, false, ◌==◌, List, [], ◌∷◌, ◌++◌, Some, refl, sym, ap, ◌∙◌, cond}
use Rattle.std.specs.Prelude.{slice_get}
use Rattle.std.specs.List.{remove}
use Rattle.std.proofs.lemmas.Bool.{cond-true, cond-false, eqb-true, eq-eqb, ne_eqb}
use Rattle.std.proofs.lemmas.List.Elements.{filter-append}
use Rattle.owner_theory.specs.Owners.{SearchSpace, Packet}
use Rattle.owner_theory.specs.Worlds.{nth_to, without_nth_to}
use Rattle.netcore.specs.Worlds.{packets_to}

by_test : (b : Bool) (P : Bool → Type 0) → P true → P false → P b
by_test true P t f = t
by_test false P t f = f

by_case : (b : Bool) (P : Bool → Type 0) → (b ≡ true → P true) → (b ≡ false → P false) → P b
by_case true P t f = t refl
by_case false P t f = f refl

pub nth_is_there : (space : SearchSpace) (v k : ℕ) (ps : List Packet) → nth_to space v k ps ≡ slice_get (packets_to space v ps) k
nth_is_there space v k [] = refl
nth_is_there space v zero (p ∷ ps) =
    by_test (space.owner_of p.message.state == v) (λ b. cond b (Some p) (nth_to space v zero ps) ≡ slice_get
    (cond b (p ∷ packets_to space v ps) (packets_to space v ps)) zero) refl (nth_is_there space v zero ps)
nth_is_there space v (suc k) (p ∷ ps) =
    by_test (space.owner_of p.message.state == v) (λ b. cond b (nth_to space v k ps) (nth_to space v (suc k) ps) ≡ slice_get
    (cond b (p ∷ packets_to space v ps) (packets_to space v ps)) (suc k)) (nth_is_there space v k ps) (nth_is_there space v (suc k) ps)

abbrev kept_if : Bool → Packet → List Packet → List Packet
kept_if b p ps = cond b (p ∷ ps) ps

pub without_here : (space : SearchSpace) (v k : ℕ) (ps : List Packet)
    → packets_to space v (without_nth_to space v k ps) ≡ remove (packets_to space v ps) k
without_here space v zero [] = refl
without_here space v (suc k) [] = refl
without_here space v zero (p ∷ ps) =
    by_case (space.owner_of p.message.state == v)
    (λ b. packets_to space v (cond b ps (p ∷ without_nth_to space v zero ps)) ≡ remove (cond b (p ∷ packets_to space v ps) (packets_to space v ps)) zero)
    (λ _. refl)
    (λ not_it. cond-false (space.owner_of p.message.state == v) _ _ not_it ∙ without_here space v zero ps)
without_here space v (suc k) (p ∷ ps) =
    by_case (space.owner_of p.message.state == v)
    (λ b. packets_to space v (cond b (p ∷ without_nth_to space v k ps) (p ∷ without_nth_to space v (suc k) ps)) ≡ remove
    (cond b (p ∷ packets_to space v ps) (packets_to space v ps)) (suc k))
    (λ yes. cond-true (space.owner_of p.message.state == v) _ _ yes ∙ ap (λ qs. p ∷ qs) (without_here space v k ps))
    (λ not_it. cond-false (space.owner_of p.message.state == v) _ _ not_it ∙ without_here space v (suc k) ps)

same_if : (b : Bool) (p : Packet) (ps qs : List Packet) → ps ≡ qs → cond b (p ∷ ps) ps ≡ cond b (p ∷ qs) qs
same_if b p ps qs e = ap (λ zs. cond b (p ∷ zs) zs) e

other_test : (space : SearchSpace) (u v : ℕ) (p : Packet) → u ≢ v → (space.owner_of p.message.state == v) ≡ true
    → (space.owner_of p.message.state == u) ≡ false
other_test space u v p ne is = ne_eqb (space.owner_of p.message.state) u
    (λ e. ne (sym e ∙ eqb-true (space.owner_of p.message.state) v is))

pub without_there : (space : SearchSpace) (u v k : ℕ) (ps : List Packet) → u ≢ v
    → packets_to space u (without_nth_to space v k ps) ≡ packets_to space u ps
without_there space u v zero [] ne = refl
without_there space u v (suc k) [] ne = refl
without_there space u v zero (p ∷ ps) ne =
    by_case (space.owner_of p.message.state == v)
    (λ b. packets_to space u (cond b ps (p ∷ without_nth_to space v zero ps)) ≡ packets_to space u (p ∷ ps))
    (λ yes. sym (cond-false (space.owner_of p.message.state == u) (p ∷ packets_to space u ps) (packets_to space u ps) (other_test space u v p ne yes)))
    (λ not_it. same_if (space.owner_of p.message.state == u) p _ _ (without_there space u v zero ps ne))
without_there space u v (suc k) (p ∷ ps) ne =
    by_case (space.owner_of p.message.state == v)
    (λ b. packets_to space u (cond b (p ∷ without_nth_to space v k ps) (p ∷ without_nth_to space v (suc k) ps)) ≡ packets_to space u (p ∷ ps))
    (λ yes. same_if (space.owner_of p.message.state == u) p _ _ (without_there space u v k ps ne))
    (λ not_it. same_if (space.owner_of p.message.state == u) p _ _ (without_there space u v (suc k) ps ne))

-- a message more
pub sent_here : (space : SearchSpace) (v : ℕ) (ps : List Packet) (p : Packet) → space.owner_of p.message.state ≡ v
    → packets_to space v (ps ++ p ∷ []) ≡ packets_to space v ps ++ p ∷ []
sent_here space v ps p is = filter-append (λ (q : Packet). space.owner_of q.message.state == v) ps (p ∷ [])
    ∙ ap (λ qs. packets_to space v ps ++ qs) (cond-true (space.owner_of p.message.state == v) (p ∷ []) [] (eq-eqb (space.owner_of p.message.state) v is))

pub sent_there : (space : SearchSpace) (u : ℕ) (ps : List Packet) (p : Packet) → (space.owner_of p.message.state ≡ u → ⊥)
    → packets_to space u (ps ++ p ∷ []) ≡ packets_to space u ps
sent_there space u ps p ne = filter-append (λ (q : Packet). space.owner_of q.message.state == u) ps (p ∷ [])
    ∙ (ap (λ qs. packets_to space u ps ++ qs) (cond-false (space.owner_of p.message.state == u) (p ∷ []) [] (ne_eqb (space.owner_of p.message.state) u ne))
    ∙ nothing_more (packets_to space u ps))
  where
    nothing_more : (xs : List Packet) → xs ++ [] ≡ xs
    nothing_more [] = refl
    nothing_more (x ∷ xs) = ap (λ ys. x ∷ ys) (nothing_more xs)

-- there is no message to an owner that there is not
pub none_to : (space : SearchSpace) (v : ℕ) (ps : List Packet) → ((state : List ℕ) → space.owner_of state ≡ v → ⊥) → packets_to space v ps ≡ []
none_to space v [] never = refl
none_to space v (p ∷ ps) never = cond-false (space.owner_of p.message.state == v) (p ∷ packets_to space v ps) (packets_to space v ps)
    (ne_eqb (space.owner_of p.message.state) v (never p.message.state)) ∙ none_to space v ps never
