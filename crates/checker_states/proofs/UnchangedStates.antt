-- Under an operator that cannot change a state a closed state is its own successor, which is in the list.
use Rattle.std.proofs.Common.{◌≡◌, ℕ, zero, suc, ◌+◌, Bool, true, false, ◌&&◌, ◌||◌, not, List, [], ◌∷◌, Option, Some, None, refl, sym, ap, subst, ◌∙◌, arith, cond}
use Rattle.std.specs.Prelude.{nat_eq, nat_le, slice_get, slice_index, slice_index_or, slice_set, option_map, option_and_then}
use Rattle.std.specs.List.{list_all, list_any}
use Rattle.std.specs.Option.{option_map_or}
use Rattle.std.specs.Cmp.Lexicographic.{pointwise}
use Rattle.std.proofs.lemmas.Bool.{eqb-true, eq-eqb, le-leb, and_parts, and_from, not-false}
use Rattle.std.proofs.lemmas.Option.{slice_get-map, get_or_from_slice_get}
use Rattle.fdr.specs.declared.fact.Fact.{Fact}
use Rattle.fdr.specs.Tasks.{FiniteDomainTask, Operator, holds, applies, successor, with_values, cost_of}
use Rattle.cert_value.specs.Certificates.{Entry, CertificateValue}
use Rattle.checker_clauses.specs.Clauses.{reaches_bound, is_covered, covers_successor}
use Rattle.checker_tables.specs.Changes.{leaves_states, changes_of}
use Rattle.checker_tables.proofs.UntriedOperators.{effects_hold}
use Rattle.checker_states.specs.Places.{passes_successor}
use Rattle.checker_states.proofs.Saturation.{or_true}

set_same : (s : List ℕ) (v x : ℕ) → slice_index s v ≡ x → slice_set s v x ≡ s
set_same [] v x e = refl
set_same (y ∷ ys) zero x e = ap (λ (z : ℕ). z ∷ ys) (sym e)
set_same (y ∷ ys) (suc v) x e = ap (λ (zs : List ℕ). y ∷ zs) (set_same ys v x e)

-- facts that hold change nothing
pub values_stay : (fs : List Fact) (s : List ℕ) → list_all (holds s) fs ≡ true → with_values fs s ≡ s
values_stay [] s h = refl
values_stay (f ∷ fs) s h =
    let parts = and_parts (holds s f) (list_all (holds s) fs) h in
    ap (with_values fs) (set_same s f.variable f.value (eqb-true (slice_index s f.variable) f.value parts.0)) ∙ values_stay fs s parts.1

-- a state is the same as itself
pub itself : (xs : List ℕ) → pointwise nat_eq xs xs ≡ true
itself [] = refl
itself (x ∷ xs) = and_from (nat_eq x x) (pointwise nat_eq xs xs) (eq-eqb x x refl) (itself xs)

any_at : (test : Entry → Bool) (es : List Entry) (i : ℕ) (e : Entry) → slice_get es i ≡ Some e → test e ≡ true → list_any test es ≡ true
any_at test [] i e is t = absurd (cc)
any_at test (x ∷ xs) zero e is t = let same : x ≡ e = cc in ap (λ (b : Bool). b || list_any test xs) (subst (λ (y : Entry). test y ≡ true) (sym same) t)
any_at test (x ∷ xs) (suc i) e is t = ap (λ (b : Bool). test x || b) (any_at test xs i e is t) ∙ or_true (test x)

module _ (task : FiniteDomainTask) (c : CertificateValue) (i o : ℕ) where
  -- a closed state is covered at each cost that is not less than its own
  covered_itself : (e : Entry) → slice_get c.closed i ≡ Some e → (more : ℕ) → is_covered task c e.state (e.cost + more) ≡ true
  covered_itself e is more =
      ap (λ (b : Bool). b || reaches_bound task c e.state (e.cost + more))
      (any_at (λ x. pointwise nat_eq x.state e.state && nat_le x.cost (e.cost + more)) c.closed i e is
      (and_from (pointwise nat_eq e.state e.state) (nat_le e.cost (e.cost + more)) (itself e.state) (le-leb e.cost (e.cost + more) (omega arith))))

  no_change : (op : Operator) → slice_get task.operators o ≡ Some op → slice_index_or (changes_of task) o false ≡ false → leaves_states op ≡ true
  no_change op is flag =
      not-false (leaves_states op)
      (sym (get_or_from_slice_get (changes_of task) o (not (leaves_states op)) false
      (slice_get-map (λ (x : Operator). not (leaves_states x)) task.operators o ∙ ap (option_map (λ (x : Operator). not (leaves_states x))) is)) ∙ flag)

  pub unchanged_passes : slice_index_or (changes_of task) o false ≡ false → passes_successor task c i o ≡ true
  unchanged_passes flag = go (slice_get c.closed i) refl
    where
      stays : (e : Entry) → slice_get c.closed i ≡ Some e → (op : Operator) → leaves_states op ≡ true → (b : Bool) → applies op e.state ≡ b
          → option_map_or (λ s. is_covered task c s (e.cost + cost_of task o)) (cond b (Some (successor op e.state)) None) true ≡ true
      stays e is op leaves false h = refl
      stays e is op leaves true h =
          ap (λ (s : List ℕ). is_covered task c s (e.cost + cost_of task o))
          (values_stay op.effect e.state (effects_hold (holds e.state) op leaves h))
          ∙ covered_itself e is (cost_of task o)

      after : (e : Entry) → slice_get c.closed i ≡ Some e → (r : Option Operator) → slice_get task.operators o ≡ r
          → option_map_or (λ s. is_covered task c s (e.cost + cost_of task o)) (option_and_then (λ op. cond (applies op e.state) (Some (successor op e.state)) None) r) true ≡ true
      after e is None none = refl
      after e is (Some op) some = stays e is op (no_change op some flag) (applies op e.state) refl

      go : (r : Option Entry) → slice_get c.closed i ≡ r → option_map_or (λ e. covers_successor task c e o) r true ≡ true
      go None none = refl
      go (Some e) is = after e is (slice_get task.operators o) refl
