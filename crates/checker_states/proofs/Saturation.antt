-- A sum that is kept as the greatest number of 64 bits, where it is greater, tells as much as the sum itself: no cost and no
-- finite bound is above that number.
use Rattle.std.proofs.Common.{◌≡◌, ◌⊎◌, ℕ, ◌+◌, ◌-◌, ◌^◌, ◌<◌, ◌≤◌, min, Bool, true, false, ◌&&◌, ◌||◌, leb, List, [], ◌∷◌, length, get_or, Some, refl, sym, ap, ◌∙◌, arith, inl, inr}
use Rattle.std.specs.Prelude.{All, nat_eq, nat_le, option_map, slice_get}
use Rattle.std.proofs.lemmas.Option.{slice_get-get_or}
use Rattle.std.specs.Cmp.Lexicographic.{pointwise}
use Rattle.std.proofs.lemmas.Bool.{le-leb, leb-true, lt-leb, cases_lt}
use Rattle.std.proofs.lemmas.List.Elements.{All-head, All-tail}
use Rattle.cost.specs.Distances.{Distance, Finite, Infinite, is_at_most, ◌+ᵈ◌, IsWithin}
use Rattle.fdr.specs.Tasks.{FiniteDomainTask}
use Rattle.cert_value.specs.Certificates.{Table, Entry, CertificateValue}
use Rattle.checker_clauses.specs.Clauses.{is_listed, is_covered, heuristic_of}

same_test : (b x y : ℕ) → (b ≤ x → b ≤ y) → (b ≤ y → b ≤ x) → leb b x ≡ leb b y
same_test b x y p q = go (cases_lt x b) (cases_lt y b)
  where
    go : (x < b) ⊎ (b ≤ x) → (y < b) ⊎ (b ≤ y) → leb b x ≡ leb b y
    go (inl l) (inl k) = lt-leb b x l ∙ sym (lt-leb b y k)
    go (inl l) (inr k) = absurd (omega (arith, q k))
    go (inr l) (inl k) = absurd (omega (arith, p l))
    go (inr l) (inr k) = le-leb b x l ∙ sym (le-leb b y k)

cost_kept : (cost total : ℕ) → cost < 2 ^ 64 → leb cost (min total (2 ^ 64 - 1)) ≡ leb cost total
cost_kept cost total l = same_test cost (min total (2 ^ 64 - 1)) total (λ p. omega arith) (λ p. omega arith)

pub listed_kept : (closed : List Entry) (state : List ℕ) (total : ℕ) → All (λ e. e.cost < 2 ^ 64) closed → is_listed closed state (min total (2 ^ 64 - 1)) ≡ is_listed closed state total
listed_kept [] state total all = refl
listed_kept (e ∷ es) state total all =
    ap (λ (b : Bool). (pointwise nat_eq e.state state && b) || is_listed es state (min total (2 ^ 64 - 1))) (cost_kept e.cost total (All-head (λ x. x.cost < 2 ^ 64) e es all))
    ∙ ap (λ (b : Bool). (pointwise nat_eq e.state state && nat_le e.cost total) || b) (listed_kept es state total (All-tail (λ x. x.cost < 2 ^ 64) e es all))

pub bound_kept : (bound h : Distance) (total : ℕ) → IsWithin (2 ^ 63) bound → is_at_most bound (Finite (min total (2 ^ 64 - 1)) +ᵈ h) ≡ is_at_most bound (Finite total +ᵈ h)
bound_kept bound Infinite total within = refl
bound_kept Infinite (Finite h) total within = refl
bound_kept (Finite b) (Finite h) total within = same_test b (min total (2 ^ 64 - 1) + h) (total + h) (λ p. omega arith) (λ p. omega arith)

-- a bound that a cost reaches is reached by a greater cost and what is still to be paid
reaches_further : (bound h : Distance) (cost total : ℕ) → cost ≤ total → is_at_most bound (Finite cost) ≡ true → is_at_most bound (Finite total +ᵈ h) ≡ true
reaches_further Infinite Infinite cost total l e = refl
reaches_further (Finite b) Infinite cost total l e = refl
reaches_further Infinite (Finite h) cost total l e = e
reaches_further (Finite b) (Finite h) cost total l e = le-leb b (total + h) (omega (arith, leb-true b cost e, l))

pub or_true : (b : Bool) → (b || true) ≡ true
or_true true = refl
or_true false = refl

module _ (task : FiniteDomainTask) (c : CertificateValue) (state : List ℕ) (cost total : ℕ) (kept : cost ≡ min total (2 ^ 64 - 1))
    (costs : All (λ e. e.cost < 2 ^ 64) c.closed) (indexed : List Entry) (index : indexed ≡ c.closed)
  where
    listed_is : is_listed indexed state cost ≡ is_listed c.closed state total
    listed_is = rw (index, kept) (listed_kept c.closed state total costs)

    -- a state whose cost reaches the bound is covered
    pub covered_paid : is_at_most c.bound (Finite cost) ≡ true → is_covered task c state total ≡ true
    covered_paid e =
        ap (λ (b : Bool). is_listed c.closed state total || b) (reaches_further c.bound (heuristic_of task c.columns state) cost total (omega (arith, kept)) e)
        ∙ or_true (is_listed c.closed state total)

    -- a state that is listed is covered
    pub covered_listed : is_listed indexed state cost ≡ true → is_covered task c state total ≡ true
    covered_listed e = ap (λ (b : Bool). b || is_at_most c.bound (Finite total +ᵈ heuristic_of task c.columns state)) (sym listed_is ∙ e)

    -- and another is if it is far enough from each goal
    pub covered_reached : IsWithin (2 ^ 63) c.bound → (bounded : FiniteDomainTask) (columns : List (List Table)) → bounded ≡ task → columns ≡ c.columns → is_listed indexed state cost ≡ false
        → is_at_most c.bound (Finite cost +ᵈ heuristic_of bounded columns state) ≡ is_covered task c state total
    covered_reached within bounded columns t cs e =
        rw (t, cs, kept) (bound_kept c.bound (heuristic_of task c.columns state) total within)
        ∙ ap (λ (b : Bool). b || is_at_most c.bound (Finite total +ᵈ heuristic_of task c.columns state)) (sym e ∙ listed_is)

-- a cost that was read is that of the element
pub cost_read : (closed : List Entry) (i cost : ℕ) (d : Entry) → i < length closed → option_map (λ (e : Entry). e.cost) (slice_get closed i) ≡ Some cost → cost < 2 ^ 64 → (get_or closed i d).cost < 2 ^ 64
cost_read closed i cost d l e fits =
    let is : Some (get_or closed i d).cost ≡ Some cost = ap (option_map (λ (x : Entry). x.cost)) (sym (slice_get-get_or closed i d l)) ∙ e in
    let same : (get_or closed i d).cost ≡ cost = cc in
    omega arith
