-- Stored entries compare as the tie-breaking rule says of their nodes.
use Rattle.std.proofs.Common.{◌≡◌, ℕ, ◌+◌, ◌-◌, ◌<◌, ◌≤◌, ◌^◌, Bool, true, false, ◌&&◌, ◌||◌, ◌==◌, refl, sym, ap, ◌∙◌, ⊎_elim, arith}
use Rattle.std.specs.Prelude.{nat_lt, nat_le}
use Rattle.std.proofs.lemmas.Bool.{cases_lt, cases_eq, lt-ltb, le-ltb, le-leb, lt-leb, eq-eqb, ne_eqb}
use Rattle.owner_theory.specs.Owners.{Node, rank_less}
use Rattle.openlist.specs.declared.entry.OpenEntry.{OpenEntry}
use Rattle.openlist.specs.OpenLists.{comes_first}
use Rattle.owner_space.specs.declared.ties.Ties.{Ties}
use Rattle.owner_space.specs.declared.ties.Ties.TheVariants.{Shallow, Deep, Fresh}
use Rattle.owner_space.specs.Keyed.{max_total, IsSmall, counted_down, keyed}
use Rattle.owner_reached.specs.TieOrders.{ties_first}

-- ---- numbers

-- two numbers that are counted down change places
lt_down : (top a b : ℕ) → a ≤ top → b ≤ top → nat_lt (top - b) (top - a) ≡ nat_lt a b
lt_down top a b p q =
    ⊎_elim (λ (h : a < b). lt-ltb (top - b) (top - a) (omega arith) ∙ sym (lt-ltb a b h))
    (λ (h : b ≤ a). le-ltb (top - b) (top - a) (omega arith) ∙ sym (le-ltb a b h))
    (cases_lt a b)

le_down : (top a b : ℕ) → a ≤ top → b ≤ top → nat_le (top - b) (top - a) ≡ nat_le a b
le_down top a b p q =
    ⊎_elim (λ (h : b < a). lt-leb (top - b) (top - a) (omega arith) ∙ sym (lt-leb a b h))
    (λ (h : a ≤ b). le-leb (top - b) (top - a) (omega arith) ∙ sym (le-leb a b h))
    (cases_lt b a)

same_down : (top a b : ℕ) → a ≤ top → b ≤ top → (top - a == top - b) ≡ (a == b)
same_down top a b p q =
    ⊎_elim (λ (h : a ≡ b). eq-eqb (top - a) (top - b) (ap (λ (k : ℕ). top - k) h) ∙ sym (eq-eqb a b h))
    (λ (h : a ≡ b → ⊥). ne_eqb (top - a) (top - b) (λ e. h (omega arith)) ∙ sym (ne_eqb a b h))
    (cases_eq a b)

same_down_back : (top a b : ℕ) → a ≤ top → b ≤ top → (top - b == top - a) ≡ (a == b)
same_down_back top a b p q =
    ⊎_elim (λ (h : a ≡ b). eq-eqb (top - b) (top - a) (ap (λ (k : ℕ). top - k) (sym h)) ∙ sym (eq-eqb a b h))
    (λ (h : a ≡ b → ⊥). ne_eqb (top - b) (top - a) (λ e. h (omega arith)) ∙ sym (ne_eqb a b h))
    (cases_eq a b)

-- two numbers to which one is added compare as before
lt_up : (k a b : ℕ) → nat_lt (k + a) (k + b) ≡ nat_lt a b
lt_up k a b =
    ⊎_elim (λ (h : a < b). lt-ltb (k + a) (k + b) (omega arith) ∙ sym (lt-ltb a b h))
    (λ (h : b ≤ a). le-ltb (k + a) (k + b) (omega arith) ∙ sym (le-ltb a b h))
    (cases_lt a b)

same_up : (k a b : ℕ) → (k + a == k + b) ≡ (a == b)
same_up k a b =
    ⊎_elim (λ (h : a ≡ b). eq-eqb (k + a) (k + b) (ap (λ (x : ℕ). k + x) h) ∙ sym (eq-eqb a b h))
    (λ (h : a ≡ b → ⊥). ne_eqb (k + a) (k + b) (λ e. h (omega arith)) ∙ sym (ne_eqb a b h))
    (cases_eq a b)

-- ---- entries of the same f-value

-- lesser ranks first, then lower indices
abbrev low_first : ℕ → ℕ → ℕ → ℕ → ℕ → ℕ → Bool
low_first c s i d t j = rank_less c s d t || ((c == d) && ((s == t) && nat_le i j))

-- greater ranks first, then higher indices
abbrev high_first : ℕ → ℕ → ℕ → ℕ → ℕ → ℕ → Bool
high_first c s i d t j = rank_less d t c s || ((c == d) && ((s == t) && nat_le j i))

and_three : (a b c : Bool) → ((a && b) && c) ≡ (a && (b && c))
and_three true b c = refl
and_three false b c = refl

list_order : (x y : OpenEntry)
    → comes_first x y ≡ (nat_lt x.f y.f || ((x.f == y.f) && low_first x.rank.cost x.rank.steps x.index y.rank.cost y.rank.steps y.index))
list_order x y =
    ap (λ (b : Bool). nat_lt x.f y.f || ((x.f == y.f) && (rank_less x.rank.cost x.rank.steps y.rank.cost y.rank.steps || b)))
    (and_three (x.rank.cost == y.rank.cost) (x.rank.steps == y.rank.steps) (nat_le x.index y.index))

-- what is counted down comes in the other order
down_order : (top : ℕ) (x y : OpenEntry) → x.rank.cost ≤ top → x.rank.steps ≤ top → x.index < 2 ^ 64
    → y.rank.cost ≤ top → y.rank.steps ≤ top → y.index < 2 ^ 64
    → low_first (top - x.rank.cost) (top - x.rank.steps) (2 ^ 64 - 1 - x.index) (top - y.rank.cost) (top - y.rank.steps) (2 ^ 64 - 1 - y.index)
    ≡ high_first x.rank.cost x.rank.steps x.index y.rank.cost y.rank.steps y.index
down_order top x y xc xs xi yc ys yi =
    let index = le_down (2 ^ 64 - 1) y.index x.index (omega arith) (omega arith) in
    λ k.
    (lt_down top y.rank.cost x.rank.cost yc xc k
    || (same_down_back top y.rank.cost x.rank.cost yc xc k && lt_down top y.rank.steps x.rank.steps ys xs k))
    || (same_down top x.rank.cost y.rank.cost xc yc k && (same_down top x.rank.steps y.rank.steps xs ys k && index k))

-- costs that are raised by the same number compare as before
up_order : (k c s i d t j : ℕ) → low_first (k + c) s i (k + d) t j ≡ low_first c s i d t j
up_order k c s i d t j =
    λ z. (lt_up k c d z || (same_up k c d z && nat_lt s t)) || (same_up k c d z && ((s == t) && nat_le i j))

lower_first : (c s i d t j : ℕ) → c < d → low_first c s i d t j ≡ true
lower_first c s i d t j lt = λ z. (lt-ltb c d lt z || ((c == d) && nat_lt s t)) || ((c == d) && ((s == t) && nat_le i j))

higher_last : (c s i d t j : ℕ) → d < c → low_first c s i d t j ≡ false
higher_last c s i d t j lt =
    let less = le-ltb c d (omega arith) in
    let same = ne_eqb c d (λ e. omega arith) in
    λ z. (less z || (same z && nat_lt s t)) || (same z && ((s == t) && nat_le i j))

-- ---- stored entries

-- of two entries that are counted down
down_stored : (top : ℕ) (x y : OpenEntry) (m n : Node) → IsSmall x → IsSmall y → max_total ≤ top
    → m.cost ≡ x.rank.cost → m.steps ≡ x.rank.steps → n.cost ≡ y.rank.cost → n.steps ≡ y.rank.steps
    → comes_first (counted_down top x) (counted_down top y)
    ≡ (nat_lt x.f y.f || ((x.f == y.f) && high_first m.cost m.steps x.index n.cost n.steps y.index))
down_stored top x y m n v w more mc ms nc ns =
    let vc = v.cost in let vs = v.steps in let wc = w.cost in let ws = w.steps in
    let order = down_order top x y (omega arith) (omega arith) v.index (omega arith) (omega arith) w.index in
    list_order (counted_down top x) (counted_down top y)
    ∙ ((λ k. nat_lt x.f y.f || ((x.f == y.f) && order k))
    ∙ (λ k. nat_lt x.f y.f || ((x.f == y.f) && high_first (sym mc k) (sym ms k) x.index (sym nc k) (sym ns k) y.index)))

-- a stored entry comes first exactly if its node does
pub keyed_order : (ties : Ties) (a b : Bool) (x y : OpenEntry) (m n : Node) → IsSmall x → IsSmall y
    → m.cost ≡ x.rank.cost → m.steps ≡ x.rank.steps → n.cost ≡ y.rank.cost → n.steps ≡ y.rank.steps
    → comes_first (keyed ties a x) (keyed ties b y)
    ≡ (nat_lt x.f y.f || ((x.f == y.f) && ties_first ties a x.index m b y.index n))
keyed_order Shallow a b x y m n v w mc ms nc ns =
    list_order x y
    ∙ (λ k. nat_lt x.f y.f || ((x.f == y.f) && low_first (sym mc k) (sym ms k) x.index (sym nc k) (sym ns k) y.index))
keyed_order Deep a b x y m n v w mc ms nc ns = down_stored (2 ^ 64 - 1) x y m n v w (omega arith) mc ms nc ns
keyed_order Fresh false false x y m n v w mc ms nc ns = down_stored max_total x y m n v w (omega arith) mc ms nc ns
keyed_order Fresh false true x y m n v w mc ms nc ns =
    let first = lower_first (max_total - x.rank.cost) (max_total - x.rank.steps) (2 ^ 64 - 1 - x.index)
    (max_total + 1 + y.rank.cost) y.rank.steps y.index (omega arith) in
    list_order (keyed Fresh false x) (keyed Fresh true y) ∙ (λ k. nat_lt x.f y.f || ((x.f == y.f) && first k))
keyed_order Fresh true false x y m n v w mc ms nc ns =
    let last = higher_last (max_total + 1 + x.rank.cost) x.rank.steps x.index
    (max_total - y.rank.cost) (max_total - y.rank.steps) (2 ^ 64 - 1 - y.index) (omega arith) in
    list_order (keyed Fresh true x) (keyed Fresh false y) ∙ (λ k. nat_lt x.f y.f || ((x.f == y.f) && last k))
keyed_order Fresh true true x y m n v w mc ms nc ns =
    let up = up_order (max_total + 1) x.rank.cost x.rank.steps x.index y.rank.cost y.rank.steps y.index in
    list_order (keyed Fresh true x) (keyed Fresh true y)
    ∙ ((λ k. nat_lt x.f y.f || ((x.f == y.f) && up k))
    ∙ (λ k. nat_lt x.f y.f || ((x.f == y.f) && low_first (sym mc k) (sym ms k) x.index (sym nc k) (sym ns k) y.index)))
