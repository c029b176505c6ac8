-- Whether outboxes are congested.
use Rattle.std.proofs.Common.{◌≡◌, ◌≢◌, ℕ, zero, suc, ◌+◌, ◌<◌, ◌≤◌, Bool, true, false, ◌||◌, List, [], ◌∷◌, length, take, refl, sym, ap, ◌∙◌, arith, le-leb}
use Rattle.std.specs.Prelude.{nat_le}
use Rattle.std.proofs.lemmas.Bool.{lt-leb, true≢false}
use Rattle.owner_theory.specs.Owners.{Message, list_at}
use Rattle.owner_theory.specs.Worlds.{waiting}
use Rattle.worker.specs.Turns.{link_congestion, congestion, has_congested_link, is_congested}

none_or : (t x y : Bool) → (t || x) ≡ false → (x ≡ false → y ≡ false) → (t || y) ≡ false
none_or true x y none more = none
none_or false x y none more = more none

or_one : (t x : Bool) → x ≡ true → (t || x) ≡ true
or_one true x one = refl
or_one false x one = one

-- one more outbox is short
pub none_longer : (bs : List (List Message)) (k : ℕ) → k < length bs → has_congested_link (take k bs) ≡ false
    → length (list_at bs k) < link_congestion → has_congested_link (take (suc k) bs) ≡ false
none_longer [] k within none few = absurd (omega arith)
none_longer (b ∷ bs) zero within none few = ap (λ t. t || has_congested_link (take 0 bs)) (lt-leb link_congestion (length b) few)
none_longer (b ∷ bs) (suc k) within none few =
    none_or (nat_le link_congestion (length b)) (has_congested_link (take k bs)) (has_congested_link (take (suc k) bs)) none
    (λ so_far. none_longer bs k (omega arith) so_far few)

-- one outbox is long
pub one_long : (bs : List (List Message)) (k : ℕ) → k < length bs → link_congestion ≤ length (list_at bs k) → has_congested_link bs ≡ true
one_long [] k within many = absurd (omega arith)
one_long (b ∷ bs) zero within many = ap (λ t. t || has_congested_link bs) (le-leb link_congestion (length b) many)
one_long (b ∷ bs) (suc k) within many = or_one (nat_le link_congestion (length b)) (has_congested_link bs) (one_long bs k (omega arith) many)

none_long : (bs : List (List Message)) → waiting bs < link_congestion → has_congested_link bs ≡ false
none_long [] few = refl
none_long (b ∷ bs) few =
    ap (λ t. t || has_congested_link bs) (lt-leb link_congestion (length b) (omega arith)) ∙ none_long bs (omega arith)

-- nothing is congested if few messages wait in all
pub few_waiting : (bs : List (List Message)) → waiting bs < link_congestion → is_congested bs ≡ false
few_waiting bs few =
    ap (λ t. t || nat_le congestion (waiting bs)) (none_long bs few) ∙ lt-leb congestion (waiting bs) (omega arith)

pub many_waiting : (bs : List (List Message)) → congestion ≤ waiting bs → is_congested bs ≡ true
many_waiting bs many = or_one (has_congested_link bs) (nat_le congestion (waiting bs)) (le-leb congestion (waiting bs) many)

-- whether a link is congested settles it if not too many messages wait in all
or_none : (x : Bool) → x ≡ (x || false)
or_none true = refl
or_none false = refl

pub by_links : (bs : List (List Message)) → waiting bs < congestion → has_congested_link bs ≡ is_congested bs
by_links bs few = or_none (has_congested_link bs) ∙ ap (λ t. has_congested_link bs || t) (sym (lt-leb congestion (waiting bs) few))

-- ---- laws

all_short : (bs : List (List Message)) → ((to : ℕ) → length (list_at bs to) < link_congestion) → has_congested_link bs ≡ false
all_short [] short = refl
all_short (b ∷ bs) short =
    ap (λ t. t || has_congested_link bs) (lt-leb link_congestion (length b) (short 0)) ∙ all_short bs (λ k. short (suc k))

pub uncongested : (bs : List (List Message)) → ((to : ℕ) → length (list_at bs to) < link_congestion) → waiting bs < congestion
    → is_congested bs ≡ false
uncongested bs short few =
    ap (λ t. t || nat_le congestion (waiting bs)) (all_short bs short) ∙ lt-leb congestion (waiting bs) few

some_message : (bs : List (List Message)) → 0 < waiting bs → (to : ℕ) × (list_at bs to ≢ [])
some_message [] some = absurd (omega arith)
some_message ([] ∷ bs) some = let rest = some_message bs (omega arith) in (suc rest.0, rest.1)
some_message ((m ∷ b) ∷ bs) some = (0, λ e. let h : m ∷ b ≡ [] = e in cc)

not_none : (bs : List (List Message)) (n : ℕ) → waiting bs ≡ n → is_congested bs ≡ true → 0 < waiting bs
not_none bs zero e congested = absurd (true≢false (sym congested ∙ few_waiting bs (omega (arith, e))))
not_none bs (suc n) e congested = omega (arith, e)

pub congested_by_some : (bs : List (List Message)) → is_congested bs ≡ true → (to : ℕ) × (list_at bs to ≢ [])
congested_by_some bs congested = some_message bs (not_none bs (waiting bs) refl congested)
