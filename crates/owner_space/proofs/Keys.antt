-- A stored entry denotes the one that was keyed.
use Rattle.std.proofs.Common.{◌≡◌, ℕ, ◌+◌, ◌-◌, ◌<◌, ◌≤◌, ◌^◌, Bool, true, false, refl, sym, ap, ◌∙◌, subst, arith, cond}
use Rattle.std.proofs.lemmas.Bool.{le-leb, lt-leb}
use Rattle.openlist.specs.declared.entry.OpenEntry.{OpenEntry}
use Rattle.owner_space.specs.declared.ties.Ties.{Ties}
use Rattle.owner_space.specs.declared.ties.Ties.TheVariants.{Shallow, Deep, Fresh}
use Rattle.owner_space.specs.Keyed.{max_total, IsSmall, IsKeyed, counted_down, keyed, denoted}

twice : (top x : ℕ) → x ≤ top → top - (top - x) ≡ x
twice top x le = omega arith

index_twice : (x : ℕ) → x < 2 ^ 64 → 2 ^ 64 - 1 - (2 ^ 64 - 1 - x) ≡ x
index_twice x small = omega arith

down_twice : (top : ℕ) (e : OpenEntry) → e.rank.cost ≤ top → e.rank.steps ≤ top → e.index < 2 ^ 64 → counted_down top (counted_down top e) ≡ e
down_twice top e cost steps index = λ j. record {
  f = e.f;
  rank = record { cost = twice top e.rank.cost cost j; steps = twice top e.rank.steps steps j };
  index = index_twice e.index index j;
}

-- which way a stored entry of Fresh was keyed
pub fresh_low : (e : OpenEntry) → e.rank.cost ≤ max_total → denoted Fresh e ≡ counted_down max_total e
fresh_low e low = ap (λ (b : Bool). cond b (counted_down max_total e) (record {
  f = e.f;
  rank = record { cost = e.rank.cost - (max_total + 1); steps = e.rank.steps };
  index = e.index;
})) (le-leb e.rank.cost max_total low)

pub fresh_high : (e : OpenEntry) → max_total < e.rank.cost → denoted Fresh e ≡ record {
  f = e.f;
  rank = record { cost = e.rank.cost - (max_total + 1); steps = e.rank.steps };
  index = e.index;
}
fresh_high e high = ap (λ (b : Bool). cond b (counted_down max_total e) (record {
  f = e.f;
  rank = record { cost = e.rank.cost - (max_total + 1); steps = e.rank.steps };
  index = e.index;
})) (lt-leb e.rank.cost max_total high)

past_fresh : (x : ℕ) → max_total + 1 + x - (max_total + 1) ≡ x
past_fresh x = omega arith

pub denoted_keyed : (ties : Ties) (ever : Bool) (e : OpenEntry) → IsSmall e → denoted ties (keyed ties ever e) ≡ e
denoted_keyed Shallow ever e small = refl
denoted_keyed Deep ever e small =
    let cost = small.cost in let steps = small.steps in
    down_twice (2 ^ 64 - 1) e (omega arith) (omega arith) small.index
denoted_keyed Fresh false e small =
    fresh_low (counted_down max_total e) (omega arith) ∙ down_twice max_total e small.cost small.steps small.index
denoted_keyed Fresh true e small =
    fresh_high (keyed Fresh true e) (omega arith)
    ∙ (λ j. record { f = e.f; rank = record { cost = past_fresh e.rank.cost j; steps = e.rank.steps }; index = e.index })

-- what a stored entry denotes is small
pub denoted_small : (ties : Ties) (e : OpenEntry) → IsKeyed ties e → IsSmall (denoted ties e)
denoted_small ties e k =
    subst IsSmall (sym (ap (denoted ties) k.is ∙ denoted_keyed ties k.ever k.entry k.small)) k.small

-- it was keyed as that which it denotes
pub keyed_denoted : (ties : Ties) (e : OpenEntry) (k : IsKeyed ties e) → e ≡ keyed ties k.ever (denoted ties e)
keyed_denoted ties e k =
    k.is ∙ ap (keyed ties k.ever) (sym (ap (denoted ties) k.is ∙ denoted_keyed ties k.ever k.entry k.small))

-- a stored entry of Fresh that was counted down has few steps
pub low_steps : (e : OpenEntry) → IsKeyed Fresh e → e.rank.cost ≤ max_total → e.rank.steps ≤ max_total
low_steps e k low = go k.ever k.is
  where
    go : (ever : Bool) → e ≡ keyed Fresh ever k.entry → e.rank.steps ≤ max_total
    go false is = let steps = ap (λ (x : OpenEntry). x.rank.steps) is in omega arith
    go true is = let cost = ap (λ (x : OpenEntry). x.rank.cost) is in absurd (omega arith)
