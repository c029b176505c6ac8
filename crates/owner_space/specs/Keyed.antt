-- Entries of an open list keyed by the tie-breaking rule, so that the list's one order is the rule's.
use Rattle.std.specs.Prelude.{◌≡◌, ℕ, ◌+◌, ◌-◌, ◌^◌, ◌<◌, ◌≤◌, Bool, true, false, if◌then◌else◌, nat_le}
use Rattle.openlist.specs.declared.entry.OpenEntry.{OpenEntry}
use Rattle.owner_space.specs.declared.ties.Ties.{Ties}
use Rattle.owner_space.specs.declared.ties.Ties.TheVariants.{Shallow, Deep, Fresh}

-- the greatest cost of a path, and the greatest number of operators on it
abbrev pub max_total : ℕ
max_total = 2 ^ 62

-- an entry as those of nodes are: its cost and its number of operators are at most 2^62, and its index has at most 64
-- bits
pub record IsSmall (e : OpenEntry) : Type 0 where
  pub cost : e.rank.cost ≤ max_total
  pub steps : e.rank.steps ≤ max_total
  pub index : e.index < 2 ^ 64

-- the entry with cost and number of operators subtracted from `top`, and the index from the greatest number of 64 bits
abbrev pub counted_down : ℕ → OpenEntry → OpenEntry
counted_down top e =
    record {
      f = e.f;
      rank = record { cost = top - e.rank.cost; steps = top - e.rank.steps };
      index = 2 ^ 64 - 1 - e.index;
    }

-- the entry as it is stored in the open list, if its node was ever expanded or not
abbrev pub keyed : Ties → Bool → OpenEntry → OpenEntry
keyed Shallow ever e = e
keyed Deep ever e = counted_down (2 ^ 64 - 1) e
keyed Fresh false e = counted_down max_total e
keyed Fresh true e =
    record {
      f = e.f;
      rank = record { cost = max_total + 1 + e.rank.cost; steps = e.rank.steps };
      index = e.index;
    }

-- the entry that a stored one denotes
abbrev pub denoted : Ties → OpenEntry → OpenEntry
denoted Shallow e = e
denoted Deep e = counted_down (2 ^ 64 - 1) e
denoted Fresh e =
    if nat_le e.rank.cost max_total
    then counted_down max_total e
    else record {
      f = e.f;
      rank = record { cost = e.rank.cost - (max_total + 1); steps = e.rank.steps };
      index = e.index;
    }

-- a stored entry
pub record IsKeyed (ties : Ties) (e : OpenEntry) : Type 0 where
  pub ever : Bool
  pub entry : OpenEntry
  pub small : IsSmall entry
  pub is : e ≡ keyed ties ever entry
