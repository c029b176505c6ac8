-- The states that owners have expanded.
use Rattle.std.specs.Prelude.{◌≡◌, ℕ, ◌*◌, List, length, flat_map}
use Rattle.cert_value.specs.Certificates.{Entry}
use Rattle.cert_value.specs.Kept.{entries}
use Rattle.owner_theory.specs.Families.{expanded_of}
use Rattle.owner.specs.Owned.{OwnerOf}
use Rattle.cert.specs.declared.states.ExpandedStates.{ExpandedStates}

-- the expanded nodes of all owners, concatenated
abbrev pub closed_in : {S : Type 0} → List (OwnerOf S) → List Entry
closed_in owners = flat_map (λ o. expanded_of o.nodes) owners

-- the states with their costs, of `width` values each
abbrev pub listed : ℕ → ExpandedStates → List Entry
listed width states = entries width states.costs.items states.values.items

-- there are `width` values for each cost
abbrev pub IsLong : ℕ → ExpandedStates → Type 0
IsLong width states = length states.values.items ≡ length states.costs.items * width
