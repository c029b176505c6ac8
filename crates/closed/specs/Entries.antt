-- The reached states, as they are stored, and how writes to them are undone.
use Rattle.std.specs.Prelude.{◌≡◌, ℕ, zero, suc, Bool, if◌then◌else◌, List, [], ◌∷◌, ◌++◌, map, Some, None, slice_get, All}
use Rattle.owner_theory.specs.Owners.{Node}
use Rattle.closed.specs.declared.table.Entry.{Entry}
use Rattle.closed.specs.declared.table.Outcome.{Outcome}
use Rattle.closed.specs.declared.table.Outcome.TheVariants.{New, Better, Kept}
use Rattle.closed.specs.declared.small_entry.SmallEntry.{SmallEntry}
use Rattle.closed.specs.Tables.{node_with}

-- the entry that is stored in 24 bytes
abbrev pub entry_in : SmallEntry → Entry
entry_in e =
    record {
      rank = record { cost = e.cost; steps = e.steps };
      parent = if e.has_parent then Some (record { worker = e.worker; index = e.index; operator = e.operator }) else None;
      expanded = e.expanded;
    }

-- the nodes of states with their entries, if `values` returns the values of a form
abbrev pub nodes_of : {F : Type 0} → (F → List ℕ) → List (F × SmallEntry) → List Node
nodes_of values entries = map (λ p. node_with (values p.0) (entry_in p.1)) entries

-- for each row whether its state was ever expanded
abbrev pub ever_of : {F : Type 0} → List (F × SmallEntry) → List Bool
ever_of entries = map (λ p. p.1.ever) entries

-- the rows with entry `e` at index `i`
abbrev pub set_entry_at : {F : Type 0} → List (F × SmallEntry) → ℕ → SmallEntry → List (F × SmallEntry)
set_entry_at [] i e = []
set_entry_at (p ∷ ps) zero e = (p.0, e) ∷ ps
set_entry_at (p ∷ ps) (suc i) e = p ∷ set_entry_at ps i e

-- states with these ranges have the form, and all keys and the buffer are forms of such states
pub record AreForms {F : Type 0} (Fits : List ℕ → Type 0) (IsForm : List ℕ → F → Type 0) (ranges : List ℕ)
    (entries : List (F × SmallEntry)) (sought : F) : Type 0 where
  pub fits : Fits ranges
  pub keys : All (λ p. IsForm ranges p.0) entries
  pub buffer : IsForm ranges sought

-- the nodes with entry `e` at index `i`
abbrev pub with_entry : List Node → ℕ → Entry → List Node
with_entry [] i e = []
with_entry (n ∷ ns) zero e = node_with n.state e ∷ ns
with_entry (n ∷ ns) (suc i) e = n ∷ with_entry ns i e

-- the nodes with these entries restored at their indices, the last one first
abbrev pub taken_back : List (ℕ × SmallEntry) → List Node → List Node
taken_back [] nodes = nodes
taken_back (p ∷ ps) nodes = with_entry (taken_back ps nodes) p.0 (entry_in p.1)

-- the entry that an outcome replaces is appended, if there is one
abbrev pub Notes : List Node → Outcome → List (ℕ × SmallEntry) → List (ℕ × SmallEntry) → Type 0
Notes nodes (New i) old new = new ≡ old
Notes nodes (Better i) old new =
    (e : SmallEntry) × (new ≡ old ++ (i, e) ∷ [])
    × ((n : Node) → slice_get nodes i ≡ Some n → n ≡ node_with n.state (entry_in e))
Notes nodes Kept old new = new ≡ old
