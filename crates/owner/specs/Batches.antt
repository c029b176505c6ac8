-- The successors of a node that is to be expanded, before the node is marked: the owner's own are in a batch, and the
-- others are in the outboxes for their owners, from which they can be withdrawn.
use Rattle.std.specs.Prelude.{◌≡◌, ℕ, ◌+◌, ◌<◌, ◌≤◌, ◌^◌, List, length, map, fold, All}
use Rattle.cost.specs.Distances.{Distance, Finite, ◌+ᵈ◌}
use Rattle.fdr.specs.Tasks.{ranges}
use Rattle.owner_theory.specs.Owners.{Node, Owner, improve}
use Rattle.owner_theory.specs.Worlds.{waiting}
use Rattle.closed.specs.Tables.{message_of}
use Rattle.owner.specs.declared.batch.Batch.{Batch}
use Rattle.owner.specs.Owned.{OwnerOf, space_of, IsMessageTo}
use Rattle.owner_reached.specs.Queues.{h_of}
use Rattle.owner.specs.Outboxes.{withdrawn}

-- the owner that has these nodes, after it takes the messages of the batch
abbrev pub pending : {S F : Type 0} → (List ℕ → F → List ℕ) → Distance → List Node → OwnerOf S → Batch F → Owner
pending values bound nodes o batch =
    record {
      nodes = fold improve nodes (map (message_of (values (ranges o.space.task))) batch.own.items);
      outboxes = o.outboxes;
      bound = bound;
      best = batch.best;
    }

-- the batch's messages are the owner's own, with their f-values, and its receivers have outboxes
pub record IsBatch {S F : Type 0} (IsForm : List ℕ → F → Type 0) (values : List ℕ → F → List ℕ) (owner : S → List ℕ → ℕ → ℕ)
    (o : OwnerOf S) (batch : Batch F) : Type 0 where
  pub messages : All (λ m. IsMessageTo (space_of owner o) o.worker (message_of (values (ranges o.space.task)) m)) batch.own.items
  pub forms : All (λ m. IsForm (ranges o.space.task) m.state) batch.own.items
  pub fs : map (λ m. Finite m.rank.cost +ᵈ h_of o.space (values (ranges o.space.task) m.state)) batch.own.items ≡ map Finite batch.fs.items
  pub bounded : All (λ f. f ≤ 2 ^ 63) batch.fs.items

-- messages were put into outboxes, those of the receivers that were added, and nothing else changed
pub record ArePosted {S : Type 0} (old new : OwnerOf S) (receivers receivers' : List ℕ) : Type 0 where
  pub others : new ≡ record old { outboxes = new.outboxes }
  pub withdraws : withdrawn receivers' new.outboxes ≡ withdrawn receivers old.outboxes
  pub put_out : waiting new.outboxes + length receivers ≡ waiting old.outboxes + length receivers'
  pub owners : length new.outboxes ≡ length old.outboxes
  pub there : All (λ to. to < length old.outboxes) receivers → All (λ to. to < length old.outboxes) receivers'
