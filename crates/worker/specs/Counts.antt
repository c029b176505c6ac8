-- How a worker counts in a turn: how messages change the units before anything is sent, and whether the worker
-- comes to rest at the end.
use Rattle.std.specs.Prelude.{◌≡◌, ℕ, List, not, ◌&&◌, ◌||◌, pos, ◌+ℤ◌, ◌-ℤ◌}
use Rattle.board.specs.declared.views.View.{View}
use Rattle.board.specs.Rule.{with_share}
use Rattle.worker.specs.Workers.{WorkerOf}
use Rattle.worker.specs.Turns.{wakes, comes_to_rest, one_if}

-- the worker, if it wakes, and the messages in outboxes that are not yet added are added to the units, and the messages
-- that were taken are subtracted
pub record HasBalanced {S F : Type 0} (old new : WorkerOf S F) (before after : View) : Type 0 where
  pub view : after ≡ with_share before (((before.share +ℤ pos (one_if (wakes old))) +ℤ pos old.uncounted) -ℤ pos old.taken)
  pub worker : new ≡ record old { uncounted = 0 }

-- the worker is subtracted from the units if it comes to rest
pub record HasRested {S F : Type 0} (owner : S → List ℕ → ℕ → ℕ) (old new : WorkerOf S F) (before after : View) : Type 0 where
  pub view : after ≡ with_share before (before.share -ℤ pos (one_if (comes_to_rest owner old)))
  pub worker : new ≡ record old { taken = 0; resting = (old.resting && not (wakes old)) || comes_to_rest owner old }
