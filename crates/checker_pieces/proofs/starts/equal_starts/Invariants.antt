use Rattle.std.proofs.Common.{◌≡◌, ◌<◌, ◌≤◌, length, All}
use Rattle.std.specs.Prelude.{slice_index_or}
use Rattle.checker_pieces.proofs.starts.equal_starts.Given as goal

abbrev pub invariant-loop-piece : goal.invariant-loop-piece
invariant-loop-piece l =
    record {
      count : length l.starts.items ≡ l.piece;
      first : 0 < l.piece → slice_index_or l.starts.items 0 l.len ≡ 0;
      within : All (λ s. s ≤ l.len) l.starts.items;
    }
