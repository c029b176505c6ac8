use Rattle.std.proofs.Common.{None}
use Rattle.cert_value.specs.Views as kept
use Rattle.checker_pieces.specs.Pieces.{IsFirstIn}
use Rattle.checker_tables.specs.TablePlaces.{says_table}
use Rattle.checker_tables.proofs.tables.first_in_piece.Given as goal

abbrev pub invariant-loop-number : goal.invariant-loop-number
invariant-loop-number l = IsFirstIn (says_table l.task (kept.columns_of l.columns) l.places) l.start l.number None
