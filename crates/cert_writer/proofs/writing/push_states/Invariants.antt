use Rattle.std.proofs.Common.{◌≡◌, ◌++◌, map, take, length}
use Rattle.cert_text.specs.Spelling as text
use Rattle.cert_writer.proofs.writing.push_states.Given as goal

abbrev pub invariant-loop-index : goal.invariant-loop-index
invariant-loop-index l =
    record {
      written : l.out.items ≡ l.fn.out.items ++ text.text_of (map text.entry_line (take l.index l.closed));
      width : length l.state ≡ length l.fn.state;
    }
