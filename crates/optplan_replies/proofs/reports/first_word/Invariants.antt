use Rattle.std.specs.Prelude.{◌≡◌, ◌++◌, drop, string_bytes}
use Rattle.optplan_replies.specs.Words.{first_word}
use Rattle.optplan_replies.proofs.reports.first_word.Given as goal

abbrev pub invariant-loop-byte : goal.invariant-loop-byte
invariant-loop-byte l =
    string_bytes l.word ++ first_word (drop l.byte-index l.text) ≡ first_word l.text
