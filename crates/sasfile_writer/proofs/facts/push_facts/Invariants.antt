use Rattle.std.proofs.Common.{◌≡◌, ◌++◌, map, take}
use Rattle.sasfile_writer.specs.Written.{text_of_lines, fact_line}
use Rattle.sasfile_writer.proofs.facts.push_facts.Given as goal

abbrev pub invariant-loop-fact : goal.invariant-loop-fact
invariant-loop-fact l = l.out.items ≡ l.fn.out.items ++ text_of_lines (map fact_line (take l.fact-index l.facts))
