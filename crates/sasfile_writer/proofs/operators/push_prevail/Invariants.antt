use Rattle.std.proofs.Common.{◌≡◌, ◌++◌, map, take}
use Rattle.std.specs.Prelude.{filter, not}
use Rattle.fdr.specs.Tasks.{names_variable}
use Rattle.sasfile_writer.specs.Written.{text_of_lines, fact_line}
use Rattle.sasfile_writer.proofs.operators.push_prevail.Given as goal

abbrev pub invariant-loop-fact : goal.invariant-loop-fact
invariant-loop-fact l =
    l.out.items ≡ l.fn.out.items ++ text_of_lines (map fact_line (filter (λ f. not (names_variable l.effect f.variable)) (take l.fact-index l.precondition)))
