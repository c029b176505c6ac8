use Rattle.std.proofs.Common.{sym, subst, ◌∙◌}
use Rattle.sasfile_reader.specs.declared.fault.SasFault.{SasFault}
use Rattle.sasfile_reader.specs.Reading.{Fails, line_at}
use Rattle.sasfile_reader.specs.Remains.{remaining}
use Rattle.sasfile_reader.proofs.Endings.{empty_step, empty_fails, empty_done}
use Rattle.sasfile_reader.proofs.reading.end.Goals as goal

pub returns-then-not-is_empty : goal.returns-then-not-is_empty
returns-then-not-is_empty c =
    empty_fails (remaining c.loop-line.rest) (remaining c.in-Ok.after) c.in-Ok.line.now _ c.in-Ok.ensures.line (sym c.is_empty.ensures ∙ c.if-not-is_empty.true) c.loop-line.invariant

pub loop-line-preserved : goal.loop-line-preserved
loop-line-preserved c =
    empty_step (remaining c.loop-line.rest) (remaining c.in-Ok.after) c.in-Ok.line.now _ c.in-Ok.ensures.line (sym c.is_empty.ensures ∙ c.if-not-is_empty.false) c.loop-line.invariant

pub returns : goal.returns
returns c =
    let none = subst (λ (e : SasFault). Fails e (line_at (remaining c.loop-line.rest))) c.in_default.ensures.none c.in_default.ensures.line in
    empty_done (remaining c.loop-line.rest) _ none c.loop-line.invariant
