use Rattle.std.proofs.lemmas.Result.{err_from_is_err_and}
use Rattle.std.specs.Option.{option_map}
use Rattle.optplan_search.specs.Findings.{plain}
use Rattle.optplan_search.proofs.WorldEnds.{found_at_end}
use Rattle.optplan_search.proofs.searching.found_in.Goals as goal

pub returns-clause-found : goal.returns-clause-found
returns-clause-found g c =
    found_at_end c.args.space.now.task (option_map plain c.args.wanted) (g.C.Course.ends c.args.course.now c.args.options.now c.args.space.now.task) c.args.space.now
    c.in_ok-world.world c.joined.result c.in_ok-found_by.field-0 c.requires.space.task_is c.in_ok-world.ensures.over c.in_ok-world.ensures.ended
    (record { space = c.joined.ensures.space; owners = c.joined.ensures.owners; left = c.joined.ensures.left })
    c.in_ok-found_by.ensures

pub returns-in_err-found_by-clause-refused : goal.returns-in_err-found_by-clause-refused
returns-in_err-found_by-clause-refused g c =
    let p = err_from_is_err_and c.from_residual-in_err-found_by.result c.from_residual-in_err-found_by.ensures.1 in
    rw (p.1, p.2) (g.met.C.Course.memory c.args.course.now c.args.options.now c.args.space.now.task)
