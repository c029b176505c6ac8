use Rattle.std.specs.Prelude.{length, map}
use Rattle.sasfile_writer.proofs.WholeLaws.{written_is_read}
use Rattle.optplan_pddl.proofs.WrittenTasks.{can_be_written}
use Rattle.optplan_pddl.proofs.plan_laws.translation_can_be_written.Goals as goal

pub returns-clause-written : goal.returns-clause-written
returns-clause-written c = can_be_written

pub returns-clause-read : goal.returns-clause-read
returns-clause-read c = λ domain problem task t spelled made ok within costs.
    written_is_read t.task (map (λ v. length v.places) t.variables) (can_be_written domain problem task t spelled made ok within costs)
