use Rattle.std.proofs.Common.{refl}
use Rattle.std.specs.Prelude.{codes}
use Rattle.clap.specs.Matches.{found_of, first_value}
use Rattle.optplan_solve.specs.Outputs.{files_of}
use Rattle.optplan_command.proofs.Operands.{operand_is, renamed_solves, renamed_solves_sas}
use Rattle.optplan_command.proofs.solve_words.solve_by_words.Goals as goal

pub returns-in-Solve-clause-done : goal.returns-in-Solve-clause-done
returns-in-Solve-clause-done g c = rw c.in-Solve.is (λ h is same known.
    let settings = c.in-Ok.settings in
    let domain = first_value (found_of c.args.words.now) (codes "DOMAIN") in
    let problem = first_value (found_of c.args.words.now) (codes "PROBLEM") in
    let d = operand_is c.get_str.result _ c.unwrap_or-domain.result (λ t. t.now) domain c.get_str.ensures c.unwrap_or-domain.ensures refl in
    let p = operand_is c.get_str-in-Solve.result _ c.unwrap_or-problem.result (λ t. t.now) problem c.get_str-in-Solve.ensures c.unwrap_or-problem.ensures refl in
    let done = c.run_solve.ensures.done h is same known in (
      done.0,
      done.1,
      record {
        settings = settings;
        asked = c.in-Ok.ensures.taken;
        solves = renamed_solves h done.0 _ c.unwrap_or-domain.result.now _ c.unwrap_or-problem.result.now settings.options settings.schedule (files_of settings) settings.explains c.run_solve.result d p done.2;
      },
    ))

pub returns-in-SolveSas-clause-done : goal.returns-in-SolveSas-clause-done
returns-in-SolveSas-clause-done g c = rw c.in-SolveSas.is (λ h is same known.
    let settings = c.in-Ok.settings in
    let sas = first_value (found_of c.args.words.now) (codes "SAS") in
    let s = operand_is c.get_str-in-SolveSas.result _ c.unwrap_or-sas.result (λ t. t.now) sas c.get_str-in-SolveSas.ensures c.unwrap_or-sas.ensures refl in
    let done = c.run_solve_sas.ensures.done h is same known in (
      done.0,
      done.1,
      record {
        settings = settings;
        asked = c.in-Ok.ensures.taken;
        solves = renamed_solves_sas h done.0 _ c.unwrap_or-sas.result.now settings.options settings.schedule (files_of settings) settings.explains c.run_solve_sas.result s done.2;
      },
    ))
