use Rattle.std.proofs.Common.{rules}
use Rattle.optplan_command.proofs.Refusals.{always, no_number}
use Rattle.optplan_command.proofs.solve_words.search_options.Goals as goal

pub returns-in_err-number_for-clause-refused : goal.returns-in_err-number_for-clause-refused
returns-in_err-number_for-clause-refused c =
    always c.from_residual.result (λ choices are. no_number _ _ _ _ choices.workers c.in_err-number_for.ensures.refused are.workers)

pub returns-in_err-number_for-2-clause-refused : goal.returns-in_err-number_for-2-clause-refused
returns-in_err-number_for-2-clause-refused c =
    always c.from_residual-in_err-number_for-2.result (λ choices are. no_number _ _ _ _ choices.table c.in_err-number_for-2.ensures.refused are.table)

pub returns-in_err-number_for-3-clause-refused : goal.returns-in_err-number_for-3-clause-refused
returns-in_err-number_for-3-clause-refused c =
    always c.from_residual-in_err-number_for-3.result (λ choices are. no_number _ _ _ _ choices.steps c.in_err-number_for-3.ensures.refused are.steps)

pub returns-in_err-number_for-4-clause-refused : goal.returns-in_err-number_for-4-clause-refused
returns-in_err-number_for-4-clause-refused c =
    always c.from_residual-in_err-number_for-4.result (λ choices are. no_number _ _ _ _ choices.ring c.in_err-number_for-4.ensures.refused are.ring)

-- each of the options in turn, since they are too many for one search
pub returns-in-Some-clause-taken : goal.returns-in-Some-clause-taken
returns-in-Some-clause-taken c =
    record {
      workers = search rules;
      table = search rules;
      limit = search rules;
      ring = search rules;
      steps = search rules;
      ties = search rules;
      tables = search rules;
      stage_ends = search rules;
      certificate = search rules;
      reduction = search rules;
    }

-- each of the options in turn, since they are too many for one search
pub returns-in-None-clause-taken : goal.returns-in-None-clause-taken
returns-in-None-clause-taken c =
    record {
      workers = search rules;
      table = search rules;
      limit = search rules;
      ring = search rules;
      steps = search rules;
      ties = search rules;
      tables = search rules;
      stage_ends = search rules;
      certificate = search rules;
      reduction = search rules;
    }
