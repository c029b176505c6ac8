use Rattle.pddl_layout.proofs.SpelledTokens.{case_tokens, case_task}
use Rattle.pddl_layout.proofs.laws.letters_case_does_not_matter.Goals as goal

pub returns-clause-tokens : goal.returns-clause-tokens
returns-clause-tokens c = case_tokens

pub returns-clause-task : goal.returns-clause-task
returns-clause-task c = case_task
