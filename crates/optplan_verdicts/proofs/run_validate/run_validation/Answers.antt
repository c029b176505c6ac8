use Rattle.optplan_verdicts.proofs.run_validate.run_validation.Goals as goal

pub returns-clause-done : goal.returns-clause-done
returns-clause-done g c = λ h is same known.
    let done = c.judge_files.ensures.done h is same known in
    let judged = done.2 in (
      done.0,
      done.1,
      record {
        domain_text = judged.texts.domain.items;
        problem_text = judged.texts.problem.items;
        plan_text = judged.texts.judged.items;
        later = judged.later;
        events = judged.events;
        follows = judged.follows;
      },
    )
