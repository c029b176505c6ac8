use Rattle.optplan_verdicts.proofs.run_check_sas.run_sas_check.Goals as goal

pub returns-clause-done : goal.returns-clause-done
returns-clause-done g c = λ h is same known.
    let done = c.judge_files.ensures.done h is same known in
    let judged = done.2 in (
      done.0,
      done.1,
      record {
        sas_text = judged.texts.sas.items;
        cert_text = judged.texts.cert.items;
        later = judged.later;
        events = judged.events;
        follows = judged.follows;
      },
    )
