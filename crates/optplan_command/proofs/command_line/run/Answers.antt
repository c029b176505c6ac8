use Rattle.std.proofs.Common.{inr, refl, ⊎_elim}
use Rattle.clap.specs.Words.{kind_of}
use Rattle.optplan_replies.proofs.Unput.{unput_same, unput_then}
use Rattle.optplan_command.proofs.PlainRequests.{asked_validation, asked_check, asked_sas_check, asked_judgement, asked_translation, asked_migration, out_of_memory}
use Rattle.optplan_command.proofs.command_line.run.Goals as goal

pub returns-in-Ok-clause-validates : goal.returns-in-Ok-clause-validates
returns-in-Ok-clause-validates g c = λ h domain problem plan is asks same known.
    let done = c.in-Ok.ensures.done h _ _ is (asked_validation _ domain problem plan asks).named same known in
    (done.0, done.1, done.2.validates refl)

pub returns-in-Ok-clause-checks_sas : goal.returns-in-Ok-clause-checks_sas
returns-in-Ok-clause-checks_sas g c = λ h sas cert is asks same known.
    let done = c.in-Ok.ensures.done h _ _ is (asked_sas_check _ sas cert asks).named same known in
    (done.0, done.1, done.2.checks_sas refl)

pub returns-in-Ok-clause-checks : goal.returns-in-Ok-clause-checks
returns-in-Ok-clause-checks g c = λ h domain problem cert is asks same known.
    let done = c.in-Ok.ensures.done h _ _ is (asked_check _ domain problem cert asks).named same known in
    (done.0, done.1, done.2.checks refl)

pub returns-in-Ok-clause-judges : goal.returns-in-Ok-clause-judges
returns-in-Ok-clause-judges g c = λ h domain problem plan cert is asks same known.
    let done = c.in-Ok.ensures.done h _ _ is (asked_judgement _ domain problem plan cert asks).named same known in
    (done.0, done.1, done.2.judges refl)

pub returns-in-Ok-clause-translates : goal.returns-in-Ok-clause-translates
returns-in-Ok-clause-translates g c = λ h domain problem is asks same known.
    let done = c.in-Ok.ensures.done h _ _ is (asked_translation _ domain problem asks).named same known in
    (done.0, done.1, done.2.translates refl)

pub returns-in-Ok-clause-migrates : goal.returns-in-Ok-clause-migrates
returns-in-Ok-clause-migrates g c = λ h cert is asks same known.
    let done = c.in-Ok.ensures.done h _ _ is (asked_migration _ cert asks).named same known in
    (done.0, done.1, done.2.migrates refl)

pub returns-in-Err-clause-validates : goal.returns-in-Err-clause-validates
returns-in-Err-clause-validates g c = λ h domain problem plan is asks same known.
    absurd (known (c.show.ensures.memory (out_of_memory _ _ _ c.in-Err.error (asked_validation _ domain problem plan asks) refl c.in-Err.ensures.refused)))

pub returns-in-Err-clause-checks_sas : goal.returns-in-Err-clause-checks_sas
returns-in-Err-clause-checks_sas g c = λ h sas cert is asks same known.
    absurd (known (c.show.ensures.memory (out_of_memory _ _ _ c.in-Err.error (asked_sas_check _ sas cert asks) refl c.in-Err.ensures.refused)))

pub returns-in-Err-clause-checks : goal.returns-in-Err-clause-checks
returns-in-Err-clause-checks g c = λ h domain problem cert is asks same known.
    absurd (known (c.show.ensures.memory (out_of_memory _ _ _ c.in-Err.error (asked_check _ domain problem cert asks) refl c.in-Err.ensures.refused)))

pub returns-in-Err-clause-judges : goal.returns-in-Err-clause-judges
returns-in-Err-clause-judges g c = λ h domain problem plan cert is asks same known.
    absurd (known (c.show.ensures.memory (out_of_memory _ _ _ c.in-Err.error (asked_judgement _ domain problem plan cert asks) refl c.in-Err.ensures.refused)))

pub returns-in-Err-clause-translates : goal.returns-in-Err-clause-translates
returns-in-Err-clause-translates g c = λ h domain problem is asks same known.
    absurd (known (c.show.ensures.memory (out_of_memory _ _ _ c.in-Err.error (asked_translation _ domain problem asks) refl c.in-Err.ensures.refused)))

pub returns-in-Err-clause-migrates : goal.returns-in-Err-clause-migrates
returns-in-Err-clause-migrates g c = λ h cert is asks same known.
    absurd (known (c.show.ensures.memory (out_of_memory _ _ _ c.in-Err.error (asked_migration _ cert asks) refl c.in-Err.ensures.refused)))

pub returns-in-Err-clause-requests : goal.returns-in-Err-clause-requests
returns-in-Err-clause-requests g c = λ h name rows is fits named same known.
    ⊎_elim (λ memory. absurd (known (c.show.ensures.memory memory)))
    (λ value. ⊎_elim (λ misused. inr (misused, value.1 name rows named)) (λ memory. absurd (known memory))
    (c.show.ensures.misused (λ help. let kind = value.0 in absurd cc) (λ version. let kind = value.0 in absurd cc)))
    (c.in-Err.ensures.refused fits)

pub returns-in-Err-clause-misuses : goal.returns-in-Err-clause-misuses
returns-in-Err-clause-misuses g c = λ misuse.
    ⊎_elim (λ memory. inr (c.show.ensures.memory memory))
    (λ among. let no_help = misuse.no_help (kind_of c.in-Err.error) among in c.show.ensures.misused no_help.0 no_help.1)
    (c.in-Err.ensures.kinds misuse.some)

pub returns-in-Err-clause-unput : goal.returns-in-Err-clause-unput
returns-in-Err-clause-unput g c = λ memory.
    let history = g.D.Device.history in
    unput_then (history c.args.device.now) (history c.run_words.new.device) (history c.show.new.device)
    (unput_same (history c.args.device.now) (history c.run_words.new.device) c.in-Err.ensures.kept) (c.show.ensures.unput memory)
