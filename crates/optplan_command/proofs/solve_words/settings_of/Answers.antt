use Rattle.std.proofs.Common.{◌≡◌, ℕ, List, sym, ◌∙◌, subst}
use Rattle.std.specs.Prelude.{Option, true, false, codes}
use Rattle.clap.specs.Matches.{found_of, first_value}
use Rattle.optplan_command.specs.Options.{has_taken}
use Rattle.std.proofs.lemmas.Bool.{false≢true}
use Rattle.optplan_command.proofs.Refusals.{always}
use Rattle.optplan_command.proofs.solve_words.settings_of.Goals as goal

pub returns-in_err-schedule-clause-refused : goal.returns-in_err-schedule-clause-refused
returns-in_err-schedule-clause-refused c = always c.from_residual.result (λ settings asked. c.in_err-schedule.ensures.refused settings.schedule asked.schedule)

pub returns-in_err-options-clause-refused : goal.returns-in_err-options-clause-refused
returns-in_err-options-clause-refused c =
    always c.from_residual-in_err-options.result (λ settings asked. c.in_err-options.ensures.refused settings.options asked.choices)

pub returns-in_err-cert-clause-refused : goal.returns-in_err-cert-clause-refused
returns-in_err-cert-clause-refused c =
    always c.from_residual-in_err-cert.result (λ settings asked. let both = sym asked.cert_is_own ∙ c.in_err-cert.ensures.refused in false≢true both)

pub returns-in_err-plan-clause-refused : goal.returns-in_err-plan-clause-refused
returns-in_err-plan-clause-refused c =
    let value : List ℕ → Option (List ℕ) = λ id. first_value (found_of c.args.words.now) id in
    let taken = subst (λ other. has_taken value other (value (codes "plan")) ≡ true) c.in_ok-cert.ensures.name c.in_err-plan.ensures.refused in
    always c.from_residual-in_err-plan.result (λ settings asked. let both = sym asked.plan_is_own ∙ taken in false≢true both)

pub returns-clause-taken : goal.returns-clause-taken
returns-clause-taken c =
    let value : List ℕ → Option (List ℕ) = λ id. first_value (found_of c.args.words.now) id in
    record {
      choices = c.in_ok-options.ensures.taken;
      schedule = c.in_ok-schedule.ensures.taken;
      explains = c.is_set.ensures;
      files = λ i. record { plan = c.in_ok-plan.ensures.name i; cert = c.in_ok-cert.ensures.name i };
      cert_is_own = c.in_ok-cert.ensures.own;
      plan_is_own = subst (λ other. has_taken value other (value (codes "plan")) ≡ false) c.in_ok-cert.ensures.name c.in_ok-plan.ensures.own;
    }
