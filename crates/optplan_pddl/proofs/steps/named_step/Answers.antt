use Rattle.std.proofs.Common.{Some, lit<, ap, subst, ◌≡◌, ◌∙◌}
use Rattle.std.specs.Prelude.{IfSome, IfNone}
use Rattle.std.specs.String.{string_bytes}
use Rattle.std.proofs.lemmas.Str.Pattern.{split_once_first}
use Rattle.pddl_names.specs.Names.{texts_of}
use Rattle.validate.specs.Steps.{Step}
use Rattle.validate.specs.PlanWords.{IsPlanStep}
use Rattle.optplan_pddl.specs.Steps.{words_of}
use Rattle.optplan_pddl.proofs.SpelledSteps.{step_cut, step_alone}
use Rattle.optplan_pddl.proofs.steps.named_step.Goals as goal

pub returns-in_ok-objects-in-Some-clause-some : goal.returns-in_ok-objects-in-Some-clause-some
returns-in_ok-objects-in-Some-clause-some c =
    let parts = split_once_first 32 c.args.name.now (Some (c.in-Some.schema, c.in-Some.objects)) c.in-Some.ensures.cases (lit< tt) in
    let is = step_cut c.args.name.now (string_bytes c.in_ok-schema-in-Some.schema) (texts_of c.in_ok-objects-in-Some.objects.items) parts.0
    (c.in_ok-schema-in-Some.ensures.ok ∙ parts.1) (c.in_ok-objects-in-Some.ensures ∙ ap words_of parts.2) in
    subst (λ (x : Step). IfSome c.new.result (λ s. s ≡ x)) is c.new.ensures.some

pub returns-in_ok-objects-in-Some-clause-none : goal.returns-in_ok-objects-in-Some-clause-none
returns-in_ok-objects-in-Some-clause-none c =
    let parts = split_once_first 32 c.args.name.now (Some (c.in-Some.schema, c.in-Some.objects)) c.in-Some.ensures.cases (lit< tt) in
    let is = step_cut c.args.name.now (string_bytes c.in_ok-schema-in-Some.schema) (texts_of c.in_ok-objects-in-Some.objects.items) parts.0
    (c.in_ok-schema-in-Some.ensures.ok ∙ parts.1) (c.in_ok-objects-in-Some.ensures ∙ ap words_of parts.2) in
    subst (λ (x : Step). IfNone c.new.result (IsPlanStep x → ⊥)) is c.new.ensures.none

pub returns-in_ok-from_str-in-None-clause-some : goal.returns-in_ok-from_str-in-None-clause-some
returns-in_ok-from_str-in-None-clause-some c =
    let is = step_alone c.args.name.now (string_bytes c.in_ok-from_str-in-None.field-0) (texts_of c.new-in-None.result.items) c.in-None.ensures.cases
    c.in_ok-from_str-in-None.ensures.ok (ap texts_of c.new-in-None.ensures.items) in
    subst (λ (x : Step). IfSome c.new-in-None-2.result (λ s. s ≡ x)) is c.new-in-None-2.ensures.some

pub returns-in_ok-from_str-in-None-clause-none : goal.returns-in_ok-from_str-in-None-clause-none
returns-in_ok-from_str-in-None-clause-none c =
    let is = step_alone c.args.name.now (string_bytes c.in_ok-from_str-in-None.field-0) (texts_of c.new-in-None.result.items) c.in-None.ensures.cases
    c.in_ok-from_str-in-None.ensures.ok (ap texts_of c.new-in-None.ensures.items) in
    subst (λ (x : Step). IfNone c.new-in-None-2.result (IsPlanStep x → ⊥)) is c.new-in-None-2.ensures.none
