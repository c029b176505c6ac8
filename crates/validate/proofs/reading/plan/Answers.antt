use Rattle.std.proofs.Common.{◌≡◌, true, List, None, length, arith, sym, ap, subst}
use Rattle.std.specs.List.{AllByRecursion}
use Rattle.sexp.specs.Forms.{views}
use Rattle.validate.specs.PlanTexts.{first_of_places, shape_faults}
use Rattle.validate.specs.Steps.{Step}
use Rattle.validate.specs.PlanWords.{IsPlanStep}
use Rattle.validate.proofs.SpelledPlans.{spelled_are_plan_words, steps_plan}
use Rattle.validate.proofs.PlanLaws.{over_limit, steps_of_trees}
use Rattle.validate.proofs.reading.plan.Goals as goal

pub returns-then-len-gt-MAX_STEPS-clause-fault : goal.returns-then-len-gt-MAX_STEPS-clause-fault
returns-then-len-gt-MAX_STEPS-clause-fault c =
    over_limit c.args.bytes.now c.in_ok-trees.trees.items c.in_ok-trees.ensures.found (sym (rw c.deref.ensures.value at c.in_default.ensures))
    (omega (arith, c.deref.ensures.len, ap length c.deref.ensures.value))

pub steps-requires : goal.steps-requires
steps-requires c = rw c.deref-2.ensures.value (spelled_are_plan_words true 0 0 c.args.bytes.now (views c.in_ok-trees.trees.items) c.in_ok-trees.ensures.found.1)

pub new-requires-clause-words : goal.new-requires-clause-words
new-requires-clause-words c =
    let is = rw c.deref-2.ensures.value at c.in_ok-steps.ensures in
    subst (λ (xs : List Step). AllByRecursion IsPlanStep xs) (sym is)
    (steps_plan (views c.in_ok-trees.trees.items) (spelled_are_plan_words true 0 0 c.args.bytes.now (views c.in_ok-trees.trees.items) c.in_ok-trees.ensures.found.1))

pub new-requires-clause-few : goal.new-requires-clause-few
new-requires-clause-few c =
    let shape : first_of_places (shape_faults (views c.in_ok-trees.trees.items)) ≡ None = sym (rw c.deref.ensures.value at c.in_default.ensures) in
    let is = rw c.deref-2.ensures.value at c.in_ok-steps.ensures in
    omega (arith, c.deref.ensures.len, ap length c.deref.ensures.value, steps_of_trees c.in_ok-trees.trees.items shape, ap length is)
