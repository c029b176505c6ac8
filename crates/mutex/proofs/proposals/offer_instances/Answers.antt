use Rattle.std.proofs.Common.{◌≡◌, ℕ, ◌<◌, [], List, length, cond, ap, ◌∙◌, arith}
use Rattle.std.proofs.lemmas.List.{get_or_default}
use Rattle.pddl_task.specs.Planning.{PlanningTask}
use Rattle.mutex.specs.Candidates.{count_of_instances, instance, is_proposal}
use Rattle.mutex.specs.Proposals.{with_group}
use Rattle.mutex.proofs.InstanceLaws.{instance_rises, instance_within}
use Rattle.mutex.proofs.ProposalLaws.{offer_more}
use Rattle.mutex.proofs.proposals.offer_instances.Goals as goal

pub offer-requires-clause-rising : goal.offer-requires-clause-rising
offer-requires-clause-rising c =
    let object = c.loop-object.object in
    let count = c.count_of_instances-object-end.ensures ∙ ap (λ (task : PlanningTask). count_of_instances task c.args.candidate.now) c.task.ensures in
    let low : object < length c.args.lists.now = omega (arith, count, c.requires.enough) in
    let here : c.as_slice.result.now ≡ instance c.args.index.now c.args.candidate.now object =
    c.as_slice.ensures ∙ c.index-lists-object.is ∙ get_or_default c.args.lists.now object c.index-lists-object.result [] low ∙ c.requires.instances object low in
    rw here (instance_rises c.args.index.now c.args.candidate.now object)

pub offer-requires-clause-within : goal.offer-requires-clause-within
offer-requires-clause-within c =
    let object = c.loop-object.object in
    let count = c.count_of_instances-object-end.ensures ∙ ap (λ (task : PlanningTask). count_of_instances task c.args.candidate.now) c.task.ensures in
    let low : object < length c.args.lists.now = omega (arith, count, c.requires.enough) in
    let here : c.as_slice.result.now ≡ instance c.args.index.now c.args.candidate.now object =
    c.as_slice.ensures ∙ c.index-lists-object.is ∙ get_or_default c.args.lists.now object c.index-lists-object.result [] low ∙ c.requires.instances object low in
    rw here (instance_within c.args.index.now c.args.candidate.now object)

pub loop-object-preserved : goal.loop-object-preserved
loop-object-preserved c =
    let index = c.args.index.now in
    let object = c.loop-object.object in
    let count = c.count_of_instances-object-end.ensures ∙ ap (λ (task : PlanningTask). count_of_instances task c.args.candidate.now) c.task.ensures in
    let low : object < length c.args.lists.now = omega (arith, count, c.requires.enough) in
    let here : c.as_slice.result.now ≡ instance index c.args.candidate.now object =
    c.as_slice.ensures ∙ c.index-lists-object.is ∙ get_or_default c.args.lists.now object c.index-lists-object.result [] low ∙ c.requires.instances object low in
    offer_more index c.args.candidate.now object c.args.groups.now c.loop-object.groups c.offer.new.self c.loop-object.invariant
    (c.in_ok-offer.ensures ∙ ap (λ (places : List ℕ). cond (is_proposal index places) (with_group c.loop-object.groups places) c.loop-object.groups) here)
