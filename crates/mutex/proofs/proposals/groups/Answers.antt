use Rattle.std.proofs.Common.{◌<◌, [], List, length, take, filter, sym, subst, ap, ◌∙◌, arith}
use Rattle.std.specs.Prelude.{All}
use Rattle.std.specs.List.{flat_map, fold}
use Rattle.std.proofs.lemmas.List.{take_all}
use Rattle.std.proofs.lemmas.List.Elements.{All-same}
use Rattle.pddl_task.specs.Planning.{PlanningTask}
use Rattle.mutex.specs.declared.parts.Part.{Part}
use Rattle.mutex.specs.Candidates.{Candidate, candidates, instances, is_proposal, proposed_groups}
use Rattle.mutex.specs.Proposals.{IsProposal, with_group}
use Rattle.mutex.proofs.CandidateLaws.{known_candidates}
use Rattle.mutex.proofs.ProposalLaws.{all_proposals}
use Rattle.mutex.proofs.proposals.groups.Goals as goal

pub collect-requires-clause-known : goal.collect-requires-clause-known
collect-requires-clause-known c =
    let index = c.args.index.now in
    let items = c.deref-candidate-items.ensures.value ∙ c.in_ok-candidates.ensures ∙ ap (λ (task : PlanningTask). take 4096 (candidates task)) c.task.ensures in
    let all = All-same (All (λ (part : Part). part.predicate < length index.task.arities)) c.deref-candidate-items.result.now (take 4096 (candidates index.task)) items (known_candidates index.task 4096) in
    subst (λ (candidate : Candidate). All (λ (part : Part). part.predicate < length index.task.arities) candidate) (sym c.candidate-item.is)
    (all c.loop-candidate.candidate-index c.candidate-item.result c.loop-candidate-test.true)

pub returns-clause-groups : goal.returns-clause-groups
unfolding proposed_groups
returns-clause-groups c =
    let index = c.args.index.now in
    let items = c.deref-candidate-items.ensures.value ∙ c.in_ok-candidates.ensures ∙ ap (λ (task : PlanningTask). take 4096 (candidates task)) c.task.ensures in
    let whole = take_all c.loop-candidate.candidate-index c.deref-candidate-items.result.now (omega arith) ∙ items in
    c.loop-candidate.invariant.groups ∙ ap (λ (cs : List Candidate). fold with_group [] (filter (is_proposal index) (flat_map (instances index) cs))) whole

pub returns-clause-proposals : goal.returns-clause-proposals
returns-clause-proposals c = All-same (IsProposal c.args.index.now) c.loop-candidate.groups (proposed_groups c.args.index.now) (returns-clause-groups c) (all_proposals c.args.index.now)
