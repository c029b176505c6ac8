use Rattle.std.proofs.Common.{◌≡◌, sym, subst, ◌∙◌}
use Rattle.std.specs.Option.{option_map}
use Rattle.cost.specs.Distances.{Distance, Finite, Infinite}
use Rattle.fdr.specs.Tasks.{EveryPlanCostsAtLeast}
use Rattle.extract.specs.Bounds.{lower_bound}
use Rattle.optplan_search.specs.Findings.{plain, IsCertifiedBy}
use Rattle.optplan_search.proofs.Ends.{infinite_settles, lower_bound_of}
use Rattle.optplan_search.proofs.found.so_far_of.Goals as goal

pub unreachable-requires : goal.unreachable-requires
unreachable-requires g c =
    c.requires Infinite
    (infinite_settles g.S.Spread.owner c.args.joined.now c.recall.ensures.form (sym c.in_ok-bound.ensures ∙ c.in-None.ensures.value))

pub returns-clause-known : goal.returns-clause-known
returns-clause-known g c =
    let e = c.args.joined.now in
    let is : lower_bound g.S.Spread.owner c.args.joined.now ≡ Finite c.in-Some.bound = sym c.in_ok-bound.ensures ∙ c.in-Some.ensures.value in
    record {
      least = subst (EveryPlanCostsAtLeast e.space.task) is
          (lower_bound_of g.S.Spread.owner e c.recall.ensures.space c.recall.ensures.lower c.recall.ensures.lawful c.recall.ensures.form);
      certified =
          subst (λ (bound : Distance). IsCertifiedBy e.space.task (option_map plain c.args.wanted) bound c.in_ok-certificate.certificate) is
          c.in_ok-certificate.ensures.bound;
      best_is = c.in_ok-best.ensures.best;
    }
