use Rattle.std.proofs.Common.{ℕ, sym, subst}
use Rattle.std.specs.Option.{option_map}
use Rattle.cost.specs.Distances.{Finite}
use Rattle.fdr.specs.Tasks.{EveryPlanCostsAtLeast}
use Rattle.cert_value.specs.Views.{kind_of}
use Rattle.optplan_search.specs.Findings.{wants, IsCertifiedBy}
use Rattle.optplan_solver.specs.Reduced.{stated_classes}
use Rattle.optplan_solver.proofs.reducing.solution_for_task.Goals as goal

pub returns-clause-solution : goal.returns-clause-solution
returns-clause-solution c = λ wanted is.
    let task = c.args.task.now in
    let before = c.args.solution.found.cost in
    let cost = sym c.in_ok-found.ensures.cost in
    let plan = c.in_ok-found.ensures.plan in
    record {
      cheapest = record {
        leads = plan.leads;
        costs = plan.costs;
        least =
            subst (λ (n : ℕ). EveryPlanCostsAtLeast task (Finite n)) cost
            ((c.requires.reduction.exact.bounds (Finite before)).0 is.cheapest.least);
      };
      certified =
          subst
          (λ (n : ℕ). IsCertifiedBy task (wants (stated_classes c.args.reduction.now.classes) (option_map kind_of wanted)) (Finite n) c.in_ok-certificate.certificate)
          cost (c.in_ok-certificate.ensures wanted (Finite before) is.certified);
    }
