-- Projections and domain abstractions are factored.
use Rattle.std.proofs.Common.{◌≡◌, ℕ, List, [], ◌∷◌, map, get_or, Option, Some, None, refl, sym, ap, ◌∙◌, arith}
use Rattle.std.specs.Prelude.{slice_get, option_and_then}
use Rattle.fdr.specs.declared.fact.Fact.{Fact}
use Rattle.fdr.specs.Tasks.{Operator, ranges}
use Rattle.abstraction.specs.Projections.{Projection, projection, transition_of}
use Rattle.abstraction_domain.specs.Domains.{Domain, domain, variables, counts_in, class_of}
use Rattle.abstraction_domain.specs.DomainLaws.{class_assignment, class_is_state, length-class_counts, variables_exist}
use Rattle.abstraction_groups.specs.Factors.{Factors, IsFactored, class_fact, class_operator}

-- each value of a variable is its own class
abbrev pub projection_factors : Projection → Factors
projection_factors p = record { variables = p.pattern; counts = ranges p.task; class = λ v x. x }

abbrev pub domain_factors : Domain → Factors
domain_factors d = record { variables = variables d.rows; counts = counts_in d; class = class_of d.rows }

facts_same : (p : Projection) (fs : List Fact) → map (class_fact (projection_factors p)) fs ≡ fs
facts_same p [] = refl
facts_same p (f ∷ fs) = ap (λ (gs : List Fact). f ∷ gs) (facts_same p fs)

pub operator_same : (p : Projection) (op : Operator) → class_operator (projection_factors p) op ≡ op
operator_same p op =
    ap (λ (fs : List Fact). record op { precondition = fs; effect = map (class_fact (projection_factors p)) op.effect }) (facts_same p op.precondition)
    ∙ ap (λ (fs : List Fact). record op { effect = fs }) (facts_same p op.effect)

pub projection_factored : (p : Projection) → IsFactored p.task (projection p.task p.pattern) (projection_factors p)
projection_factored p =
    record {
      size = refl;
      small = p.small;
      increasing = p.increasing;
      exist = p.exist;
      positive = λ k d l. let below = p.is_task.initial.in_range (get_or p.pattern k d) (p.exist k d l) in omega arith;
      operators = λ k d l. rw (operator_same p (get_or p.task.operators k d)) (p.is_task.operators k d l);
      well = p.is_task;
      transition = λ i o. same i (slice_get p.task.operators o);
    }
  where
    same : (i : ℕ) (r : Option Operator) → option_and_then (transition_of (ranges p.task) p.pattern i) r ≡ option_and_then (λ op. transition_of (ranges p.task) p.pattern i (class_operator (projection_factors p) op)) r
    same i None = refl
    same i (Some op) = ap (transition_of (ranges p.task) p.pattern i) (sym (operator_same p op))

pub domain_factored : (d : Domain) → IsFactored d.task (domain d.task d.rows) (domain_factors d)
domain_factored d =
    record {
      size = refl;
      small = d.small;
      increasing = d.increasing;
      exist = λ k e l. rw (← length-class_counts (ranges d.task) d.rows) (variables_exist d.task d.rows d.is_task d.fit k e l);
      positive = λ k e l.
          let state = class_is_state (ranges d.task) d.rows d.fit d.task.initial d.is_task.initial in
          let below = state.in_range (get_or (variables d.rows) k e) (variables_exist d.task d.rows d.is_task d.fit k e l) in
          omega arith;
      operators = λ k e l.
          let is = d.is_task.operators k e l in
          record {
            precondition = class_assignment (ranges d.task) d.rows d.fit (get_or d.task.operators k e).precondition is.precondition;
            effect = class_assignment (ranges d.task) d.rows d.fit (get_or d.task.operators k e).effect is.effect;
          };
      well = d.is_task;
      transition = λ i o. refl;
    }
