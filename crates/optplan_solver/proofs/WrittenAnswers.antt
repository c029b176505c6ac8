-- From what a search has found to the answer with written plans.
use Rattle.std.proofs.Common.{ℕ, ◌<◌, ◌≤◌, ◌^◌, Bool, true, false, List, [], ◌∷◌, ◌++◌, length, Option, Some, None, IfSome, sym, subst, arith}
use Rattle.std.specs.Prelude.{codes}
use Rattle.std.specs.Bool.{then_some}
use Rattle.std.proofs.lemmas.List.{length-append, length-map}
use Rattle.cost.specs.Distances.{Distance, Finite, Infinite}
use Rattle.fdr.specs.Tasks.{FiniteDomainTask, EveryPlanCostsAtLeast, HasNoPlan}
use Rattle.cert_value.specs.Certificates.{Kind, CertificateValue}
use Rattle.cert_text.specs.Spelling.{spelling, text_of, line_text, lines, kind_lines, classes_lines, columns_lines, closed_lines, entry_line}
use Rattle.packed_spread.specs.Spreads as spread
use Rattle.packed_spread.specs.Spreads.{zobrist_owner}
use Rattle.optplan_search.specs.SearchEnds.{EndsOf, least_best_of}
use Rattle.optplan_search.specs.Findings.{Found, Wanted, wanted_with, wants, IsPlanAt, IsBestSoFar, IsCertificateOf, IsCertifiedBy, IsSettledEnd, IsShortEnd, IsFoundFor}
use Rattle.optplan_solver.specs.Answers.{HasPlans, IsGivenBest, IsGiven, IsTextIf, IsBestWritten, IsWrittenAnswer}
use Rattle.optplan_search.specs.declared.found.FoundPlan.{FoundPlan}
use Rattle.optplan_solver.specs.declared.forms.WrittenPlan.{WrittenPlan}
use Rattle.optplan_search.specs.declared.answer.Answer.{Answer}
use Rattle.optplan_search.specs.declared.answer.Answer.TheVariants.{Solved, Unsolvable, Limit}

-- ---- what is found has plans of the task

best_has_plans : (task : FiniteDomainTask) (most : Distance) (best : Option FoundPlan) → IsBestSoFar task most best → IfSome best (λ p. IsPlanAt task p.plan.items p.cost)
best_has_plans task Infinite None is = tt
best_has_plans task Infinite (Some p) is = absurd is
best_has_plans task (Finite most) None is = absurd is
best_has_plans task (Finite most) (Some p) is = is.0

pub found_has_plans : (task : FiniteDomainTask) (es : EndsOf spread.Zobrist) (wanted : Option Wanted) (f : Found) → IsFoundFor task zobrist_owner es wanted f → HasPlans task f
found_has_plans task es wanted (Solved s) is = record { leads = is.0.cheapest.leads; costs = is.0.cheapest.costs }
found_has_plans task es wanted (Unsolvable c) is = tt
found_has_plans task es wanted (Limit s) is = best_has_plans task (least_best_of es) s.best is.0.best_is

-- ---- the length of a certificate's text

line_has_byte : (words : List (List ℕ)) → 1 ≤ length (line_text words)
line_has_byte words = let e = length-append (Rattle.cert_text.specs.Pieces.joined 32 words) (10 ∷ []) in omega (arith, e)

-- a text is no shorter than the number of its lines
as_long_as_lines : (ls : List (List (List ℕ))) → length ls ≤ length (text_of ls)
as_long_as_lines [] = omega arith
as_long_as_lines (l ∷ ls) = let e = length-append (line_text l) (text_of ls) in let one = line_has_byte l in let rest = as_long_as_lines ls in omega (arith, e, one, rest)

pub few_entries : (c : CertificateValue) → length (spelling c) ≤ 2 ^ 30 → length c.closed < 2 ^ 32
few_entries c le =
    let all = as_long_as_lines (lines c) in
    let a = length-append (kind_lines c.kind ++ classes_lines c.classes ++ columns_lines c.columns ++ closed_lines c.closed) ((codes "end" ∷ []) ∷ []) in
    let b = length-append (kind_lines c.kind ++ classes_lines c.classes ++ columns_lines c.columns) (closed_lines c.closed) in
    let e = length-map c.closed entry_line in
    omega (arith, all, a, b, e, le)

-- ---- the answer

-- where what is true of the searched task is true in the sense of the answer
module _ {P : Type 0} (is_given is_plan : WrittenPlan P → Type 0) (least : Distance → Type 0) (none : Type 0) (accepts : Distance → List ℕ → Type 0)
    (task : FiniteDomainTask) (kind : Kind)
    (plan_from : (p : WrittenPlan P) → is_given p → is_plan p)
    (least_from : (bound : Distance) → EveryPlanCostsAtLeast task bound → least bound)
    (none_from : HasNoPlan task → none)
    (accepted_from : (classes : List (List ℕ)) (bound : Distance) (c : CertificateValue) → IsCertificateOf task (wanted_with classes kind) bound c → accepts bound (spelling c)) where
  text_if : (wanted : Bool) (classes : List (List ℕ)) (bound : Distance) (c : Option CertificateValue)
      → IsCertifiedBy task (wants classes (then_some wanted kind)) bound c → IsTextIf wanted (accepts bound) c
  text_if false classes bound c is = is
  text_if true classes bound None is = absurd is
  text_if true classes bound (Some c) is = accepted_from classes bound c is

  best_from : (most : Distance) (best : Option FoundPlan) (given : Option (WrittenPlan P)) → IsBestSoFar task most best → IsGivenBest is_given best given → IsBestWritten is_plan most given
  best_from Infinite None None is same = tt
  best_from Infinite None (Some q) is same = absurd same
  best_from Infinite (Some p) q is same = absurd is
  best_from (Finite most) None q is same = absurd is
  best_from (Finite most) (Some p) None is same = absurd same
  best_from (Finite most) (Some p) (Some q) is same = (plan_from q same.0, subst (λ (n : ℕ). n ≤ most) (sym same.1) is.1)

  pub written_answer : (wanted : Bool) (classes : List (List ℕ)) (es : EndsOf spread.Zobrist) (f : Found) (answer : Answer (WrittenPlan P))
      → IsFoundFor task zobrist_owner es (wants classes (then_some wanted kind)) f → IsGiven is_given f answer
      → IsWrittenAnswer is_plan least none accepts wanted es answer
  written_answer wanted classes es (Solved s) (Solved t) is same = (
    record {
      found = plan_from t.found same.0;
      least = subst (λ (n : ℕ). least (Finite n)) (sym same.1) (least_from (Finite s.found.cost) is.0.cheapest.least);
      accepted =
          subst (λ (n : ℕ). IsTextIf wanted (accepts (Finite n)) t.certificate) (sym same.1)
          (subst (IsTextIf wanted (accepts (Finite s.found.cost))) (sym same.2) (text_if wanted classes (Finite s.found.cost) s.certificate is.0.certified));
    },
    subst (λ (n : ℕ). IsSettledEnd zobrist_owner es.last (Finite n)) (sym same.1) is.1,
  )
  written_answer wanted classes es (Solved s) (Unsolvable d) is same = absurd same
  written_answer wanted classes es (Solved s) (Limit t) is same = absurd same
  written_answer wanted classes es (Unsolvable c) (Solved t) is same = absurd same
  written_answer wanted classes es (Unsolvable c) (Unsolvable d) is same =
      (none_from is.0, subst (IsTextIf wanted (accepts Infinite)) (sym same) (text_if wanted classes Infinite c is.1), is.2)
  written_answer wanted classes es (Unsolvable c) (Limit t) is same = absurd same
  written_answer wanted classes es (Limit s) (Solved t) is same = absurd same
  written_answer wanted classes es (Limit s) (Unsolvable d) is same = absurd same
  written_answer wanted classes es (Limit s) (Limit t) is same = (
    record {
      least = subst (λ (n : ℕ). least (Finite n)) (sym same.0) (least_from (Finite s.bound) is.0.least);
      best = best_from (least_best_of es) s.best t.best is.0.best_is same.2;
      accepted =
          subst (λ (n : ℕ). IsTextIf wanted (accepts (Finite n)) t.certificate) (sym same.0)
          (subst (IsTextIf wanted (accepts (Finite s.bound))) (sym same.1) (text_if wanted classes (Finite s.bound) s.certificate is.0.certified));
    },
    subst (λ (n : ℕ). IsShortEnd zobrist_owner es n) (sym same.0) is.1,
  )
