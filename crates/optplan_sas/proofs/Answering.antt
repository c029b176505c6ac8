-- From what a search has found to what is answered.
use Rattle.std.proofs.Common.{◌≡◌, ℕ, Bool, true, false, List, Option, refl, subst, ◌∙◌, ap}
use Rattle.std.specs.Option.{option_map}
use Rattle.std.specs.Bool.{then_some}
use Rattle.fdr.specs.Tasks.{FiniteDomainTask, EveryPlanCostsAtLeast, HasNoPlan}
use Rattle.cert_value.specs.Certificates.{Kind, FiniteDomain}
use Rattle.cert_value.specs.Views.{kind_of}
use Rattle.cert_value.specs.declared.certificate.CertificateKind.{CertificateKind}
use Rattle.cert_value.specs.declared.certificate.CertificateKind.TheVariants as certificate_kind
use Rattle.sasfile_reader.specs.SasTexts.{SpellsTask}
use Rattle.packed_spread.specs.Spreads as spread
use Rattle.packed_spread.specs.Spreads.{zobrist_owner}
use Rattle.optplan_search.specs.SearchEnds.{EndsOf}
use Rattle.optplan_search.specs.Findings.{Found, wants, IsFoundFor, IsFinding}
use Rattle.optplan_solver.specs.Answers.{HasPlans, IsGiven}
use Rattle.optplan_solver.proofs.WrittenAnswers.{found_has_plans, written_answer}
use Rattle.cert_text.specs.Spelling.{spelling}
use Rattle.optplan_sas.proofs.Spelled.{accepted}
use Rattle.optplan_sas.specs.SasAnswers.{SasAnswer, IsSasAnswer, IsSasRefusal, IsSasPlan, IsAccepted}
use Rattle.optplan_search.specs.declared.fault.SearchFault.{SearchFault}
use Rattle.optplan_solver.specs.declared.fault.SolveFault.{SolveFault}
use Rattle.optplan_solver.specs.declared.fault.SolveFault.TheVariants.{Texts, Search}
use Rattle.sasfile_reader.specs.declared.fault.SasFault.{SasFault}

-- the kind of certificates for a finite-domain task, if one is wanted
sas_kind_if : (wanted : Bool) → option_map kind_of (then_some wanted certificate_kind.Sas) ≡ then_some wanted FiniteDomain
sas_kind_if true = refl
sas_kind_if false = refl

module _ (wanted certificate : Bool) (kind : Option CertificateKind) (kind_is : kind ≡ then_some certificate certificate_kind.Sas) (certificate_is : certificate ≡ wanted) where
  kind_same : option_map kind_of kind ≡ then_some wanted FiniteDomain
  kind_same = ap (option_map kind_of) kind_is ∙ sas_kind_if certificate ∙ ap (λ (b : Bool). then_some b FiniteDomain) certificate_is

  -- the plans that are found are plans of the task
  pub found_plans : (task : FiniteDomainTask) (ends : EndsOf spread.Zobrist → Type 0) (f : Found) → IsFinding task (option_map kind_of kind) ends f → HasPlans task f
  found_plans task ends f found = found_has_plans task found.at (wants found.classes (option_map kind_of kind)) f found.found

  -- what is found, with its plans written, is the answer
  pub answered : (sas : List ℕ) (task : FiniteDomainTask) (ends : FiniteDomainTask → EndsOf spread.Zobrist → Type 0) (f : Found) (answer : SasAnswer)
      → SpellsTask sas task → IsFinding task (option_map kind_of kind) (ends task) f → IsGiven (IsSasPlan task) f answer → IsSasAnswer wanted sas ends answer
  answered sas task ends f answer spells found given = record {
    task = task;
    spelled = spells;
    at = found.at;
    ended = found.ended;
    is =
        written_answer (IsSasPlan task) (IsSasPlan task) (EveryPlanCostsAtLeast task) (HasNoPlan task) (λ bound text. IsAccepted sas text bound) task FiniteDomain
        (λ p is. is) (λ bound is. is) (λ is. is) (λ classes bound c of. accepted sas task classes bound c (spelling c) spells of refl)
        wanted found.classes found.at f answer
        (subst (λ (k : Option Kind). IsFoundFor task zobrist_owner found.at (wants found.classes k) f) kind_same found.found) given;
  }

-- a refused text is refused, whatever the search
pub text_refused : (sas : List ℕ) (why : FiniteDomainTask → SearchFault → Type 0) (e : SolveFault SasFault) → IsSasRefusal sas (λ task f. ⊥) e → IsSasRefusal sas why e
text_refused sas why (Texts e) is = is
text_refused sas why (Search e) (task, spells, never) = absurd never
