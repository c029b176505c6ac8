-- What is found for the task that was searched is found for it.
use Rattle.std.proofs.Common.{◌≡◌, [], Option, Some, None, refl, subst}
use Rattle.std.specs.Option.{option_map}
use Rattle.fdr.specs.Tasks.{FiniteDomainTask}
use Rattle.cert_value.specs.declared.certificate.CertificateKind.{CertificateKind}
use Rattle.cert_value.specs.Views.{kind_of}
use Rattle.packed_spread.specs.Spreads as spread
use Rattle.packed_spread.specs.Spreads.{zobrist_owner}
use Rattle.optplan_search.specs.SearchEnds.{EndsOf}
use Rattle.optplan_search.specs.Findings.{Found, Wanted, plain, wants, IsFoundFor, IsOwnFinding, IsFinding}

-- a certificate without classes
pub plainly : (kind : Option CertificateKind) → option_map plain kind ≡ wants [] (option_map kind_of kind)
plainly None = refl
plainly (Some kind) = refl

pub own_is_finding : (task : FiniteDomainTask) (kind : Option CertificateKind) (ends : EndsOf spread.Zobrist → Type 0) (f : Found)
    → IsOwnFinding task (option_map plain kind) ends f → IsFinding task (option_map kind_of kind) ends f
own_is_finding task kind ends f own = record {
  at = own.at;
  ended = own.ended;
  classes = [];
  found =
      subst (λ (w : Option Wanted). IsFoundFor task zobrist_owner own.at w f) (plainly kind)
      (subst (λ (t : FiniteDomainTask). IsFoundFor t zobrist_owner own.at (option_map plain kind) f) own.task_is own.found);
}
