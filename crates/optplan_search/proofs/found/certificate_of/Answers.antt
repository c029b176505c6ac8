use Rattle.std.proofs.Common.{Option, Some, sym, subst}
use Rattle.std.specs.Option.{option_map}
use Rattle.cert_value.specs.declared.certificate.CertificateKind.{CertificateKind}
use Rattle.extract.specs.Bounds.{lower_bound}
use Rattle.cert.specs.Expanded.{closed_in}
use Rattle.optplan_search.specs.Findings.{plain, IsCertifiedBy}
use Rattle.optplan_search.proofs.Ends.{certified}
use Rattle.optplan_search.proofs.found.certificate_of.Goals as goal

pub returns-in_ok-cert_of-in-Some-clause-bound : goal.returns-in_ok-cert_of-in-Some-clause-bound
returns-in_ok-cert_of-in-Some-clause-bound g c =
    let e = c.args.joined.now in
    let made = c.in_ok-cert_of-in-Some.field-0 in
    let told = c.in_ok-cert_of-in-Some.ensures in
    let bound = lower_bound g.S.Spread.owner e in
    subst (λ (w : Option CertificateKind). IsCertifiedBy e.space.task (option_map plain w) bound (Some made)) (sym c.in-Some.is)
    (certified e.space.task c.in-Some.kind bound made (closed_in e.owners) told.version told.kind told.classes told.closed told.bound told.held told.lawful)

pub returns-in_ok-cert_of-in-Some-clause-settled : goal.returns-in_ok-cert_of-in-Some-clause-settled
returns-in_ok-cert_of-in-Some-clause-settled g c = λ bound settled.
    let e = c.args.joined.now in
    let made = c.in_ok-cert_of-in-Some.field-0 in
    let told = c.in_ok-cert_of-in-Some.ensures in
    subst (λ (w : Option CertificateKind). IsCertifiedBy e.space.task (option_map plain w) bound (Some made)) (sym c.in-Some.is)
    (certified e.space.task c.in-Some.kind bound made (closed_in e.owners) told.version told.kind told.classes told.closed (told.settled bound settled) told.held told.lawful)
