use Rattle.std.proofs.Common.{◌∙◌, sym, ap, subst, Result, Err}
use Rattle.cert_text.specs.declared.fault.CertFault.{CertFault}
use Rattle.cert_text.specs.declared.fault.CertFault.TheVariants as fault
use Rattle.cert_value.specs.Certificates.{CertificateValue}
use Rattle.cert_text.specs.Reading.{Gives, certificate_at, certificate_of}
use Rattle.cert_text.proofs.Promises.{too_long, short_enough, found_from, only_from}
use Rattle.cert_text.proofs.reading.read_cert.Goals as goal

pub returns-then-bytes-gt-MAX_LENGTH : goal.returns-then-bytes-gt-MAX_LENGTH
returns-then-bytes-gt-MAX_LENGTH c =
    let given = too_long c.args.bytes.now c.if-bytes-gt-MAX_LENGTH.true in
    record { found = tt; only = only_from c.args.bytes.now (Err fault.TooLong) given; fault = given }

pub returns : goal.returns
returns c =
    let given : Gives {X = CertificateValue} (λ x. x) c.certificate.result (certificate_of c.args.bytes.now) =
    subst (λ (r : Result CertificateValue CertFault). Gives {X = CertificateValue} (λ x. x) c.certificate.result r) (ap certificate_at c.new.ensures ∙ sym (short_enough c.args.bytes.now c.if-bytes-gt-MAX_LENGTH.false)) c.certificate.ensures in
    record { found = found_from c.args.bytes.now c.certificate.result given; only = only_from c.args.bytes.now c.certificate.result given; fault = given }
