use Rattle.std.proofs.Common.{◌≡◌, ◌∙◌, [], length, ap, sym, subst}
use Rattle.std.specs.List.Sorted.{IsPermutation}
use Rattle.fdr.specs.Tasks.{FiniteDomainTask}
use Rattle.cert_value.specs.declared.certificate.Version.TheVariants.{Two}
use Rattle.cert_value.specs.Certificates.{CertificateValue}
use Rattle.cert_value.specs.Views.{kind_of}
use Rattle.extract.specs.Bounds.{lower_bound}
use Rattle.cert.specs.Expanded.{closed_in}
use Rattle.cert.proofs.Searches.{widths, IsMade, made_rising, made_held, made_lawful, made_settled}
use Rattle.cert.proofs.making.cert_of.Goals as goal

pub expanded_states-requires : goal.expanded_states-requires
expanded_states-requires g c =
    rw c.owners.ensures
    (widths g.S.Spread.owner c.args.joined.now c.recall.ensures.form c.space-space.result.now c.space-space.ensures c.variable_count-width.result
    (c.variable_count-width.ensures ∙ ap (λ (t : FiniteDomainTask). length t.value_names) c.task-2.ensures))

pub returns : goal.returns
returns g c =
    let end = c.args.joined.now in
    let kind = kind_of c.args.kind in
    let closed = c.in_ok-closed.closed in
    let owner = g.S.Spread.owner in
    let ok = c.recall.ensures.space in
    let ends = c.recall.ensures.lawful in
    let form = c.recall.ensures.form in
    let is : c.new.result ≡ record { version = Two; kind = kind_of c.args.kind; bound = lower_bound g.S.Spread.owner c.args.joined.now; classes = []; columns = c.args.joined.now.space.columns; closed = c.in_ok-closed.closed } =
    rw (c.in_ok-bound.ensures, c.in_ok-columns.ensures, c.tables.ensures, c.columns-2.ensures, c.space-space.ensures) at c.new.ensures in
    let moved : IsPermutation (closed_in c.args.joined.now.owners) c.in_ok-closed.closed =
    rw (c.deref.ensures.value, c.deref-2.ensures.value, c.in_ok-states.ensures.states, c.owners.ensures) at c.in_ok-closed.ensures.permutation in
    let made : IsMade g.S.Spread.owner c.args.joined.now c.recall.ensures.space c.recall.ensures.lawful (kind_of c.args.kind) c.in_ok-closed.closed c.new.result =
    record { is = is; moved = moved; order = c.in_ok-closed.ensures.order } in
    let divided = rw (c.columns.ensures, c.space-space.ensures) at c.recall-3.ensures.partitioned in
    let limits = rw (c.task.ensures, c.space-space.ensures) at c.recall-2.ensures.limits in
    let cheap = rw c.owners.ensures at c.in_ok-states.ensures.cheap in
    record {
      version = ap (λ (v : CertificateValue). v.version) is;
      kind = ap (λ (v : CertificateValue). v.kind) is;
      classes = ap (λ (v : CertificateValue). v.classes) is;
      columns = ap (λ (v : CertificateValue). v.columns) is;
      closed = subst (λ (v : CertificateValue). IsPermutation (closed_in c.args.joined.now.owners) v.closed) (sym is) moved;
      rising = made_rising owner end ok ends kind closed c.new.result made;
      bound = ap (λ (v : CertificateValue). v.bound) is;
      held = made_held owner end ok ends kind closed c.new.result made form divided;
      lawful = made_lawful owner end ok ends kind closed c.new.result made form divided limits cheap;
      settled = made_settled owner end ok ends kind closed c.new.result made form divided cheap;
    }
