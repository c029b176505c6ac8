use Rattle.abstraction_domain.specs.Rows.{classes_in}
use Rattle.cert_value.specs.Views.{kind_of, columns_of}
use Rattle.cert_writer.proofs.Appends.{written}
use Rattle.cert_writer.proofs.writing.write_cert.Goals as goal

pub returns : goal.returns
returns c =
    let first = rw c.new-out.ensures.items at c.in_ok-push_version.ensures in
    written c.args.certificate.now c.version.result (kind_of c.kind.result.now) (kind_of c.kind-2.result.now) c.bound.result (classes_in c.classes.result.now) (columns_of c.columns.result.now) c.closed.result.now
    c.push_version.new.out.items c.push_kind.new.out.items c.push_bound.new.out.items c.push_parts.new.out.items c.push_class_lines.new.out.items c.push_all_columns.new.out.items c.push_closed.new.out.items c.extend_from_slice.new.self.items
    c.version.ensures c.kind.ensures c.kind-2.ensures c.bound.ensures c.classes.ensures.classes c.columns.ensures c.closed.ensures
    first c.in_ok-push_kind.ensures c.in_ok-push_bound.ensures c.in_ok-push_parts.ensures c.in_ok-push_class_lines.ensures c.in_ok-push_all_columns.ensures c.in_ok-push_closed.ensures c.in_ok-extend_from_slice.ensures.items
