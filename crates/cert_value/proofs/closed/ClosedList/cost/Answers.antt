use Rattle.std.proofs.Common.{◌∙◌, sym, ap, length, List, arith, rules}
use Rattle.std.specs.Prelude.{option_map, slice_get}
use Rattle.std.proofs.lemmas.Option.{slice_get_read}
use Rattle.cert_value.specs.Certificates.{Entry}
use Rattle.cert_value.proofs.KeptLaws.{length_entries, cost_at}
use Rattle.cert_value.proofs.closed.ClosedList.cost.Goals as goal

pub index-requires : goal.index-requires
index-requires c =
    let e = length_entries c.self.inside.width c.self.inside.costs.items c.self.inside.values in
    let v = ap (λ (es : List Entry). length es) c.self.view_is in
    omega arith

pub returns : goal.returns
returns c =
    let e = length_entries c.self.inside.width c.self.inside.costs.items c.self.inside.values in
    let v = ap (λ (es : List Entry). length es) c.self.view_is in
    ap (λ (es : List Entry). option_map (λ (x : Entry). x.cost) (slice_get es c.args.index)) (sym c.self.view_is)
    ∙ cost_at c.self.inside.width c.self.inside.costs.items c.self.inside.values c.args.index
    ∙ slice_get_read c.self.inside.costs.items (length c.self.inside.costs.items) c.args.index c.index.result.now (search rules) (omega arith) c.index.ensures
