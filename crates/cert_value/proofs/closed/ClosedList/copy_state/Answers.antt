use Rattle.std.proofs.Common.{◌∙◌, ◌+◌, ◌*◌, ◌≤◌, sym, ap, subst, refl, length, List, ℕ}
use Rattle.std.specs.Prelude.{option_map, slice_get}
use Rattle.cert_value.specs.Certificates.{Entry}
use Rattle.cert_value.proofs.KeptLaws.{state_within, state_at, wide_given}
use Rattle.cert_value.proofs.closed.ClosedList.copy_state.Goals as goal

pub copy-requires : goal.copy-requires
copy-requires c =
    let f = c.self.inside in
    let wide = wide_given f.width (length c.args.into.now) f.costs.items f.values c.args.index c.self.invariant (rw (← c.self.view_is) at c.requires) in
    subst (λ (w : ℕ). c.args.index * w + w ≤ length f.values) wide.1 (state_within f.width (length f.costs.items) (length f.values) c.args.index c.self.invariant wide.0)

pub returns-clause-state : goal.returns-clause-state
returns-clause-state c =
    let f = c.self.inside in
    let wide = wide_given f.width (length c.args.into.now) f.costs.items f.values c.args.index c.self.invariant (rw (← c.self.view_is) at c.requires) in
    ap (λ (es : List Entry). option_map (λ (x : Entry). x.state) (slice_get es c.args.index)) (sym c.self.view_is)
    ∙ state_at f.width f.costs.items f.values c.args.index wide.0
    ∙ rw (wide.1, c.copy.ensures.copied) refl
