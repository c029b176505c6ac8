use Rattle.std.proofs.Common.{◌≡◌, ◌∙◌, ◌+◌, ◌*◌, ◌≤◌, sym, ap, subst, length, List, ℕ, arith, ne_eqb}
use Rattle.std.specs.Prelude.{slice_get, false, nat_eq}
use Rattle.std.specs.Option.{option_map_or}
use Rattle.std.specs.Cmp.Lexicographic.{pointwise}
use Rattle.cert_value.specs.Certificates.{Entry}
use Rattle.cert_value.proofs.KeptLaws.{length_entries, state_within, has_at, has_not_at}
use Rattle.cert_value.proofs.closed.ClosedList.has_state.Goals as goal

pub is_at-requires : goal.is_at-requires
is_at-requires c =
    let f = c.self.inside in
    let e = length_entries f.width f.costs.items f.values in
    let v = ap (λ (es : List Entry). length es) c.self.view_is in
    let wide : f.width ≡ length c.args.state.now = c.if-self-state.true in
    subst (λ (w : ℕ). c.args.index * w + w ≤ length f.values) wide (state_within f.width (length f.costs.items) (length f.values) c.args.index c.self.invariant (omega arith))

pub returns-then-self-state : goal.returns-then-self-state
returns-then-self-state c =
    let f = c.self.inside in
    let e = length_entries f.width f.costs.items f.values in
    let v = ap (λ (es : List Entry). length es) c.self.view_is in
    let wide : f.width ≡ length c.args.state.now = c.if-self-state.true in
    c.is_at.ensures
    ∙ sym (has_at f.width f.costs.items f.values c.args.index (omega arith) c.args.state.now wide)
    ∙ ap (λ (es : List Entry). option_map_or (λ (x : Entry). pointwise nat_eq x.state c.args.state.now) (slice_get es c.args.index) false) c.self.view_is

pub returns-else-self-state : goal.returns-else-self-state
returns-else-self-state c =
    let f = c.self.inside in
    let e = length_entries f.width f.costs.items f.values in
    let v = ap (λ (es : List Entry). length es) c.self.view_is in
    ne_eqb f.width (length c.args.state.now) c.if-self-state.false
    ∙ sym (has_not_at f.width f.costs.items f.values c.args.index c.self.invariant (omega arith) c.args.state.now c.if-self-state.false)
    ∙ ap (λ (es : List Entry). option_map_or (λ (x : Entry). pointwise nat_eq x.state c.args.state.now) (slice_get es c.args.index) false) c.self.view_is
