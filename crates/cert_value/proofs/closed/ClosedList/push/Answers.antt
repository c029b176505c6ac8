use Rattle.std.proofs.Common.{◌≡◌, ◌∙◌, ◌++◌, ◌∷◌, [], List, length, sym, ap, subst, refl}
use Rattle.std.specs.List.{AllByRecursion}
use Rattle.cert_value.specs.Certificates.{Entry}
use Rattle.cert_value.proofs.KeptLaws.{as_wide, entries_push, length_push}
use Rattle.cert_value.proofs.closed.ClosedList.push.Goals as goal

pub invariant_of-self-in-Ok : goal.invariant_of-self-in-Ok
invariant_of-self-in-Ok c =
    let f = c.self.inside in let s = c.args.state.now in
    let wide = as_wide f.width (length s) f.costs.items f.values c.self.invariant (subst (AllByRecursion (λ (e : Entry). length e.state ≡ length s)) (sym c.self.view_is) c.requires) in
    rw (c.in-Ok.ensures.items, c.in_ok-extend.ensures.ok) (length_push (length s) f.costs.items f.values s c.args.cost wide.0 refl)

pub returns-in-Ok-clause-ok : goal.returns-in-Ok-clause-ok
returns-in-Ok-clause-ok c =
    let f = c.self.inside in let s = c.args.state.now in
    let wide = as_wide f.width (length s) f.costs.items f.values c.self.invariant (subst (AllByRecursion (λ (e : Entry). length e.state ≡ length s)) (sym c.self.view_is) c.requires) in
    rw (c.in-Ok.ensures.items, c.in_ok-extend.ensures.ok)
    (entries_push (length s) f.costs.items f.values s c.args.cost wide.0 refl ∙ ap (λ (es : List Entry). es ++ record { cost = c.args.cost; state = s } ∷ []) (sym wide.1 ∙ c.self.view_is))
