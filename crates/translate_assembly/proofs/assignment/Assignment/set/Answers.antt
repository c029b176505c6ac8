use Rattle.std.proofs.Common.{◌≡◌, ◌∙◌, ap, sym, Ok, Err, List, arith}
use Rattle.fdr.specs.declared.fact.Fact.{Fact}
use Rattle.translate_assembly.specs.Facts.{are_from, place_in, set_fact}
use Rattle.translate_assembly.proofs.SetLaws.{set_found, set_absent, set_from, absent_within}
use Rattle.translate_assembly.proofs.assignment.Assignment.set.Goals as goal

pub invariant_of-self : goal.invariant_of-self
invariant_of-self c =
    let items = c.self.inside.facts.items in
    let at : place_in items c.args.fact.variable ≡ Ok c.in-Ok.place =
    ap (λ (l : List Fact). place_in l c.args.fact.variable) c.self.view_is ∙ sym c.search.ensures.place ∙ c.in-Ok.is in
    ap (are_from 0) (set_found items c.args.fact c.in-Ok.place at) ∙ set_from 0 items c.args.fact c.self.invariant (omega arith)

pub insert-requires : goal.insert-requires
insert-requires c =
    let items = c.self.inside.facts.items in
    let at : place_in items c.args.fact.variable ≡ Err c.in-Err.place =
    ap (λ (l : List Fact). place_in l c.args.fact.variable) c.self.view_is ∙ sym c.search.ensures.place ∙ c.in-Err.is in
    let within = absent_within items c.args.fact.variable c.in-Err.place at in
    omega (arith, within, c.self.inside.facts.ok.0)

pub invariant_of-self-in-Continue-1 : goal.invariant_of-self-in-Continue-1
invariant_of-self-in-Continue-1 c =
    let items = c.self.inside.facts.items in
    let at : place_in items c.args.fact.variable ≡ Err c.in-Err.place =
    ap (λ (l : List Fact). place_in l c.args.fact.variable) c.self.view_is ∙ sym c.search.ensures.place ∙ c.in-Err.is in
    ap (are_from 0) (c.in_ok-insert-in-Err.ensures.items ∙ set_absent items c.args.fact c.in-Err.place at)
    ∙ set_from 0 items c.args.fact c.self.invariant (omega arith)

pub returns-in-Ok : goal.returns-in-Ok
returns-in-Ok c =
    let items = c.self.inside.facts.items in
    let at : place_in items c.args.fact.variable ≡ Ok c.in-Ok.place =
    ap (λ (l : List Fact). place_in l c.args.fact.variable) c.self.view_is ∙ sym c.search.ensures.place ∙ c.in-Ok.is in
    set_found items c.args.fact c.in-Ok.place at ∙ ap (λ (l : List Fact). set_fact l c.args.fact) c.self.view_is

pub returns-in_ok-insert-in-Err : goal.returns-in_ok-insert-in-Err
returns-in_ok-insert-in-Err c =
    let items = c.self.inside.facts.items in
    let at : place_in items c.args.fact.variable ≡ Err c.in-Err.place =
    ap (λ (l : List Fact). place_in l c.args.fact.variable) c.self.view_is ∙ sym c.search.ensures.place ∙ c.in-Err.is in
    c.in_ok-insert-in-Err.ensures.items ∙ set_absent items c.args.fact c.in-Err.place at ∙ ap (λ (l : List Fact). set_fact l c.args.fact) c.self.view_is
