use Rattle.std.proofs.Common.{◌≡◌, ◌∙◌, ap, sym, Ok, Err, Some, None, eqb, Option, ℕ, List, false}
use Rattle.std.specs.Option.{option_map_or}
use Rattle.fdr.specs.declared.fact.Fact.{Fact}
use Rattle.translate_assembly.specs.Facts.{place_in, value_at}
use Rattle.translate_assembly.proofs.SetLaws.{value_found, value_absent}
use Rattle.translate_assembly.proofs.assignment.Assignment.holds.Goals as goal

pub returns-in-Ok : goal.returns-in-Ok
returns-in-Ok c =
    let items = c.self.inside.facts.items in
    let k = c.args.fact.variable in
    let at : place_in items k ≡ Ok c.in-Ok.place = ap (λ (l : List Fact). place_in l k) c.self.view_is ∙ sym c.search.ensures.place ∙ c.in-Ok.is in
    let is : value_at items k ≡ Some c.index.result.now.value =
    value_found items k c.in-Ok.place c.index.result.now at ∙ ap (λ (f : Fact). Some f.value) (sym c.index.ensures) in
    sym (ap (λ (l : List Fact). option_map_or (λ x. eqb c.args.fact.value x) (value_at l k) false) (sym c.self.view_is)
    ∙ ap (λ (o : Option ℕ). option_map_or (λ x. eqb c.args.fact.value x) o false) is)

pub returns-in-Err : goal.returns-in-Err
returns-in-Err c =
    let items = c.self.inside.facts.items in
    let k = c.args.fact.variable in
    let at : place_in items k ≡ Err c.in-Err.field-0 = ap (λ (l : List Fact). place_in l k) c.self.view_is ∙ sym c.search.ensures.place ∙ c.in-Err.is in
    let is : value_at items k ≡ None = value_absent 0 items k c.in-Err.field-0 c.self.invariant at in
    sym (ap (λ (l : List Fact). option_map_or (λ x. eqb c.args.fact.value x) (value_at l k) false) (sym c.self.view_is)
    ∙ ap (λ (o : Option ℕ). option_map_or (λ x. eqb c.args.fact.value x) o false) is)
