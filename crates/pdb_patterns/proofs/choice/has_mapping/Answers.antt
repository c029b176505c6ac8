use Rattle.std.proofs.Common.{◌≡◌, ◌≢◌, ◌<◌, true, ap, sym, ◌∙◌, subst, map, length, get_or, arith}
use Rattle.std.specs.Prelude.{All}
use Rattle.std.proofs.lemmas.List.{take_all, get_or-map, length-map}
use Rattle.std.proofs.lemmas.List.Folds.{list_any_at}
use Rattle.abstraction_mapping.specs.Mappings.{Mapping}
use Rattle.abstraction_mapping.specs.Views.{mapping_of}
use Rattle.pdb_patterns.proofs.choice.has_mapping.Goals as goal

pub returns-then-is_same-clause-one : goal.returns-then-is_same-clause-one
returns-then-is_same-clause-one c found p passes =
    let i = c.loop-other.other-index in
    let mappings = c.args.mappings.now in
    let m : Mapping = mapping_of c.args.mapping.now in
    let within : i < length (map mapping_of mappings) = omega (arith, c.loop-other-test.true, length-map mappings mapping_of) in
    let here : get_or (map mapping_of mappings) i m ≡ m =
    get_or-map mapping_of mappings i c.other-item.result m c.loop-other-test.true ∙ ap mapping_of (sym c.other-item.is) ∙ c.is_same.ensures.same c.if-is_same.true in
    list_any_at p (map mapping_of mappings) i m within (subst (λ n. p n ≡ true) (sym here) passes)

pub returns-clause-none : goal.returns-clause-none
returns-clause-none c none =
    subst (λ ms. All (λ m. mapping_of m ≢ mapping_of c.args.mapping.now) ms)
    (take_all c.loop-other.other-index c.args.mappings.now (omega (arith, c.loop-other-test.false, c.loop-other.auto.other-index-end))) c.loop-other.invariant
