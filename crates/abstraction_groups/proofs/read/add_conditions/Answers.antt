use Rattle.std.proofs.Common.{◌≡◌, ℕ, ◌+◌, List, [], ◌∷◌, ◌++◌, take, get_or, set, sym, ap, ◌∙◌, arith}
use Rattle.std.proofs.lemmas.List.{take_more}
use Rattle.fdr.specs.declared.fact.Fact.{Fact}
use Rattle.abstraction_groups.specs.declared.change.Change.{Change}
use Rattle.abstraction_groups.specs.declared.change.Change.TheVariants.{Kept}
use Rattle.abstraction_groups.specs.Changes.{with_condition}
use Rattle.abstraction_groups.specs.Factors.{changes_by}
use Rattle.abstraction_groups.proofs.ReadLaws.{condition_more, condition_absent}
use Rattle.abstraction_groups.proofs.read.add_conditions.Goals as goal
use Rattle.abstraction_groups.proofs.read.add_conditions.Goals.{in-Some, in_default}

pub loop-fact-preserved : goal.loop-fact-preserved
loop-fact-preserved g c =
    let f = g.A.FactoredAbstraction.factors c.args.abstraction.now in
    let law = g.met.A.FactoredAbstraction.factored c.args.abstraction.now in
    let i = c.loop-fact.fact-index in
    let facts : List Fact = c.args.facts.now in
    let x : Fact = get_or facts i (record { variable = 0; value = 0 }) in
    let next : take (i + 1) facts ≡ take i facts ++ x ∷ [] = take_more facts i (record { variable = 0; value = 0 }) (omega arith) in
    let named = c.variables-variables.ensures in
    let last = ap (λ (fs : List Fact). changes_by f fs []) (sym next) in
    elim c.match-place_of.branch [
      | in-Some w ↦
          let place = w.in-Some.place in
          let found = rw named at w.in-Some.ensures.found in
          let class = w.class_of-class.ensures ∙ ap (λ (v : ℕ). f.class v x.value) found.1 in
          w.changes-is ∙ ap (set c.loop-fact.changes place) w.with_condition.ensures
          ∙ ap (λ (xs : List Change). set xs place (with_condition (get_or xs place Kept) w.class_of-class.result)) c.loop-fact.invariant
          ∙ condition_more f law.increasing (take i facts) x place w.class_of-class.result found.0 found.1 class Kept ∙ last
      | in_default w ↦ w.changes-is ∙ c.loop-fact.invariant ∙ condition_absent f (take i facts) x (rw named at w.in_default.ensures.absent) ∙ last
    ]
