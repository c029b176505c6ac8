use Rattle.std.proofs.Common.{◌≡◌, ℕ, drop, ap, ◌∙◌, arith}
use Rattle.std.specs.Prelude.{None}
use Rattle.std.proofs.lemmas.List.FromFn.{fill_by_all}
use Rattle.pddl_domain.specs.Types.{first_of_name}
use Rattle.pddl_domain.proofs.types.first_declarations.Goals as goal

pub returns : goal.returns
returns c =
    let ds = c.args.subtypes.now in
    fill_by_all (first_of_name ds) c.loop-index.firsts.items c.args.count None c.loop-index.invariant.count
    (λ k lt. c.loop-index.invariant.firsts k lt ∙ ap (λ (i : ℕ). first_of_name (drop i ds) k) (let e : c.loop-index.index ≡ 0 = omega (arith, c.loop-index-test.false) in e))
