use Rattle.std.proofs.Common.{◌≡◌, ◌<◌, ◌++◌, ◌∷◌, [], List, length, take, get_or, refl, ap, ◌∙◌, sym, arith}
use Rattle.std.proofs.lemmas.List.{take_more}
use Rattle.cost.specs.Distances.{Distance}
use Rattle.scp_columns.proofs.EarlierTables.{found_at}
use Rattle.scp_columns.proofs.table.copied_values.Goals as goal

pub loop-state-preserved : goal.loop-state-preserved
loop-state-preserved c =
    let values = c.args.values.now in
    let state = c.loop-state.state in
    let within : state < length values = omega (arith, c.loop-state-test.true, c.len-state-end.ensures) in
    let here : get_or values state c.get.result ≡ c.get.result = found_at (λ (d : Distance). d ≡ c.get.result) values state c.get.result (rw c.get.ensures refl) in
    c.in_ok-push.ensures.ok ∙ ap (λ (ds : List Distance). ds ++ c.get.result ∷ []) c.loop-state.invariant
    ∙ sym (take_more values state c.get.result within ∙ ap (λ (d : Distance). take state values ++ d ∷ []) here)
