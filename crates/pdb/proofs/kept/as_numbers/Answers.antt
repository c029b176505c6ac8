use Rattle.std.proofs.Common.{◌<◌, ◌∷◌, ◌++◌, [], List, map, take, length, sym, ap, ◌∙◌, arith}
use Rattle.std.proofs.lemmas.List.{map-append, take_more}
use Rattle.std.proofs.lemmas.Option.{get_or_from_slice_get}
use Rattle.cost.specs.Distances.{Distance, Infinite}
use Rattle.cert_value.specs.Kept.{kept_distance}
use Rattle.pdb.proofs.kept.as_numbers.Goals as goal

pub loop-state-preserved : goal.loop-state-preserved
loop-state-preserved c =
    let all : List Distance = c.args.distances.now in
    let k = c.loop-state.state in
    let n = c.number_of.result in
    let inside : k < length all = omega (arith, c.len-state-end.ensures, c.loop-state-test.true) in
    ap (map kept_distance) c.in_ok-push.ensures.items
    ∙ map-append kept_distance c.loop-state.numbers.items (n ∷ [])
    ∙ ap (λ (ds : List Distance). ds ++ kept_distance n ∷ []) c.loop-state.invariant
    ∙ ap (λ (d : Distance). take k all ++ d ∷ []) (c.number_of.ensures ∙ sym (get_or_from_slice_get all k c.get.result Infinite c.get.ensures))
    ∙ sym (take_more all k Infinite inside)
