use Rattle.std.proofs.Common.{◌++◌, ◌∷◌, ap, ◌∙◌, sym, ◌+◌, take, append_assoc, List, ℕ}
use Rattle.cost.specs.Distances.{Distance, distance_text}
use Rattle.cert_writer.proofs.Appends.{one_more, flat_map-map}
use Rattle.cert_writer.proofs.writing.push_values.Goals as goal

pub loop-state-preserved : goal.loop-state-preserved
loop-state-preserved c =
    let f = λ (d : Distance). 32 ∷ distance_text d in
    let vs = c.args.values.now in let i = c.loop-state.state in
    let so_far = c.loop-state.invariant ∙ ap (λ (xs : List ℕ). c.args.out.now.items ++ xs) (flat_map-map (λ (q : List ℕ). 32 ∷ q) distance_text (take i vs)) in
    let new = c.in_ok-push_distance.ensures ∙ ap (λ (xs : List ℕ). xs ++ distance_text c.get.result) c.in_ok-push.ensures.items ∙ append_assoc c.loop-state.out.items _ (distance_text c.get.result) in
    one_more f vs i c.get.result c.args.out.now.items c.loop-state.out.items c.push_distance.new.out.items c.get.ensures so_far new
    ∙ ap (λ (xs : List ℕ). c.args.out.now.items ++ xs) (sym (flat_map-map (λ (q : List ℕ). 32 ∷ q) distance_text (take (i + 1) vs)))
