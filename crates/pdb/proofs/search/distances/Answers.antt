use Rattle.std.proofs.Common.{◌≡◌, ◌∙◌, ◌^◌, map, subst, sym, ap, slice_index}
use Rattle.std.proofs.lemmas.Result.{IfOk-weaker}
use Rattle.std.specs.Prelude.{All}
use Rattle.cost.specs.Distances.{IsWithin}
use Rattle.cert_value.specs.Kept.{kept_distance}
use Rattle.pdb_walks.specs.Walks.{AreDistances}
use Rattle.pdb.proofs.search.distances.Goals as goal

pub returns-clause-distances : goal.returns-clause-distances
returns-clause-distances g c =
    let a = g.A.Abstraction.abstraction c.args.abstraction.now in
    IfOk-weaker _ _ _ (λ d e. subst (AreDistances a (λ o. slice_index c.args.shares.now o)) (sym (e ∙ ap (map kept_distance) c.deref.ensures.value)) c.in_ok-search.ensures.distances) c.as_distances.ensures

pub returns-clause-small : goal.returns-clause-small
returns-clause-small g c =
    IfOk-weaker c.as_distances.result (λ d. d ≡ map kept_distance c.deref.result.now) (All (IsWithin (2 ^ 55)))
    (λ d e. subst (All (IsWithin (2 ^ 55))) (sym (e ∙ ap (map kept_distance) c.deref.ensures.value)) c.in_ok-search.ensures.small) c.as_distances.ensures
