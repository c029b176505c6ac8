use Rattle.std.proofs.Common.{◌≡◌, ◌<◌, ◌++◌, ◌∷◌, [], ℕ, List, length, set, ap, ◌∙◌, arith}
use Rattle.std.proofs.lemmas.List.{get_or_default}
use Rattle.pdb_regression.proofs.TableLaws.{added_is}
use Rattle.pdb_regression.proofs.place.Place.add.Goals as goal

pub returns-clause-added : goal.returns-clause-added
returns-clause-added c =
    let inside = c.self.inside in
    let pushed = c.in_ok-push.ensures in
    let below : c.args.value < inside.position.digit.range = rw (← c.self.view_is) at c.requires in
    let long : length inside.lists.items ≡ inside.position.digit.range = c.self.invariant.1 in
    let behind = c.behind-self.view_is in
    let read = c.index_mut.ensures.value in
    rw (← c.self.view_is)
    (added_is inside.position inside.lists.items (set inside.lists.items c.args.value c.push.new.self.items) c.args.value c.args.class (omega arith)
    (ap (λ (xs : List ℕ). set inside.lists.items c.args.value xs) (pushed.items ∙ ap (λ (xs : List ℕ). xs ++ c.args.class ∷ []) (behind ∙ read ∙ get_or_default inside.lists.items c.args.value c.index_mut.result.now [] (omega arith)))))
