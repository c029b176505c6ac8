use Rattle.std.proofs.Common.{◌≡◌, ◌∙◌, ℕ, ◌<◌, List, length, map, slice_index, ap, subst, Result, Ok, Err, arith}
use Rattle.std.specs.Prelude.{IfOk}
use Rattle.cost.specs.Distances.{Distance}
use Rattle.cert_value.specs.Kept.{kept_distance}
use Rattle.pdb_walks.specs.Walks.{value_in, IsGreatestFall}
use Rattle.pdb.specs.Numbers.{distance_in}
use Rattle.pdb.specs.Classes.{share_by, AreLeast}
use Rattle.pdb.specs.Saturations.{AreConsistent}
use Rattle.pdb.proofs.Falls.{falls_within_least, falls_told}
use Rattle.pdb.proofs.saturation.saturate.Goals as goal

pub set_greatest-requires-clause-falls : goal.set_greatest-requires-clause-falls
set_greatest-requires-clause-falls g c =
    let a = g.A.Abstraction.abstraction c.args.abstraction.now in
    let task = g.A.Abstraction.task c.args.abstraction.now in
    let b = g.A.Transitions.BackwardTransitions.abstraction c.transitions-transitions.result.now in
    let classes = g.A.Transitions.BackwardTransitions.classes c.transitions-transitions.result.now in
    let grouped = g.met.A.Transitions.BackwardTransitions.grouped c.transitions-transitions.result.now in
    let abs = g.met.A.Abstraction.abstracts c.args.abstraction.now in
    let least = c.deref-2.result.now in
    let are : AreLeast classes c.args.shares.now least = rw c.deref-2.ensures.value c.in_ok-set_least.ensures.least in
    let values = map kept_distance c.deref.result.now in
    let steps : AreConsistent a (λ o. slice_index c.args.shares.now o) values = rw (c.deref.ensures.value, c.in_ok-numbers.ensures) c.requires.steps in
    falls_within_least task a b classes c.args.shares.now least values c.transitions-transitions.ensures abs grouped steps c.requires.operators are

IfOk-weaker2 : {X E : Type 0} (r : Result X E) (P Q R : X → Type 0) → ((x : X) → P x → Q x → R x) → IfOk r P → IfOk r Q → IfOk r R
IfOk-weaker2 (Ok x) P Q R f p q = f x p q
IfOk-weaker2 (Err e) P Q R f p q = tt

pub returns-clause-greatest : goal.returns-clause-greatest
returns-clause-greatest g c =
    let a = g.A.Abstraction.abstraction c.args.abstraction.now in
    let task = g.A.Abstraction.task c.args.abstraction.now in
    let b = g.A.Transitions.BackwardTransitions.abstraction c.transitions-transitions.result.now in
    let classes = g.A.Transitions.BackwardTransitions.classes c.transitions-transitions.result.now in
    let grouped = g.met.A.Transitions.BackwardTransitions.grouped c.transitions-transitions.result.now in
    let abs = g.met.A.Abstraction.abstracts c.args.abstraction.now in
    let value = distance_in c.deref.result.now in
    let same : map kept_distance c.deref.result.now ≡ c.args.values.now = ap (map kept_distance) c.deref.ensures.value ∙ c.in_ok-numbers.ensures in
    let found = c.in_ok-set_greatest.ensures in
    let numbers = c.set_greatest.new.greatest.items in
    let kept : c.deref-3.result.now ≡ numbers = c.deref-3.ensures.value in
    IfOk-weaker2 c.shares_by_class.result (λ n. length n.items ≡ length c.args.shares.now)
    (λ n. (o : ℕ) → o < length c.args.shares.now → slice_index n.items o ≡ share_by classes c.deref-3.result.now o)
    (λ n. (o : ℕ) → IsGreatestFall a (value_in c.args.values.now) o (slice_index n.items o))
    (λ n long told o. subst (λ (values : List Distance). IsGreatestFall a (value_in values) o (slice_index n.items o)) same
    (falls_told task a b classes value numbers n.items c.transitions-transitions.ensures abs grouped found.reached found.covered (omega (arith, long, c.requires.operators))
    (λ o l. rw (← kept) (told o (omega (arith, c.requires.operators)))) o))
    c.shares_by_class.ensures.len c.shares_by_class.ensures.shares
