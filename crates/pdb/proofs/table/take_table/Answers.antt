use Rattle.std.proofs.Common.{◌≡◌, ◌-◌, ℕ, List, map, subst, slice_index, arith}
use Rattle.cost.specs.Distances.{Distance}
use Rattle.cert_value.specs.Kept.{kept_distance}
use Rattle.pdb_walks.specs.Walks.{AreDistances}
use Rattle.pdb.specs.Numbers.{distance_in}
use Rattle.pdb.specs.Classes.{share_by, AreLeast}
use Rattle.pdb.specs.Saturations.{AreFalls, AreWithin}
use Rattle.pdb.proofs.Falls.{distances_are_consistent, falls_within_least, fall_told}
use Rattle.pdb.proofs.table.take_table.Goals as goal

pub set_greatest-requires-clause-falls : goal.set_greatest-requires-clause-falls
set_greatest-requires-clause-falls g c =
    let a = g.A.Abstraction.abstraction c.args.abstraction.now in
    let task = g.A.Abstraction.task c.args.abstraction.now in
    let b = g.A.Transitions.BackwardTransitions.abstraction c.transitions-transitions.result.now in
    let classes = g.A.Transitions.BackwardTransitions.classes c.transitions-transitions.result.now in
    let grouped = g.met.A.Transitions.BackwardTransitions.grouped c.transitions-transitions.result.now in
    let abs = g.met.A.Abstraction.abstracts c.args.abstraction.now in
    let least = c.deref-2.result.now in
    let are : AreLeast classes c.args.left.now least = rw c.deref-2.ensures.value c.in_ok-search.ensures.least in
    let numbers : List ℕ = c.deref.result.now in
    let exact : AreDistances a (λ o. slice_index c.args.left.now o) (map kept_distance numbers) = rw c.deref.ensures.value c.in_ok-search.ensures.distances in
    let steps = distances_are_consistent task a (λ o. slice_index c.args.left.now o) (map kept_distance numbers) abs exact in
    falls_within_least task a b classes c.args.left.now least (map kept_distance numbers) c.transitions-transitions.ensures abs grouped steps c.requires.operators are

pub returns-clause-left : goal.returns-clause-left
returns-clause-left g c =
    let a = g.A.Abstraction.abstraction c.args.abstraction.now in
    let task = g.A.Abstraction.task c.args.abstraction.now in
    let b = g.A.Transitions.BackwardTransitions.abstraction c.transitions-transitions.result.now in
    let classes = g.A.Transitions.BackwardTransitions.classes c.transitions-transitions.result.now in
    let grouped = g.met.A.Transitions.BackwardTransitions.grouped c.transitions-transitions.result.now in
    let abs = g.met.A.Abstraction.abstracts c.args.abstraction.now in
    let values = c.search.new.scratch.values.items in
    let value : ℕ → Distance = distance_in values in
    let numbers = c.set_greatest.new.greatest.items in
    let found = c.in_ok-set_greatest.ensures in
    λ o n greatest.
    let less : slice_index c.subtract_by_class.new.left o ≡ slice_index c.args.left.now o - share_by classes numbers o =
    subst (λ (xs : List ℕ). slice_index c.subtract_by_class.new.left o ≡ slice_index c.args.left.now o - share_by classes xs o) c.deref-3.ensures.value (c.subtract_by_class.ensures o) in
    let reached : AreFalls b classes value numbers = rw (← c.deref.ensures.value) found.reached in
    let covered : AreWithin b classes value numbers = rw (← c.deref.ensures.value) found.covered in
    let is : share_by classes numbers o ≡ n = fall_told task a b classes value numbers c.transitions-transitions.ensures abs grouped reached covered o n greatest in
    omega arith
