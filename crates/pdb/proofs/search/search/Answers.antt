use Rattle.std.proofs.Common.{◌≡◌, ℕ, ◌^◌, ◌<◌, ◌≤◌, length, map, subst, sym, slice_index, arith}
use Rattle.std.specs.Vec.{with_items}
use Rattle.std.proofs.lemmas.List.{with_items_is}
use Rattle.cert_value.specs.Kept.{kept_distance}
use Rattle.abstraction.specs.Abstractions.{Abstraction, IsAbstractionOf}
use Rattle.pdb_walks.specs.Walks.{AreDistances}
use Rattle.pdb.specs.Classes.{share_by, AreLeast}
use Rattle.pdb.specs.Searches.{IsSearch}
use Rattle.pdb.proofs.Expansion.{shares_small}
use Rattle.pdb.proofs.ClassLaws.{AreDistances-least}
use Rattle.pdb.proofs.Totals.{AreDistances-found, values_small}
use Rattle.pdb.proofs.search.search.Goals as goal

pub settle-requires-clause-small : goal.settle-requires-clause-small
settle-requires-clause-small g c =
    let low : (p : ℕ) → slice_index c.deref.result.now p ≤ 2147483647 = rw c.deref.ensures.value c.in_ok-set_least.ensures.small in
    λ p. omega (arith, low p)

pub settle-requires-clause-search : goal.settle-requires-clause-search
settle-requires-clause-search g c =
    let classes = g.A.Transitions.BackwardTransitions.classes c.args.transitions.now in
    let share : ℕ → ℕ = share_by classes c.deref.result.now in
    let long : length c.add_goals.new.values ≡ c.reset.new.values.len = omega (arith, c.add_goals.auto.values, c.deref_mut.ensures.len) in
    rw (c.deref_mut-2.ensures.value, with_items_is c.reset.new.values c.add_goals.new.values long)
    (subst (λ (a : Abstraction). IsSearch a share c.add_goals.new.values c.add_goals.new.queue) (sym c.requires.transitions) (c.in_ok-add_goals.ensures share))

pub returns-clause-distances : goal.returns-clause-distances
returns-clause-distances g c =
    let task = g.A.Abstraction.task c.args.abstraction.now in
    let b = g.A.Transitions.BackwardTransitions.abstraction c.args.transitions.now in
    let classes = g.A.Transitions.BackwardTransitions.classes c.args.transitions.now in
    let same = c.requires.transitions in
    let abs : IsAbstractionOf task b = subst (λ (x : Abstraction). IsAbstractionOf task x) (sym same) (g.met.A.Abstraction.abstracts c.args.abstraction.now) in
    let least = c.deref.result.now in
    let share = share_by classes least in
    let low : (p : ℕ) → slice_index least p ≤ 2147483647 = rw c.deref.ensures.value c.in_ok-set_least.ensures.small in
    let small : (o : ℕ) → share o < 2 ^ 31 = shares_small classes least (2 ^ 31) (omega arith) (λ p. omega (arith, low p)) in
    let values = c.settle.new.values in
    let kept = with_items c.reset.new.values c.add_goals.new.values in
    let long : length values ≡ kept.len = omega (arith, c.settle.auto.values, c.deref_mut-2.ensures.len) in
    let grouped = g.met.A.Transitions.BackwardTransitions.grouped c.args.transitions.now in
    let are : AreLeast classes c.args.shares.now least = rw c.deref.ensures.value c.in_ok-set_least.ensures.least in
    let found = AreDistances-found task b share values c.settle.new.queue abs small c.in_ok-settle.ensures.search c.in_ok-settle.ensures.empty in
    rw (with_items_is kept values long)
    (subst (λ (x : Abstraction). AreDistances x (λ o. slice_index c.args.shares.now o) (map kept_distance values)) same
    (AreDistances-least task b classes c.args.shares.now least abs grouped c.requires.operators are (map kept_distance values) found))

pub returns-clause-small : goal.returns-clause-small
returns-clause-small g c =
    let task = g.A.Abstraction.task c.args.abstraction.now in
    let b = g.A.Transitions.BackwardTransitions.abstraction c.args.transitions.now in
    let classes = g.A.Transitions.BackwardTransitions.classes c.args.transitions.now in
    let same = c.requires.transitions in
    let abs : IsAbstractionOf task b = subst (λ (x : Abstraction). IsAbstractionOf task x) (sym same) (g.met.A.Abstraction.abstracts c.args.abstraction.now) in
    let least = c.deref.result.now in
    let share = share_by classes least in
    let low : (p : ℕ) → slice_index least p ≤ 2147483647 = rw c.deref.ensures.value c.in_ok-set_least.ensures.small in
    let small : (o : ℕ) → share o < 2 ^ 31 = shares_small classes least (2 ^ 31) (omega arith) (λ p. omega (arith, low p)) in
    let values = c.settle.new.values in
    let kept = with_items c.reset.new.values c.add_goals.new.values in
    let long : length values ≡ kept.len = omega (arith, c.settle.auto.values, c.deref_mut-2.ensures.len) in
    rw (with_items_is kept values long)
    (values_small task b share values c.settle.new.queue abs small c.in_ok-settle.ensures.search c.in_ok-settle.ensures.empty)
