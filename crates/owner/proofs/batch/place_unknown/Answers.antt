use Rattle.std.proofs.Common.{◌≡◌, ◌<◌, ℕ, List, true, length, map, get_or, Some, None, sym, ap, ◌∙◌, subst, arith, refl}
use Rattle.std.specs.Option.{option_map}
use Rattle.std.proofs.lemmas.List.{length-map}
use Rattle.fdr.specs.Tasks.{ranges, IsState, applies_at, step}
use Rattle.owner_theory.specs.Owners.{treat, message_to, successor_by}
use Rattle.closed.specs.Tables.{fresh}
use Rattle.scp.specs.Places.{PlacesOf}
use Rattle.owner.specs.declared.successors.Successor.{Successor}
use Rattle.owner.specs.Owned.{OwnerOf, space_of}
use Rattle.owner_space.specs.Steps.{IsSmallStep}
use Rattle.owner.specs.Held.{places_in}
use Rattle.owner.specs.Successors.{IsSuccessor}
use Rattle.owner.specs.Batches.{pending}
use Rattle.scp.proofs.Applying.{applied_step}
use Rattle.owner.proofs.Stepping.{one_more, none_left}
use Rattle.owner.proofs.Passing.{operator_at, all_operators, nothing_treats, still_nothing}
use Rattle.owner.proofs.Hinting.{own_hint}
use Rattle.owner.proofs.Batching.{posted_then, posted_space}
use Rattle.owner.proofs.batch.place_unknown.Goals as goal

pub place-requires-clause-state : goal.place-requires-clause-state
place-requires-clause-state g c =
    let inv = c.loop-at.invariant in
    subst (λ (p : PlacesOf). IsState (ranges c.loop-at.holdings.space.task) p.state) (sym inv.places)
    (subst (λ (o : OwnerOf g.row.S.Denot). IsState (ranges o.space.task) c.args.places.now.state) (sym inv.posted.others) c.requires.state)

pub place-requires-clause-places : goal.place-requires-clause-places
place-requires-clause-places g c =
    let inv = c.loop-at.invariant in
    inv.places ∙ (c.requires.places ∙ (λ j. places_in ((sym inv.posted.others j).space) (((sym inv.places) j).state)))

pub place-requires-clause-successor : goal.place-requires-clause-successor
place-requires-clause-successor g c =
    let inv = c.loop-at.invariant in
    let h0 = c.args.holdings.now in
    let s = c.index-successors-at.result in
    let made = subst (λ (x : Successor g.row.F.Denot). IsSuccessor g.F.StateForm.IsForm g.F.StateForm.values (space_of g.S.Spread.owner h0) c.args.places.now.state x)
    (sym c.index-successors-at.is) (c.requires.each c.loop-at.at s c.loop-at-test.true) in
    (subst (λ (p : PlacesOf). IsSuccessor g.F.StateForm.IsForm g.F.StateForm.values (space_of g.S.Spread.owner c.loop-at.holdings) p.state s) (sym inv.places)
    (subst (λ space. IsSuccessor g.F.StateForm.IsForm g.F.StateForm.values space c.args.places.now.state s)
    (sym (posted_space g.S.Spread.owner h0 c.loop-at.holdings _ _ inv.posted)) made))

pub place-requires-clause-applies : goal.place-requires-clause-applies
place-requires-clause-applies g c =
    let inv = c.loop-at.invariant in
    let s = c.index-successors-at.result in
    let applies = subst (λ (x : Successor g.row.F.Denot). applies_at c.args.holdings.now.space.task x.operator c.args.places.now.state ≡ true)
    (sym c.index-successors-at.is) (c.requires.apply c.loop-at.at s c.loop-at-test.true) in
    subst (λ (p : PlacesOf). applies_at c.loop-at.holdings.space.task s.operator p.state ≡ true) (sym inv.places)
    (subst (λ (o : OwnerOf g.row.S.Denot). applies_at o.space.task s.operator c.args.places.now.state ≡ true) (sym inv.posted.others) applies)

pub place-requires-clause-small : goal.place-requires-clause-small
place-requires-clause-small g c =
    let s = c.index-successors-at.result in
    let small = subst (λ (x : Successor g.row.F.Denot). IsSmallStep c.args.holdings.now.space.task c.args.next.rank x.operator)
    (sym c.index-successors-at.is) (c.requires.small c.loop-at.at s c.loop-at-test.true) in
    subst (λ (o : OwnerOf g.row.S.Denot). IsSmallStep o.space.task c.args.next.rank s.operator) (sym c.loop-at.invariant.posted.others) small

pub place-requires-clause-hint : goal.place-requires-clause-hint
place-requires-clause-hint g c = λ own.
    own_hint g.F.Hash.hash_input c.args.holdings.now.worker c.args.successors.now c.args.hints.now c.loop-at.at c.index-successors-at.result _
    c.requires.own_hints c.requires.as_many_hints c.loop-at-test.true c.index-successors-at.is
    (own ∙ ap (λ (o : OwnerOf g.row.S.Denot). o.worker) c.loop-at.invariant.posted.others)

pub loop-at-preserved-then-known-at : goal.loop-at-preserved-then-known-at
loop-at-preserved-then-known-at g c =
    let h0 = c.args.holdings.now in
    let ss = c.args.successors.now in
    let os : List ℕ = map (λ (x : Successor g.row.F.Denot). x.operator) ss in
    let at = c.loop-at.at in
    let s0 = c.args.places.now.state in
    let n = fresh s0 c.args.next.rank None in
    let inv = c.loop-at.invariant in
    let lt : at < length os = omega (arith, length-map ss (λ (x : Successor g.row.F.Denot). x.operator), c.loop-at-test.true) in
    let o = get_or os at 0 in
    let (t, leads) = applied_step h0.space.task s0 o (all_operators (λ k. applies_at h0.space.task k s0 ≡ true) ss c.requires.apply at 0 lt) in
    let m = message_to h0.space.task h0.worker c.args.next.index n o t in
    record {
      treated = λ nodes known.
          let before = inv.treated nodes known in
          let now = pending g.F.StateForm.values c.args.bound nodes c.loop-at.holdings c.loop-at.batch in (
            one_more (space_of g.S.Spread.owner h0) h0.worker (successor_by h0.space.task h0.worker c.args.next.index n) os
                at o m now now lt refl (ap (option_map (message_to h0.space.task h0.worker c.args.next.index n o)) leads)
                (nothing_treats (space_of g.S.Spread.owner h0) h0.worker now m (before.1 at c.if-known-at.true t leads))
                ∙ before.0,
            before.1,
          );
      batch = inv.batch;
      hints = inv.hints;
      posted = inv.posted;
      places = inv.places;
    }

pub loop-at-preserved : goal.loop-at-preserved
loop-at-preserved g c =
    let h = c.loop-at.holdings in
    let h0 = c.args.holdings.now in
    let ss = c.args.successors.now in
    let os : List ℕ = map (λ (x : Successor g.row.F.Denot). x.operator) ss in
    let at = c.loop-at.at in
    let s = c.index-successors-at.result in
    let s0 = c.args.places.now.state in
    let n = fresh s0 c.args.next.rank None in
    let inv = c.loop-at.invariant in
    let lt : at < length os = omega (arith, length-map ss (λ (x : Successor g.row.F.Denot). x.operator), c.loop-at-test.true) in
    let t = g.F.StateForm.values (ranges h0.space.task) s.state in
    let leads = subst (λ (x : Successor g.row.F.Denot). step h0.space.task s0 x.operator ≡ Some (g.F.StateForm.values (ranges h0.space.task) x.state))
    (sym c.index-successors-at.is) (c.requires.each at s c.loop-at-test.true).leads in
    let leads' = subst (λ (p : PlacesOf). step h.space.task p.state s.operator ≡ Some t) (sym inv.places)
    (subst (λ (x : OwnerOf g.row.S.Denot). step x.space.task s0 s.operator ≡ Some t) (sym inv.posted.others) leads) in
    let m = message_to h0.space.task h0.worker c.args.next.index n s.operator t in
    let space = posted_space g.S.Spread.owner h0 h _ _ inv.posted in
    record {
      treated = λ nodes known.
          let before = inv.treated nodes known in
          let old = pending g.F.StateForm.values c.args.bound nodes h c.loop-at.batch in
          let new = pending g.F.StateForm.values c.args.bound nodes c.place.new.holdings c.place.new.batch in
          let done : new ≡ treat (space_of g.S.Spread.owner h0) h0.worker old m =
          c.in_ok-place.ensures.treated nodes t leads'
          ∙ (λ j. treat (space j) ((inv.posted.others j).worker) old
          (message_to ((inv.posted.others j).space.task) ((inv.posted.others j).worker) c.args.next.index (fresh ((inv.places j).state) c.args.next.rank None) s.operator t)) in (
            one_more (space_of g.S.Spread.owner h0) h0.worker (successor_by h0.space.task h0.worker c.args.next.index n) os
                at s.operator m old new lt (sym (operator_at ss at s c.loop-at-test.true c.index-successors-at.is))
                (ap (option_map (message_to h0.space.task h0.worker c.args.next.index n s.operator)) leads) done
                ∙ before.0,
            λ k e t' leads''.
                still_nothing (space_of g.S.Spread.owner h0) h0.worker old new m
                (message_to h0.space.task h0.worker c.args.next.index n (get_or os k 0) t') done (before.1 k e t' leads''),
          );
      batch = c.in_ok-place.ensures.batch;
      hints = c.in_ok-place.ensures.hints;
      posted = posted_then h0 h c.place.new.holdings _ _ _ inv.posted c.place.ensures.posted;
      places = c.place.ensures.places ∙ inv.places;
    }

pub returns-in_err-place-clause-posted : goal.returns-in_err-place-clause-posted
returns-in_err-place-clause-posted g c =
    posted_then c.args.holdings.now c.loop-at.holdings c.place.new.holdings _ _ _ c.loop-at.invariant.posted c.place.ensures.posted

pub returns-clause-treated : goal.returns-clause-treated
returns-clause-treated g c = λ nodes known.
    let h0 = c.args.holdings.now in
    let ss = c.args.successors.now in
    let os : List ℕ = map (λ (x : Successor g.row.F.Denot). x.operator) ss in
    let n = fresh c.args.places.now.state c.args.next.rank None in
    none_left (space_of g.S.Spread.owner h0) h0.worker (successor_by h0.space.task h0.worker c.args.next.index n) os c.loop-at.at
    (pending g.F.StateForm.values c.args.bound nodes c.loop-at.holdings c.loop-at.batch)
    (omega (arith, length-map ss (λ (x : Successor g.row.F.Denot). x.operator), c.loop-at-test.false))
    ∙ (c.loop-at.invariant.treated nodes known).0
