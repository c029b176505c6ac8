use Rattle.std.proofs.Common.{◌∙◌, ap, sym, subst, Bool}
use Rattle.std.proofs.lemmas.Result.{err_from_is_err_and}
use Rattle.board.specs.declared.views.View.{View}
use Rattle.board.specs.Seats.{view}
use Rattle.worker.specs.Workers.{WorkerOf}
use Rattle.worker.specs.Turns.{HasReceivedEach}
use Rattle.worker.specs.Counts.{HasRested}
use Rattle.worker.proofs.Chains.{receives_keep, stopped_uncounted, as_turn, balanced_uncounted, refused_uncounted, refused_turn, held_uncounted, held_turn, turned}
use Rattle.worker.proofs.worker.Worker.turn.Goals as goal

pub returns-then-not-branch-clause-none_uncounted : goal.returns-then-not-branch-clause-none_uncounted
returns-then-not-branch-clause-none_uncounted g c =
    stopped_uncounted g.S.Spread.owner g.F.StateForm.values _ _
    (subst (λ (all : Bool). HasReceivedEach g.S.Spread.owner g.F.StateForm.values c.args.self.now c.receive_each.new.self all) c.if-not-branch.true
    c.in_ok-receive_each.ensures.received)
    ∙ c.requires.none_uncounted

pub returns-in_err-receive_each-clause-refused : goal.returns-in_err-receive_each-clause-refused
returns-in_err-receive_each-clause-refused g c =
    let p = err_from_is_err_and c.from_residual.result c.from_residual.ensures.1 in
    rw p.1 (held_turn g.S.Spread.owner g.F.StateForm.values c.args.self.now c.receive_each.new.self (view c.args.seat.now) _ p.2 c.in_err-receive_each.ensures.refused)

pub returns-in_err-receive_each-clause-none_uncounted : goal.returns-in_err-receive_each-clause-none_uncounted
returns-in_err-receive_each-clause-none_uncounted g c =
    held_uncounted g.S.Spread.owner g.F.StateForm.values c.args.self.now c.receive_each.new.self c.in_err-receive_each.ensures.refused
    ∙ c.requires.none_uncounted

pub expand_unless_congested-requires : goal.expand_unless_congested-requires
expand_unless_congested-requires g c =
    ap (λ (w : WorkerOf g.row.S.Denot g.row.F.Denot). w.uncounted) c.look.ensures.looked.worker
    ∙ ((receives_keep g.S.Spread.owner g.F.StateForm.values _ _ _
    (subst (λ (all : Bool). HasReceivedEach g.S.Spread.owner g.F.StateForm.values c.args.self.now c.receive_each.new.self all) c.if-not-branch.false
    c.in_ok-receive_each.ensures.received)).uncounted
    ∙ c.requires.none_uncounted)

pub returns-in_err-_posted-clause-refused : goal.returns-in_err-_posted-clause-refused
returns-in_err-_posted-clause-refused g c =
    let p = err_from_is_err_and c.from_residual-in_err-_posted.result c.from_residual-in_err-_posted.ensures.1 in
    rw (p.1, p.2) (refused_turn g.S.Spread.owner g.F.StateForm.values c.args.self.now c.receive_each.new.self c.look.new.self c.expand_unless_congested.new.self _ _ c.in_err-_posted.field-0.0
    (subst (λ (all : Bool). HasReceivedEach g.S.Spread.owner g.F.StateForm.values c.args.self.now c.receive_each.new.self all) c.if-not-branch.false
    c.in_ok-receive_each.ensures.received)
    c.look.ensures.looked c.in_err-_posted.ensures.refused.0 c.in_err-_posted.ensures.refused.1)

pub returns-in_err-_posted-clause-none_uncounted : goal.returns-in_err-_posted-clause-none_uncounted
returns-in_err-_posted-clause-none_uncounted g c =
    refused_uncounted g.S.Spread.owner g.F.StateForm.values c.look.new.self c.expand_unless_congested.new.self c.in_err-_posted.field-0.0 c.in_err-_posted.ensures.refused.1
    ∙ (ap (λ (w : WorkerOf g.row.S.Denot g.row.F.Denot). w.uncounted) c.look.ensures.looked.worker
    ∙ ((receives_keep g.S.Spread.owner g.F.StateForm.values _ _ _
    (subst (λ (all : Bool). HasReceivedEach g.S.Spread.owner g.F.StateForm.values c.args.self.now c.receive_each.new.self all) c.if-not-branch.false
    c.in_ok-receive_each.ensures.received)).uncounted
    ∙ c.requires.none_uncounted))

pub returns-clause-turned : goal.returns-clause-turned
returns-clause-turned g c =
    as_turn g.S.Spread.owner g.F.StateForm.values _ _ _ _ c.next_turn.result c.next_turn.ensures.turn
    (turned g.S.Spread.owner g.F.StateForm.values _ c.receive_each.new.self c.look.new.self c.expand_unless_congested.new.self c.balance.new.self c.offer.new.self c.send_each.new.self _
    c.in_ok-_posted._posted _ (view c.look.new.seat) (view c.balance.new.seat) (view c.offer.new.seat) _
    (subst (λ (all : Bool). HasReceivedEach g.S.Spread.owner g.F.StateForm.values c.args.self.now c.receive_each.new.self all) c.if-not-branch.false
    c.in_ok-receive_each.ensures.received)
    c.look.ensures.looked c.in_ok-_posted.ensures.expanded c.balance.ensures.balanced c.offer.ensures.offered c.send_each.ensures
    (subst (λ (v : View). HasRested g.S.Spread.owner c.send_each.new.self c.rest.new.self (view c.offer.new.seat) v) (sym c.next_turn.ensures.view) c.rest.ensures.rested))

pub returns-clause-none_uncounted : goal.returns-clause-none_uncounted
returns-clause-none_uncounted g c =
    balanced_uncounted g.S.Spread.owner g.F.StateForm.values _ _ _ _ _ _ _ _ _ c.balance.ensures.balanced c.offer.ensures.offered c.send_each.ensures
    c.rest.ensures.rested
