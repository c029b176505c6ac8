use Rattle.std.proofs.Common.{◌≡◌, ◌∙◌, rules, [], ◌∷◌, length, sym, ap}
use Rattle.fdr.specs.Tasks.{ranges}
use Rattle.links.specs.Tables.{rows}
use Rattle.engine.proofs.Starting.{starts, next_sends, next_receives, next_started, all_started, either, rows_long}
use Rattle.engine.proofs.team.first_workers.Goals as goal

pub loop-outs-init : goal.loop-outs-init
loop-outs-init g c =
    let none : c.in_ok-workers.workers.items ≡ [] = search rules in
    let first : c.into_iter-outs-iterator.result.a.rest.items ≡ c.args.links.outs.items = search rules in
    let second : c.into_iter-outs-iterator.result.b.rest.items ≡ c.args.links.ins.items = search rules in
    starts c.requires.links.0 (length c.args.links.outs.items) (rows c.args.links.outs.items) (rows c.args.links.ins.items) c.requires.links.1 c.args.space.now
    c.in_ok-workers.workers.items _ _ none (ap rows first) (ap rows second)

pub start-requires-clause-outs : goal.start-requires-clause-outs
start-requires-clause-outs g c =
    let first : c.loop-outs.outs-iterator.a.rest.items ≡ c.in-Some.outs ∷ c.next.new.self.a.rest.items = search rules in
    let second : c.loop-outs.outs-iterator.b.rest.items ≡ c.in-Some.ins ∷ c.next.new.self.b.rest.items = search rules in
    let sends = next_sends c.requires.links.0 (length c.args.links.outs.items) (rows c.args.links.outs.items) (rows c.args.links.ins.items) c.requires.links.1 c.args.space.now
    c.loop-outs.workers.items (rows c.loop-outs.outs-iterator.a.rest.items) (rows c.loop-outs.outs-iterator.b.rest.items) c.in-Some.outs.items c.in-Some.ins.items
    (rows c.next.new.self.a.rest.items) (rows c.next.new.self.b.rest.items) c.loop-outs.invariant (ap rows first) (ap rows second) c.len-count.result
    (c.len-count.ensures ∙ c.args.links.outs.ok.0) in
    (sends.0, sends.1 (g.F.StateForm.values (ranges c.args.space.now.task)))

pub start-requires-clause-ins : goal.start-requires-clause-ins
start-requires-clause-ins g c =
    let first : c.loop-outs.outs-iterator.a.rest.items ≡ c.in-Some.outs ∷ c.next.new.self.a.rest.items = search rules in
    let second : c.loop-outs.outs-iterator.b.rest.items ≡ c.in-Some.ins ∷ c.next.new.self.b.rest.items = search rules in
    let receives = next_receives c.requires.links.0 (length c.args.links.outs.items) (rows c.args.links.outs.items) (rows c.args.links.ins.items) c.requires.links.1 c.args.space.now
    c.loop-outs.workers.items (rows c.loop-outs.outs-iterator.a.rest.items) (rows c.loop-outs.outs-iterator.b.rest.items) c.in-Some.outs.items c.in-Some.ins.items
    (rows c.next.new.self.a.rest.items) (rows c.next.new.self.b.rest.items) c.loop-outs.invariant (ap rows first) (ap rows second) c.len-count.result
    (c.len-count.ensures ∙ c.args.links.outs.ok.0) in
    (receives.0, receives.1 (g.F.StateForm.values (ranges c.args.space.now.task)))

pub loop-outs-preserved : goal.loop-outs-preserved
loop-outs-preserved g c =
    let first : c.loop-outs.outs-iterator.a.rest.items ≡ c.in-Some.outs ∷ c.next.new.self.a.rest.items = search rules in
    let second : c.loop-outs.outs-iterator.b.rest.items ≡ c.in-Some.ins ∷ c.next.new.self.b.rest.items = search rules in
    next_started c.requires.links.0 (length c.args.links.outs.items) (rows c.args.links.outs.items) (rows c.args.links.ins.items) c.requires.links.1 c.args.space.now
    c.loop-outs.workers.items (rows c.loop-outs.outs-iterator.a.rest.items) (rows c.loop-outs.outs-iterator.b.rest.items) c.in-Some.outs.items c.in-Some.ins.items
    (rows c.next.new.self.a.rest.items) (rows c.next.new.self.b.rest.items) c.loop-outs.invariant (ap rows first) (ap rows second) c.len-number.result
    c.len-count.result c.in_ok-start.field-0 c.push.new.self.items (c.len-number.ensures ∙ c.loop-outs.workers.ok.0)
    (c.len-count.ensures ∙ c.args.links.outs.ok.0) c.in_ok-start.ensures c.in_ok-push.ensures.items

pub returns : goal.returns
returns g c =
    all_started c.args.space.now (length c.args.links.outs.items) (rows c.args.links.outs.items) (rows c.args.links.ins.items) c.loop-outs.workers.items
    _ _ c.loop-outs.invariant
    (either c.in-None.ensures.steps
    (λ h. rows_long c.loop-outs.outs-iterator.a.rest.items ∙ (sym c.loop-outs.outs-iterator.a.rest.ok.0 ∙ h.1.0))
    (λ h. sym c.loop-outs.invariant.both
    ∙ (rows_long c.loop-outs.outs-iterator.b.rest.items ∙ (sym c.loop-outs.outs-iterator.b.rest.ok.0 ∙ h.1.0))))
