use Rattle.std.proofs.Common.{◌≡◌, ◌+◌, ◌-◌, ◌∙◌, ap, sym, length, map, drop, arith}
use Rattle.std.specs.Prelude.{slice_get}
use Rattle.std.proofs.lemmas.List.{length-map}
use Rattle.extract.specs.Views.{packet_of, packets_in}
use Rattle.netcore.specs.Possible.{deliveries}
use Rattle.netcore.proofs.Choosing.{deliver_within, deliver_past}
use Rattle.netcore.proofs.possible.nth_delivery.Goals as goal

pub returns-then-left-count : goal.returns-then-left-count
returns-then-left-count g c = λ values.
    let q = c.index-queues-worker.result in
    let long = length-map q.items (packet_of values) in
    sym (c.loop-worker.invariant values
    ∙ deliver_within (packets_in values) c.args.queues.now c.loop-worker.worker q c.loop-worker.worker c.loop-worker.left c.loop-worker-test.true
    c.index-queues-worker.is (omega (arith, long, c.len-count.ensures, c.if-left-count.true)))

pub loop-worker-preserved : goal.loop-worker-preserved
loop-worker-preserved g c = λ values.
    let q = c.index-queues-worker.result in
    let i = c.loop-worker.worker in
    let long = length-map q.items (packet_of values) in
    let same : c.loop-worker.left - length (packets_in values q) ≡ c.loop-worker.left - c.len-count.result = omega (arith, long, c.len-count.ensures) in
    c.loop-worker.invariant values
    ∙ (deliver_past (packets_in values) c.args.queues.now i q i c.loop-worker.left c.loop-worker-test.true
    c.index-queues-worker.is (omega (arith, long, c.len-count.ensures, c.if-left-count.false))
    ∙ ap (λ n. slice_get (deliveries (i + 1) (map (packets_in values) (drop (i + 1) c.args.queues.now))) n) same)
