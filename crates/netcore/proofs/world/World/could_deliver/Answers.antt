use Rattle.std.proofs.Common.{◌≡◌, ◌∙◌, ap, sym, length, map, arith}
use Rattle.std.specs.Prelude.{nat_lt}
use Rattle.std.proofs.lemmas.Bool.{ltb-true, ltb-false, le-ltb}
use Rattle.std.proofs.lemmas.List.{length-map}
use Rattle.owner_theory.specs.Owners.{list_at}
use Rattle.fdr.specs.Tasks.{ranges}
use Rattle.extract.specs.Views.{packet_of, packets_in}
use Rattle.netcore.proofs.Places.{at_here, at_list, list_past, map_at}
use Rattle.netcore.proofs.world.World.could_deliver.Goals as goal

pub returns-in-Some : goal.returns-in-Some
returns-in-Some g c =
    let values = (g.F.StateForm.values (ranges c.self.inside.space.now.task)) in
    let qs = c.self.inside.underway.items in
    let q = c.in-Some.queue.now in
    let room = ltb-true c.args.worker (length qs) (sym (rw c.deref.ensures.value at c.in-Some.ensures.lookup.0)) in
    let at = at_here qs c.args.worker q room (rw c.deref.ensures.value at c.in-Some.ensures.lookup.1) in
    let long : c.len.result ≡ length q.items = omega (arith, c.len.ensures, q.ok) in
    let same : c.len.result ≡ length (list_at (map (packets_in values) qs) c.args.worker) =
    long ∙ (sym (length-map q.items (packet_of values))
    ∙ ap length (sym (at_list (map (packets_in values) qs) c.args.worker (packets_in values q) (map_at (packets_in values) qs c.args.worker q at)))) in
    rw (← c.self.view_is) (ap (nat_lt c.args.number) same)

pub returns-in-None : goal.returns-in-None
returns-in-None g c =
    let values = (g.F.StateForm.values (ranges c.self.inside.space.now.task)) in
    let qs = c.self.inside.underway.items in
    let none = ltb-false c.args.worker (length qs) (sym (rw c.deref.ensures.value at c.in-None.ensures.lookup.0)) in
    let long = length-map qs (packets_in values) in
    rw (← c.self.view_is)
    (sym (ap (λ q. nat_lt c.args.number (length q)) (list_past (map (packets_in values) qs) c.args.worker (omega arith))
    ∙ le-ltb c.args.number 0 (omega arith)))
