use Rattle.std.proofs.Common.{sym, ap, ◌∙◌, subst}
use Rattle.std.proofs.lemmas.List.Elements.{All-contains}
use Rattle.openlist.specs.declared.entry.OpenEntry.{OpenEntry}
use Rattle.openlist.specs.BucketLists.{all_entries}
use Rattle.owner_space.specs.declared.ties.Ties.{Ties}
use Rattle.owner_space.specs.Keyed.{IsKeyed, denoted}
use Rattle.owner_reached.specs.Queues.{h_of, IsLeast}
use Rattle.owner_reached.proofs.Queues.{is_least, least_none}
use Rattle.owner_reached.proofs.reached.Reached.least.Goals as goal

pub denoted-requires : goal.denoted-requires
denoted-requires g c =
    subst (λ (t : Ties). IsKeyed t c.in_ok-stored.stored) (sym c.ties.ensures)
    (All-contains (IsKeyed c.self.inside.space.now.ties) (all_entries c.self.inside.queue) c.in_ok-stored.stored c.self.invariant.1.stored c.in_ok-stored.ensures.member)

pub returns-clause-some : goal.returns-clause-some
returns-clause-some g c =
    rw (← c.self.view_is)
    (subst (λ (e : OpenEntry). IsLeast c.self.inside.space.now.ties (h_of c.self.inside.space.now) c.self.inside.table.nodes c.self.inside.table.ever e)
    (sym (c.denoted.ensures ∙ ap (λ (t : Ties). denoted t c.in_ok-stored.stored) c.ties.ensures))
    (is_least c.self.inside.space.now.ties (h_of c.self.inside.space.now) c.self.inside.table.nodes c.self.inside.table.ever (all_entries c.self.inside.queue)
    c.in_ok-stored.stored c.self.invariant.1 c.in_ok-stored.ensures.member c.in_ok-stored.ensures.first))

pub returns-in_err-stored-clause-none : goal.returns-in_err-stored-clause-none
returns-in_err-stored-clause-none g c =
    rw (← c.self.view_is)
    (least_none c.self.inside.space.now.ties (h_of c.self.inside.space.now) c.self.inside.table.nodes c.self.inside.table.ever (all_entries c.self.inside.queue)
    c.from_residual.result c.self.invariant.1 c.in_err-stored.ensures.none)
