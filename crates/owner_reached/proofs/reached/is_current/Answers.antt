use Rattle.std.proofs.Common.{◌≡◌, Some, sym, ap, ◌∙◌, subst, true≢false}
use Rattle.std.specs.Prelude.{not, slice_get}
use Rattle.owner_theory.specs.Owners.{Node}
use Rattle.openlist.specs.declared.entry.OpenEntry.{OpenEntry}
use Rattle.closed.specs.Tables.{node_with}
use Rattle.owner_space.specs.Keyed.{keyed}
use Rattle.owner_reached.specs.Queues.{keyed_in}
use Rattle.owner_reached.proofs.Currents.{has_rank, is_entry-true, current_from, current_rank, current_not}
use Rattle.owner_reached.proofs.reached.is_current.Goals as goal
use Rattle.owner_reached.proofs.reached.is_current.Goals.{then-not-node, else-not-node}

pub returns-then-eq-clause-current : goal.returns-then-eq-clause-current
returns-then-eq-clause-current g c = λ same.
    let nodes = c.args.table.now.nodes in
    let ever = c.args.table.now.ever in
    let e = c.args.stored in
    let k = c.entry-node.result in
    let is = subst (λ (x : OpenEntry). (n : Node) → slice_get nodes x.index ≡ Some n → n ≡ node_with n.state k) c.denoted-entry.ensures
    c.entry-node.ensures in
    let bit = sym (is_entry-true c.keyed.result e (sym c.eq-then-eq.ensures ∙ same)) ∙ (c.keyed.ensures
    ∙ (ap (λ b. keyed c.args.ties b c.denoted-entry.result) c.was_expanded-ever.ensures ∙ ap (keyed_in c.args.ties ever) c.denoted-entry.ensures)) in
    elim c.if-not-node.branch [
      | then-not-node w ↦ current_from c.args.ties nodes ever e k is c.requires.within w.if-not-node.true
          (ap (has_rank k) (sym c.denoted-entry.ensures) ∙ (sym w.eq.ensures ∙ (sym w.value-is ∙ c.if-eq.true))) bit
      | else-not-node w ↦ absurd (true≢false (sym c.if-eq.true ∙ (w.value-is ∙ ap not w.if-not-node.false)))
    ]

pub returns-else-eq-clause-stale : goal.returns-else-eq-clause-stale
returns-else-eq-clause-stale g c = λ current.
    let nodes = c.args.table.now.nodes in
    let ever = c.args.table.now.ever in
    let e = c.args.stored in
    let k = c.entry-node.result in
    let is = subst (λ (x : OpenEntry). (n : Node) → slice_get nodes x.index ≡ Some n → n ≡ node_with n.state k) c.denoted-entry.ensures
    c.entry-node.ensures in
    elim c.if-not-node.branch [
      | then-not-node w ↦ w.value-is ∙ (w.eq.ensures ∙ (ap (has_rank k) c.denoted-entry.ensures ∙ current_rank c.args.ties nodes ever e k is current))
      | else-not-node w ↦ absurd (current_not c.args.ties nodes ever e k is w.if-not-node.false current)
    ]
