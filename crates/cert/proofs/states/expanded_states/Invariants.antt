use Rattle.std.proofs.Common.{◌≡◌, ◌≤◌, length, take, All}
use Rattle.owner.specs.Owned.{max_total}
use Rattle.cert.specs.Expanded.{closed_in, listed, IsLong}
use Rattle.cert.proofs.states.expanded_states.Given as goal

abbrev pub invariant-loop-owner : goal.invariant-loop-owner
invariant-loop-owner g l = record {
  states : listed l.width l.states ≡ closed_in (take l.owner-index l.owners);
  long : IsLong l.width l.states;
  wide : length l.state.items ≡ l.width;
  cheap : All (λ o. All (λ n. n.cost ≤ max_total) o.nodes) (take l.owner-index l.owners);
}
