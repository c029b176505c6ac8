use Rattle.std.proofs.Common.{◌≡◌, ◌-◌, ◌<◌, ◌≤◌, drop, false, get_or, length}
use Rattle.openlist.specs.Groups.{GroupHeld, IsAbove, is_lower_key}
use Rattle.openlist.proofs.groups.group_of.Given as goal

abbrev pub invariant-halving : goal.invariant-halving
invariant-halving l = record {
  order : l.low ≤ l.high;
  bound : l.high ≤ length l.groups;
  not_below : (g : GroupHeld) → 0 < l.low → is_lower_key (get_or l.groups (l.low - 1) g).key l.key ≡ false;
  above : IsAbove l.key (drop l.high l.groups);
}

abbrev pub decreases-halving : goal.decreases-halving
decreases-halving l = l.high - l.low
