use Rattle.std.proofs.Common.{◌≡◌, ◌++◌, map, take, drop, ap, ◌∙◌, sym}
use Rattle.std.proofs.lemmas.List.{map-append, take-append-drop}
use Rattle.scp.specs.Partitions.{mappings_of}
use Rattle.scp.proofs.JoinedColumns.{joined}
use Rattle.scp.proofs.columns.columns_in_turn.Goals as goal

pub returns : goal.returns
returns g c =
    let orders = c.args.orders.now in
    let n = c.min-at_once.result in
    let front = c.split_at.ensures.front in
    let back = c.split_at.ensures.back in
    let before = c.in_ok-columns.ensures in
    let behind = c.in_ok-others.ensures in
    let whole : map mappings_of (take n orders) ++ map mappings_of (drop n orders) ≡ map mappings_of orders =
    sym (map-append mappings_of (take n orders) (drop n orders)) ∙ ap (map mappings_of) (take-append-drop n orders) in
    let made = joined c.args.task.now (map mappings_of (take n orders)) (map mappings_of (drop n orders)) c.in_ok-columns.columns.items c.in_ok-others.others.items
    (rw front at before) (rw back at behind) in
    rw c.in_ok-append.ensures.items (rw whole at made)
