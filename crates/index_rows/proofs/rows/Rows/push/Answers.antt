use Rattle.std.proofs.Common.{◌≡◌, ◌+◌, ◌++◌, [], ◌∷◌, rules, length}
use Rattle.index_rows.proofs.SpanLaws.{appended}
use Rattle.index_rows.proofs.rows.Rows.push.Goals as goal

pub returns : goal.returns
returns c =
    let grown : c.extend_from_slice.new.self.items ≡ c.self.inside.numbers.items ++ c.args.row.now = search rules in
    let start : c.len-start.result ≡ length c.self.inside.numbers.items = search rules in
    let end : c.len-end.result ≡ length c.self.inside.numbers.items + length c.args.row.now = search rules in
    let after : c.push.new.self.items ≡ c.self.inside.spans.items ++ record { start = c.len-start.result; end = c.len-end.result } ∷ [] = search rules in
    rw (← c.self.view_is)
    (appended c.self.inside.spans.items c.push.new.self.items c.self.inside.numbers.items c.extend_from_slice.new.self.items c.args.row.now
    c.len-start.result c.len-end.result c.self.invariant grown start end after)
