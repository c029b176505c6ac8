use Rattle.std.proofs.Common.{◌≡◌, [], ◌∷◌, ◌++◌, sym, ◌∙◌, arith}
use Rattle.abstraction_groups.proofs.TableLaws.{row_stays, row_added, get_pushed, chained_more}
use Rattle.abstraction_groups.proofs.table.ChangeTable.number_of.Goals as goal

pub returns-in-Some-clause-rows : goal.returns-in-Some-clause-rows
returns-in-Some-clause-rows c = sym (row_stays c.args.self.now.rows c.args.changes.now c.in-Some.number c.in-Some.ensures.found)

pub returns-clause-number : goal.returns-clause-number
returns-clause-number c =
    let rows : c.push.new.self ≡ c.args.self.now.rows ++ c.args.changes.now ∷ [] = c.in_ok-push.ensures in
    rw (rows, c.len-number.ensures) (get_pushed c.args.self.now.rows c.args.changes.now)

pub returns-clause-rows : goal.returns-clause-rows
returns-clause-rows c =
    let rows : c.push.new.self ≡ c.args.self.now.rows ++ c.args.changes.now ∷ [] = c.in_ok-push.ensures in
    rows ∙ sym (row_added c.args.self.now.rows c.args.changes.now c.in_default.ensures.absent)

pub returns-clause-chained : goal.returns-clause-chained
returns-clause-chained c =
    let t = c.requires.chained in
    let rows : c.push.new.self ≡ c.args.self.now.rows ++ c.args.changes.now ∷ [] = c.in_ok-push.ensures in
    let links = c.in_ok-push-2.ensures.items in
    let heads = c.deref-heads.ensures.value in
    let count = c.len.ensures in
    let long = c.args.self.now.heads.ok.0 in
    let more = chained_more c.args.self.now.rows c.args.self.now.heads.items c.args.self.now.links.items t c.args.changes.now c.in_default.ensures.absent
    c.bucket_of-bucket.result (rw long at (rw count at c.bucket_of-bucket.ensures.value)) (omega (arith, c.bucket_of-bucket.ensures.below, count, long)) in
    rw (rows, c.len-number.ensures, links, heads) more
