use Rattle.std.proofs.Common.{◌≡◌, length, arith}
use Rattle.std.proofs.lemmas.List.Elements.{All-push}
use Rattle.abstraction_mapping.specs.Views.{mapping_of}
use Rattle.scp_rows.specs.Rows.{MappingRows}
use Rattle.scp_rows.proofs.Blocks.{sums_push, found_last}
use Rattle.scp_rows.proofs.block.push_mapping.Goals as goal

pub returns-clause-of_task : goal.returns-clause-of_task
returns-clause-of_task g c =
    rw c.in_ok-push.ensures.items
    (All-push (λ (p : MappingRows). p.task ≡ c.args.task.now) c.args.rows.now.items c.in_ok-new.field-0 c.requires.of_task c.in_ok-new.ensures.task)

pub returns-clause-place : goal.returns-clause-place
returns-clause-place g c =
    let last : c.len-place.result ≡ length c.args.rows.now.items = omega (arith, c.len-place.ensures, c.args.rows.now.ok.0) in
    rw (c.in_ok-push.ensures.items, last) (found_last c.args.rows.now.items c.in_ok-new.field-0 (mapping_of c.args.mapping.now) c.in_ok-new.ensures.mapping)

pub returns-clause-sums : goal.returns-clause-sums
returns-clause-sums g c = rw c.in_ok-push.ensures.items (sums_push c.args.task.now 0 0 c.args.rows.now.items c.in_ok-new.field-0 c.in_ok-new.ensures.zero)
