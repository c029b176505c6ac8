use Rattle.std.proofs.Common.{arith}
use Rattle.pdb_regression.proofs.WordLaws.{mask_steps}
use Rattle.pdb_regression.proofs.rule.+want_by.Goals as goal

pub room_of-room-requires-clause-some : goal.room_of-room-requires-clause-some
room_of-room-requires-clause-some t c =
    let steps = mask_steps c.args.changes.now c.in-len1-up.len_at_least c.requires.fit c.requires.small in steps.some

pub room_of-room-requires-clause-small : goal.room_of-room-requires-clause-small
room_of-room-requires-clause-small t c =
    let steps = mask_steps c.args.changes.now c.in-len1-up.len_at_least c.requires.fit c.requires.small in steps.small

pub overflow_mul-result : goal.overflow_mul-result
overflow_mul-result t c =
    let steps = mask_steps c.args.changes.now c.in-len1-up.len_at_least c.requires.fit c.requires.small in rw (c.want_by.ensures, c.room_of-room.ensures) (omega (arith, steps.want_product))

pub overflow_add-result : goal.overflow_add-result
overflow_add-result t c =
    let steps = mask_steps c.args.changes.now c.in-len1-up.len_at_least c.requires.fit c.requires.small in rw (c.want_by.ensures, c.from.ensures, c.value_wanted.ensures, c.room_of-room.ensures) (omega (arith, steps.want_sum))
