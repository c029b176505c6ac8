use Rattle.std.proofs.Common.{◌<◌, ◌≤◌, arith, deque_len, refl}
use Rattle.std.proofs.lemmas.Bool.Decides.{nat_tests}
use Rattle.openlist.proofs.Ascending.{IsAscending-back}
use Rattle.openlist.proofs.group.fits_at_back.Goals as goal

pub returns-in-Some : goal.returns-in-Some
returns-in-Some c = λ yes.
    let filled : 0 < deque_len c.args.lowers.now = c.in-Some.ensures.variant.0 refl in
    let last : c.in-Some.last.now ≤ c.args.lower = grind (arith, nat_tests) in
    IsAscending-back c.args.lower c.in-Some.last.now c.args.lowers.now.items _ (omega arith) c.in-Some.ensures.lookup last
    c.requires
