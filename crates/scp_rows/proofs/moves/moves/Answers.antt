use Rattle.std.proofs.Common.{◌≡◌, ◌∷◌, ◌++◌, [], List, Option, subst, sym}
use Rattle.std.specs.Prelude.{Vec}
use Rattle.std.specs.Global.{Global}
use Rattle.std.proofs.Common.{take, ◌+◌}
use Rattle.scp_rows.specs.declared.moves.Move.{Move}
use Rattle.scp_rows.specs.Moves.{AreMoves, AreMovesOf}
use Rattle.scp_rows.proofs.MoveLaws.{moves_more}
use Rattle.scp_rows.proofs.moves.moves.Goals as goal

pub loop-operator-preserved : goal.loop-operator-preserved
loop-operator-preserved g c =
    let rows = c.args.mappings.now in
    let touches = c.args.touches.now in
    let o = c.loop-operator.operator in
    let of : AreMovesOf rows o c.index-touches-operator.result.items c.in_ok-moves_of.field-0 = rw (← c.deref.ensures.value) c.in_ok-moves_of.ensures in
    subst (λ (ms : List (Option (Vec Move Global))). AreMoves rows (take (o + 1) touches) ms) (sym c.in_ok-push.ensures.items)
    (moves_more rows touches c.loop-operator.moves.items o c.index-touches-operator.result c.in_ok-moves_of.field-0 c.loop-operator-test.true c.index-touches-operator.is c.loop-operator.invariant of)
