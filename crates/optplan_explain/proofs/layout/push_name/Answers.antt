use Rattle.std.proofs.Common.{map}
use Rattle.std.specs.Prelude.{codes}
use Rattle.optplan_explain.specs.Shown.{printable}
use Rattle.optplan_explain.proofs.Appends.{three}
use Rattle.optplan_explain.proofs.layout.push_name.Goals as goal

pub returns : goal.returns
returns c =
    three (codes "nearest declared name: ") (map printable c.args.name.now) (codes "\n")
    _ _ _ _ c.in_ok-push_str.ensures.bytes c.in_ok-push_shown.ensures c.in_ok-push_str-2.ensures.bytes
