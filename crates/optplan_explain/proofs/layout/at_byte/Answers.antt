use Rattle.std.proofs.Common.{◌≡◌, ◌+◌, ℕ, List, map}
use Rattle.std.specs.Prelude.{option_map, codes}
use Rattle.optplan_explain.specs.Layouts.{heading, hint}
use Rattle.optplan_explain.specs.Places.{lines_before, bytes_before}
use Rattle.optplan_explain.specs.Shown.{printable, shown_part, caret}
use Rattle.optplan_explain.proofs.Appends.{assembled}
use Rattle.optplan_explain.proofs.InLine.{hint_in_line}
use Rattle.optplan_explain.proofs.layout.at_byte.Goals as goal

headed : (path sentence out : List ℕ) (line column line' column' : ℕ) → out ≡ heading path line column sentence → line ≡ line' → column ≡ column' → out ≡ heading path line' column' sentence
headed path sentence out line column line' column' is same_line same_column = cc

pub returns : goal.returns
returns c =
    let path = c.args.source.path.now in
    let text = c.args.source.text.now in
    let sentence = c.args.sentence.now in
    let nearest = option_map (λ name. map printable name.now) c.args.nearest in
    let line = 1 + lines_before text c.args.at in
    let column = 1 + bytes_before text c.args.at in (
      sentence,
      nearest,
      c.requires,
      hint_in_line c.args.nearest,
      assembled (heading path line column sentence) (shown_part text c.args.at) (codes "\n") (caret text c.args.at) (hint nearest) _ _ _
          (headed path sentence _ _ _ line column c.in_ok-out.ensures c.place_of.ensures.line c.place_of.ensures.column)
          c.in_ok-push_part.ensures c.in_ok-push_hint.ensures,
    )
