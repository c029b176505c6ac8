use Rattle.std.proofs.Common.{◌≡◌, ℕ, List, [], ◌∷◌, ◌++◌, length, map, append_assoc, ap, sym, ◌∙◌}
use Rattle.std.specs.Prelude.{codes, decimal}
use Rattle.std.specs.String.{string_bytes}
use Rattle.std.proofs.lemmas.List.{length-map}
use Rattle.std.proofs.lemmas.Result.{on_ok_weaker}
use Rattle.sasfile_writer.specs.Written.{text_of_lines}
use Rattle.sasfile_writer.proofs.Appends.{more_lines}
use Rattle.sasfile_writer.proofs.variables.push_variable.Goals as goal

pub returns : goal.returns
returns c =
    let o = c.args.out.now.items in let names = map string_bytes c.args.names.now in
    let begin = codes "begin_variable" ∷ (codes "var" ++ decimal c.args.number) ∷ [] in
    let one : c.push_number_line.new.out.items ≡ o ++ text_of_lines begin =
    c.in_ok-push_number_line.ensures ∙ ap (λ (xs : List ℕ). xs ++ text_of_lines (decimal c.args.number ∷ [])) c.in_ok-extend_from_slice.ensures.items
    ∙ append_assoc o (codes "begin_variable\nvar") (text_of_lines (decimal c.args.number ∷ [])) in
    let two = more_lines begin (codes "-1" ∷ []) o c.push_number_line.new.out.items c.push_line.new.out.items one c.in_ok-push_line.ensures in
    let three = more_lines (begin ++ codes "-1" ∷ []) (decimal (length names) ∷ []) o c.push_line.new.out.items c.push_number_line-2.new.out.items two
    (c.in_ok-push_number_line-2.ensures ∙ ap (λ (n : ℕ). c.push_line.new.out.items ++ text_of_lines (decimal n ∷ [])) (sym (length-map c.args.names.now string_bytes))) in
    let four = more_lines ((begin ++ codes "-1" ∷ []) ++ decimal (length names) ∷ []) names o c.push_number_line-2.new.out.items c.push_names.new.out.items three c.in_ok-push_names.ensures in
    on_ok_weaker c.push_line-2.result
    (more_lines (((begin ++ codes "-1" ∷ []) ++ decimal (length names) ∷ []) ++ names) (codes "end_variable" ∷ []) o c.push_names.new.out.items c.push_line-2.new.out.items four) c.push_line-2.ensures
