use Rattle.std.proofs.Common.{ℕ, List, ap, sym, ◌∙◌}
use Rattle.std.specs.String.{string_bytes}
use Rattle.pddl_names.specs.Names.{texts_of, number_of, with_name}
use Rattle.pddl_names.proofs.NameLists.{place_of-there, is_there-place, number_of-place, with_name-there, number_of-with_name}
use Rattle.pddl_names.proofs.NameStrings.{insert_key-texts, number_of-texts}
use Rattle.pddl_names.proofs.Names.add.Goals as goal

pub returns-in-Some-clause-names : goal.returns-in-Some-clause-names
returns-in-Some-clause-names c =
    sym (with_name-there c.args.self.now c.args.name.now
    (is_there-place c.args.self.now c.args.name.now c.in-Some.number (sym c.in-Some.ensures.place)))

pub returns-in-Some-clause-number : goal.returns-in-Some-clause-number
returns-in-Some-clause-number c =
    sym (number_of-place c.args.self.now c.args.name.now c.in-Some.number (sym c.in-Some.ensures.place))

pub returns-in-Some-clause-place : goal.returns-in-Some-clause-place
returns-in-Some-clause-place c =
    sym (number_of-place c.args.self.now c.args.name.now c.in-Some.number (sym c.in-Some.ensures.place))

pub returns-clause-names : goal.returns-clause-names
returns-clause-names c =
    ap texts_of c.in_ok-number.ensures.keys ∙ insert_key-texts c.self.inside.table.keys c.in_ok-from_str.field-0
    ∙ (λ i. with_name (c.self.view_is i) (c.in_ok-from_str.ensures.ok i))

pub returns-clause-place : goal.returns-clause-place
returns-clause-place c =
    c.in_ok-number.ensures.index
    ∙ sym (number_of-texts (string_bytes c.in_ok-from_str.field-0) c.self.inside.table.keys)
    ∙ (λ i. number_of (c.self.view_is i) (c.in_ok-from_str.ensures.ok i))

pub returns-clause-number : goal.returns-clause-number
returns-clause-number c =
    returns-clause-place c ∙ sym (number_of-with_name c.args.self.now c.args.name.now)
    ∙ sym (ap (λ (l : List (List ℕ)). number_of l c.args.name.now) (returns-clause-names c))

pub returns-in_err-from_str-clause-known : goal.returns-in_err-from_str-clause-known
returns-in_err-from_str-clause-known c = λ there. absurd
    (c.in_default.not-Some (number_of c.args.self.now c.args.name.now)
    (c.place_of.ensures.place ∙ place_of-there c.args.self.now c.args.name.now there))

pub returns-in_err-number-clause-known : goal.returns-in_err-number-clause-known
returns-in_err-number-clause-known c = λ there. absurd
    (c.in_default.not-Some (number_of c.args.self.now c.args.name.now)
    (c.place_of.ensures.place ∙ place_of-there c.args.self.now c.args.name.now there))
