use Rattle.std.proofs.Common.{◌≡◌, ℕ, ◌+◌, ◌<◌, List, Some, false, length, get_or, sym, ap, ◌∙◌, subst}
use Rattle.std.specs.Prelude.{slice_get}
use Rattle.std.specs.List.{list_any}
use Rattle.std.proofs.lemmas.List.{length-map}
use Rattle.std.proofs.lemmas.Option.{slice_get-get_or}
use Rattle.fdr.specs.Tasks.{FiniteDomainTask, Operator}
use Rattle.abstraction.specs.declared.digit.Digit.{Digit}
use Rattle.abstraction_groups.specs.declared.change.Change.{Change}
use Rattle.abstraction_groups.specs.Changes.{at_digits, is_assigned}
use Rattle.abstraction_groups.specs.Factors.{changes_of, digits_of}
use Rattle.abstraction_groups.specs.Pairs.{IsRow, least_source, least_target}
use Rattle.abstraction_groups.proofs.GroupRows.{operator_row}
use Rattle.abstraction_groups.proofs.ReadLaws.{length-digits}
use Rattle.abstraction_groups.proofs.ShiftLaws.{shift_told}
use Rattle.abstraction_groups.proofs.shift.shift_of.Goals as goal
use Rattle.abstraction_groups.proofs.shift.shift_of.Goals.{After-read_changes}

-- the operator with the number
there : (g : _) (c : After-read_changes g) → slice_get (g.A.Abstraction.task c.args.abstraction.now).operators c.args.operator ≡ Some c.index-operators-operator.result
there g c =
    let task = g.A.Abstraction.task c.args.abstraction.now in
    let same : c.operators.result.now ≡ task.operators = c.operators.ensures.value ∙ ap (λ (t : FiniteDomainTask). t.operators) c.task-task.ensures in
    let op : Operator = c.index-operators-operator.result in
    slice_get-get_or task.operators c.args.operator op c.requires.operator
    ∙ ap Some (sym (c.index-operators-operator.is ∙ ap (λ (xs : List Operator). get_or xs c.args.operator op) same))

-- the changes that were read
read : (g : _) (c : After-read_changes g) → c.read_changes.new.changes ≡ changes_of (g.A.FactoredAbstraction.factors c.args.abstraction.now) c.index-operators-operator.result
read g c = c.read_changes.ensures

pub first_entry-first-requires-clause-long : goal.first_entry-first-requires-clause-long
first_entry-first-requires-clause-long g c =
    let f = g.A.FactoredAbstraction.factors c.args.abstraction.now in
    ap (λ (cs : List Change). length cs) c.read_changes.ensures ∙ length-map f.variables _ ∙ sym (length-digits f) ∙ sym (ap (λ (ds : List Digit). length ds) c.digits.ensures)

pub first_entry-first-requires-clause-row : goal.first_entry-first-requires-clause-row
first_entry-first-requires-clause-row g c =
    let before = (goal.at.first_entry-first-requires-clause-row g c).After-read_changes in
    let task = g.A.Abstraction.task c.args.abstraction.now in
    let f = g.A.FactoredAbstraction.factors c.args.abstraction.now in
    subst (λ (ds : List Digit). IsRow (at_digits ds c.read_changes.new.changes)) (sym c.digits.ensures)
    (subst (λ (cs : List Change). IsRow (at_digits (digits_of f) cs)) (sym c.read_changes.ensures)
    (operator_row task f (g.A.Abstraction.abstraction c.args.abstraction.now) (g.met.A.FactoredAbstraction.factored c.args.abstraction.now) c.args.operator c.index-operators-operator.result (there g before)))

pub returns-clause-shift : goal.returns-clause-shift
returns-clause-shift g c =
    let before = (goal.at.returns-clause-shift g c).After-read_changes in
    let task = g.A.Abstraction.task c.args.abstraction.now in
    let a = g.A.Abstraction.abstraction c.args.abstraction.now in
    let f = g.A.FactoredAbstraction.factors c.args.abstraction.now in
    let op : Operator = c.index-operators-operator.result in
    let none : list_any is_assigned (changes_of f op) ≡ false = ap (list_any is_assigned) (sym c.read_changes.ensures) ∙ sym c.has_assigned.ensures ∙ c.if-has_assigned.false in
    let row : at_digits c.digits.result.now c.read_changes.new.changes ≡ at_digits (digits_of f) (changes_of f op) =
    ap (λ (ds : List Digit). at_digits ds c.read_changes.new.changes) c.digits.ensures ∙ ap (at_digits (digits_of f)) c.read_changes.ensures in
    λ i j l h.
    rw (c.first_entry-first.ensures, row)
    (shift_told task a f (g.met.A.FactoredAbstraction.factored c.args.abstraction.now) c.args.operator op i j (there g before) none l h)
