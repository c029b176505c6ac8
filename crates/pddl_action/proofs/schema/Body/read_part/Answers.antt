use Rattle.std.proofs.Common.{◌++◌, List, ℕ, sym, ap, ◌∙◌}
use Rattle.std.proofs.lemmas.List.{append-nil}
use Rattle.std.proofs.lemmas.Result.{on_ok_weaker}
use Rattle.sexp.specs.Forms.{alone}
use Rattle.pddl_action.specs.declared.keyword.Keyword.{Keyword}
use Rattle.pddl_action.specs.Actions.{value_increases}
use Rattle.pddl_action.proofs.Parts.{no_increases_in_conditions}
use Rattle.pddl_action.proofs.schema.Body.read_part.Goals as goal

pub returns-in-Precondition-clause-increases : goal.returns-in-Precondition-clause-increases
returns-in-Precondition-clause-increases c =
    let old = c.args.self.now.increases.items in
    on_ok_weaker c.read_precondition.result
    (λ e. e ∙ sym (append-nil old) ∙ ap (λ (xs : List ℕ). old ++ xs)
    (sym (ap (λ (k : Keyword). value_increases k (alone c.args.part.value.now)) c.in-Precondition.is ∙ no_increases_in_conditions (alone c.args.part.value.now)))) c.read_precondition.ensures.increases
