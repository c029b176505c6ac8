use Rattle.std.proofs.Common.{refl, sym, ap, ◌∙◌}
use Rattle.std.specs.Prelude.{Option}
use Rattle.std.specs.Option.{option_map}
use Rattle.std.specs.String.{string_bytes}
use Rattle.sexp.specs.Forms.{Forms, views}
use Rattle.pddl_syntax.specs.declared.fault.Fault.{Fault}
use Rattle.pddl_syntax.specs.declared.fault.FaultKind.TheVariants.{Shape}
use Rattle.pddl_syntax.specs.Faults.{first_of, fault}
use Rattle.pddl_syntax.specs.Typed.{is_known, reading_of, complaints_of}
use Rattle.pddl_syntax.proofs.Trees.{word_is, list_is, on_ok, on_ok_3, first_of_cons}
use Rattle.pddl_syntax.proofs.TypedLists.{ends_run, passes_list, blames_list}
use Rattle.pddl_syntax.proofs.typed.Typed.read.Goals as goal

pub returns-then-self-clause-parent : goal.returns-then-self-clause-parent
returns-then-self-clause-parent c =
    let old = c.args.self.now in let new = c.end_run.new.self in
    on_ok_3 c.end_run.result _ _ _ _ (λ runs names wants rest.
    ends_run c.args.variables old.runs.items new.runs.items old.names.items new.names.items (option_map string_bytes c.in_ok-parent.parent) old.wants_type new.wants_type c.args.tree.now rest
    c.if-self.true wants names runs (c.in_ok-parent.ensures.parent rest))
    c.end_run.ensures.runs c.end_run.ensures.names c.end_run.ensures.wants

pub returns-in-Word-clause-parent : goal.returns-in-Word-clause-parent
returns-in-Word-clause-parent c =
    on_ok c.read_word.result _ _ (λ h rest.
    ap (reading_of c.args.variables c.args.self.now) (word_is c.args.tree.now c.in-Word.text c.in-Word.span c.as_str.result.now rest c.in-Word.is c.as_str.ensures.value)
    ∙ h c.in-Word.span.end rest) c.read_word.ensures.parent

pub returns-in-Word-clause-faults : goal.returns-in-Word-clause-faults
returns-in-Word-clause-faults c =
    let known = is_known c.args.any c.args.types.now in
    on_ok c.read_word.result _ _ (λ h home rest.
    ap (λ (f : Forms). first_of c.args.first.now (complaints_of c.args.variables known home c.args.self.now f)) (word_is c.args.tree.now c.in-Word.text c.in-Word.span c.as_str.result.now rest c.in-Word.is c.as_str.ensures.value)
    ∙ h known home c.in-Word.span.end rest) c.read_word.ensures.faults

pub returns-in-List-clause-parent : goal.returns-in-List-clause-parent
returns-in-List-clause-parent c = λ rest.
    let old = c.args.self.now in
    ap (reading_of c.args.variables old) (list_is c.args.tree.now c.in-List.items c.in-List.span c.in-List.items.items rest c.in-List.is refl)
    ∙ passes_list c.args.variables old.runs.items old.names.items old.wants_type c.in-List.span.start c.in-List.span.end (views c.in-List.items.items) rest c.if-self.false

pub returns-in-List-clause-faults : goal.returns-in-List-clause-faults
returns-in-List-clause-faults c = λ home rest.
    let old = c.args.self.now in let known = is_known c.args.any c.args.types.now in
    ap (λ (f : Forms). first_of c.args.first.now (complaints_of c.args.variables known home old f)) (list_is c.args.tree.now c.in-List.items c.in-List.span c.in-List.items.items rest c.in-List.is refl)
    ∙ blames_list c.args.variables known home old.names.items old.wants_type c.in-List.span.start c.in-List.span.end (views c.in-List.items.items) rest c.args.first.now c.if-self.false
    ∙ first_of_cons c.args.first.now (fault Shape c.in-List.span.start) (complaints_of c.args.variables known home old rest)
    ∙ ap (λ (k : Option Fault). first_of k (complaints_of c.args.variables known home old rest)) (sym c.blame.ensures)
