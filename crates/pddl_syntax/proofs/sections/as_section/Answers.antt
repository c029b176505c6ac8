use Rattle.std.proofs.Common.{List, ◌++◌, refl, sym, ap, ◌∙◌}
use Rattle.std.specs.Prelude.{Option, option_to_list}
use Rattle.std.specs.String.{string_bytes}
use Rattle.sexp.specs.Forms.{views}
use Rattle.pddl_syntax.specs.Sections as spec
use Rattle.pddl_syntax.proofs.Trees.{word_is, list_is}
use Rattle.pddl_syntax.proofs.HeadSteps.{one_here, one_not_here}
use Rattle.pddl_syntax.proofs.sections.as_section.Goals as goal

pub returns-in-Word-clause-one : goal.returns-in-Word-clause-one
returns-in-Word-clause-one c = λ rest. sym (ap (spec.section c.args.name.now) (word_is c.args.tree.now c.in-Word.text c.in-Word.span (string_bytes c.in-Word.text) rest c.in-Word.is refl))

pub returns-in-Word-clause-all : goal.returns-in-Word-clause-all
returns-in-Word-clause-all c = λ rest. sym (ap (spec.all_sections c.args.name.now) (word_is c.args.tree.now c.in-Word.text c.in-Word.span (string_bytes c.in-Word.text) rest c.in-Word.is refl))

pub returns-then-has_head-clause-one : goal.returns-then-has_head-clause-one
returns-then-has_head-clause-one c = λ rest.
    let w = c.args.name.now in let s = c.in-List.span in let i = views c.in-List.items.items in
    sym (ap (spec.section w) (list_is c.args.tree.now c.in-List.items c.in-List.span c.in-List.items.items rest c.in-List.is refl)
    ∙ ap (λ (o : Option spec.Part). spec.or_else o (spec.section w rest))
    (one_here w s.start i (views c.without_first.result.now) (ap (λ (ts : List _). spec.has_head w (views ts)) (sym c.deref.ensures.value) ∙ sym c.has_head.ensures ∙ c.if-has_head.true)
    (c.without_first.ensures ∙ ap (λ (ts : List _). spec.behind (views ts)) c.deref-then-has_head.ensures.value)))

pub returns-then-has_head-clause-all : goal.returns-then-has_head-clause-all
returns-then-has_head-clause-all c = λ rest.
    let w = c.args.name.now in let s = c.in-List.span in let i = views c.in-List.items.items in
    sym (ap (spec.all_sections w) (list_is c.args.tree.now c.in-List.items c.in-List.span c.in-List.items.items rest c.in-List.is refl)
    ∙ ap (λ (o : Option spec.Part). option_to_list o ++ spec.all_sections w rest)
    (one_here w s.start i (views c.without_first.result.now) (ap (λ (ts : List _). spec.has_head w (views ts)) (sym c.deref.ensures.value) ∙ sym c.has_head.ensures ∙ c.if-has_head.true)
    (c.without_first.ensures ∙ ap (λ (ts : List _). spec.behind (views ts)) c.deref-then-has_head.ensures.value)))

pub returns-else-has_head-clause-one : goal.returns-else-has_head-clause-one
returns-else-has_head-clause-one c = λ rest.
    let w = c.args.name.now in let s = c.in-List.span in let i = views c.in-List.items.items in
    sym (ap (spec.section w) (list_is c.args.tree.now c.in-List.items c.in-List.span c.in-List.items.items rest c.in-List.is refl)
    ∙ ap (λ (o : Option spec.Part). spec.or_else o (spec.section w rest))
    (one_not_here w s.start i (ap (λ (ts : List _). spec.has_head w (views ts)) (sym c.deref.ensures.value) ∙ sym c.has_head.ensures ∙ c.if-has_head.false)))

pub returns-else-has_head-clause-all : goal.returns-else-has_head-clause-all
returns-else-has_head-clause-all c = λ rest.
    let w = c.args.name.now in let s = c.in-List.span in let i = views c.in-List.items.items in
    sym (ap (spec.all_sections w) (list_is c.args.tree.now c.in-List.items c.in-List.span c.in-List.items.items rest c.in-List.is refl)
    ∙ ap (λ (o : Option spec.Part). option_to_list o ++ spec.all_sections w rest)
    (one_not_here w s.start i (ap (λ (ts : List _). spec.has_head w (views ts)) (sym c.deref.ensures.value) ∙ sym c.has_head.ensures ∙ c.if-has_head.false)))
