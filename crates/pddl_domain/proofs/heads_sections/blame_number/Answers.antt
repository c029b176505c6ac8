use Rattle.std.proofs.Common.{Bool, true, not, sym, ap, ◌∙◌}
use Rattle.sexp.specs.Forms.{Forms, views}
use Rattle.pddl_syntax.specs.declared.fault.FaultKind.TheVariants.{Unsupported}
use Rattle.pddl_syntax.specs.Faults.{first_of, fault, faults_if}
use Rattle.pddl_syntax.specs.Typed.{type_group_faults}
use Rattle.pddl_syntax.proofs.Trees.{word_is, list_is, noted}
use Rattle.pddl_domain.specs.DeclaredHeads.{functions_faults, faults_behind}
use Rattle.pddl_domain.proofs.heads_sections.blame_number.Goals as goal

pub returns-in-Word : goal.returns-in-Word
returns-in-Word c = λ known home heads count rest.
    let old = c.args.first.now in
    ap (λ (f : Forms). first_of old (faults_behind known home heads count f)) (word_is c.args.tree.now c.in-Word.text c.in-Word.span c.as_str.result.now rest c.in-Word.is c.as_str.ensures.value)
    ∙ ap (λ (b : Bool). first_of old (faults_if (not b) (fault Unsupported c.in-Word.span.start) (functions_faults known home true heads count rest))) (sym c.is_number.ensures)
    ∙ c.blame_if.ensures (functions_faults known home true heads count rest)

pub returns-in-List : goal.returns-in-List
returns-in-List c = λ known home heads count rest.
    let old = c.args.first.now in
    ap (λ (f : Forms). first_of old (faults_behind known home heads count f)) (list_is c.args.tree.now c.in-List.items c.in-List.span c.deref.result.now rest c.in-List.is c.deref.ensures.value)
    ∙ noted old c.blame_type_list.new.first (type_group_faults c.in-List.span.start (views c.deref.result.now)) (functions_faults known home true heads count rest) c.blame_type_list.ensures
