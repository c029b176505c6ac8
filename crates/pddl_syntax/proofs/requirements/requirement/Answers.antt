use Rattle.std.proofs.Common.{Bool, refl, sym, ap, ◌∙◌}
use Rattle.std.specs.Prelude.{Option}
use Rattle.sexp.specs.Forms.{Forms}
use Rattle.pddl_syntax.specs.declared.fault.Fault.{Fault}
use Rattle.pddl_syntax.specs.declared.fault.FaultKind.TheVariants.{Shape}
use Rattle.pddl_syntax.specs.Faults.{first_of, fault, faults_if}
use Rattle.pddl_syntax.specs.Sections.{requirement_faults}
use Rattle.pddl_syntax.proofs.Trees.{word_is, list_is, first_of_cons}
use Rattle.pddl_syntax.proofs.requirements.requirement.Goals as goal

pub returns-in-Word : goal.returns-in-Word
returns-in-Word c = λ rest.
    let old = c.args.first.now in
    ap (λ (f : Forms). first_of old (requirement_faults f)) (word_is c.args.tree.now c.in-Word.text c.in-Word.span c.as_str.result.now rest c.in-Word.is c.as_str.ensures.value)
    ∙ ap (λ (b : Bool). first_of old (faults_if b (fault Shape c.in-Word.span.start) (requirement_faults rest))) (sym c.lacks_colon.ensures)
    ∙ c.blame_if.ensures (requirement_faults rest)

pub returns-in-List : goal.returns-in-List
returns-in-List c = λ rest.
    let old = c.args.first.now in
    ap (λ (f : Forms). first_of old (requirement_faults f)) (list_is c.args.tree.now c.in-List.items c.in-List.span c.in-List.items.items rest c.in-List.is refl)
    ∙ first_of_cons old (fault Shape c.in-List.span.start) (requirement_faults rest)
    ∙ ap (λ (k : Option Fault). first_of k (requirement_faults rest)) (sym c.blame.ensures)
