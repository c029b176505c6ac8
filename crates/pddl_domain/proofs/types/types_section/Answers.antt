use Rattle.std.proofs.Common.{◌≡◌, false, true, List, sym, ap, ◌∙◌}
use Rattle.std.specs.Prelude.{Option}
use Rattle.std.proofs.lemmas.Result.{on_ok_weaker}
use Rattle.sexp.specs.Forms.{views}
use Rattle.pddl_syntax.specs.declared.fault.Fault.{Fault}
use Rattle.pddl_syntax.specs.Faults.{first_of}
use Rattle.pddl_syntax.specs.Typed.{Declared, declared, spread, typed_faults}
use Rattle.pddl_syntax.proofs.Trees.{first_of_append}
use Rattle.pddl_domain.specs.Cycles.{lies_on_cycle}
use Rattle.pddl_domain.specs.Types.{first_of_name, subtypes, supertypes, subtype_faults}
use Rattle.pddl_domain.proofs.types.types_section.Goals as goal

abbrev faults_of : List Declared → List Fault
faults_of ds = subtype_faults (first_of_name (subtypes ds)) (lies_on_cycle (supertypes ds)) (subtypes ds)

pub returns-clause-faults : goal.returns-clause-faults
returns-clause-faults c =
    let f = views c.args.items.now in let ds = declared false f in let old = c.args.first.now in
    let read : spread c.deref.result.now ≡ ds = ap spread c.deref.ensures.value ∙ c.in_ok-runs.ensures.meaning in
    on_ok_weaker c.declared_types.result (λ e.
    e ∙ ap (λ (es : List Declared). first_of c.type_runs.new.first (faults_of es)) read
    ∙ ap (λ (k : Option Fault). first_of k (faults_of ds)) c.in_ok-runs.ensures.faults
    ∙ sym (first_of_append old (typed_faults false (λ t. true) c.args.home true f) (faults_of ds))) c.declared_types.ensures.faults
