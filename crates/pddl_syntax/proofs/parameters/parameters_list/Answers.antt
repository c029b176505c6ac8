use Rattle.std.proofs.Common.{true, [], List, sym, ap, ◌∙◌}
use Rattle.std.specs.Prelude.{Option}
use Rattle.sexp.specs.Forms.{views}
use Rattle.pddl_names.specs.Names.{is_there}
use Rattle.pddl_syntax.specs.declared.fault.Fault.{Fault}
use Rattle.pddl_syntax.specs.Faults.{first_of}
use Rattle.pddl_syntax.specs.declared.typed.Run.{Run}
use Rattle.pddl_syntax.specs.Typed.{Declared, spread, declared, typed_faults}
use Rattle.pddl_syntax.specs.Parameters.{variable_faults}
use Rattle.pddl_syntax.proofs.Trees.{first_of_append, on_ok}
use Rattle.pddl_syntax.proofs.parameters.parameters_list.Goals as goal

pub returns-clause-faults : goal.returns-clause-faults
returns-clause-faults c =
    let old = c.args.first.now in let f = views c.args.items.now in let ts = typed_faults true (is_there c.args.types.now.names) c.args.home true f in
    on_ok c.declared.result _ _ (λ e.
    e
    ∙ ap (λ (rs : List Run). first_of c.typed_list.new.first (variable_faults [] 0 (spread rs))) c.deref.ensures.value
    ∙ ap (λ (ds : List Declared). first_of c.typed_list.new.first (variable_faults [] 0 ds)) c.in_ok-runs.ensures.meaning
    ∙ ap (λ (k : Option Fault). first_of k (variable_faults [] 0 (declared true f))) c.in_ok-runs.ensures.faults
    ∙ sym (first_of_append old ts (variable_faults [] 0 (declared true f))))
    c.declared.ensures.faults
