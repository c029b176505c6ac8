use Rattle.std.proofs.Common.{false, true, List, sym, ap, ◌∙◌}
use Rattle.std.specs.Prelude.{Option}
use Rattle.sexp.specs.Forms.{views}
use Rattle.pddl_names.specs.Names.{is_there}
use Rattle.pddl_syntax.specs.declared.fault.Fault.{Fault}
use Rattle.pddl_syntax.specs.Faults.{first_of}
use Rattle.pddl_syntax.specs.Typed.{Declared, spread, declared, typed_faults}
use Rattle.pddl_syntax.proofs.Trees.{first_of_append}
use Rattle.pddl_domain.specs.Objects.{objects_with, object_faults}
use Rattle.pddl_domain.proofs.ObjectSteps.{objects_run, objects_run_faults}
use Rattle.pddl_domain.proofs.objects.objects_section.Goals as goal

pub loop-run-init : goal.loop-run-init
loop-run-init c =
    let types = c.args.types.now.names in let f = views c.args.items.now in let o = c.args.objects.now in
    let read = ap spread c.deref-run-items.ensures.value ∙ c.in_ok-runs.ensures.meaning in
    record {
      objects = ap (objects_with types o) read;
      faults = ap (λ (ds : List Declared). first_of c.typed_list.new.first (object_faults types o ds)) read
          ∙ ap (λ (k : Option Fault). first_of k (object_faults types o (declared false f))) c.in_ok-runs.ensures.faults
          ∙ sym (first_of_append c.args.first.now (typed_faults false (is_there types) c.args.home true f) (object_faults types o (declared false f)));
    }

pub loop-run-preserved : goal.loop-run-preserved
loop-run-preserved c =
    let types = c.args.types.now.names in let rs = c.deref-run-items.result.now in let i = c.loop-run.run-index in let r = c.run-item.result in
    let step = c.in_ok-declare_run.ensures in
    record {
      objects = objects_run types c.loop-run.objects c.declare_run.new.self rs i r c.loop-run-test.true c.run-item.is step.objects ∙ c.loop-run.invariant.objects;
      faults = objects_run_faults types c.loop-run.first c.declare_run.new.first c.loop-run.objects c.declare_run.new.self rs i r c.loop-run-test.true c.run-item.is step.faults
          ∙ c.loop-run.invariant.faults;
    }
