use Rattle.std.proofs.Common.{◌<◌, ◌++◌, ℕ, List, map, length, sym, ap, subst, ◌∙◌, arith}
use Rattle.std.proofs.lemmas.Grind.{common_steps}
use Rattle.std.proofs.lemmas.Bool.Decides.{nat_tests}
use Rattle.pddl_syntax.specs.Faults.{first_of}
use Rattle.pddl_syntax.specs.Typed.{spread_run, with_type, parent_text}
use Rattle.pddl_domain.specs.Objects.{Objects, objects_with, object_faults, IsTextOf}
use Rattle.pddl_domain.proofs.ObjectSteps.{object_added, object_blamed, run_begun, run_begun_faults, texts_stay}
use Rattle.pddl_domain.proofs.objects.Objects.declare_run.Goals as goal

pub loop-named-init : goal.loop-named-init
loop-named-init c =
    let types = c.args.types.now.names in let p = parent_text c.args.run.now in let ns = c.args.run.now.names.items in let o = c.args.self.now in
    let some : 0 < length ns = grind (arith, nat_tests, common_steps) in
    record {
      text = c.in_ok-declared.ensures.text;
      objects = ap (λ (k : Objects). objects_with types k (map (with_type p) ns)) c.in_ok-declared.ensures.objects ∙ run_begun types o p ns some;
      faults = λ rest. ap (λ (k : Objects). first_of c.args.first.now (object_faults types k (spread_run c.args.run.now ++ rest))) c.in_ok-declared.ensures.objects
          ∙ ap (first_of c.args.first.now) (run_begun_faults types o p ns rest some);
    }

pub loop-named-preserved : goal.loop-named-preserved
loop-named-preserved c =
    let types = c.args.types.now.names in let p = parent_text c.args.run.now in let ns = c.args.run.now.names.items in let ms = c.deref-named-items.result.now in
    let same = c.deref-named-items.ensures.value in let i = c.loop-named.named-index in let n = c.named-item.result in
    let old = c.loop-named.self in let new = c.declare.new.self in let d = c.in_ok-declared.declared in
    let type_is = c.in_ok-declared.ensures.number in let inv = c.loop-named.invariant in let step = c.in_ok-declare.ensures in
    record {
      text = subst (λ (texts : List (List ℕ)). IsTextOf texts p d.text) (sym (ap (λ (o : Objects). o.texts) step.objects ∙ texts_stay old _ d.number d.text)) inv.text;
      objects = object_added types p old new d.number d.text ns ms i n same c.loop-named-test.true c.named-item.is inv.text type_is step.objects ∙ inv.objects;
      faults = λ rest. object_blamed types p c.loop-named.first c.declare.new.first old new d.number d.text ns ms i n rest same c.loop-named-test.true c.named-item.is inv.text type_is step.objects step.faults
          ∙ inv.faults rest;
    }
