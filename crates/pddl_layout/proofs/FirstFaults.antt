-- The first pass with a fault decides, whatever stands in the parts of later passes.
use Rattle.std.proofs.Common.{◌≡◌, inl, inr, ℕ, List, [], ◌∷◌, ◌++◌, sym, ap, ◌∙◌}
use Rattle.std.specs.Prelude.{Option, Some, None}
use Rattle.sexp.specs.Forms.{Forms}
use Rattle.pddl_syntax.specs.declared.fault.Fault.{Fault}
use Rattle.pddl_syntax.specs.declared.fault.PlanningFile.{PlanningFile}
use Rattle.pddl_syntax.specs.Faults.{first_of}
use Rattle.pddl.specs.declared.fault.PddlFault.TheVariants.{Section}
use Rattle.pddl.specs.Passes.{Pass, FileFault, in_file, first_pass}
use Rattle.pddl.specs.Texts.{IsTree, IsTaskRefusal, declaring_passes, actions_pass, domain_passes}
use Rattle.pddl_layout.specs.Agreements.{AgreeInDeclarations, AgreeInObjects, object_passes}

stays_first : (file : PlanningFile) (o : Option Fault) (later rest : Option FileFault) (e : FileFault) → in_file file o later ≡ Some e → (later ≡ Some e → rest ≡ Some e) → in_file file o rest ≡ Some e
stays_first file (Some f) later rest e h go = h
stays_first file None later rest e h go = go h

pub earlier_decide : (ps qs : List Pass) (e : FileFault) → first_pass ps ≡ Some e → first_pass (ps ++ qs) ≡ Some e
unfolding first_pass
earlier_decide [] qs e h = absurd cc
earlier_decide (p ∷ ps) qs e h = stays_first p.file (first_of None p.faults) (first_pass ps) (first_pass (ps ++ qs)) e h (earlier_decide ps qs e)

same_declaring : (d c : Forms) → AgreeInDeclarations d c → declaring_passes d ≡ declaring_passes c
same_declaring d c a = rw (a.heads, a.requirements, a.types, a.constants, a.predicates, a.functions)

at_declarations : (domain problem : List ℕ) (d : Forms) (e : FileFault) → IsTree domain d → first_pass (declaring_passes d) ≡ Some e → IsTaskRefusal domain problem (Section e.file e.fault)
at_declarations domain problem d e tree h = inl (d, tree, earlier_decide (declaring_passes d) (actions_pass d ∷ []) e h)

pub declarations_decide : (domain other_domain problem other_problem : List ℕ) (d c : Forms) (e : FileFault)
    → IsTree domain d → IsTree other_domain c → AgreeInDeclarations d c → first_pass (declaring_passes d) ≡ Some e
    → IsTaskRefusal domain problem (Section e.file e.fault) × IsTaskRefusal other_domain other_problem (Section e.file e.fault)
declarations_decide domain other_domain problem other_problem d c e tree other a h =
    (at_declarations domain problem d e tree h, at_declarations other_domain other_problem c e other (ap first_pass (sym (same_declaring d c a)) ∙ h))

same_objects : (d p q : Forms) → AgreeInObjects p q → object_passes d p ≡ object_passes d q
same_objects d p q a = rw (a.heads, a.objects)

at_objects : (domain problem : List ℕ) (d p : Forms) (e : FileFault) → IsTree domain d → first_pass (domain_passes d) ≡ None → IsTree problem p
    → first_pass (object_passes d p) ≡ Some e → IsTaskRefusal domain problem (Section e.file e.fault)
at_objects domain problem d p e tree clean below h = inr (d, p, tree, below, clean, earlier_decide (object_passes d p) _ e h)

pub objects_decide : (domain problem other_problem : List ℕ) (d p q : Forms) (e : FileFault)
    → IsTree domain d → first_pass (domain_passes d) ≡ None → IsTree problem p → IsTree other_problem q → AgreeInObjects p q
    → first_pass (object_passes d p) ≡ Some e → IsTaskRefusal domain problem (Section e.file e.fault) × IsTaskRefusal domain other_problem (Section e.file e.fault)
objects_decide domain problem other_problem d p q e tree clean below under a h =
    (at_objects domain problem d p e tree clean below h, at_objects domain other_problem d q e tree clean under (ap first_pass (sym (same_objects d p q a)) ∙ h))
