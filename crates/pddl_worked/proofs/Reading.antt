-- What reading two texts computes is what they spell.
use Rattle.std.proofs.Common.{◌≡◌, ℕ, true, List, Result, Ok, Err, inr}
use Rattle.std.specs.Prelude.{Option, Some, None}
use Rattle.sexp.specs.declared.fault.SexpFault.{SexpFault}
use Rattle.sexp.specs.Forms.{Forms, IsOne, none}
use Rattle.sexp.specs.Running.{step, run, finished, items}
use Rattle.sexp.proofs.Sound.{items_sound}
use Rattle.pddl_task.specs.Planning.{PlanningTask}
use Rattle.pddl_syntax.specs.declared.fault.Fault.{Fault}
use Rattle.pddl_syntax.specs.declared.fault.PlanningFile.TheVariants.{Problem}
use Rattle.pddl_syntax.specs.Faults.{first_of}
use Rattle.pddl_action.specs.Actions.{schema_behind, value_faults, action_faults}
use Rattle.pddl.specs.declared.fault.PddlFault.TheVariants.{Section}
use Rattle.pddl.specs.Passes.{FileFault, first_pass}
use Rattle.pddl.specs.Sums.{stated_sum_faults}
use Rattle.pddl.specs.Texts.{goal_of, domain_passes, problem_passes, task_of, IsTree, SpellTask, IsTaskRefusal}

-- ---- what is computed. The lines `unfolding` name all that is computed with, so that answers need not.

abbrev forms_in : Result Forms SexpFault → Forms
forms_in (Ok f) = f
forms_in (Err e) = none

-- the tree of a text, as it is read
unfoldable pub tree_of : List ℕ → Forms
unfolding step run finished items
tree_of bytes = forms_in (items true bytes)

-- the first fault of the domain's passes, and below of the passes after the problem's tree was read
unfoldable pub domain_fault : List ℕ → Option FileFault
unfolding tree_of value_faults action_faults first_of first_pass
domain_fault domain = first_pass (domain_passes (tree_of domain))

unfoldable pub problem_fault : List ℕ → List ℕ → Option FileFault
unfolding tree_of schema_behind first_of first_pass stated_sum_faults
problem_fault domain problem = first_pass (problem_passes (tree_of domain) (tree_of problem))

unfoldable pub read_task : List ℕ → List ℕ → PlanningTask
unfolding tree_of schema_behind goal_of
read_task domain problem = task_of (tree_of domain) (tree_of problem)

-- ---- what is spelled

-- the text is read as one expression
abbrev pub IsRead : List ℕ → Type 0
IsRead bytes = (items true bytes ≡ Ok (tree_of bytes)) × IsOne (tree_of bytes)

its_tree : (bytes : List ℕ) → IsRead bytes → IsTree bytes (tree_of bytes)
its_tree bytes h = (h.1, items_sound true bytes (tree_of bytes) h.0)

pub spelled : (domain problem : List ℕ) (t : PlanningTask) → IsRead domain → IsRead problem
    → domain_fault domain ≡ None → problem_fault domain problem ≡ None → t ≡ read_task domain problem → SpellTask domain problem t
unfolding domain_fault problem_fault read_task
spelled domain problem t above below clean free is = record {
  d = tree_of domain;
  p = tree_of problem;
  domain_tree = its_tree domain above;
  problem_tree = its_tree problem below;
  domain_sections = clean;
  problem_sections = free;
  task_is = is;
}

pub refused : (domain problem : List ℕ) (f : Fault) → IsRead domain → IsRead problem
    → domain_fault domain ≡ None → problem_fault domain problem ≡ Some (record { file = Problem; fault = f }) → IsTaskRefusal domain problem (Section Problem f)
unfolding domain_fault problem_fault
refused domain problem f above below clean is = inr (tree_of domain, tree_of problem, its_tree domain above, its_tree problem below, clean, is)
