-- Texts with the same sections, up to places and in any order between different names, spell the same task.
use Rattle.std.proofs.Common.{◌≡◌, ℕ, List, [], ◌∷◌, sym, ap₂, subst, ◌∙◌}
use Rattle.std.specs.Prelude.{None}
use Rattle.sexp.specs.Forms.{Forms}
use Rattle.sexp.proofs.Promises.{one_reading_is}
use Rattle.pddl_task.specs.Planning.{PlanningTask}
use Rattle.pddl_syntax.specs.declared.fault.PlanningFile.TheVariants.{Domain, Problem}
use Rattle.pddl_syntax.specs.Sections.{head_faults}
use Rattle.pddl_syntax.proofs.Firsts.{none_kept}
use Rattle.pddl.specs.Passes.{Pass, first_pass}
use Rattle.pddl.specs.Texts.{domain_passes, task_of, problem_passes, IsTree, SpellTask}
use Rattle.pddl_laws.proofs.Clean.{kept_clean}
use Rattle.pddl_layout.specs.Shapes.{SameShape}
use Rattle.pddl_layout.specs.Sections.{SameSections, HasSections}
use Rattle.pddl_layout.proofs.Alike.{Alike, equal_lists}
use Rattle.pddl_layout.proofs.SectionShapes.{head_alike}
use Rattle.pddl_layout.proofs.SectionHeads.{reordered_clean}
use Rattle.pddl_layout.proofs.PartShapes.{across, same_sections}
use Rattle.pddl_layout.proofs.TaskShapes.{task_same}
use Rattle.pddl_layout.proofs.PassShapes.{passes_clean, domain_alike, problem_alike}

one_tree : (bytes : List ℕ) (f g : Forms) → IsTree bytes f → IsTree bytes g → f ≡ g
one_tree bytes f g h k = one_reading_is bytes f g h.1 k.1

-- trees with the same sections
record SameTexts (d p c q : Forms) : Type 0 where
  domains : SameSections Domain d c
  problems : SameSections Problem p q
  domain_heads : first_pass (domain_passes d) ≡ None → Alike (head_faults Domain d) (head_faults Domain c)
  problem_heads : first_pass (problem_passes d p) ≡ None → Alike (head_faults Problem p) (head_faults Problem q)

moved : (domain problem : List ℕ) (d p c q : Forms) (t : PlanningTask) → IsTree domain c → IsTree problem q → SameTexts d p c q
    → first_pass (domain_passes d) ≡ None → first_pass (problem_passes d p) ≡ None → t ≡ task_of d p → SpellTask domain problem t
moved domain problem d p c q t tree below same clean free e = record {
  d = c;
  p = q;
  domain_tree = tree;
  problem_tree = below;
  domain_sections = passes_clean (domain_passes d) (domain_passes c) (domain_alike d c same.domains (same.domain_heads clean)) clean;
  problem_sections = passes_clean (problem_passes d p) (problem_passes c q) (problem_alike d c p q same.domains same.problems (same.problem_heads free)) free;
  task_is = e ∙ task_same d c p q same.domains same.problems;
}

-- texts whose trees have the same sections spell the same task
spelled_again : (domain problem other_domain other_problem : List ℕ) (d p c q : Forms) (t : PlanningTask)
    → IsTree domain d → IsTree problem p → IsTree other_domain c → IsTree other_problem q → SameTexts d p c q → SpellTask domain problem t → SpellTask other_domain other_problem t
spelled_again domain problem other_domain other_problem d p c q t tree below other under same s =
    let ds : s.d ≡ d = one_tree domain s.d d s.domain_tree tree in
    let ps : s.p ≡ p = one_tree problem s.p p s.problem_tree below in
    moved other_domain other_problem d p c q t other under same
    (subst (λ (f : Forms). first_pass (domain_passes f) ≡ None) ds s.domain_sections)
    (subst (λ (f : Forms). first_pass (problem_passes d f) ≡ None) ps (subst (λ (f : Forms). first_pass (problem_passes f s.p) ≡ None) ds s.problem_sections))
    (s.task_is ∙ ap₂ task_of ds ps)

pub places_free : (domain problem other_domain other_problem : List ℕ) (d p c q : Forms) (t : PlanningTask)
    → IsTree domain d → IsTree problem p → IsTree other_domain c → IsTree other_problem q → SameShape d c → SameShape p q
    → SpellTask domain problem t → SpellTask other_domain other_problem t
places_free domain problem other_domain other_problem d p c q t tree below other under e g =
    spelled_again domain problem other_domain other_problem d p c q t tree below other under (record {
      domains = same_sections Domain d c e;
      problems = same_sections Problem p q g;
      domain_heads = λ h. across (λ (n : ℕ) (f : Forms). head_faults Domain f) 0 0 d c (λ m n. head_alike Domain) e;
      problem_heads = λ h. across (λ (n : ℕ) (f : Forms). head_faults Problem f) 0 0 p q (λ m n. head_alike Problem) g;
    })

-- a first pass that has no fault
first_clean : (p : Pass) (ps : List Pass) → first_pass (p ∷ ps) ≡ None → p.faults ≡ []
first_clean p ps h = none_kept p.faults (kept_clean p ps h).0

pub sections_free : (domain problem other_domain other_problem : List ℕ) (d p c q : Forms) (t : PlanningTask)
    → IsTree domain d → IsTree problem p → IsTree other_domain c → IsTree other_problem q
    → SameSections Domain d c → SameSections Problem p q → HasSections Domain c → HasSections Problem q
    → SpellTask domain problem t → SpellTask other_domain other_problem t
sections_free domain problem other_domain other_problem d p c q t tree below other under s r h k =
    spelled_again domain problem other_domain other_problem d p c q t tree below other under (record {
      domains = s;
      problems = r;
      domain_heads = λ e. let x = first_clean _ _ e in equal_lists _ _ (x ∙ sym (reordered_clean Domain d c tree.0 x s h));
      problem_heads = λ e. let x = first_clean _ _ e in equal_lists _ _ (x ∙ sym (reordered_clean Problem p q below.0 x r k));
    })
