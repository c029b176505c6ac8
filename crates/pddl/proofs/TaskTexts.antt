-- Two texts spell one task, or have one fault that goes first, and never both.
use Rattle.std.proofs.Common.{◌≡◌, ◌≢◌, ◌⊎◌, inl, inr, ℕ, true, List, Option, refl, sym, ap, subst, ◌∙◌}
use Rattle.std.specs.Prelude.{Some, None}
use Rattle.sexp.specs.Forms.{Forms, IsOne}
use Rattle.sexp.specs.Grammar.{SpellsAll}
use Rattle.sexp.specs.Faults.{IsFirstFault}
use Rattle.sexp.specs.declared.fault.SexpFault.{SexpFault}
use Rattle.sexp.proofs.Promises.{one_reading_is, one_without_fault_is, one_spelled_or_not_is}
use Rattle.sexp.proofs.Blame.{one_first}
use Rattle.pddl_task.specs.Planning.{PlanningTask}
use Rattle.pddl_syntax.specs.declared.fault.PlanningFile.TheVariants.{Domain, Problem}
use Rattle.pddl.specs.declared.fault.PddlFault.{PddlFault}
use Rattle.pddl.specs.declared.fault.PddlFault.TheVariants.{OutOfMemory, Tree, Section}
use Rattle.pddl.specs.Passes.{FileFault, first_pass}
use Rattle.pddl.specs.Texts.{IsTree, SpellTask, IsTaskRefusal, IsPassFault, task_of, domain_passes, problem_passes}

one_tree : (bytes : List ℕ) (f g : Forms) → IsTree bytes f → IsTree bytes g → f ≡ g
one_tree bytes f g h k = one_reading_is bytes f g h.1 k.1

pub one_task_is : (domain problem : List ℕ) (t u : PlanningTask) → SpellTask domain problem t → SpellTask domain problem u → t ≡ u
one_task_is domain problem t u a b =
    let d = one_tree domain a.d b.d a.domain_tree b.domain_tree in
    let p = one_tree problem a.p b.p a.problem_tree b.problem_tree in
    a.task_is ∙ ap (λ (f : Forms). task_of f a.p) d ∙ ap (λ (f : Forms). task_of b.d f) p ∙ sym b.task_is

-- ---- what is spelled has no fault

no_tree_fault : (bytes : List ℕ) (f : Forms) (e : SexpFault) → IsTree bytes f → IsFirstFault true bytes e → ⊥
no_tree_fault bytes f e tree h = one_without_fault_is bytes f e tree.0 tree.1 h.0

not_both : (o : Option FileFault) (e : FileFault) → o ≡ None → o ≡ Some e → ⊥
not_both o e h k = cc

no_pass_fault : (domain problem : List ℕ) (t : PlanningTask) (e : FileFault) → SpellTask domain problem t → IsPassFault domain problem e → ⊥
no_pass_fault domain problem t e s (inl (d, tree, at)) =
    not_both (first_pass (domain_passes d)) e (subst (λ (f : Forms). first_pass (domain_passes f) ≡ None) (one_tree domain s.d d s.domain_tree tree) s.domain_sections) at
no_pass_fault domain problem t e s (inr (d, p, domain_tree, problem_tree, clean, at)) =
    not_both (first_pass (problem_passes d p)) e
    (subst (λ (f : Forms). first_pass (problem_passes d f) ≡ None) (one_tree problem s.p p s.problem_tree problem_tree)
    (subst (λ (f : Forms). first_pass (problem_passes f s.p) ≡ None) (one_tree domain s.d d s.domain_tree domain_tree) s.problem_sections)) at

pub spelled_not_refused_is : (domain problem : List ℕ) (t : PlanningTask) (e : PddlFault) → SpellTask domain problem t → IsTaskRefusal domain problem e → e ≡ OutOfMemory
spelled_not_refused_is domain problem t OutOfMemory s h = refl
spelled_not_refused_is domain problem t (Tree Domain e) s h = absurd (no_tree_fault domain s.d e s.domain_tree h)
spelled_not_refused_is domain problem t (Tree Problem e) s h = absurd (no_tree_fault problem s.p e s.problem_tree h.1)
spelled_not_refused_is domain problem t (Section file f) s h = absurd (no_pass_fault domain problem t (record { file = file; fault = f }) s h)

-- ---- one or the other

abbrev pub IsJudged : List ℕ → List ℕ → Type 0
IsJudged domain problem =
    ((t : PlanningTask) × SpellTask domain problem t) ⊎ ((e : PddlFault) × (e ≢ OutOfMemory) × IsTaskRefusal domain problem e)

judged_passes : (domain problem : List ℕ) (d p : Forms) → IsTree domain d → IsTree problem p → first_pass (domain_passes d) ≡ None
    → (o : Option FileFault) → first_pass (problem_passes d p) ≡ o → IsJudged domain problem
judged_passes domain problem d p domain_tree problem_tree clean None e =
    inl (task_of d p, record { d = d; p = p; domain_tree = domain_tree; problem_tree = problem_tree; domain_sections = clean; problem_sections = e; task_is = refl })
judged_passes domain problem d p domain_tree problem_tree clean (Some f) e =
    inr (Section f.file f.fault, (λ w. absurd cc), inr (d, p, domain_tree, problem_tree, clean, e))

judged_problem : (domain problem : List ℕ) (d : Forms) → IsTree domain d → first_pass (domain_passes d) ≡ None
    → ((p : Forms) × IsOne p × SpellsAll problem p) ⊎ ((e : SexpFault) × IsFirstFault true problem e) → IsJudged domain problem
judged_problem domain problem d tree clean (inl (p, one, spelled)) = judged_passes domain problem d p tree (one, spelled) clean (first_pass (problem_passes d p)) refl
judged_problem domain problem d tree clean (inr (e, first)) = inr (Tree Problem e, (λ w. absurd cc), ((d, tree, clean), first))

judged_domain : (domain problem : List ℕ) (d : Forms) → IsTree domain d → (o : Option FileFault) → first_pass (domain_passes d) ≡ o → IsJudged domain problem
judged_domain domain problem d tree None e = judged_problem domain problem d tree e (one_spelled_or_not_is problem)
judged_domain domain problem d tree (Some f) e = inr (Section f.file f.fault, (λ w. absurd cc), inl (d, tree, e))

judged : (domain problem : List ℕ) → ((d : Forms) × IsOne d × SpellsAll domain d) ⊎ ((e : SexpFault) × IsFirstFault true domain e) → IsJudged domain problem
judged domain problem (inl (d, one, spelled)) = judged_domain domain problem d (one, spelled) (first_pass (domain_passes d)) refl
judged domain problem (inr (e, first)) = inr (Tree Domain e, (λ w. absurd cc), first)

pub spelled_or_refused_is : (domain problem : List ℕ) → IsJudged domain problem
spelled_or_refused_is domain problem = judged domain problem (one_spelled_or_not_is domain)

-- ---- one fault goes first

first_of_two : (one two : FileFault) (o : Option FileFault) → o ≡ Some one → o ≡ Some two → one ≡ two
first_of_two one two o h k = cc

at_domain : (domain : List ℕ) (d c : Forms) (o : Option FileFault) → IsTree domain d → IsTree domain c → first_pass (domain_passes d) ≡ o → first_pass (domain_passes c) ≡ o
at_domain domain d c o h k e = subst (λ (f : Forms). first_pass (domain_passes f) ≡ o) (one_tree domain d c h k) e

at_problem : (domain problem : List ℕ) (d c p q : Forms) (o : Option FileFault) → IsTree domain d → IsTree domain c → IsTree problem p → IsTree problem q
    → first_pass (problem_passes d p) ≡ o → first_pass (problem_passes c q) ≡ o
at_problem domain problem d c p q o h k i j e =
    subst (λ (f : Forms). first_pass (problem_passes c f) ≡ o) (one_tree problem p q i j)
    (subst (λ (f : Forms). first_pass (problem_passes f p) ≡ o) (one_tree domain d c h k) e)

-- the domain's tree is at fault
at_domain_tree : (domain problem : List ℕ) (e : SexpFault) (f : PddlFault) → IsFirstFault true domain e → f ≢ OutOfMemory → IsTaskRefusal domain problem f → Tree Domain e ≡ f
at_domain_tree domain problem e OutOfMemory h not k = absurd (not refl)
at_domain_tree domain problem e (Tree Domain x) h not k = ap (λ (y : SexpFault). Tree Domain y) (one_first true domain e x h k)
at_domain_tree domain problem e (Tree Problem x) h not ((d, tree, clean), first) = absurd (no_tree_fault domain d e tree h)
at_domain_tree domain problem e (Section file f) h not (inl (d, tree, at)) = absurd (no_tree_fault domain d e tree h)
at_domain_tree domain problem e (Section file f) h not (inr (d, p, tree, below, clean, at)) = absurd (no_tree_fault domain d e tree h)

-- a part of the domain is at fault
at_domain_pass : (domain problem : List ℕ) (d : Forms) (e : FileFault) (f : PddlFault) → IsTree domain d → first_pass (domain_passes d) ≡ Some e
    → f ≢ OutOfMemory → IsTaskRefusal domain problem f → Section e.file e.fault ≡ f
at_domain_pass domain problem d e OutOfMemory tree at not k = absurd (not refl)
at_domain_pass domain problem d e (Tree Domain x) tree at not k = absurd (no_tree_fault domain d x tree k)
at_domain_pass domain problem d e (Tree Problem x) tree at not ((c, other, clean), first) = absurd (not_both _ e clean (at_domain domain d c (Some e) tree other at))
at_domain_pass domain problem d e (Section file f) tree at not (inl (c, other, there)) =
    ap (λ (x : FileFault). Section x.file x.fault) (first_of_two e (record { file = file; fault = f }) _ (at_domain domain d c (Some e) tree other at) there)
at_domain_pass domain problem d e (Section file f) tree at not (inr (c, p, other, problem_tree, clean, there)) =
    absurd (not_both _ e clean (at_domain domain d c (Some e) tree other at))

-- the problem's tree is at fault
at_problem_tree : (domain problem : List ℕ) (d : Forms) (e : SexpFault) (f : PddlFault) → IsTree domain d → first_pass (domain_passes d) ≡ None → IsFirstFault true problem e
    → f ≢ OutOfMemory → IsTaskRefusal domain problem f → Tree Problem e ≡ f
at_problem_tree domain problem d e OutOfMemory tree clean h not k = absurd (not refl)
at_problem_tree domain problem d e (Tree Domain x) tree clean h not k = absurd (no_tree_fault domain d x tree k)
at_problem_tree domain problem d e (Tree Problem x) tree clean h not (text, first) = ap (λ (y : SexpFault). Tree Problem y) (one_first true problem e x h first)
at_problem_tree domain problem d e (Section file f) tree clean h not (inl (c, other, there)) =
    absurd (not_both _ (record { file = file; fault = f }) (at_domain domain d c None tree other clean) there)
at_problem_tree domain problem d e (Section file f) tree clean h not (inr (c, p, other, below, free, at)) = absurd (no_tree_fault problem p e below h)

-- a part of the problem is at fault, or what actions may cost
at_problem_pass : (domain problem : List ℕ) (d p : Forms) (e : FileFault) (f : PddlFault) → IsTree domain d → IsTree problem p → first_pass (domain_passes d) ≡ None
    → first_pass (problem_passes d p) ≡ Some e → f ≢ OutOfMemory → IsTaskRefusal domain problem f → Section e.file e.fault ≡ f
at_problem_pass domain problem d p e OutOfMemory tree below clean at not k = absurd (not refl)
at_problem_pass domain problem d p e (Tree Domain x) tree below clean at not k = absurd (no_tree_fault domain d x tree k)
at_problem_pass domain problem d p e (Tree Problem x) tree below clean at not (text, first) = absurd (no_tree_fault problem p x below first)
at_problem_pass domain problem d p e (Section file f) tree below clean at not (inl (c, other, there)) =
    absurd (not_both _ (record { file = file; fault = f }) (at_domain domain d c None tree other clean) there)
at_problem_pass domain problem d p e (Section file f) tree below clean at not (inr (c, q, other, under, free, there)) =
    ap (λ (x : FileFault). Section x.file x.fault) (first_of_two e (record { file = file; fault = f }) _ (at_problem domain problem d c p q (Some e) tree other below under at) there)

pub one_refusal_is : (domain problem : List ℕ) (e f : PddlFault) → e ≢ OutOfMemory → f ≢ OutOfMemory
    → IsTaskRefusal domain problem e → IsTaskRefusal domain problem f → e ≡ f
one_refusal_is domain problem OutOfMemory f some other h k = absurd (some refl)
one_refusal_is domain problem (Tree Domain e) f some other h k = at_domain_tree domain problem e f h other k
one_refusal_is domain problem (Tree Problem e) f some other ((d, tree, clean), first) k = at_problem_tree domain problem d e f tree clean first other k
one_refusal_is domain problem (Section file e) f some other (inl (d, tree, at)) k = at_domain_pass domain problem d (record { file = file; fault = e }) f tree at other k
one_refusal_is domain problem (Section file e) f some other (inr (d, p, tree, below, clean, at)) k =
    at_problem_pass domain problem d p (record { file = file; fault = e }) f tree below clean at other k
