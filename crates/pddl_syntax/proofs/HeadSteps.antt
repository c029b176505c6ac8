-- Steps over the first tree of a list.
use Rattle.std.proofs.Common.{◌≡◌, ◌<◌, ◌≤◌, ℕ, Bool, true, false, List, [], ◌∷◌, ◌++◌, length, drop, get_or, refl, sym, ap, ◌∙◌, arith, if◌then◌else◌}
use Rattle.std.specs.Prelude.{Option, Some, None, Result, Ok, Err, OnOk, not, codes}
use Rattle.sexp.specs.declared.tree.Tree.{Tree}
use Rattle.sexp.specs.Forms.{Forms, none, before, views}
use Rattle.pddl_syntax.specs.declared.fault.Fault.{Fault}
use Rattle.pddl_syntax.specs.declared.fault.FaultKind.TheVariants.{Shape}
use Rattle.pddl_syntax.specs.declared.fault.PlanningFile.{PlanningFile}
use Rattle.pddl_syntax.specs.Faults.{fault, faults_if, earlier, first_of}
use Rattle.pddl_syntax.specs.Sections.{behind, start_of, has_head, has_name, one_section, more_faults, name_faults, title_word, title_faults, behind_define_faults, root_faults}
use Rattle.pddl_syntax.proofs.Trees.{at_tree, views_at, behind_before, first_of_cons, first_of_append}

pub views_behind : (ts : List Tree) → views (drop 1 ts) ≡ behind (views ts)
views_behind [] = refl
views_behind (t ∷ ts) = sym (behind_before t (views ts))

pub views_first : (ts : List Tree) (t : Tree) → 1 ≤ length ts → t ≡ get_or ts 0 t → views ts ≡ before t (behind (views ts))
views_first ts t h is = views_at ts 0 t (omega arith) is ∙ ap (before t) (views_behind ts)

pub views_none : (ts : List Tree) → length ts < 1 → views ts ≡ none
views_none [] h = refl
views_none (t ∷ ts) h = absurd (omega arith)

-- one fault more is noted
pub noted_one : (old new : Option Fault) (f : Fault) (fs : List Fault) → new ≡ earlier old f → first_of old (f ∷ fs) ≡ first_of new fs
noted_one old new f fs is = first_of_cons old f fs ∙ ap (λ (k : Option Fault). first_of k fs) (sym is)

-- a test of the first tree, and the rest behind it
pub tested_first : (old mid new : Option Fault) (ts : List Tree) (t : Tree) (whole later : Forms → List Fault) (test : Forms → Bool) (b : Bool) (at : ℕ)
    → 1 ≤ length ts → t ≡ get_or ts 0 t
    → ((g : Forms) → whole (before t g) ≡ faults_if (not (test (before t g))) (fault Shape (start_of (before t g))) (later g))
    → ((g : Forms) → b ≡ test (before t g)) → ((g : Forms) → at ≡ start_of (before t g))
    → ((fs : List Fault) → first_of old (faults_if (not b) (fault Shape at) fs) ≡ first_of mid fs)
    → new ≡ first_of mid (later (behind (views ts)))
    → new ≡ first_of old (whole (views ts))
tested_first old mid new ts t whole later test b at h is steps b_is at_is tested rest_is =
    let g = behind (views ts) in
    rest_is ∙ sym (
    ap (λ (f : Forms). first_of old (whole f)) (views_first ts t h is)
    ∙ ap (first_of old) (steps g)
    ∙ ap (λ (x : Bool). first_of old (faults_if (not x) (fault Shape (start_of (before t g))) (later g))) (sym (b_is g))
    ∙ ap (λ (p : ℕ). first_of old (faults_if (not b) (fault Shape p) (later g))) (sym (at_is g))
    ∙ tested (later g))

pub name_step : (home : ℕ) (t : Tree) (g : Forms) → name_faults home (before t g) ≡ faults_if (not (has_name (before t g))) (fault Shape (start_of (before t g))) (more_faults g)
name_step home = at_tree (λ f g. name_faults home f ≡ faults_if (not (has_name f)) (fault Shape (start_of f)) (more_faults g)) (λ s e text rest. refl) (λ s e inner rest. refl)

pub title_step : (file : PlanningFile) (home : ℕ) (t : Tree) (g : Forms)
    → title_faults file home (before t g) ≡ faults_if (not (has_head (title_word file) (before t g))) (fault Shape (start_of (before t g))) (name_faults home g)
title_step file home = at_tree (λ f g. title_faults file home f ≡ faults_if (not (has_head (title_word file) f)) (fault Shape (start_of f)) (name_faults home g)) (λ s e text rest. refl) (λ s e inner rest. refl)

pub define_step : (file : PlanningFile) (home : ℕ) (t : Tree) (g : Forms)
    → root_faults file home (before t g) ≡ faults_if (not (has_head (codes "define") (before t g))) (fault Shape (start_of (before t g))) (behind_define_faults file home g)
define_step file home = at_tree (λ f g. root_faults file home f ≡ faults_if (not (has_head (codes "define") f)) (fault Shape (start_of f)) (behind_define_faults file home g)) (λ s e text rest. refl) (λ s e inner rest. refl)

pub more_step : (t : Tree) (g : Forms) → more_faults (before t g) ≡ fault Shape (start_of (before t g)) ∷ []
more_step = at_tree (λ f g. more_faults f ≡ fault Shape (start_of f) ∷ []) (λ s e text rest. refl) (λ s e inner rest. refl)

pub one_here : (w : List ℕ) (s : ℕ) (i g : Forms) → has_head w i ≡ true → g ≡ behind i → one_section w s i ≡ Some (record { at = s; inside = g })
one_here w s i g here is = ap (λ (b : Bool). if b then Some (record { at = s; inside = behind i }) else None) here ∙ ap (λ (f : Forms). Some (record { at = s; inside = f })) (sym is)

pub one_not_here : (w : List ℕ) (s : ℕ) (i : Forms) → has_head w i ≡ false → one_section w s i ≡ None
one_not_here w s i here = ap (λ (b : Bool). if b then Some (record { at = s; inside = behind i }) else None) here

pub on_ok_2 : {A E : Type 0} (r : Result A E) (P Q R : Type 0) → (P → Q → R) → OnOk r P → OnOk r Q → OnOk r R
on_ok_2 (Ok x) P Q R f p q = f p q
on_ok_2 (Err e) P Q R f p q = tt

-- three lists of faults, one after another
pub noted_3 : (old one two new : Option Fault) (fs gs hs : List Fault) → one ≡ first_of old fs → two ≡ first_of one gs → new ≡ first_of two hs → new ≡ first_of old (fs ++ gs ++ hs)
noted_3 old one two new fs gs hs a b c =
    c ∙ ap (λ (k : Option Fault). first_of k hs) (b ∙ ap (λ (k : Option Fault). first_of k gs) a ∙ sym (first_of_append old fs gs)) ∙ sym (first_of_append old (fs ++ gs) hs)
