-- The heads of sections in another order have no fault where they had none.
use Rattle.std.proofs.Common.{◌≡◌, ℕ, ◌+◌, ◌≤◌, ◌&&◌, ◌||◌, Bool, true, false, not, List, [], ◌∷◌, ◌++◌, length, codes, is_some, refl, sym, ap, subst, ◌∙◌, arith, if◌then◌else◌}
use Rattle.std.specs.Prelude.{Some, None, option_to_list}
use Rattle.std.proofs.lemmas.List.{length-map}
use Rattle.sexp.specs.Forms.{Forms, none, word, group, behind, IsOne}
use Rattle.pddl_names.specs.Names.{same_text, is_there, with_name}
use Rattle.pddl_names.proofs.NameLists.{same_text-true, same_text-itself, is_there-with_name}
use Rattle.pddl_syntax.specs.declared.fault.Fault.{Fault}
use Rattle.pddl_syntax.specs.declared.fault.FaultKind.TheVariants.{Shape, Unsupported, TwiceDeclared}
use Rattle.pddl_syntax.specs.declared.fault.PlanningFile.{PlanningFile}
use Rattle.pddl_syntax.specs.declared.fault.PlanningFile.TheVariants.{Domain, Problem}
use Rattle.pddl_syntax.specs.Faults.{fault, faults_if}
use Rattle.pddl_syntax.specs.Words.{is_name, is_one_of}
use Rattle.pddl_syntax.specs.Sections.{sections, section, all_sections, section_words, may_come_again, section_head_faults, with_head, section_faults, goal_missing_faults, second_faults, behind_define_faults, head_faults}
use Rattle.pddl_laws.proofs.Clean.{empty_parts}
use Rattle.pddl_layout.specs.Shapes.{erased}
use Rattle.pddl_layout.specs.Sections.{erased_part, SameSections, AreSections, defined, HasSections}
use Rattle.pddl_layout.proofs.Alike.{turned, clean_too}
use Rattle.pddl_layout.proofs.SectionShapes.{section_there, same_there, section_alike, head_alike}

abbrev weight : Bool → ℕ
weight true = 1
weight false = 0

-- how many sections of this name are among the sections and those before them, where one before counts once
abbrev load : List (List ℕ) → Forms → List ℕ → ℕ
load before f w = length (all_sections w f) + weight (is_there before w)

more_sections : (w : List ℕ) (s e hs he : ℕ) (t : List ℕ) (i f : Forms) → length (all_sections w (group s e (word hs he t i) f)) ≡ weight (same_text t w) + length (all_sections w f)
more_sections w s e hs he t i f = by (same_text t w) where
  by : (b : Bool) → length (option_to_list (if b then Some (record { at = s; inside = i }) else None) ++ all_sections w f) ≡ weight b + length (all_sections w f)
  by true = omega arith
  by false = omega arith

weight_there : (before : List (List ℕ)) (t w : List ℕ) → weight (is_there (with_name before t) w) ≡ weight (is_there before w || same_text t w)
weight_there before t w = ap weight (is_there-with_name before t w)

-- a word that may be the head of one section only
record IsSingle (file : PlanningFile) (w : List ℕ) : Type 0 where
  known : is_one_of (section_words file) w ≡ true
  once : may_come_again w ≡ false

-- ---- heads without a fault are single

head_clean : (file : PlanningFile) (before : List (List ℕ)) (s : ℕ) (t : List ℕ) → section_head_faults file before s t ≡ []
    → (is_one_of (section_words file) t ≡ true) × (is_there before t && not (may_come_again t) ≡ false)
head_clean file before s t e = by (is_one_of (section_words file) t) (is_there before t && not (may_come_again t)) e where
  by : (known twice : Bool) → (if known then faults_if twice (fault TwiceDeclared s) [] else fault Unsupported s ∷ []) ≡ [] → (known ≡ true) × (twice ≡ false)
  by true false h = (refl, refl)
  by true true h = absurd cc
  by false twice h = absurd cc

none_before : (there again : Bool) → there && not again ≡ false → again ≡ false → there ≡ false
none_before false again h e = refl
none_before true false h e = absurd cc
none_before true true h e = absurd cc

with_known : (file : PlanningFile) (before : List (List ℕ)) (t : List ℕ) → is_one_of (section_words file) t ≡ true → with_head file before t ≡ with_name before t
with_known file before t e = ap (λ (b : Bool). if b then with_name before t else before) e

before_free : (before : List (List ℕ)) (t w : List ℕ) → is_there before t && not (may_come_again t) ≡ false → may_come_again w ≡ false → same_text t w ≡ true → is_there before w ≡ false
before_free before t w h once e =
    let same = same_text-true t w e in
    subst (λ (u : List ℕ). is_there before u ≡ false) same
    (none_before (is_there before t) (may_come_again t) h (subst (λ (u : List ℕ). may_come_again u ≡ false) (sym same) once))

one_more : (same there : Bool) (n all : ℕ) → all ≡ weight same + n → (same ≡ true → there ≡ false) → n + weight (there || same) ≤ 1 → all + weight there ≤ 1
one_more true true n all e free h = absurd (let x = free refl in cc)
one_more true false n all e free h = omega (arith, e, h)
one_more false true n all e free h = omega (arith, e, h)
one_more false false n all e free h = omega (arith, e, h)

single : (file : PlanningFile) (before : List (List ℕ)) (f : Forms) → section_faults file before f ≡ [] → (w : List ℕ) → IsSingle file w → load before f w ≤ 1
single file before none h w once = by (is_there before w) where
  by : (b : Bool) → 0 + weight b ≤ 1
  by true = omega arith
  by false = omega arith
single file before (word s e t f) h w once = absurd cc
single file before (group s e none f) h w once = absurd cc
single file before (group s e (group hs he x i) f) h w once = absurd cc
single file before (group s e (word hs he t i) f) h w once =
    let parts = empty_parts (section_head_faults file before hs t) (section_faults file (with_head file before t) f) h in
    let head = head_clean file before hs t parts.0 in
    let rest = single file (with_name before t) f (ap (λ (b : List (List ℕ)). section_faults file b f) (sym (with_known file before t head.0)) ∙ parts.1) w once in
    one_more (same_text t w) (is_there before w) (length (all_sections w f)) (length (all_sections w (group s e (word hs he t i) f))) (more_sections w s e hs he t i f)
    (before_free before t w head.1 once.once)
    (subst (λ (n : ℕ). length (all_sections w f) + n ≤ 1) (weight_there before t w) rest)

-- ---- single heads have no fault

head_free : (file : PlanningFile) (before : List (List ℕ)) (s : ℕ) (t : List ℕ) → is_one_of (section_words file) t ≡ true → is_there before t && not (may_come_again t) ≡ false
    → section_head_faults file before s t ≡ []
head_free file before s t known h = rw (known, h)

not_twice : (there again : Bool) → (again ≡ false → there ≡ false) → there && not again ≡ false
not_twice false again h = refl
not_twice true true h = refl
not_twice true false h = absurd (let x = h refl in cc)

no_weight : (b : Bool) (n : ℕ) → (1 + n) + weight b ≤ 1 → b ≡ false
no_weight true n h = absurd (omega (arith, h))
no_weight false n h = refl

one_fewer : (same there : Bool) (n all : ℕ) → all ≡ weight same + n → all + weight there ≤ 1 → n + weight (there || same) ≤ 1
one_fewer true true n all e h = omega (arith, e, h)
one_fewer true false n all e h = omega (arith, e, h)
one_fewer false true n all e h = omega (arith, e, h)
one_fewer false false n all e h = omega (arith, e, h)

heads_free : (file : PlanningFile) (before : List (List ℕ)) (f : Forms) → AreSections file f → ((w : List ℕ) → IsSingle file w → load before f w ≤ 1) → section_faults file before f ≡ []
heads_free file before none are h = refl
heads_free file before (word s e t f) are h = absurd are
heads_free file before (group s e none f) are h = absurd are
heads_free file before (group s e (group hs he x i) f) are h = absurd are
heads_free file before (group s e (word hs he t i) f) (known, are) h =
    let own : length (all_sections t (group s e (word hs he t i) f)) ≡ 1 + length (all_sections t f) =
    more_sections t s e hs he t i f ∙ ap (λ (b : Bool). weight b + length (all_sections t f)) (same_text-itself t) in
    let head = head_free file before hs t known (not_twice (is_there before t) (may_come_again t) (λ once.
    no_weight (is_there before t) (length (all_sections t f)) (subst (λ (n : ℕ). n + weight (is_there before t) ≤ 1) own (h t (record { known = known; once = once }))))) in
    let rest = heads_free file (with_name before t) f are (λ w once.
    subst (λ (n : ℕ). length (all_sections w f) + n ≤ 1) (sym (weight_there before t w))
    (one_fewer (same_text t w) (is_there before w) (length (all_sections w f)) (length (all_sections w (group s e (word hs he t i) f))) (more_sections w s e hs he t i f) (h w once))) in
    ap (λ (fs : List Fault). fs ++ section_faults file (with_head file before t) f) head ∙ ap (λ (b : List (List ℕ)). section_faults file b f) (with_known file before t known) ∙ rest

-- ---- the heads of a text

-- the faults of the sections' heads and of a missing goal
record SectionsClean (file : PlanningFile) (f : Forms) : Type 0 where
  heads : section_faults file [] f ≡ []
  home : ℕ
  goal : goal_missing_faults file home f ≡ []

behind_test : (b : Bool) (x : Fault) (fs : List Fault) → faults_if b x fs ≡ [] → fs ≡ []
behind_test true x fs e = absurd cc
behind_test false x fs e = e

behind_clean : (file : PlanningFile) (h : ℕ) (f : Forms) → behind_define_faults file h f ≡ [] → SectionsClean file (behind f)
behind_clean file h f e =
    let all = empty_parts (second_faults file h f ++ section_faults file [] (behind f)) (goal_missing_faults file h (behind f)) e in
    let front = empty_parts (second_faults file h f) (section_faults file [] (behind f)) all.0 in
    record { heads = front.1; home = h; goal = all.1 }

sections_clean : (file : PlanningFile) (d : Forms) → IsOne d → head_faults file d ≡ [] → SectionsClean file (sections d)
sections_clean file none one e = absurd one
sections_clean file (word s h t f) one e = absurd cc
sections_clean file (group s h none f) one e = absurd cc
sections_clean file (group s h (group hs he x i) f) one e = absurd cc
sections_clean file (group s h (word hs he t i) f) one e = behind_clean file s i (behind_test _ _ _ e)

defined_clean : (file : PlanningFile) (name : List ℕ) (f : Forms) → is_name name ≡ true → section_faults file [] f ≡ [] → goal_missing_faults file 0 f ≡ [] → head_faults file (defined file name f) ≡ []
defined_clean Domain name f named heads goal = rw (named, heads)
defined_clean Problem name f named heads goal = rw (named, heads, goal)

goal_there : (file : PlanningFile) (h k : ℕ) (f g : Forms) → is_some (section (codes ":goal") f) ≡ is_some (section (codes ":goal") g) → goal_missing_faults file h f ≡ [] → goal_missing_faults file k g ≡ []
goal_there Domain h k f g same e = refl
goal_there Problem h k f g same e = by (is_some (section (codes ":goal") f)) (is_some (section (codes ":goal") g)) same e where
  by : (x y : Bool) → x ≡ y → faults_if (not x) (fault Shape h) [] ≡ [] → faults_if (not y) (fault Shape k) [] ≡ []
  by true true s c = refl
  by true false s c = absurd cc
  by false y s c = absurd cc

as_many : (file : PlanningFile) (d c : Forms) (w : List ℕ) → SameSections file d c → is_one_of (section_words file) w ≡ true → length (all_sections w (sections c)) ≡ length (all_sections w (sections d))
as_many file d c w same h =
    sym (length-map (all_sections w (sections c)) erased_part) ∙ ap length (sym (same w h)) ∙ length-map (all_sections w (sections d)) erased_part

goal_same : (file : PlanningFile) (d c : Forms) → SameSections file d c → (h : ℕ) → goal_missing_faults file h (sections d) ≡ [] → goal_missing_faults file 0 (erased (sections c)) ≡ []
goal_same Domain d c same h e = refl
goal_same Problem d c same h e =
    goal_there Problem h 0 (sections d) (erased (sections c)) (same_there (codes ":goal") (sections d) (sections c) (same (codes ":goal") refl) ∙ sym (section_there (codes ":goal") (sections c))) e

-- the same sections in another order have heads without a fault
pub reordered_clean : (file : PlanningFile) (d c : Forms) → IsOne d → head_faults file d ≡ [] → SameSections file d c → HasSections file c → head_faults file c ≡ []
reordered_clean file d c one e same text =
    let clean = sections_clean file d one e in
    let heads = heads_free file [] (sections c) text.each (λ w once.
    subst (λ (n : ℕ). n + 0 ≤ 1) (sym (as_many file d c w same once.known)) (single file [] (sections d) clean.heads w once)) in
    let erased_heads = clean_too _ _ (section_alike file [] (sections c)) heads in
    let whole = defined_clean file text.name (erased (sections c)) text.named erased_heads (goal_same file d c same clean.home clean.goal) in
    clean_too _ _ (turned (head_alike file c)) (ap (head_faults file) text.form ∙ whole)
