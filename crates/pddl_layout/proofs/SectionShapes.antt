-- The sections of trees of one shape, and the faults of their heads.
use Rattle.std.proofs.Common.{◌≡◌, ℕ, Bool, true, false, not, ◌&&◌, List, [], ◌∷◌, ◌++◌, map, codes, refl, sym, ap, ◌∙◌, if◌then◌else◌, is_some}
use Rattle.std.specs.Prelude.{Option, Some, None, option_to_list}
use Rattle.std.specs.Option.{option_map}
use Rattle.sexp.specs.Forms.{Forms, none, word, group, behind}
use Rattle.pddl_names.specs.Names.{same_text, is_there}
use Rattle.pddl_syntax.specs.declared.fault.FaultKind.TheVariants.{Shape, TwiceDeclared}
use Rattle.pddl_syntax.specs.declared.fault.PlanningFile.{PlanningFile}
use Rattle.pddl_syntax.specs.declared.fault.PlanningFile.TheVariants.{Domain, Problem}
use Rattle.pddl_syntax.specs.Faults.{fault}
use Rattle.pddl_syntax.specs.Words.{is_name, is_one_of, starts_with_colon}
use Rattle.pddl_syntax.specs.Sections.{Part, root_parts, sections, has_head, one_section, or_else, section, all_sections, more_faults, name_faults, title_word, title_faults, second_faults, section_words, may_come_again, section_head_faults, with_head, section_faults, goal_missing_faults, behind_define_faults, root_faults, head_faults, requirement_faults}
use Rattle.pddl_layout.specs.Shapes.{erased, SameShape}
use Rattle.pddl_layout.specs.Sections.{erased_part}
use Rattle.pddl_layout.proofs.Alike.{Alike, faulty, clear, both, chosen, tested, tested_both}

-- a function that ignores places has one value at trees of one shape
pub same_value : {A : Type 0} (x : Forms → A) (f g : Forms) → ((h : Forms) → x (erased h) ≡ x h) → SameShape f g → x f ≡ x g
same_value x f g ignores e = sym (ignores f) ∙ ap x e ∙ ignores g

pub behind_erased : (f : Forms) → behind (erased f) ≡ erased (behind f)
behind_erased none = refl
behind_erased (word s e t f) = refl
behind_erased (group s e i f) = refl

pub root_parts_erased : (f : Forms) → root_parts (erased f) ≡ erased (root_parts f)
root_parts_erased none = refl
root_parts_erased (word s e t f) = refl
root_parts_erased (group s e i f) = refl

pub sections_erased : (f : Forms) → sections (erased f) ≡ erased (sections f)
sections_erased none = refl
sections_erased (word s e t f) = refl
sections_erased (group s e i f) = ap behind (behind_erased i) ∙ behind_erased (behind i)

pub has_head_erased : (w : List ℕ) (f : Forms) → has_head w (erased f) ≡ has_head w f
has_head_erased w none = refl
has_head_erased w (word s e t f) = refl
has_head_erased w (group s e i f) = refl

all_erased : (w : List ℕ) (f : Forms) → all_sections w (erased f) ≡ map erased_part (all_sections w f)
all_erased w none = refl
all_erased w (word s e t f) = all_erased w f
all_erased w (group s e none f) = all_erased w f
all_erased w (group s e (group hs he h i) f) = all_erased w f
all_erased w (group s e (word hs he t i) f) = by (same_text t w) (all_erased w f) where
  by : (b : Bool) → all_sections w (erased f) ≡ map erased_part (all_sections w f)
      → option_to_list (if b then Some (record { at = 0; inside = erased i }) else None) ++ all_sections w (erased f)
      ≡ map erased_part (option_to_list (if b then Some (record { at = s; inside = i }) else None) ++ all_sections w f)
  by true rest = ap (λ (ps : List Part). record { at = 0; inside = erased i } ∷ ps) rest
  by false rest = rest

-- expressions of one shape have the same sections of each name
pub all_same : (w : List ℕ) (f g : Forms) → SameShape f g → map erased_part (all_sections w f) ≡ map erased_part (all_sections w g)
all_same w f g e = sym (all_erased w f) ∙ ap (all_sections w) e ∙ all_erased w g

abbrev pub first_part : List Part → Option Part
first_part [] = None
first_part (p ∷ ps) = Some p

pub section_is_first : (w : List ℕ) (f : Forms) → section w f ≡ first_part (all_sections w f)
section_is_first w none = refl
section_is_first w (word s e t f) = section_is_first w f
section_is_first w (group s e i f) = by (one_section w s i) (section_is_first w f) where
  by : (o : Option Part) → section w f ≡ first_part (all_sections w f) → or_else o (section w f) ≡ first_part (option_to_list o ++ all_sections w f)
  by None rest = rest
  by (Some p) rest = refl

pub first_erased : (ps : List Part) → first_part (map erased_part ps) ≡ option_map erased_part (first_part ps)
first_erased [] = refl
first_erased (p ∷ ps) = refl

there_erased : (ps : List Part) → is_some (first_part (map erased_part ps)) ≡ is_some (first_part ps)
there_erased [] = refl
there_erased (p ∷ ps) = refl

pub section_there : (w : List ℕ) (f : Forms) → is_some (section w (erased f)) ≡ is_some (section w f)
section_there w f =
    ap is_some (section_is_first w (erased f) ∙ ap first_part (all_erased w f)) ∙ there_erased (all_sections w f) ∙ ap is_some (sym (section_is_first w f))

-- where the sections of a name are the same, both are there or neither is
pub same_there : (w : List ℕ) (f g : Forms) → map erased_part (all_sections w f) ≡ map erased_part (all_sections w g) → is_some (section w f) ≡ is_some (section w g)
same_there w f g e =
    ap is_some (section_is_first w f) ∙ sym (there_erased (all_sections w f)) ∙ ap (λ (ps : List Part). is_some (first_part ps)) e
    ∙ there_erased (all_sections w g) ∙ ap is_some (sym (section_is_first w g))

-- ---- the faults

pub more_alike : (f : Forms) → Alike (more_faults f) (more_faults (erased f))
more_alike none = clear
more_alike (word s e t f) = faulty
more_alike (group s e i f) = faulty

name_alike : (h k : ℕ) (f : Forms) → Alike (name_faults h f) (name_faults k (erased f))
name_alike h k none = faulty
name_alike h k (word s e t f) = tested (not (is_name t)) (fault Shape s) (fault Shape 0) (more_alike f)
name_alike h k (group s e i f) = faulty

title_alike : (file : PlanningFile) (h k : ℕ) (f : Forms) → Alike (title_faults file h f) (title_faults file k (erased f))
title_alike file h k none = faulty
title_alike file h k (word s e t f) = tested (not (same_text t (title_word file))) (fault Shape s) (fault Shape 0) (name_alike h k f)
title_alike file h k (group s e i f) = faulty

second_alike : (file : PlanningFile) (h k : ℕ) (f : Forms) → Alike (second_faults file h f) (second_faults file k (erased f))
second_alike file h k none = faulty
second_alike file h k (word s e t f) = faulty
second_alike file h k (group s e i f) = title_alike file s 0 i

section_head_alike : (file : PlanningFile) (before : List (List ℕ)) (s z : ℕ) (t : List ℕ) → Alike (section_head_faults file before s t) (section_head_faults file before z t)
section_head_alike file before s z t =
    chosen (is_one_of (section_words file) t) (tested (is_there before t && not (may_come_again t)) (fault TwiceDeclared s) (fault TwiceDeclared z) clear) faulty

pub section_alike : (file : PlanningFile) (before : List (List ℕ)) (f : Forms) → Alike (section_faults file before f) (section_faults file before (erased f))
section_alike file before none = clear
section_alike file before (word s e t f) = faulty
section_alike file before (group s e none f) = faulty
section_alike file before (group s e (group hs he h i) f) = faulty
section_alike file before (group s e (word hs he t i) f) = both (section_head_alike file before hs 0 t) (section_alike file (with_head file before t) f)

missing_alike : (file : PlanningFile) (h k : ℕ) (f : Forms) → Alike (goal_missing_faults file h f) (goal_missing_faults file k (erased f))
missing_alike Domain h k f = clear
missing_alike Problem h k f =
    tested_both (not (is_some (section (codes ":goal") f))) (not (is_some (section (codes ":goal") (erased f)))) (fault Shape h) (fault Shape k)
    (ap not (sym (section_there (codes ":goal") f))) clear

behind_define_alike : (file : PlanningFile) (h k : ℕ) (f : Forms) → Alike (behind_define_faults file h f) (behind_define_faults file k (erased f))
behind_define_alike file h k f = rw (behind_erased f) (both (both (second_alike file h k f) (section_alike file [] (behind f))) (missing_alike file h k (behind f)))

root_alike : (file : PlanningFile) (h k : ℕ) (f : Forms) → Alike (root_faults file h f) (root_faults file k (erased f))
root_alike file h k none = faulty
root_alike file h k (word s e t f) = tested (not (same_text t (codes "define"))) (fault Shape s) (fault Shape 0) (behind_define_alike file h k f)
root_alike file h k (group s e i f) = faulty

pub head_alike : (file : PlanningFile) (f : Forms) → Alike (head_faults file f) (head_faults file (erased f))
head_alike file none = clear
head_alike file (word s e t f) = faulty
head_alike file (group s e i f) = root_alike file s 0 i

pub requirement_alike : (f : Forms) → Alike (requirement_faults f) (requirement_faults (erased f))
requirement_alike none = clear
requirement_alike (word s e t f) = tested (not (starts_with_colon t)) (fault Shape s) (fault Shape 0) (requirement_alike f)
requirement_alike (group s e i f) = faulty
