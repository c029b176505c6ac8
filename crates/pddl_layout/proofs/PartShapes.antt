-- The same sections in two trees: each part has the same expressions, up to places.
use Rattle.std.proofs.Common.{◌≡◌, ℕ, true, List, map, refl, sym, ap, ◌∙◌}
use Rattle.std.specs.Prelude.{Option, Some, None}
use Rattle.std.specs.Option.{option_map}
use Rattle.sexp.specs.Forms.{Forms}
use Rattle.pddl_syntax.specs.declared.fault.Fault.{Fault}
use Rattle.pddl_syntax.specs.declared.fault.PlanningFile.{PlanningFile}
use Rattle.pddl_syntax.specs.Words.{is_one_of}
use Rattle.pddl_syntax.specs.Sections.{Part, sections, section_words, all_sections}
use Rattle.pddl.specs.Texts.{inside, part, inside_of}
use Rattle.pddl_layout.specs.Shapes.{erased, SameShape}
use Rattle.pddl_layout.specs.Sections.{erased_part, SameSections}
use Rattle.pddl_layout.proofs.Alike.{Alike, equal_lists, turned, chained}
use Rattle.pddl_layout.proofs.SectionShapes.{sections_erased, all_same, first_part, section_is_first, first_erased}

-- faults that ignore places are alike at trees of one shape
pub across : (x : ℕ → Forms → List Fault) (h k : ℕ) (f g : Forms) → ((m n : ℕ) (e : Forms) → Alike (x m e) (x n (erased e))) → SameShape f g → Alike (x h f) (x k g)
across x h k f g alike e = chained (alike h 0 f) (chained (equal_lists (x 0 (erased f)) (x 0 (erased g)) (ap (x 0) e)) (turned (alike k 0 g)))

-- trees of one shape have the same sections
pub same_sections : (file : PlanningFile) (f g : Forms) → SameShape f g → SameSections file f g
same_sections file f g e = λ w h. all_same w (sections f) (sections g) (sym (sections_erased f) ∙ ap sections e ∙ sections_erased g)

-- a name of sections
abbrev IsWordOf : PlanningFile → List ℕ → Type 0
IsWordOf file w = is_one_of (section_words file) w ≡ true

part_erased : (f : Forms) (w : List ℕ) → option_map erased_part (part f w) ≡ first_part (map erased_part (all_sections w (sections f)))
part_erased f w = ap (option_map erased_part) (section_is_first w (sections f)) ∙ sym (first_erased (all_sections w (sections f)))

pub same_part : (file : PlanningFile) (f g : Forms) (w : List ℕ) → SameSections file f g → IsWordOf file w → option_map erased_part (part f w) ≡ option_map erased_part (part g w)
same_part file f g w same h = part_erased f w ∙ ap first_part (same w h) ∙ sym (part_erased g w)

inside_erased : (o : Option Part) → inside (option_map erased_part o) ≡ erased (inside o)
inside_erased None = refl
inside_erased (Some s) = refl

pub same_inside : (file : PlanningFile) (f g : Forms) (w : List ℕ) → SameSections file f g → IsWordOf file w → SameShape (inside_of f w) (inside_of g w)
same_inside file f g w same h = sym (inside_erased (part f w)) ∙ ap inside (same_part file f g w same h) ∙ inside_erased (part g w)
