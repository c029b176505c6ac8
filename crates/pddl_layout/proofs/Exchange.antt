-- Neighbouring sections of different names exchanged.
use Rattle.std.proofs.Common.{◌≡◌, ◌≢◌, ℕ, Bool, true, false, List, ◌++◌, map, refl, sym, ap, ◌∙◌, if◌then◌else◌, append_assoc}
use Rattle.std.specs.Prelude.{Some, None, option_to_list}
use Rattle.sexp.specs.Forms.{Forms, none, word, group, ◌then◌}
use Rattle.pddl_names.specs.Names.{same_text}
use Rattle.pddl_names.proofs.NameLists.{same_text-true}
use Rattle.pddl_syntax.specs.declared.fault.PlanningFile.{PlanningFile}
use Rattle.pddl_syntax.specs.Sections.{Part, sections, one_section, all_sections}
use Rattle.pddl_layout.specs.Shapes.{SameShape}
use Rattle.pddl_layout.specs.Sections.{erased_part, SameSections, section_before}
use Rattle.pddl_layout.proofs.SectionShapes.{all_same}

all_then : (w : List ℕ) (f g : Forms) → all_sections w (f then g) ≡ all_sections w f ++ all_sections w g
all_then w none g = refl
all_then w (word s e t f) g = all_then w f g
all_then w (group s e i f) g =
    let here = option_to_list (one_section w s i) in
    ap (λ (ps : List Part). here ++ ps) (all_then w f g) ∙ sym (append_assoc here (all_sections w f) (all_sections w g))

exchanged : (w name other : List ℕ) (i j back : Forms) → name ≢ other → all_sections w (section_before name i (section_before other j back)) ≡ all_sections w (section_before other j (section_before name i back))
exchanged w name other i j back ne = by (same_text name w) (same_text other w) refl refl where
  by : (a b : Bool) → same_text name w ≡ a → same_text other w ≡ b
      → option_to_list (if a then Some (record { at = 0; inside = i }) else None) ++ (option_to_list (if b then Some (record { at = 0; inside = j }) else None) ++ all_sections w back)
      ≡ option_to_list (if b then Some (record { at = 0; inside = j }) else None) ++ (option_to_list (if a then Some (record { at = 0; inside = i }) else None) ++ all_sections w back)
  by true true p q = absurd (ne (same_text-true name w p ∙ sym (same_text-true other w q)))
  by true false p q = refl
  by false b p q = refl

pub neighbours_exchanged : (file : PlanningFile) (d c front i j back : Forms) (name other : List ℕ) → name ≢ other
    → SameShape (sections d) (front then section_before name i (section_before other j back)) → SameShape (sections c) (front then section_before other j (section_before name i back)) → SameSections file d c
neighbours_exchanged file d c front i j back name other ne e g = λ w h.
    all_same w (sections d) (front then section_before name i (section_before other j back)) e
    ∙ ap (map erased_part)
    (all_then w front (section_before name i (section_before other j back)) ∙ ap (λ (ps : List Part). all_sections w front ++ ps) (exchanged w name other i j back ne)
    ∙ sym (all_then w front (section_before other j (section_before name i back))))
    ∙ sym (all_same w (sections c) (front then section_before other j (section_before name i back)) g)
