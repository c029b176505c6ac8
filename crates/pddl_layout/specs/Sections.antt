-- Texts whose sections differ only in their byte offsets, and in the order between sections of different names.
use Rattle.std.specs.Prelude.{◌≡◌, ℕ, true, List, map, codes}
use Rattle.sexp.specs.Forms.{Forms, none, word, group}
use Rattle.pddl_syntax.specs.declared.fault.PlanningFile.{PlanningFile}
use Rattle.pddl_syntax.specs.Words.{is_name, is_one_of}
use Rattle.pddl_syntax.specs.Sections.{Part, all_sections, sections, section_words, title_word}
use Rattle.pddl_layout.specs.Shapes.{erased}

-- the section, with 0 for each byte offset
abbrev pub erased_part : Part → Part
erased_part s = record { at = 0; inside = erased s.inside }

-- for each name of sections, the trees have the same sections of this name in the same order, up to byte offsets
abbrev pub SameSections : PlanningFile → Forms → Forms → Type 0
SameSections file f g =
    (name : List ℕ) → is_one_of (section_words file) name ≡ true → map erased_part (all_sections name (sections f)) ≡ map erased_part (all_sections name (sections g))

-- ---- texts that consist of sections

-- each of the expressions is a list that begins with the name of a section
abbrev pub AreSections : PlanningFile → Forms → Type 0
AreSections file none = Unit {0}
AreSections file (group s e (word hs he t i) f) = (is_one_of (section_words file) t ≡ true) × AreSections file f
AreSections file f = ⊥

-- the list `(define (domain NAME) SECTION ..)`, or that with `problem`, with 0 for each byte offset outside the
-- sections
abbrev pub defined : PlanningFile → List ℕ → Forms → Forms
defined file name f = group 0 0 (word 0 0 (codes "define") (group 0 0 (word 0 0 (title_word file) (word 0 0 name none)) f)) none

-- the tree is a list of the form of `defined`, with a name and any sections in any order
pub record HasSections (file : PlanningFile) (root : Forms) : Type 0 where
  pub name : List ℕ
  pub named : is_name name ≡ true
  pub form : erased root ≡ defined file name (erased (sections root))
  pub each : AreSections file (sections root)

-- a section with this name and these expressions after it, before others, with 0 for its byte offsets
abbrev pub section_before : List ℕ → Forms → Forms → Forms
section_before name i f = group 0 0 (word 0 0 name i) f
