-- The heads of a text, `(define (domain NAME) SECTION ..)`, and its sections.
use Rattle.std.specs.Prelude.{ℕ, ◌&&◌, not, Bool, false, if◌then◌else◌, List, [], ◌∷◌, ◌++◌, Option, Some, None, is_some, option_to_list, codes}
pub use Rattle.sexp.specs.Forms.{behind, start_of}
use Rattle.sexp.specs.Forms.{Forms, none, word, group, views}
use Rattle.pddl_syntax.specs.declared.sections.Section.{Section}
use Rattle.pddl_names.specs.Names.{same_text, is_there, with_name}
use Rattle.pddl_syntax.specs.declared.fault.Fault.{Fault}
use Rattle.pddl_syntax.specs.declared.fault.FaultKind.TheVariants.{Shape, Unsupported, TwiceDeclared}
use Rattle.pddl_syntax.specs.declared.fault.PlanningFile.{PlanningFile}
use Rattle.pddl_syntax.specs.declared.fault.PlanningFile.TheVariants.{Domain, Problem}
use Rattle.pddl_syntax.specs.Faults.{fault, faults_if}
use Rattle.pddl_syntax.specs.Words.{is_name, is_one_of, starts_with_colon}

-- a section: its byte offset, and the expressions after its head
pub record Part : Type 0 where
  pub at : ℕ
  pub inside : Forms

-- the expressions in the first expression, if that is a list
abbrev pub root_parts : Forms → Forms
root_parts none = none
root_parts (word s e t f) = none
root_parts (group s e i f) = i

-- the sections of a text, which follow `define` and the title
abbrev pub sections : Forms → Forms
sections root = behind (behind (root_parts root))

abbrev pub has_head : List ℕ → Forms → Bool
has_head w none = false
has_head w (word s e t f) = same_text t w
has_head w (group s e i f) = false

-- the first expression is a name
abbrev pub has_name : Forms → Bool
has_name none = false
has_name (word s e t f) = is_name t
has_name (group s e i f) = false

-- the list at offset `s` as a section, if it has this head
abbrev pub one_section : List ℕ → ℕ → Forms → Option Part
one_section w s i = if has_head w i then Some (record { at = s; inside = behind i }) else None

abbrev pub or_else : Option Part → Option Part → Option Part
or_else (Some p) later = Some p
or_else None later = later

-- the first section with this name
abbrev pub section : List ℕ → Forms → Option Part
section w none = None
section w (word s e t f) = section w f
section w (group s e i f) = or_else (one_section w s i) (section w f)

-- all sections with this name
abbrev pub all_sections : List ℕ → Forms → List Part
all_sections w none = []
all_sections w (word s e t f) = all_sections w f
all_sections w (group s e i f) = option_to_list (one_section w s i) ++ all_sections w f

-- ---- the faults

-- the fault of the first of the expressions, because no further expression is allowed
abbrev pub more_faults : Forms → List Fault
more_faults none = []
more_faults (word s e t f) = fault Shape s ∷ []
more_faults (group s e i f) = fault Shape s ∷ []

-- the faults of the expressions in the list at `home`, which must be exactly one name
abbrev pub name_faults : ℕ → Forms → List Fault
name_faults home none = fault Shape home ∷ []
name_faults home (word s e t f) = faults_if (not (is_name t)) (fault Shape s) (more_faults f)
name_faults home (group s e i f) = fault Shape s ∷ more_faults f

-- the word that precedes the name of the text
abbrev pub title_word : PlanningFile → List ℕ
title_word Domain = codes "domain"
title_word Problem = codes "problem"

-- the faults of `(domain NAME)` or `(problem NAME)`, in the list at `home`
abbrev pub title_faults : PlanningFile → ℕ → Forms → List Fault
title_faults file home none = fault Shape home ∷ []
title_faults file home (word s e t f) = faults_if (not (same_text t (title_word file))) (fault Shape s) (name_faults home f)
title_faults file home (group s e i f) = fault Shape s ∷ name_faults home f

-- the faults of the title, which must come first, in the list at `home`
abbrev pub second_faults : PlanningFile → ℕ → Forms → List Fault
second_faults file home none = fault Shape home ∷ []
second_faults file home (word s e t f) = fault Shape s ∷ []
second_faults file home (group s e i f) = title_faults file s i

abbrev pub section_words : PlanningFile → List (List ℕ)
section_words Domain = codes ":requirements" ∷ codes ":types" ∷ codes ":constants" ∷ codes ":predicates" ∷ codes ":functions" ∷ codes ":action" ∷ []
section_words Problem = codes ":domain" ∷ codes ":requirements" ∷ codes ":length" ∷ codes ":objects" ∷ codes ":init" ∷ codes ":goal" ∷ codes ":metric" ∷ []

-- only `:action` may be the head of several sections
abbrev pub may_come_again : List ℕ → Bool
may_come_again t = same_text t (codes ":action")

-- the faults of a section's head `t` at offset `s`, after sections with the heads `before`
abbrev pub section_head_faults : PlanningFile → List (List ℕ) → ℕ → List ℕ → List Fault
section_head_faults file before s t =
    if is_one_of (section_words file) t
    then faults_if (is_there before t && not (may_come_again t)) (fault TwiceDeclared s) []
    else fault Unsupported s ∷ []

-- the heads of the sections so far, with `t` added if it names a section
abbrev pub with_head : PlanningFile → List (List ℕ) → List ℕ → List (List ℕ)
with_head file before t = if is_one_of (section_words file) t then with_name before t else before

-- the faults of sections after others with the heads `before`
abbrev pub section_faults : PlanningFile → List (List ℕ) → Forms → List Fault
section_faults file before none = []
section_faults file before (word s e t f) = fault Shape s ∷ section_faults file before f
section_faults file before (group s e none f) = fault Shape s ∷ section_faults file before f
section_faults file before (group s e (group hs he h i) f) = fault Shape hs ∷ section_faults file before f
section_faults file before (group s e (word hs he t i) f) =
    section_head_faults file before hs t ++ section_faults file (with_head file before t) f

-- a problem must have a goal; the fault is at the list at `home`, which lacks it
abbrev pub goal_missing_faults : PlanningFile → ℕ → Forms → List Fault
goal_missing_faults Domain home f = []
goal_missing_faults Problem home f = faults_if (not (is_some (section (codes ":goal") f))) (fault Shape home) []

-- the faults of the expressions after `define` in the root at `home`
abbrev pub behind_define_faults : PlanningFile → ℕ → Forms → List Fault
behind_define_faults file home f =
    second_faults file home f ++ section_faults file [] (behind f) ++ goal_missing_faults file home (behind f)

-- the faults of the expressions in the root at `home`
abbrev pub root_faults : PlanningFile → ℕ → Forms → List Fault
root_faults file home none = fault Shape home ∷ []
root_faults file home (word s e t f) = faults_if (not (same_text t (codes "define"))) (fault Shape s) (behind_define_faults file home f)
root_faults file home (group s e i f) = fault Shape s ∷ behind_define_faults file home f

-- the faults of a text's heads: of `define`, its title, its sections' heads, and a missing goal of a problem
abbrev pub head_faults : PlanningFile → Forms → List Fault
head_faults file none = []
head_faults file (word s e t f) = fault Shape s ∷ []
head_faults file (group s e i f) = root_faults file s i

-- the faults of requirements, which must be words that begin with a colon
abbrev pub requirement_faults : Forms → List Fault
requirement_faults none = []
requirement_faults (word s e t f) = faults_if (not (starts_with_colon t)) (fault Shape s) (requirement_faults f)
requirement_faults (group s e i f) = fault Shape s ∷ requirement_faults f

-- ---- a section of the code

abbrev pub part_of : Section → Part
part_of s = record { at = s.at; inside = views s.items.now }
