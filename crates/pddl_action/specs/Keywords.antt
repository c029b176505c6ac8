-- The parts of an action after its name: keywords, each with a list.
use Rattle.std.specs.Prelude.{ℕ, Bool, true, false, if◌then◌else◌, List, [], ◌∷◌, ◌++◌, Option, Some, None, option_to_list, find, codes}
use Rattle.std.specs.Option.{option_map, option_map_or}
use Rattle.sexp.specs.Forms.{Forms, none, word, group, alone}
use Rattle.pddl_names.specs.Names.{same_text}
use Rattle.pddl_syntax.specs.declared.fault.Fault.{Fault}
use Rattle.pddl_syntax.specs.declared.fault.FaultKind.TheVariants.{Shape, TwiceDeclared}
use Rattle.pddl_syntax.specs.Faults.{fault, faults_if}
use Rattle.pddl_action.specs.declared.keyword.Keyword.{Keyword}
use Rattle.pddl_action.specs.declared.keyword.Keyword.TheVariants.{Parameters, Precondition, Effect}
use Rattle.pddl_action.specs.declared.keyword.Seen.{Seen}
use Rattle.pddl_action.specs.declared.keyword.Part.{Part}

-- a keyword and the list that follows it
pub record KeywordPart : Type 0 where
  pub keyword : Keyword
  pub value : Forms

abbrev pub keyword_of : List ℕ → Option Keyword
keyword_of t =
    if same_text t (codes ":parameters") then Some Parameters
    else (if same_text t (codes ":precondition") then Some Precondition else (if same_text t (codes ":effect") then Some Effect else None))

abbrev pub same_keyword : Keyword → Keyword → Bool
same_keyword Parameters Parameters = true
same_keyword Precondition Precondition = true
same_keyword Effect Effect = true
same_keyword k l = false

-- the keyword that requires a list after one more word; a word in the position of that list is taken for it
abbrev pub waiting_after : Option Keyword → Option Keyword → Option Keyword
waiting_after (Some k) keyword = None
waiting_after None keyword = keyword

-- The keywords that a list follows, with their lists, in the order of the text; `waiting` is the keyword that requires
-- a list, if there is one. Any other expression in the position of a keyword is skipped.
abbrev pub parts : Option Keyword → Forms → List KeywordPart
parts waiting none = []
parts waiting (word s e t f) = parts (waiting_after waiting (keyword_of t)) f
parts waiting (group s e i f) = option_to_list (option_map (λ k. record { keyword = k; value = group s e i none }) waiting) ++ parts None f

-- the list of the first part with this keyword, or nothing if there is none
abbrev pub value_of : Keyword → List KeywordPart → Forms
value_of keyword ps = option_map_or (λ p. p.value) (find (λ p. same_keyword p.keyword keyword) ps) none

-- ---- the faults

abbrev pub is_seen : Seen → Keyword → Bool
is_seen seen Parameters = seen.parameters
is_seen seen Precondition = seen.precondition
is_seen seen Effect = seen.effect

abbrev pub with_keyword : Seen → Keyword → Seen
with_keyword seen Parameters = record seen { parameters = true }
with_keyword seen Precondition = record seen { precondition = true }
with_keyword seen Effect = record seen { effect = true }

-- the keywords read so far, after one more word
abbrev pub seen_after : Option Keyword → Seen → Option Keyword → Seen
seen_after (Some k) seen keyword = seen
seen_after None seen None = seen
seen_after None seen (Some keyword) = with_keyword seen keyword

abbrev pub word_faults : Option Keyword → Seen → ℕ → Option Keyword → List Fault
word_faults (Some k) seen s keyword = fault Shape s ∷ []
word_faults None seen s None = fault Shape s ∷ []
word_faults None seen s (Some keyword) = faults_if (is_seen seen keyword) (fault TwiceDeclared s) []

abbrev pub list_faults : Option Keyword → ℕ → List Fault
list_faults (Some k) s = []
list_faults None s = fault Shape s ∷ []

-- the fault at the end of the action at `home`, if a keyword still requires a list
abbrev pub end_faults : Option Keyword → ℕ → List Fault
end_faults (Some k) home = fault Shape home ∷ []
end_faults None home = []

-- the faults of the expressions after the keywords `seen`, in the action at `home`; `waiting` is the last keyword, if
-- it still requires a list
abbrev pub keyword_faults : ℕ → Seen → Option Keyword → Forms → List Fault
keyword_faults home seen waiting none = end_faults waiting home
keyword_faults home seen waiting (word s e t f) =
    word_faults waiting seen s (keyword_of t) ++ keyword_faults home (seen_after waiting seen (keyword_of t)) (waiting_after waiting (keyword_of t)) f
keyword_faults home seen waiting (group s e i f) = list_faults waiting s ++ keyword_faults home seen None f

abbrev pub none_seen : Seen
none_seen = record { parameters = false; precondition = false; effect = false }

-- ---- a part of the code

abbrev pub part_of : Part → KeywordPart
part_of p = record { keyword = p.keyword; value = alone p.value.now }
