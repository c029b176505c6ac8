-- The sections of the predicates and of the functions: their meaning and their faults.
use Rattle.std.specs.Prelude.{ℕ, ◌+◌, not, nat_le, Bool, true, false, if◌then◌else◌, List, [], ◌∷◌, ◌++◌, length, codes}
use Rattle.sexp.specs.Forms.{Forms, none, word, group}
use Rattle.pddl_names.specs.Names.{same_text, is_there}
use Rattle.pddl_syntax.specs.declared.word.WordKind.{WordKind}
use Rattle.pddl_syntax.specs.declared.word.WordKind.TheVariants.{Dash, Name}
use Rattle.pddl_syntax.specs.declared.fault.Fault.{Fault}
use Rattle.pddl_syntax.specs.declared.fault.FaultKind.TheVariants.{Shape, Unsupported, TwiceDeclared, Limit}
use Rattle.pddl_syntax.specs.declared.fault.LimitedTable.{LimitedTable}
use Rattle.pddl_syntax.specs.declared.fault.LimitedTable.TheVariants.{Predicates, Functions}
use Rattle.pddl_syntax.specs.Faults.{fault, faults_if}
use Rattle.pddl_syntax.specs.Words.{word_kind}
use Rattle.pddl_syntax.specs.Heads.{Heads, with_head}
use Rattle.pddl_syntax.specs.Typed.{declared, type_group_faults}
use Rattle.pddl_syntax.specs.Parameters.{parameters_faults}
use Rattle.pddl_domain.specs.Limits.{max_heads}

-- ---- an item, `(HEAD PARAMETERS)`

-- the heads with that of an item, if its word is a name
abbrev pub with_item : WordKind → Heads → List ℕ → Forms → Heads
with_item Name heads t parameters = with_head heads t (length (declared true parameters))
with_item kind heads t parameters = heads

-- the fault of an item that follows `count` others, if it is past the limit
abbrev pub past_limit : LimitedTable → ℕ → ℕ → List Fault → List Fault
past_limit table count at fs = faults_if (nat_le max_heads count) (fault (Limit table) at) fs

-- the faults of an item at offset `at`, whose head is a word at offset `head_at`
abbrev pub item_faults : (List ℕ → Bool) → LimitedTable → Heads → ℕ → ℕ → ℕ → WordKind → List ℕ → Forms → List Fault
item_faults known table heads count at head_at Name t parameters =
    past_limit table count at (faults_if (is_there heads.names t) (fault TwiceDeclared head_at) (parameters_faults known at parameters))
item_faults known table heads count at head_at kind t parameters =
    past_limit table count at (fault Shape head_at ∷ parameters_faults known at parameters)

-- ---- predicates

-- an item named `=` is skipped
abbrev pub is_equals : List ℕ → Bool
is_equals t = same_text t (codes "=")

-- the heads with those of the items of a section
abbrev pub predicate_heads : Heads → Forms → Heads
predicate_heads heads none = heads
predicate_heads heads (word s e t f) = predicate_heads heads f
predicate_heads heads (group s e none f) = predicate_heads heads f
predicate_heads heads (group s e (group hs he head i) f) = predicate_heads heads f
predicate_heads heads (group s e (word hs he t i) f) =
    predicate_heads (if is_equals t then heads else with_item (word_kind t) heads t i) f

-- the faults of items that follow `count` others, which declared `heads`
abbrev pub predicates_faults : (List ℕ → Bool) → Heads → ℕ → Forms → List Fault
predicates_faults known heads count none = []
predicates_faults known heads count (word s e t f) = fault Shape s ∷ predicates_faults known heads count f
predicates_faults known heads count (group s e none f) = fault Shape s ∷ predicates_faults known heads count f
predicates_faults known heads count (group s e (group hs he head i) f) =
    past_limit Predicates count s (fault Shape hs ∷ predicates_faults known heads (count + 1) f)
predicates_faults known heads count (group s e (word hs he t i) f) =
    if is_equals t then predicates_faults known heads count f
    else item_faults known Predicates heads count s hs (word_kind t) t i
    ++ predicates_faults known (with_item (word_kind t) heads t i) (count + 1) f

-- ---- functions

-- `behind` for a hyphen, after which one expression is skipped, and `later` for any other word
abbrev pub by_hyphen : {A : Type 0} → WordKind → A → A → A
by_hyphen Dash behind later = behind
by_hyphen kind behind later = later

-- the heads with those of the items of a section, if an item comes next, and if a type comes next
abbrev mutual
  pub function_heads : Heads → Forms → Heads
  function_heads heads none = heads
  function_heads heads (word s e t f) = by_hyphen (word_kind t) (heads_behind heads f) (function_heads heads f)
  function_heads heads (group s e none f) = function_heads heads f
  function_heads heads (group s e (group hs he head i) f) = function_heads heads f
  function_heads heads (group s e (word hs he t i) f) = function_heads (with_item (word_kind t) heads t i) f

  pub heads_behind : Heads → Forms → Heads
  heads_behind heads none = heads
  heads_behind heads (word s e t f) = function_heads heads f
  heads_behind heads (group s e i f) = function_heads heads f

-- the fault of a word after a hyphen, which must be `number`, followed by other faults
abbrev pub number_faults : ℕ → List ℕ → List Fault → List Fault
number_faults s t rest = faults_if (not (same_text t (codes "number"))) (fault Unsupported s) rest

-- the faults of a word among the functions, in a run that is empty so far or not
abbrev pub word_faults : ℕ → WordKind → Bool → List Fault → List Fault → List Fault
word_faults s Dash empty behind later = faults_if empty (fault Shape s) behind
word_faults s kind empty behind later = fault Shape s ∷ later

-- The faults of items that follow `count` others, which declared `heads`, in a run that is empty so far or not
-- (`empty`): if an item comes next, and if a type comes next. A missing type is a fault at the section, which is at
-- `home`.
abbrev mutual
  pub functions_faults : (List ℕ → Bool) → ℕ → Bool → Heads → ℕ → Forms → List Fault
  functions_faults known home empty heads count none = []
  functions_faults known home empty heads count (word s e t f) =
      word_faults s (word_kind t) empty (faults_behind known home heads count f) (functions_faults known home empty heads count f)
  functions_faults known home empty heads count (group s e none f) = fault Shape s ∷ functions_faults known home empty heads count f
  functions_faults known home empty heads count (group s e (group hs he head i) f) =
      past_limit Functions count s (fault Shape hs ∷ functions_faults known home false heads (count + 1) f)
  functions_faults known home empty heads count (group s e (word hs he t i) f) =
      item_faults known Functions heads count s hs (word_kind t) t i
      ++ functions_faults known home false (with_item (word_kind t) heads t i) (count + 1) f

  pub faults_behind : (List ℕ → Bool) → ℕ → Heads → ℕ → Forms → List Fault
  faults_behind known home heads count none = fault Shape home ∷ []
  faults_behind known home heads count (word s e t f) = number_faults s t (functions_faults known home true heads count f)
  faults_behind known home heads count (group s e i f) = type_group_faults s i ++ functions_faults known home true heads count f

-- ---- a list in either section, by the expressions in it

-- the heads with that of the list, if it is an item
abbrev pub with_list : Heads → Forms → Heads
with_list heads none = heads
with_list heads (word hs he t i) = with_item (word_kind t) heads t i
with_list heads (group hs he head i) = heads

-- the number of items counted, after the list
abbrev pub count_after : ℕ → Forms → ℕ
count_after count none = count
count_after count (word hs he t i) = count + 1
count_after count (group hs he head i) = count + 1

-- the faults of the list, which is at offset `at`
abbrev pub list_faults : (List ℕ → Bool) → LimitedTable → Heads → ℕ → ℕ → Forms → List Fault
list_faults known table heads count at none = fault Shape at ∷ []
list_faults known table heads count at (word hs he t i) = item_faults known table heads count at hs (word_kind t) t i
list_faults known table heads count at (group hs he head i) = past_limit table count at (fault Shape hs ∷ [])

-- the head is `=`
abbrev pub has_equals : Forms → Bool
has_equals none = false
has_equals (word hs he t i) = is_equals t
has_equals (group hs he head i) = false

-- whether a run is empty after the list
abbrev pub empty_after : Bool → Forms → Bool
empty_after empty none = empty
empty_after empty (word hs he t i) = false
empty_after empty (group hs he head i) = false

-- ---- the state of the code: whether an item or a type comes next

-- the heads with those of the remaining items; the flag says whether a type comes next
abbrev pub heads_from : Bool → Heads → Forms → Heads
heads_from false heads f = function_heads heads f
heads_from true heads f = heads_behind heads f

-- the faults of the remaining items; the flag says whether a type comes next
abbrev pub faults_from : Bool → (List ℕ → Bool) → ℕ → Bool → Heads → ℕ → Forms → List Fault
faults_from false known home empty heads count f = functions_faults known home empty heads count f
faults_from true known home empty heads count f = faults_behind known home heads count f
