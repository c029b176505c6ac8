-- The words of a text that faults print.
use Rattle.std.specs.Prelude.{ℕ, List, [], ◌∷◌, drop, Option, Some, None, codes}
use Rattle.std.specs.Char.{to_ascii_lowercase}
use Rattle.sexp.specs.Bytes.{kind}
use Rattle.sexp.specs.declared.byte_kind.ByteKind.{ByteKind}
use Rattle.sexp.specs.declared.byte_kind.ByteKind.TheVariants.{Blank, Semicolon, Open, Close, Letter, Strange}
use Rattle.pddl_syntax.specs.declared.fault.FaultKind.{FaultKind}
use Rattle.pddl_syntax.specs.declared.fault.FaultKind.TheVariants.{Shape, Unsupported, UnknownName, Arity, TwiceDeclared, TypeCycle, NotWhole, CostRange, Limit, GoalBothWays}
use Rattle.pddl_syntax.specs.declared.fault.PlanningFile.{PlanningFile}
use Rattle.pddl_syntax.specs.declared.fault.PlanningFile.TheVariants as planning_file
use Rattle.pddl_syntax.specs.declared.fault.LimitedTable.{LimitedTable}
use Rattle.pddl_syntax.specs.declared.fault.LimitedTable.TheVariants.{Objects, Predicates, Functions, Schemas, Arguments, Literals, Increases, Init}
use Rattle.pddl.specs.declared.fault.PddlFault.{PddlFault}
use Rattle.pddl.specs.declared.fault.PddlFault.TheVariants.{OutOfMemory, Tree, Section}
use Rattle.optplan_replies.specs.declared.fault.FileWord.{FileWord}
use Rattle.optplan_replies.specs.declared.fault.FileWord.TheVariants.{Domain, Problem, Plan, Sas, Cert, Output}

-- the word by which a fault names a file
abbrev pub file_text : FileWord → List ℕ
file_text Domain = codes "domain"
file_text Problem = codes "problem"
file_text Plan = codes "plan"
file_text Sas = codes "sas"
file_text Cert = codes "cert"
file_text Output = codes "output"

-- the word by which F18 names a table of a planning task
abbrev pub table_text : LimitedTable → List ℕ
table_text Objects = codes "objects"
table_text Predicates = codes "predicates"
table_text Functions = codes "functions"
table_text Schemas = codes "schemas"
table_text Arguments = codes "arguments"
table_text Literals = codes "literals"
table_text Increases = codes "increases"
table_text Init = codes "init"

-- the word that begins with a byte of this kind: `word` if the byte is a letter, and empty otherwise
abbrev pub letter_or_end : ByteKind → List ℕ → List ℕ
letter_or_end Letter word = word
letter_or_end Blank word = []
letter_or_end Semicolon word = []
letter_or_end Open word = []
letter_or_end Close word = []
letter_or_end Strange word = []

-- the word at the start of a text, in lower case
abbrev pub first_word : List ℕ → List ℕ
first_word [] = []
first_word (b ∷ bs) = letter_or_end (kind b) (to_ascii_lowercase b ∷ first_word bs)

-- the word that starts at byte `at` of a text, in lower case
abbrev pub word_at : List ℕ → ℕ → List ℕ
word_at text at = first_word (drop at text)

-- the text of a file
abbrev pub text_of : PlanningFile → List ℕ → List ℕ → List ℕ
text_of planning_file.Domain domain problem = domain
text_of planning_file.Problem domain problem = problem

-- the word that a fault of this kind at byte `at` prints, if it prints one
abbrev pub named_word : List ℕ → FaultKind → ℕ → Option (List ℕ)
named_word text Unsupported at = Some (word_at text at)
named_word text Shape at = None
named_word text UnknownName at = None
named_word text Arity at = None
named_word text TwiceDeclared at = None
named_word text TypeCycle at = None
named_word text NotWhole at = None
named_word text CostRange at = None
named_word text (Limit table) at = None
named_word text GoalBothWays at = None

-- the word that a fault of the texts of a domain and a problem prints, if it prints one
abbrev pub word_of_fault : List ℕ → List ℕ → PddlFault → Option (List ℕ)
word_of_fault domain problem OutOfMemory = None
word_of_fault domain problem (Tree file e) = None
word_of_fault domain problem (Section file e) = named_word (text_of file domain problem) e.kind e.at
