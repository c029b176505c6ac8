-- Reading line by line, as a function on lists, with the first fault that is found.
use Rattle.std.specs.Prelude.{◌≡◌, ℕ, zero, suc, ◌+◌, ◌*◌, ◌-◌, ◌^◌, Bool, true, false, ◌==◌, ◌&&◌, ◌||◌, min, nat_lt, if◌then◌else◌, List, [], ◌∷◌, ◌++◌, length, map, slice_index, Option, Some, None, option_map, Result, Ok, Err, codes}
use Rattle.std.specs.Str.{bytes_eq}
use Rattle.std.specs.List.{list_all}
use Rattle.fdr.specs.declared.fact.Fact.{Fact}
use Rattle.fdr.specs.declared.task.TaskLimit.TheVariants as limit
use Rattle.fdr.specs.Tasks.{Operator, FiniteDomainTask, names_variable}
use Rattle.sasfile_reader.specs.declared.fault.SasFault.{SasFault}
use Rattle.sasfile_reader.specs.declared.fault.SasFault.TheVariants as fault
use Rattle.sasfile_reader.specs.declared.number.Number.{Number}
use Rattle.sasfile_reader.specs.declared.number.Number.TheVariants.{Natural, Negative}
use Rattle.sasfile_reader.specs.declared.effects.Change.{Change}
use Rattle.sasfile_reader.specs.declared.effects.Quadruple.{Quadruple}
use Rattle.sasfile_reader.specs.Lines.{lines, words, is_text_byte, is_digit, minus}
use Rattle.fdr.specs.Limits.{max_variables, max_values, max_operators}
use Rattle.cost.specs.Limits.{max_cost}

-- reading fails with this error, unless allocation fails
abbrev pub Fails : {Y : Type 0} → SasFault → Result Y SasFault → Type 0
Fails fault.OutOfMemory read = Unit {0}
Fails e read = read ≡ Err e

-- the result of a function, under `view`, is `read`, unless allocation fails
abbrev pub Gives : {X Y : Type 0} → (X → Y) → Result X SasFault → Result Y SasFault → Type 0
Gives view (Ok x) read = read ≡ Ok (view x)
Gives view (Err e) read = Fails e read

infixl 10 ◌>>=◌
-- the result of the second step applied to that of the first, or the first error
abbrev pub ◌>>=◌ : {A B : Type 0} → Result A SasFault → (A → Result B SasFault) → Result B SasFault
(Ok x) >>= f = f x
(Err e) >>= f = Err e

-- the lines that remain to be read, and the number of the first of them
pub record Remaining : Type 0 where
  pub number : ℕ
  pub lines : List (List ℕ)

-- ---- numbers

-- A number past every limit, and past the number of lines of every text, may be replaced by 2^64 - 1.
abbrev pub capped : ℕ → ℕ
capped n = min n (2 ^ 64 - 1)

unfoldable pub digits_after : ℕ → List ℕ → Option ℕ
digits_after n [] = Some n
digits_after n (d ∷ ds) = if is_digit d then digits_after (capped (capped (n * 10) + (d - 48))) ds else None

abbrev pub digits : List ℕ → Option ℕ
digits [] = None
digits (d ∷ ds) = digits_after 0 (d ∷ ds)

unfoldable pub number : List ℕ → Option Number
number [] = None
number (b ∷ bs) = if b == 45 then option_map minus (digits bs) else option_map Natural (digits (b ∷ bs))

-- the number is this one
abbrev pub is_natural : ℕ → Number → Bool
is_natural m (Natural n) = n == m
is_natural m (Negative n) = false

-- the number is minus this one
abbrev pub is_minus : ℕ → Number → Bool
is_minus m (Natural n) = false
is_minus m (Negative n) = n == m

-- ---- one line

-- the value of a line that has the required form
abbrev pub formed : {X : Type 0} → ℕ → Option X → Result X SasFault
formed line (Some x) = Ok x
formed line None = Err (fault.Expected line)

-- the value, if it is in range
abbrev pub ranged : {X : Type 0} → ℕ → Option X → Result X SasFault
ranged line (Some x) = Ok x
ranged line None = Err (fault.Range line)

abbrev pub first_of : ℕ → List (List ℕ) → Result (List ℕ × Remaining) SasFault
first_of line [] = Err fault.Truncated
first_of line (l ∷ ls) = Ok (l, record { number = line + 1; lines = ls })

unfoldable pub line_at : Remaining → Result (List ℕ × Remaining) SasFault
line_at r = first_of r.number r.lines

-- a line that is exactly this word
unfoldable pub keyword_at : List ℕ → Remaining → Result Remaining SasFault
keyword_at word r = do
  l ← line_at r
  if bytes_eq l.0 word then Ok l.1 else Err (fault.Expected r.number)

-- a line with a name, or the name of a value
unfoldable pub text_at : Remaining → Result (List ℕ × Remaining) SasFault
text_at r = do
  l ← line_at r
  if list_all is_text_byte l.0 then Ok l else Err (fault.Expected r.number)

-- the number of a line that has exactly one word
abbrev pub alone : List (List ℕ) → Option Number
alone [] = None
alone (w ∷ []) = number w
alone (w ∷ v ∷ ws) = None

unfoldable pub number_at : Remaining → Result (Number × Remaining) SasFault
number_at r = do
  l ← line_at r
  n ← formed r.number (alone (words l.0))
  Ok (n, l.1)

abbrev pub natural : Number → Option ℕ
natural (Natural n) = Some n
natural (Negative n) = None

-- a line with a number that is not negative
unfoldable pub count_at : Remaining → Result (ℕ × Remaining) SasFault
count_at r = do
  n ← number_at r
  c ← ranged r.number (natural n.0)
  Ok (c, n.1)

-- a step of reading, repeated the given number of times
unfoldable pub repeated : {S : Type 0} → (S → Remaining → Result (S × Remaining) SasFault) → ℕ → S → Remaining → Result (S × Remaining) SasFault
repeated step zero s r = Ok (s, r)
repeated step (suc n) s r = step s r >>= λ x. repeated step n x.0 x.1

-- ---- version and metric

unfoldable pub version_at : Remaining → Result Remaining SasFault
version_at r = do
  begin ← keyword_at (codes "begin_version") r
  version ← number_at begin
  if is_natural 3 version.0 then keyword_at (codes "end_version") version.1 else Err (fault.Version begin.number)

abbrev pub flag : Number → Option Bool
flag n = if is_natural 0 n then Some false else (if is_natural 1 n then Some true else None)

unfoldable pub metric_at : Remaining → Result (Bool × Remaining) SasFault
metric_at r = do
  begin ← keyword_at (codes "begin_metric") r
  number ← number_at begin
  metric ← ranged begin.number (flag number.0)
  rest ← keyword_at (codes "end_metric") number.1
  Ok (metric, rest)

-- ---- variables

unfoldable pub layer_at : Remaining → Result Remaining SasFault
layer_at r = do
  layer ← number_at r
  if is_minus 1 layer.0 then Ok layer.1 else Err (fault.Axioms r.number)

unfoldable pub range_at : Remaining → Result (ℕ × Remaining) SasFault
range_at r = do
  range ← count_at r
  if range.0 == 0 then Err (fault.Range r.number) else (if nat_lt max_values range.0 then Err (fault.Limit limit.Values) else Ok range)

abbrev pub text_step : List (List ℕ) → Remaining → Result (List (List ℕ) × Remaining) SasFault
text_step texts r = text_at r >>= λ text. Ok (texts ++ text.0 ∷ [], text.1)

-- the names of a variable's values
unfoldable pub variable_at : Remaining → Result (List (List ℕ) × Remaining) SasFault
variable_at r = do
  begin ← keyword_at (codes "begin_variable") r
  name ← text_at begin
  layer ← layer_at name.1
  range ← range_at layer
  texts ← repeated text_step range.0 [] range.1
  rest ← keyword_at (codes "end_variable") texts.1
  Ok (texts.0, rest)

abbrev pub variable_step : List (List (List ℕ)) → Remaining → Result (List (List (List ℕ)) × Remaining) SasFault
variable_step variables r = variable_at r >>= λ variable. Ok (variables ++ variable.0 ∷ [], variable.1)

unfoldable pub variables_at : Remaining → Result (List (List (List ℕ)) × Remaining) SasFault
variables_at r = do
  count ← count_at r
  if nat_lt max_variables count.0 then Err (fault.Limit limit.Variables) else repeated variable_step count.0 [] count.1

-- ---- values of variables

-- two numbers, if both exist
abbrev pub both : Option Number → Option Number → Option (Number × Number)
both None x = None
both (Some v) None = None
both (Some v) (Some x) = Some (v, x)

-- the numbers of a line that has exactly two words
abbrev pub pair : List (List ℕ) → Option (Number × Number)
pair [] = None
pair (v ∷ []) = None
pair (v ∷ x ∷ []) = both (number v) (number x)
pair (v ∷ x ∷ w ∷ ws) = None

abbrev pub is_in_range : List ℕ → ℕ → ℕ → Bool
is_in_range ranges v x = nat_lt v (length ranges) && nat_lt x (slice_index ranges v)

-- the fact of two numbers, if the variable and its value exist
abbrev pub fact_of : List ℕ → Number → Number → Option Fact
fact_of ranges (Natural v) (Natural x) = if is_in_range ranges v x then Some (record { variable = v; value = x }) else None
fact_of ranges (Natural v) (Negative x) = None
fact_of ranges (Negative v) x = None

unfoldable pub fact_at : List ℕ → Remaining → Result (Fact × Remaining) SasFault
fact_at ranges r = do
  l ← line_at r
  numbers ← formed r.number (pair (words l.0))
  fact ← ranged r.number (fact_of ranges numbers.0 numbers.1)
  Ok (fact, l.1)

-- one more fact, on a variable that no earlier fact of the list names
unfoldable pub fact_step : List ℕ → List Fact → Remaining → Result (List Fact × Remaining) SasFault
fact_step ranges facts r = do
  fact ← fact_at ranges r
  if names_variable facts fact.0.variable then Err (fault.Range r.number) else Ok (facts ++ fact.0 ∷ [], fact.1)

unfoldable pub facts_at : List ℕ → Remaining → Result (List Fact × Remaining) SasFault
facts_at ranges r = do
  count ← count_at r
  repeated (fact_step ranges) count.0 [] count.1

-- ---- mutex groups

-- a fact that is read and dropped
unfoldable pub skip_step : List ℕ → Unit {0} → Remaining → Result (Unit {0} × Remaining) SasFault
skip_step ranges u r = do
  fact ← fact_at ranges r
  Ok (tt, fact.1)

-- a mutex group
unfoldable pub group_step : List ℕ → Unit {0} → Remaining → Result (Unit {0} × Remaining) SasFault
group_step ranges u r = do
  begin ← keyword_at (codes "begin_mutex_group") r
  count ← count_at begin
  facts ← repeated (skip_step ranges) count.0 tt count.1
  rest ← keyword_at (codes "end_mutex_group") facts.1
  Ok (tt, rest)

unfoldable pub groups_at : List ℕ → Remaining → Result (Unit {0} × Remaining) SasFault
groups_at ranges r = do
  count ← count_at r
  repeated (group_step ranges) count.0 tt count.1

-- ---- initial state and goal

-- one more value, which must be below the range
unfoldable pub value_step : ℕ → List ℕ → Remaining → Result (List ℕ × Remaining) SasFault
value_step range values r = do
  value ← count_at r
  if nat_lt value.0 range then Ok (values ++ value.0 ∷ [], value.1) else Err (fault.Range r.number)

-- one value for each variable
unfoldable pub values_at : List ℕ → List ℕ → Remaining → Result (List ℕ × Remaining) SasFault
values_at [] values r = Ok (values, r)
values_at (range ∷ ranges) values r = value_step range values r >>= λ x. values_at ranges x.0 x.1

unfoldable pub state_at : List ℕ → Remaining → Result (List ℕ × Remaining) SasFault
state_at ranges r = do
  begin ← keyword_at (codes "begin_state") r
  values ← values_at ranges [] begin
  rest ← keyword_at (codes "end_state") values.1
  Ok (values.0, rest)

unfoldable pub goal_at : List ℕ → Remaining → Result (List Fact × Remaining) SasFault
goal_at ranges r = do
  begin ← keyword_at (codes "begin_goal") r
  facts ← facts_at ranges begin
  rest ← keyword_at (codes "end_goal") facts.1
  Ok (facts.0, rest)

-- ---- operators

-- the facts of the precondition and of the effect that have been read so far
pub record Halves : Type 0 where
  pub precondition : List Fact
  pub effect : List Fact

abbrev pub is_positive : Option Number → Bool
is_positive None = false
is_positive (Some (Natural n)) = nat_lt 0 n
is_positive (Some (Negative n)) = false

-- whether the first word spells a number above 0
abbrev pub is_conditional : List (List ℕ) → Bool
is_conditional [] = false
is_conditional (w ∷ ws) = is_positive (number w)

-- four numbers, if all of them exist
abbrev pub four : Option Number → Option Number → Option Number → Option Number → Option Quadruple
four None v b a = None
four (Some c) None b a = None
four (Some c) (Some v) None a = None
four (Some c) (Some v) (Some b) None = None
four (Some c) (Some v) (Some b) (Some a) = Some (record { conditions = c; variable = v; before = b; after = a })

-- the numbers of a line that has exactly four words
abbrev pub quadruple : List (List ℕ) → Option Quadruple
quadruple [] = None
quadruple (c ∷ []) = None
quadruple (c ∷ v ∷ []) = None
quadruple (c ∷ v ∷ b ∷ []) = None
quadruple (c ∷ v ∷ b ∷ a ∷ []) = four (number c) (number v) (number b) (number a)
quadruple (c ∷ v ∷ b ∷ a ∷ w ∷ ws) = None

-- the value that a variable must have before an effect, or any value
abbrev pub before_of : ℕ → Number → Option (Option ℕ)
before_of range (Natural x) = if nat_lt x range then Some (Some x) else None
before_of range (Negative x) = if x == 1 then Some None else None

abbrev pub change_with : Option (Option ℕ) → Fact → Option Change
change_with None f = None
change_with (Some b) f = Some (record { before = b; after = f })

abbrev pub change_to : List ℕ → Number → Option Fact → Option Change
change_to ranges b None = None
change_to ranges b (Some f) = change_with (before_of (slice_index ranges f.variable) b) f

abbrev pub change_of : List ℕ → Quadruple → Option Change
change_of ranges q = if is_natural 0 q.conditions then change_to ranges q.before (fact_of ranges q.variable q.after) else None

abbrev pub change_in : ℕ → List ℕ → List (List ℕ) → Result Change SasFault
change_in line ranges ws =
    if is_conditional ws then Err (fault.ConditionalEffect line)
    else (formed line (quadruple ws) >>= λ numbers. ranged line (change_of ranges numbers))

unfoldable pub change_at : List ℕ → Remaining → Result (Change × Remaining) SasFault
change_at ranges r = do
  l ← line_at r
  change ← change_in r.number ranges (words l.0)
  Ok (change, l.1)

-- the precondition with the value before an effect, if one is required
abbrev pub conditions_with : List Fact → ℕ → Option ℕ → List Fact
conditions_with facts v None = facts
conditions_with facts v (Some x) = facts ++ record { variable = v; value = x } ∷ []

abbrev pub with_change : Halves → Change → Halves
with_change h c = record { precondition = conditions_with h.precondition c.after.variable c.before; effect = h.effect ++ c.after ∷ [] }

-- whether a fact of the precondition or of the effect is on the variable
abbrev pub is_named : Halves → ℕ → Bool
is_named h v = names_variable h.precondition v || names_variable h.effect v

-- one more effect, on a variable that neither the precondition nor an earlier effect names
unfoldable pub change_step : List ℕ → Halves → Remaining → Result (Halves × Remaining) SasFault
change_step ranges h r = do
  change ← change_at ranges r
  if is_named h change.0.after.variable then Err (fault.Range r.number) else Ok (with_change h change.0, change.1)

unfoldable pub cost_at : Remaining → Result (ℕ × Remaining) SasFault
cost_at r = do
  cost ← count_at r
  if nat_lt max_cost cost.0 then Err (fault.Range r.number) else Ok cost

-- precondition and effect of an operator
unfoldable pub halves_at : List ℕ → Remaining → Result (Halves × Remaining) SasFault
halves_at ranges r = do
  prevail ← facts_at ranges r
  count ← count_at prevail.1
  repeated (change_step ranges) count.0 (record { precondition = prevail.0; effect = [] }) count.1

unfoldable pub operator_at : List ℕ → Remaining → Result (Operator × Remaining) SasFault
operator_at ranges r = do
  begin ← keyword_at (codes "begin_operator") r
  name ← text_at begin
  halves ← halves_at ranges name.1
  cost ← cost_at halves.1
  rest ← keyword_at (codes "end_operator") cost.1
  Ok (record { name = name.0; precondition = halves.0.precondition; effect = halves.0.effect; cost = cost.0 }, rest)

abbrev pub operator_step : List ℕ → List Operator → Remaining → Result (List Operator × Remaining) SasFault
operator_step ranges operators r = operator_at ranges r >>= λ operator. Ok (operators ++ operator.0 ∷ [], operator.1)

unfoldable pub operators_at : List ℕ → Remaining → Result (List Operator × Remaining) SasFault
operators_at ranges r = do
  count ← count_at r
  if nat_lt max_operators count.0 then Err (fault.Limit limit.Operators) else repeated (operator_step ranges) count.0 [] count.1

-- ---- the whole text

unfoldable pub axioms_at : Remaining → Result Remaining SasFault
axioms_at r = do
  count ← number_at r
  if is_natural 0 count.0 then Ok count.1 else Err (fault.Axioms r.number)

-- the remaining lines are empty
unfoldable pub empty_from : ℕ → List (List ℕ) → Result (Unit {0}) SasFault
empty_from line [] = Ok tt
empty_from line ([] ∷ ls) = empty_from (line + 1) ls
empty_from line ((b ∷ bs) ∷ ls) = Err (fault.Trailing line)

-- the sections before those that refer to variables
pub record Head : Type 0 where
  pub metric : Bool
  pub variables : List (List (List ℕ))

unfoldable pub head_at : Remaining → Result (Head × Remaining) SasFault
head_at r = do
  version ← version_at r
  metric ← metric_at version
  variables ← variables_at metric.1
  Ok (record { metric = metric.0; variables = variables.0 }, variables.1)

-- the sections after the variables
pub record Body : Type 0 where
  pub initial : List ℕ
  pub goal : List Fact
  pub operators : List Operator

unfoldable pub body_at : List ℕ → Remaining → Result Body SasFault
body_at ranges r = do
  groups ← groups_at ranges r
  initial ← state_at ranges groups.1
  goal ← goal_at ranges initial.1
  operators ← operators_at ranges goal.1
  rest ← axioms_at operators.1
  end ← empty_from rest.number rest.lines
  Ok (record { initial = initial.0; goal = goal.0; operators = operators.0 })

abbrev pub joined : Head → Body → FiniteDomainTask
joined h b = record { metric = h.metric; value_names = h.variables; initial = b.initial; goal = b.goal; operators = b.operators }

unfoldable pub task_at : Remaining → Result FiniteDomainTask SasFault
task_at r = do
  head ← head_at r
  body ← body_at (map length head.0.variables) head.1
  Ok (joined head.0 body)

-- the task of a whole text, or its first fault
abbrev pub task_in : List ℕ → Result FiniteDomainTask SasFault
task_in text = task_at (record { number = 1; lines = lines text })
