-- The options of a solve command.
use Rattle.std.specs.Prelude.{◌≡◌, ℕ, ◌≤◌, ◌<◌, ◌^◌, Bool, true, false, ◌&&◌, ◌||◌, not, is_some, List, [], ◌∷◌, Option, Some, None, codes}
use Rattle.std.specs.Str.{bytes_eq}
use Rattle.std.specs.Str.Parse.{IsNumeral, digits_value}
use Rattle.owner_space.specs.declared.ties.Ties.{Ties}
use Rattle.owner_space.specs.declared.ties.Ties.TheVariants.{Shallow, Deep, Fresh}
use Rattle.optplan_options.specs.Choices.{Choices}
use Rattle.optplan_options.specs.declared.options.Tables.{Tables}
use Rattle.optplan_options.specs.declared.options.Tables.TheVariants.{Goal, Staged}
use Rattle.optplan_solve.specs.declared.settings.Schedule.{Schedule}
use Rattle.optplan_solve.specs.declared.settings.Schedule.TheVariants.{Threads, Drawn}
use Rattle.optplan_solve.specs.declared.settings.Settings.{Settings}
use Rattle.optplan_solve.specs.Outputs.{files_of}

-- the text spells a number with digits only, in this range and below 2^64
pub record IsNumberIn (least most : ℕ) (text : List ℕ) : Type 0 where
  pub numeral : IsNumeral 10 text
  pub fits : digits_value 10 text < 2 ^ 64
  pub low : least ≤ digits_value 10 text
  pub high : digits_value 10 text ≤ most

-- the number of an option with this value, if it has one
abbrev pub IsNumberOf : ℕ → ℕ → Option (List ℕ) → Option ℕ → Type 0
IsNumberOf least most None number = number ≡ None
IsNumberOf least most (Some text) number = IsNumberIn least most text × (number ≡ Some (digits_value 10 text))

-- the number of an option with this value, or a default if it has none
abbrev pub IsNumberOr : ℕ → ℕ → ℕ → Option (List ℕ) → ℕ → Type 0
IsNumberOr absent least most None number = number ≡ absent
IsNumberOr absent least most (Some text) number = IsNumberIn least most text × (number ≡ digits_value 10 text)

-- the text names this order among states of the same f-value
abbrev pub NamesTies : List ℕ → Ties → Type 0
NamesTies text Shallow = text ≡ codes "shallow"
NamesTies text Deep = text ≡ codes "deep"
NamesTies text Fresh = text ≡ codes "fresh"

-- the order of an option with this value: if it has none, Shallow for a schedule of random steps, and else Fresh
abbrev pub IsTiesOf : Option (List ℕ) → Bool → Ties → Type 0
IsTiesOf None true ties = ties ≡ Shallow
IsTiesOf None false ties = ties ≡ Fresh
IsTiesOf (Some text) is_simulated ties = NamesTies text ties

-- the text names these tables
abbrev pub NamesTables : List ℕ → Tables → Type 0
NamesTables text Goal = text ≡ codes "goal"
NamesTables text Staged = text ≡ codes "staged"

-- the tables of an option with this value: the default is Staged; if something else requires Goal, that is the default
-- and the only value
abbrev pub IsTablesOf : Bool → Option (List ℕ) → Tables → Type 0
IsTablesOf false None tables = tables ≡ Staged
IsTablesOf false (Some text) tables = NamesTables text tables
IsTablesOf true None tables = tables ≡ Goal
IsTablesOf true (Some text) tables = (text ≡ codes "goal") × (tables ≡ Goal)

-- the text says whether there is a reduction
abbrev pub NamesReduction : List ℕ → Bool → Type 0
NamesReduction text true = text ≡ codes "on"
NamesReduction text false = text ≡ codes "off"

-- whether an option with this value requests a reduction: by default it does; with a schedule of random steps there is
-- none, and that is the only value
abbrev pub IsReductionOf : Bool → Option (List ℕ) → Bool → Type 0
IsReductionOf false None reduction = reduction ≡ true
IsReductionOf false (Some text) reduction = NamesReduction text reduction
IsReductionOf true None reduction = reduction ≡ false
IsReductionOf true (Some text) reduction = (text ≡ codes "off") × (reduction ≡ false)

-- the size of tables, and a schedule of random steps, require tables from the goal
abbrev pub requires_goal : (List ℕ → Option (List ℕ)) → Bool
requires_goal value = is_some (value (codes "table")) || is_some (value (codes "simulate"))

-- the options of the solver, from the values of the command's options
pub record AreChoicesOf (value : List ℕ → Option (List ℕ)) (choices : Choices) : Type 0 where
  pub workers : IsNumberOr 4 1 64 (value (codes "workers")) choices.workers
  pub table : IsNumberOr 100000 1 16777216 (value (codes "table")) choices.table
  pub limit : IsNumberOf 0 9223372036854775807 (value (codes "limit")) choices.limit
  pub ring : IsNumberOr 64 1 65536 (value (codes "ring")) choices.ring
  pub steps : IsNumberOr 1000000 0 9223372036854775807 (value (codes "steps")) choices.steps
  pub ties : IsTiesOf (value (codes "ties")) (is_some (value (codes "simulate"))) choices.ties
  pub tables : IsTablesOf (requires_goal value) (value (codes "tables")) choices.tables
  pub stage_ends : choices.stage_ends ≡ 60000 ∷ 700000 ∷ 15000000 ∷ []
  pub certificate : choices.certificate ≡ is_some (value (codes "cert"))
  pub reduction : IsReductionOf (is_some (value (codes "simulate"))) (value (codes "reduce")) choices.reduction

-- the schedule from a seed, seconds and a memory: random steps from the seed, whatever the others are; or, if there is
-- no seed, threads, with these seconds and this memory, if there are any
abbrev pub schedule_by : Option ℕ → Option ℕ → Option ℕ → Schedule
schedule_by (Some seed) seconds mebibytes = Drawn seed
schedule_by None seconds mebibytes = Threads (record { seconds = seconds; mebibytes = mebibytes })

-- the schedule from the values of the options that name a seed, seconds and memory
pub record IsScheduleOf (value : List ℕ → Option (List ℕ)) (schedule : Schedule) : Type 0 where
  pub seed : Option ℕ
  pub seed_is : IsNumberOf 0 9223372036854775807 (value (codes "simulate")) seed
  pub seconds : Option ℕ
  pub seconds_are : IsNumberOf 0 9223372036854775807 (value (codes "time")) seconds
  pub mebibytes : Option ℕ
  pub mebibytes_are : IsNumberOf 0 9223372036854775807 (value (codes "memory")) mebibytes
  pub is : schedule ≡ schedule_by seed seconds mebibytes

-- the file has this name
abbrev pub is_same : Option (List ℕ) → List ℕ → Bool
is_same None name = false
is_same (Some other) name = bytes_eq other name

-- an option without a value is among the arguments: then its value is `true`, and otherwise `false`
abbrev pub is_set : (List ℕ → Option (List ℕ)) → List ℕ → Bool
is_set value name = is_same (value name) (codes "true")

-- a file of this name, which is written, is read too, or is this other one that is written; but `/dev/null` never is
abbrev pub is_taken : (List ℕ → Option (List ℕ)) → Option (List ℕ) → List ℕ → Bool
is_taken value other name =
    not (bytes_eq name (codes "/dev/null"))
    && (is_same (value (codes "DOMAIN")) name || (is_same (value (codes "PROBLEM")) name || (is_same (value (codes "SAS")) name || is_same other name)))

-- the same, if there is such a file
abbrev pub has_taken : (List ℕ → Option (List ℕ)) → Option (List ℕ) → Option (List ℕ) → Bool
has_taken value other None = false
has_taken value other (Some name) = is_taken value other name

-- the request apart from the task, from the values of the command's options
pub record AreSettingsOf (value : List ℕ → Option (List ℕ)) (settings : Settings) : Type 0 where
  pub choices : AreChoicesOf value settings.options
  pub schedule : IsScheduleOf value settings.schedule
  pub explains : settings.explains ≡ is_set value (codes "explain")
  pub files : files_of settings ≡ record { plan = value (codes "plan"); cert = value (codes "cert") }
  pub cert_is_own : has_taken value None (value (codes "cert")) ≡ false
  pub plan_is_own : has_taken value (value (codes "cert")) (value (codes "plan")) ≡ false
