-- What the program does for arguments that name one of its commands, with operands and options in any order, `--` among
-- them. The definitions of `clap` specify which command they name, and with which values.
use Rattle.std.specs.Prelude.{◌≡◌, ◌≢◌, ◌⊎◌, ℕ, List, [], Option, codes}
use Rattle.clap.specs.Walk.{Row, first_of}
use Rattle.clap.specs.Kinds.{IsAmong}
use Rattle.clap.specs.declared.error.kind.ErrorKind.{ErrorKind}
use Rattle.clap.specs.declared.error.kind.ErrorKind.TheVariants.{DisplayHelp, DisplayVersion}
use Rattle.optplan_device.specs.Events.{Event}
use Rattle.optplan_replies.specs.declared.status.Status.{Status}
use Rattle.optplan_optimal.specs.Running.{JudgesOptimality}
use Rattle.optplan_verdicts.specs.Validation.{Validates}
use Rattle.optplan_verdicts.specs.SasChecking.{ChecksSas}
use Rattle.optplan_verdicts.specs.Checking.{Checks}
use Rattle.optplan_command.specs.Translating.{Translates}
use Rattle.optplan_command.specs.Migrating.{Migrates}
use Rattle.optplan_command.specs.Options.{is_set}
use Rattle.optplan_command.specs.SolveWords.{HasRefusedValue, SolvesByWords, SolvesSasByWords, operand}

-- the value of an operand or an option, by its name
abbrev pub value_in : List Row → List ℕ → Option (List ℕ)
value_in rows name = first_of name rows

-- the command of this name is run, with these values of its operands and options
pub record DoesRequest (name : List ℕ) (value : List ℕ → Option (List ℕ)) (old new : List Event) (status : Status) : Type 0 where
  pub validates : name ≡ codes "validate" → Validates old new (operand value (codes "DOMAIN")) (operand value (codes "PROBLEM")) (operand value (codes "PLAN")) (is_set value (codes "explain")) status
  pub checks : name ≡ codes "check" → Checks old new (operand value (codes "DOMAIN")) (operand value (codes "PROBLEM")) (operand value (codes "CERT")) (is_set value (codes "explain")) status
  pub checks_sas : name ≡ codes "check-sas" → ChecksSas old new (operand value (codes "SAS")) (operand value (codes "CERT")) (is_set value (codes "explain")) status
  pub judges : name ≡ codes "optimal" → JudgesOptimality old new (operand value (codes "DOMAIN")) (operand value (codes "PROBLEM")) (operand value (codes "PLAN")) (operand value (codes "CERT")) (is_set value (codes "explain")) status
  pub translates : name ≡ codes "translate" → Translates old new (operand value (codes "DOMAIN")) (operand value (codes "PROBLEM")) (is_set value (codes "explain")) status
  pub migrates : name ≡ codes "migrate-cert" → Migrates old new (operand value (codes "CERT")) (is_set value (codes "explain")) status
  pub solves : name ≡ codes "solve" → SolvesByWords value old new status
  pub solves_sas : name ≡ codes "solve-sas" → SolvesSasByWords value old new status

-- the command solves a task, and a value of an option is refused
abbrev pub IsRefusedRequest : List ℕ → (List ℕ → Option (List ℕ)) → Type 0
IsRefusedRequest name value = ((name ≡ codes "solve") ⊎ (name ≡ codes "solve-sas")) × HasRefusedValue value

-- arguments with an error of one of these kinds are misused: there is at least one kind, and none is a request for help
-- or the version
pub record IsMisuse (kinds : List ErrorKind) : Type 0 where
  pub some : kinds ≢ []
  pub no_help : (k : ErrorKind) → IsAmong k kinds → (k ≢ DisplayHelp) × (k ≢ DisplayVersion)
