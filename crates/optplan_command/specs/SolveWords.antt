-- The effect of a solve command, from its arguments.
use Rattle.std.specs.Prelude.{ℕ, List, [], Option, codes, unwrap_or}
use Rattle.optplan_device.specs.Events.{Event}
use Rattle.optplan_replies.specs.declared.status.Status.{Status}
use Rattle.optplan_solve.specs.declared.settings.Settings.{Settings}
use Rattle.optplan_solve.specs.Solving.{Solves}
use Rattle.optplan_solve.specs.SasSolving.{SolvesSas}
use Rattle.optplan_solve.specs.Outputs.{files_of}
use Rattle.optplan_command.specs.Options.{AreSettingsOf}

-- the value of an operand, or the empty text if it has none
abbrev pub operand : (List ℕ → Option (List ℕ)) → List ℕ → List ℕ
operand value name = unwrap_or (value name) []

-- a value of an option is refused: no settings have these values
abbrev pub HasRefusedValue : (List ℕ → Option (List ℕ)) → Type 0
HasRefusedValue value = (settings : Settings) → AreSettingsOf value settings → ⊥

-- the planning task of these files is solved as the options request
pub record SolvesByWords (value : List ℕ → Option (List ℕ)) (old new : List Event) (status : Status) : Type 0 where
  pub settings : Settings
  pub asked : AreSettingsOf value settings
  pub solves : Solves old new (operand value (codes "DOMAIN")) (operand value (codes "PROBLEM")) settings.options settings.schedule (files_of settings) settings.explains status

-- the finite-domain task of this file is solved as the options request
pub record SolvesSasByWords (value : List ℕ → Option (List ℕ)) (old new : List Event) (status : Status) : Type 0 where
  pub settings : Settings
  pub asked : AreSettingsOf value settings
  pub solves : SolvesSas old new (operand value (codes "SAS")) settings.options settings.schedule (files_of settings) settings.explains status
