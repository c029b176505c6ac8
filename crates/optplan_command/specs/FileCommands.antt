-- The commands that work on files alone: their names and files, and what each does.
use Rattle.std.specs.Prelude.{◌≡◌, ◌≢◌, ℕ, Bool, List, Option, codes}
use Rattle.optplan_device.specs.Events.{Event}
use Rattle.optplan_replies.specs.declared.status.Status.{Status}
use Rattle.optplan_optimal.specs.Running.{JudgesOptimality}
use Rattle.optplan_verdicts.specs.Validation.{Validates}
use Rattle.optplan_verdicts.specs.SasChecking.{ChecksSas}
use Rattle.optplan_verdicts.specs.Checking.{Checks}
use Rattle.optplan_command.specs.Translating.{Translates}
use Rattle.optplan_command.specs.Migrating.{Migrates}
use Rattle.optplan_command.specs.SolveWords.{operand}
use Rattle.optplan_command.specs.declared.file_command.FileCommand.{FileCommand}
use Rattle.optplan_command.specs.declared.file_command.FileCommand.TheVariants.{Validate, Check, CheckSas, Optimal, Translate, MigrateCert}

-- the command has this name, and its files are the values of its operands
abbrev pub IsNamed : List ℕ → (List ℕ → Option (List ℕ)) → FileCommand → Type 0
IsNamed name value (Validate domain problem plan) =
    (name ≡ codes "validate") × (domain.now ≡ operand value (codes "DOMAIN")) × (problem.now ≡ operand value (codes "PROBLEM")) × (plan.now ≡ operand value (codes "PLAN"))
IsNamed name value (Check domain problem cert) =
    (name ≡ codes "check") × (domain.now ≡ operand value (codes "DOMAIN")) × (problem.now ≡ operand value (codes "PROBLEM")) × (cert.now ≡ operand value (codes "CERT"))
IsNamed name value (CheckSas sas cert) = (name ≡ codes "check-sas") × (sas.now ≡ operand value (codes "SAS")) × (cert.now ≡ operand value (codes "CERT"))
IsNamed name value (Optimal domain problem plan cert) =
    (name ≡ codes "optimal") × (domain.now ≡ operand value (codes "DOMAIN")) × (problem.now ≡ operand value (codes "PROBLEM")) × (plan.now ≡ operand value (codes "PLAN")) × (cert.now ≡ operand value (codes "CERT"))
IsNamed name value (Translate domain problem) =
    (name ≡ codes "translate") × (domain.now ≡ operand value (codes "DOMAIN")) × (problem.now ≡ operand value (codes "PROBLEM"))
IsNamed name value (MigrateCert cert) = (name ≡ codes "migrate-cert") × (cert.now ≡ operand value (codes "CERT"))

-- no command that works on files alone has this name
abbrev pub NamesNoFileCommand : List ℕ → Type 0
NamesNoFileCommand name =
    (name ≢ codes "validate") × (name ≢ codes "check") × (name ≢ codes "check-sas") × (name ≢ codes "optimal") × (name ≢ codes "translate") × (name ≢ codes "migrate-cert")

-- the events of a run of the command, which explains a fault of its texts if that is requested, and its exit status
abbrev pub DoesCommand : List Event → List Event → FileCommand → Bool → Status → Type 0
DoesCommand old new (Validate domain problem plan) explains status = Validates old new domain.now problem.now plan.now explains status
DoesCommand old new (Check domain problem cert) explains status = Checks old new domain.now problem.now cert.now explains status
DoesCommand old new (CheckSas sas cert) explains status = ChecksSas old new sas.now cert.now explains status
DoesCommand old new (Optimal domain problem plan cert) explains status = JudgesOptimality old new domain.now problem.now plan.now cert.now explains status
DoesCommand old new (Translate domain problem) explains status = Translates old new domain.now problem.now explains status
DoesCommand old new (MigrateCert cert) explains status = Migrates old new cert.now explains status
