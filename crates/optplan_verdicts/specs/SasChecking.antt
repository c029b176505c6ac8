-- The check of a certificate for a finite-domain task: the arguments that request it, the answer for the two texts, and
-- what the command does.
use Rattle.std.specs.Prelude.{◌≡◌, ℕ, Bool, true, List, [], ◌∷◌, ◌++◌, codes}
use Rattle.optplan_device.specs.Events.{Event, HasRead}
use Rattle.checker_fdr.specs.Verdicts.{verdict_text}
use Rattle.checker_fdr.specs.Answers.{IsAnswer, IsRefusal}
use Rattle.checker_fdr.specs.declared.verdict.Verdict.{Verdict}
use Rattle.checker_fdr.specs.declared.verdict.Verdict.TheVariants.{Accepted, Rejected}
use Rattle.checker_fdr.specs.declared.fault.CheckFault.{CheckFault}
use Rattle.optplan_explain.specs.Explanations.{IsExplained}
use Rattle.optplan_explain.specs.Files.{ReadFiles, no_files, with_cert, with_sas}
use Rattle.optplan_replies.specs.declared.fault.Fault.{Fault}
use Rattle.optplan_replies.specs.declared.status.Status.{Status}
use Rattle.optplan_replies.specs.declared.status.Status.TheVariants as exit
use Rattle.optplan_replies.specs.Faults.{fault_of_check}
use Rattle.optplan_replies.specs.Runs.{is_operand, Follows}

-- the arguments request a check: the program's name, `check-sas`, and two files
pub record AskForSasCheck (words : List (List ℕ)) (sas cert : List ℕ) : Type 0 where
  pub program : List ℕ
  pub are : words ≡ program ∷ codes "check-sas" ∷ sas ∷ cert ∷ []
  pub sas_is : is_operand sas ≡ true
  pub cert_is : is_operand cert ≡ true

-- the exit status of a verdict on a certificate
abbrev pub sas_check_status : Verdict → Status
sas_check_status (Accepted bound) = exit.Done
sas_check_status (Rejected violation) = exit.Rejected

-- the texts spell a task and a certificate, and the line and the status are those of the verdict on the certificate
pub record IsSasCheckAnswer (sas cert line : List ℕ) (status : Status) : Type 0 where
  pub verdict : Verdict
  pub holds : IsAnswer sas cert verdict
  pub line_is : line ≡ verdict_text verdict ++ codes "\n"
  pub status_is : status ≡ sas_check_status verdict

-- one of the texts is refused by the checker, with this fault
pub record IsSasCheckRefusal (sas cert : List ℕ) (e : Fault) : Type 0 where
  pub fault : CheckFault
  pub refused : IsRefusal sas cert fault
  pub fault_is : e ≡ fault_of_check fault

-- two files were read
abbrev pub sas_check_reads : List ℕ → List ℕ → List ℕ → List ℕ → List Event
sas_check_reads sas s cert c = HasRead sas s ∷ HasRead cert c ∷ []

-- the two files that a fault may name
abbrev pub files : List ℕ → List ℕ → List ℕ → List ℕ → ReadFiles
files sas s cert c = with_cert (with_sas no_files sas s) cert c

-- the two files are read, in this order; then the verdict's line is printed, or one of the texts is refused, and the
-- fault explained if that is requested
pub record ChecksSas (old new : List Event) (sas cert : List ℕ) (explains : Bool) (status : Status) : Type 0 where
  pub sas_text : List ℕ
  pub cert_text : List ℕ
  pub later : List Event
  pub events : new ≡ old ++ (sas_check_reads sas sas_text cert cert_text ++ later)
  pub follows : Follows (IsSasCheckAnswer sas_text cert_text) (IsSasCheckRefusal sas_text cert_text)
      (IsExplained explains (files sas sas_text cert cert_text)) later status
