-- The conversion of a certificate of version 1 to version 2: the arguments that request it, the answer for the
-- certificate's text, and what the command does.
use Rattle.std.specs.Prelude.{◌≡◌, ◌≢◌, ℕ, Bool, true, List, [], ◌∷◌, ◌++◌, Err, codes}
use Rattle.optplan_device.specs.Events.{Event, HasRead}
use Rattle.cert_value.specs.Certificates.{CertificateValue}
use Rattle.cert_value.specs.Lawful.{IsLawful}
use Rattle.cert_value.specs.declared.certificate.Version.{Version}
use Rattle.cert_value.specs.declared.certificate.Version.TheVariants.{One, Two, Three}
use Rattle.cert_text.specs.Spelling.{spelling}
use Rattle.cert_text.specs.Reading.{certificate_of}
use Rattle.cert_text.specs.declared.fault.CertFault.TheVariants as cert_fault
use Rattle.optplan_explain.specs.Explanations.{IsExplained}
use Rattle.optplan_explain.specs.Files.{ReadFiles, no_files, with_cert}
use Rattle.optplan_replies.specs.declared.status.Status.{Status}
use Rattle.optplan_replies.specs.declared.status.Status.TheVariants.{Done}
use Rattle.optplan_replies.specs.Runs.{is_operand, Follows}
use Rattle.optplan_replies.specs.declared.fault.Fault.{Fault}
use Rattle.optplan_replies.specs.declared.fault.Fault.TheVariants.{OutOfMemory, CannotRead, CannotWrite, Task, Plan, Sas, Cert, GroundLimit, TaskTooLarge, TotalTooLarge}

-- the arguments request it: the program's name, `migrate-cert`, and a file
pub record AskForMigration (words : List (List ℕ)) (cert : List ℕ) : Type 0 where
  pub program : List ℕ
  pub are : words ≡ program ∷ codes "migrate-cert" ∷ cert ∷ []
  pub cert_is : is_operand cert ≡ true

-- version 1 becomes 2, and the others stay
abbrev pub version_after : Version → Version
version_after One = Two
version_after Two = Two
version_after Three = Three

-- the first text spells a certificate, and the second the same certificate in the version to which it is converted
pub record IsMigrated (cert text : List ℕ) : Type 0 where
  pub certificate : CertificateValue
  pub lawful : IsLawful certificate
  pub spelled : cert ≡ spelling certificate
  pub text_is : text ≡ spelling (record certificate { version = version_after certificate.version })

-- the text is that of the converted certificate, and the status is `Done`
abbrev pub IsMigrationAnswer : List ℕ → List ℕ → Status → Type 0
IsMigrationAnswer cert text status = IsMigrated cert text × (status ≡ Done)

-- the text is refused, with its first fault
abbrev pub IsMigrationRefusal : List ℕ → Fault → Type 0
IsMigrationRefusal cert OutOfMemory = Unit {0}
IsMigrationRefusal cert (CannotRead file) = ⊥
IsMigrationRefusal cert (CannotWrite file) = ⊥
IsMigrationRefusal cert (Task e word) = ⊥
IsMigrationRefusal cert (Plan e) = ⊥
IsMigrationRefusal cert (Sas e) = ⊥
IsMigrationRefusal cert (Cert e) = (e ≢ cert_fault.OutOfMemory) × (certificate_of cert ≡ Err e)
IsMigrationRefusal cert GroundLimit = ⊥
IsMigrationRefusal cert (TaskTooLarge table) = ⊥
IsMigrationRefusal cert TotalTooLarge = ⊥

-- the file that a fault may name
abbrev pub files : List ℕ → List ℕ → ReadFiles
files cert c = with_cert no_files cert c

-- the file is read; then the converted text is printed, or the file's text is refused, and the fault explained if that
-- is requested
pub record Migrates (old new : List Event) (cert : List ℕ) (explains : Bool) (status : Status) : Type 0 where
  pub cert_text : List ℕ
  pub later : List Event
  pub events : new ≡ old ++ (HasRead cert cert_text ∷ later)
  pub follows : Follows (IsMigrationAnswer cert_text) (IsMigrationRefusal cert_text)
      (IsExplained explains (files cert cert_text)) later status
