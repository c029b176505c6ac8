-- The commands that work on files alone, with file names that do not start with a hyphen: what `clap` reads, and that no
-- value is refused.
use Rattle.std.proofs.Common.{◌≡◌, ◌⊎◌, ◌∙◌, ◌||◌, ℕ, Bool, true, false, true≢false, List, [], ◌∷◌, Some, None, codes, refl, ap, sym, subst, ⊎_elim}
use Rattle.std.specs.Prelude.{◌==◌, Option}
use Rattle.std.specs.Str.{bytes_eq}
use Rattle.clap.specs.Lexer.{strip_byte}
use Rattle.clap.specs.Walk.{Row}
use Rattle.clap.specs.Words.{fault_of, kind_of, subcommand_of}
use Rattle.clap.specs.declared.error.Error.{Error}
use Rattle.clap.specs.declared.error.kind.ErrorKind.TheVariants.{OutOfMemory, ValueValidation}
use Rattle.optplan_replies.specs.Runs.{is_operand}
use Rattle.optplan_optimal.specs.Running.{AskForOptimality}
use Rattle.optplan_words.specs.Commands.{program}
use Rattle.optplan_words.proofs.PlainArguments.{IsPlain}
use Rattle.optplan_words.proofs.FileRequests.{IsRequest, row, unexplained, validate_request, check_request, check_sas_request, optimal_request, translate_request, migrate_cert_request}
use Rattle.optplan_verdicts.specs.Validation.{AskForValidation}
use Rattle.optplan_verdicts.specs.SasChecking.{AskForSasCheck}
use Rattle.optplan_verdicts.specs.Checking.{AskForCheck}
use Rattle.optplan_command.specs.Translating.{AskForTranslation}
use Rattle.optplan_command.specs.Migrating.{AskForMigration}
use Rattle.optplan_command.specs.Requests.{IsRefusedRequest, value_in}

plain : (word : List ℕ) → is_operand word ≡ true → IsPlain word
plain [] is = refl
plain (b ∷ bs) is = go (b == 45) refl
  where
    go : (t : Bool) → (b == 45) ≡ t → strip_byte 45 (b ∷ bs) ≡ None
    go true hyphen = let no_operand : is_operand (b ∷ bs) ≡ false = rw hyphen refl in absurd (true≢false (sym is ∙ no_operand))
    go false other = rw other refl

pub asked_validation : (words : List (List ℕ)) (domain problem plan : List ℕ) → AskForValidation words domain problem plan → IsRequest words (codes "validate") (row (codes "DOMAIN") domain ∷ row (codes "PROBLEM") problem ∷ row (codes "PLAN") plan ∷ unexplained ∷ [])
asked_validation words domain problem plan asks =
    subst (λ ws. IsRequest ws (codes "validate") (row (codes "DOMAIN") domain ∷ row (codes "PROBLEM") problem ∷ row (codes "PLAN") plan ∷ unexplained ∷ [])) (sym asks.are)
    (validate_request asks.program domain problem plan (plain domain asks.domain_is, (plain problem asks.problem_is, (plain plan asks.plan_is, tt))))

pub asked_check : (words : List (List ℕ)) (domain problem cert : List ℕ) → AskForCheck words domain problem cert → IsRequest words (codes "check") (row (codes "DOMAIN") domain ∷ row (codes "PROBLEM") problem ∷ row (codes "CERT") cert ∷ unexplained ∷ [])
asked_check words domain problem cert asks =
    subst (λ ws. IsRequest ws (codes "check") (row (codes "DOMAIN") domain ∷ row (codes "PROBLEM") problem ∷ row (codes "CERT") cert ∷ unexplained ∷ [])) (sym asks.are)
    (check_request asks.program domain problem cert (plain domain asks.domain_is, (plain problem asks.problem_is, (plain cert asks.cert_is, tt))))

pub asked_sas_check : (words : List (List ℕ)) (sas cert : List ℕ) → AskForSasCheck words sas cert → IsRequest words (codes "check-sas") (row (codes "SAS") sas ∷ row (codes "CERT") cert ∷ unexplained ∷ [])
asked_sas_check words sas cert asks =
    subst (λ ws. IsRequest ws (codes "check-sas") (row (codes "SAS") sas ∷ row (codes "CERT") cert ∷ unexplained ∷ [])) (sym asks.are)
    (check_sas_request asks.program sas cert (plain sas asks.sas_is, (plain cert asks.cert_is, tt)))

pub asked_judgement : (words : List (List ℕ)) (domain problem plan cert : List ℕ) → AskForOptimality words domain problem plan cert → IsRequest words (codes "optimal") (row (codes "DOMAIN") domain ∷ row (codes "PROBLEM") problem ∷ row (codes "PLAN") plan ∷ row (codes "CERT") cert ∷ unexplained ∷ [])
asked_judgement words domain problem plan cert asks =
    subst (λ ws. IsRequest ws (codes "optimal") (row (codes "DOMAIN") domain ∷ row (codes "PROBLEM") problem ∷ row (codes "PLAN") plan ∷ row (codes "CERT") cert ∷ unexplained ∷ [])) (sym asks.are)
    (optimal_request asks.program domain problem plan cert (plain domain asks.domain_is, (plain problem asks.problem_is, (plain plan asks.plan_is, (plain cert asks.cert_is, tt)))))

pub asked_translation : (words : List (List ℕ)) (domain problem : List ℕ) → AskForTranslation words domain problem → IsRequest words (codes "translate") (row (codes "DOMAIN") domain ∷ row (codes "PROBLEM") problem ∷ unexplained ∷ [])
asked_translation words domain problem asks =
    subst (λ ws. IsRequest ws (codes "translate") (row (codes "DOMAIN") domain ∷ row (codes "PROBLEM") problem ∷ unexplained ∷ [])) (sym asks.are)
    (translate_request asks.program domain problem (plain domain asks.domain_is, (plain problem asks.problem_is, tt)))

pub asked_migration : (words : List (List ℕ)) (cert : List ℕ) → AskForMigration words cert → IsRequest words (codes "migrate-cert") (row (codes "CERT") cert ∷ unexplained ∷ [])
asked_migration words cert asks =
    subst (λ ws. IsRequest ws (codes "migrate-cert") (row (codes "CERT") cert ∷ unexplained ∷ [])) (sym asks.are)
    (migrate_cert_request asks.program cert (plain cert asks.cert_is, tt))

-- ---- refusals

-- the command of this name solves a task
abbrev solves : List ℕ → Bool
solves name = bytes_eq name (codes "solve") || bytes_eq name (codes "solve-sas")

none_refused : (name : List ℕ) (value : List ℕ → Option (List ℕ)) → solves name ≡ false → IsRefusedRequest name value → ⊥
none_refused name value files refused = ⊎_elim (λ is. true≢false (ap solves (sym is) ∙ files)) (λ is. true≢false (ap solves (sym is) ∙ files)) refused.0

-- a command that works on files alone fails only because allocation failed
pub out_of_memory : (words : List (List ℕ)) (name : List ℕ) (rows : List Row) (e : Error) → IsRequest words name rows → solves name ≡ false
    → (fault_of program words ≡ [] → (kind_of e ≡ OutOfMemory) ⊎ ((kind_of e ≡ ValueValidation) ×
    ((other : List ℕ) (found : List Row) → subcommand_of program words ≡ Some (other, found) → IsRefusedRequest other (value_in found))))
    → kind_of e ≡ OutOfMemory
out_of_memory words name rows e request files refused =
    ⊎_elim (λ memory. memory) (λ value. absurd (none_refused name (value_in rows) files (value.1 name rows request.named))) (refused request.fits)
