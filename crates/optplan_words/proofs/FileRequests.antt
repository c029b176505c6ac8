-- The program's commands that work on files alone, with file names that do not start with a hyphen: the arguments have
-- no fault, and each file name is the value of its operand. The path is the program's own name, any text.
use Rattle.std.proofs.Common.{◌≡◌, true, false, List, [], ◌∷◌, Some, None, codes, ap}
use Rattle.std.specs.Prelude.{Option}
use Rattle.clap.specs.Walk.{Row, Text, finished, nothing_held, rows_after}
use Rattle.clap.specs.Kinds.{Kinds}
use Rattle.clap.specs.Simple.{Shape, built, built_leaf, inherited, marked_built, names_of, subcommand_of, with_leaf_noted}
use Rattle.clap.specs.Faults.{fault_of, level_fault}
use Rattle.clap.specs.declared.builder.value_parser.Reading.TheVariants.{AsWritten}
use Rattle.clap.specs.declared.parser.matches.ValueSource.TheVariants.{CommandLine, DefaultValue}
use Rattle.clap.proofs.OnLiterals.{clap_on_literals}
use Rattle.optplan_words.specs.Commands.{check, check_sas, migrate_cert, optimal, program, translate, validate}
use Rattle.optplan_words.proofs.PlainArguments.{ArePlain, placing, placing_fault, plain_fault, plain_rows}

-- the arguments have no fault, and request the command of this name with these matches
pub record IsRequest (words : List Text) (name : Text) (rows : List Row) : Type 0 where
  pub fits : fault_of program words ≡ []
  pub named : subcommand_of program words ≡ Some (name, rows)

-- the match of an operand
abbrev pub row : Text → Text → Row
row name word = record { id = name; values = word ∷ []; count = None; source = Some CommandLine; reading = AsWritten }

-- the match of `--explain`, which such arguments leave out
abbrev pub unexplained : Row
unexplained = record { id = codes "explain"; values = codes "false" ∷ []; count = None; source = Some DefaultValue; reading = AsWritten }

-- a command of the program, built
abbrev leaf : Shape → Shape
leaf s = built_leaf (inherited (with_leaf_noted (marked_built program.top)) s)

-- the faults of the program for arguments that name a command with these faults
abbrev above : List Text → Kinds → Kinds
above words below = level_fault (built program).top (names_of (built program)) nothing_held words true below

module _ (s : Shape) (words : List Text) (plain : ArePlain words) where
  same_fault : above (s.name ∷ words) (level_fault (leaf s) [] nothing_held words false []) ≡ above (s.name ∷ words) (placing_fault (leaf s) words)
  same_fault = ap (above (s.name ∷ words)) (plain_fault (leaf s) words plain)

  same_rows : ◌≡◌ {A = Option (Text × List Row)} (Some (s.name, rows_after (leaf s).rules [] words)) (Some (s.name, finished (leaf s).rules (placing (leaf s).rules words).held))
  same_rows = ap (λ rows. Some (s.name, rows)) (plain_rows (leaf s).rules words plain)

pub validate_request : (path domain problem plan : Text) → ArePlain (domain ∷ problem ∷ plan ∷ [])
    → IsRequest (path ∷ codes "validate" ∷ domain ∷ problem ∷ plan ∷ []) (codes "validate") (row (codes "DOMAIN") domain ∷ row (codes "PROBLEM") problem ∷ row (codes "PLAN") plan ∷ unexplained ∷ [])
unfolding clap_on_literals
validate_request path domain problem plan plain = record {
  fits = same_fault validate (domain ∷ problem ∷ plan ∷ []) plain;
  named = same_rows validate (domain ∷ problem ∷ plan ∷ []) plain;
}

pub check_request : (path domain problem cert : Text) → ArePlain (domain ∷ problem ∷ cert ∷ [])
    → IsRequest (path ∷ codes "check" ∷ domain ∷ problem ∷ cert ∷ []) (codes "check") (row (codes "DOMAIN") domain ∷ row (codes "PROBLEM") problem ∷ row (codes "CERT") cert ∷ unexplained ∷ [])
unfolding clap_on_literals
check_request path domain problem cert plain = record {
  fits = same_fault check (domain ∷ problem ∷ cert ∷ []) plain;
  named = same_rows check (domain ∷ problem ∷ cert ∷ []) plain;
}

pub check_sas_request : (path sas cert : Text) → ArePlain (sas ∷ cert ∷ [])
    → IsRequest (path ∷ codes "check-sas" ∷ sas ∷ cert ∷ []) (codes "check-sas") (row (codes "SAS") sas ∷ row (codes "CERT") cert ∷ unexplained ∷ [])
unfolding clap_on_literals
check_sas_request path sas cert plain = record {
  fits = same_fault check_sas (sas ∷ cert ∷ []) plain;
  named = same_rows check_sas (sas ∷ cert ∷ []) plain;
}

pub optimal_request : (path domain problem plan cert : Text) → ArePlain (domain ∷ problem ∷ plan ∷ cert ∷ [])
    → IsRequest (path ∷ codes "optimal" ∷ domain ∷ problem ∷ plan ∷ cert ∷ []) (codes "optimal") (row (codes "DOMAIN") domain ∷ row (codes "PROBLEM") problem ∷ row (codes "PLAN") plan ∷ row (codes "CERT") cert ∷ unexplained ∷ [])
unfolding clap_on_literals
optimal_request path domain problem plan cert plain = record {
  fits = same_fault optimal (domain ∷ problem ∷ plan ∷ cert ∷ []) plain;
  named = same_rows optimal (domain ∷ problem ∷ plan ∷ cert ∷ []) plain;
}

pub translate_request : (path domain problem : Text) → ArePlain (domain ∷ problem ∷ [])
    → IsRequest (path ∷ codes "translate" ∷ domain ∷ problem ∷ []) (codes "translate") (row (codes "DOMAIN") domain ∷ row (codes "PROBLEM") problem ∷ unexplained ∷ [])
unfolding clap_on_literals
translate_request path domain problem plain = record {
  fits = same_fault translate (domain ∷ problem ∷ []) plain;
  named = same_rows translate (domain ∷ problem ∷ []) plain;
}

pub migrate_cert_request : (path cert : Text) → ArePlain (cert ∷ [])
    → IsRequest (path ∷ codes "migrate-cert" ∷ cert ∷ []) (codes "migrate-cert") (row (codes "CERT") cert ∷ unexplained ∷ [])
unfolding clap_on_literals
migrate_cert_request path cert plain = record {
  fits = same_fault migrate_cert (cert ∷ []) plain;
  named = same_rows migrate_cert (cert ∷ []) plain;
}
