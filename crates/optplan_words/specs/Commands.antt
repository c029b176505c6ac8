-- The commands of the program, with their operands and options, in the definitions of `clap`.
use Rattle.std.specs.Prelude.{◌≡◌, true, false, List, [], ◌∷◌, ◌++◌, Some, codes}
use Rattle.clap.specs.Words.{App, Rule, Shape, Text, app_of, new_rule, rule_of}
use Rattle.clap.specs.Simple.{new_shape}
use Rattle.clap.specs.declared.builder.action.ArgAction.TheVariants.{SetTrue}
use Rattle.clap.specs.declared.builder.arg.Arg.{Arg}
use Rattle.clap.specs.declared.builder.command.Command.{Command}
use Rattle.clap.specs.declared.builder.command.Command.TheViews.{out-Command}

-- ---- operands and options

-- a file that must be named
abbrev pub operand : Text → Rule
operand name = record (new_rule name) { required = true }

-- an option with a value
abbrev pub option : Text → Rule
option name = record (new_rule name) { long = Some name; value_names = 1 }

-- an option that has this value if the arguments omit it
abbrev pub option_or : Text → Text → Rule
option_or name value = record (option name) { defaults = value ∷ [] }

-- an option without a value
abbrev pub flag : Text → Rule
flag name = record (new_rule name) { long = Some name; action = Some SetTrue }

-- the option of every command by which the fault of a text is explained
abbrev pub explain : Rule
explain = flag (codes "explain")

abbrev pub schedule_options : List Rule
schedule_options = option (codes "simulate") ∷ option_or (codes "workers") (codes "4") ∷ option_or (codes "ring") (codes "64") ∷ []

abbrev pub search_options : List Rule
search_options = option (codes "tables") ∷ option (codes "table") ∷ option (codes "ties") ∷ option (codes "reduce") ∷ []

abbrev pub ending_options : List Rule
ending_options = option (codes "limit") ∷ option (codes "time") ∷ option (codes "memory") ∷ option_or (codes "steps") (codes "1000000") ∷ []

abbrev pub output_options : List Rule
output_options = flag (codes "progress") ∷ option (codes "plan") ∷ option (codes "cert") ∷ explain ∷ []

-- the options of the commands that solve a task
abbrev pub options : List Rule
options = schedule_options ++ search_options ++ ending_options ++ output_options

-- ---- commands

-- the command of this name with these operands and options, in this order
abbrev pub command : Text → List Rule → Shape
command name rules = record (new_shape name) { rules = rules }

abbrev pub validate : Shape
validate = command (codes "validate") (operand (codes "DOMAIN") ∷ operand (codes "PROBLEM") ∷ operand (codes "PLAN") ∷ explain ∷ [])

abbrev pub check : Shape
check = command (codes "check") (operand (codes "DOMAIN") ∷ operand (codes "PROBLEM") ∷ operand (codes "CERT") ∷ explain ∷ [])

abbrev pub check_sas : Shape
check_sas = command (codes "check-sas") (operand (codes "SAS") ∷ operand (codes "CERT") ∷ explain ∷ [])

abbrev pub optimal : Shape
optimal = command (codes "optimal") (operand (codes "DOMAIN") ∷ operand (codes "PROBLEM") ∷ operand (codes "PLAN") ∷ operand (codes "CERT") ∷ explain ∷ [])

abbrev pub translate : Shape
translate = command (codes "translate") (operand (codes "DOMAIN") ∷ operand (codes "PROBLEM") ∷ explain ∷ [])

abbrev pub migrate_cert : Shape
migrate_cert = command (codes "migrate-cert") (operand (codes "CERT") ∷ explain ∷ [])

-- the command that solves a planning task, under this name
abbrev pub solve : Text → Shape
solve name = command name (operand (codes "DOMAIN") ∷ operand (codes "PROBLEM") ∷ options)

-- the command that solves a finite-domain task, under this name
abbrev pub solve_sas : Text → Shape
solve_sas name = command name (operand (codes "SAS") ∷ options)

-- one of the program's commands must be named, and without arguments it prints its help
abbrev pub bare_program : Shape
bare_program = record (new_shape (codes "optplan")) {
  has_version = true;
  subcommand_required = true;
  arg_required_else_help = true;
  disable_help_subcommand = true;
}

abbrev pub program : App
program = record {
  top = record bare_program { is_leaf = false };
  subs = validate ∷ check_sas ∷ check ∷ optimal ∷ translate ∷ solve (codes "solve") ∷ solve_sas (codes "solve-sas") ∷ migrate_cert ∷ [];
}

-- ---- properties of commands and arguments

-- the command has this shape, no subcommands, and no argument that subcommands inherit
abbrev pub IsCommand : Shape → Command → Type 0
IsCommand shape c = (app_of c ≡ record { top = shape; subs = [] }) × ((out-Command c).has_globals ≡ false)

-- the application with these operands and options appended to its own
abbrev pub with_rules : App → List Rule → App
with_rules a rules = record a { top = record a.top { rules = a.top.rules ++ rules } }

-- the second command is the first with these operands and options appended
abbrev pub AddsRules : Command → List Rule → Command → Type 0
AddsRules old rules new = (app_of new ≡ with_rules (app_of old) rules) × ((out-Command new).has_globals ≡ (out-Command old).has_globals)

-- the argument has this rule, and subcommands do not inherit it
abbrev pub IsArg : Rule → Arg → Type 0
IsArg rule a = (rule_of a ≡ rule) × (a.global ≡ false)
