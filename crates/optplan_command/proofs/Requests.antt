-- What the program does by the words of a command.
use Rattle.std.proofs.Common.{◌≡◌, ℕ, ◌+◌, ◌*◌, inl, inr, List, length, get_or, ap, sym, ◌∙◌, subst, arith, Some, codes}
use Rattle.std.specs.Prelude.{Option, None, Box, option_map}
use Rattle.clap.specs.Walk.{Row, Text, rows_of}
use Rattle.clap.specs.Matches.{first_value}
use Rattle.clap.specs.Words.{subcommand_rows}
use Rattle.clap.specs.declared.parser.matches.Found.{Found}
use Rattle.clap.specs.declared.parser.matches.SubCommand.{SubCommand}
use Rattle.clap.specs.declared.parser.matches.ArgMatches.TheViews.{out-SubCommand}
use Rattle.std.specs.Box.{box_value}
use Rattle.clap.proofs.WalkLemmas.{first_value-rows}
use Rattle.optplan_device.specs.Events.{Event}
use Rattle.optplan_replies.specs.declared.status.Status.{Status}
use Rattle.optplan_optimal.specs.Running.{JudgesOptimality}
use Rattle.optplan_verdicts.specs.Validation.{Validates}
use Rattle.optplan_verdicts.specs.SasChecking.{ChecksSas}
use Rattle.optplan_verdicts.specs.Checking.{Checks}
use Rattle.optplan_command.specs.Translating.{Translates}
use Rattle.optplan_command.specs.Migrating.{Migrates}
use Rattle.optplan_command.specs.Options.{is_set}
use Rattle.optplan_command.specs.SolveWords.{HasRefusedValue, SolvesByWords, SolvesSasByWords, operand}
use Rattle.optplan_command.specs.SolvingCommands.{name_of, Solved}
use Rattle.optplan_command.specs.declared.solve_words.SolvingCommand.{SolvingCommand}
use Rattle.optplan_command.specs.declared.solve_words.SolvingCommand.TheVariants.{Solve, SolveSas}
use Rattle.optplan_command.specs.FileCommands.{IsNamed, DoesCommand}
use Rattle.optplan_command.specs.Requests.{DoesRequest, IsRefusedRequest, value_in}
use Rattle.optplan_command.specs.declared.file_command.FileCommand.{FileCommand}
use Rattle.optplan_command.specs.declared.file_command.FileCommand.TheVariants.{Validate, Check, CheckSas, Optimal, Translate, MigrateCert}

-- ---- the names of the commands

-- the first byte of a text and its length in one number
abbrev mark : List ℕ → ℕ
mark t = get_or t 0 0 + 256 * length t

-- a text with another mark is another text
apart : (xs ys : List ℕ) → (mark xs ≡ mark ys → ⊥) → xs ≡ ys → ⊥
apart xs ys differ same = differ (ap mark same)

-- ---- the values of operands and options

-- the values that were found are those of the rows
pub values_found : (f : Found) → (λ (name : List ℕ). first_value f name) ≡ value_in (rows_of f)
values_found f = λ j name. first_value-rows f name j

module _ {Z : Type 0} where
  -- the name and the rows of a subcommand, given one by one
  pub same_request : (sub : Option (Box SubCommand Z)) (name : Text) (rows : List Row) (name' : Text) (rows' : List Row)
      → Some name ≡ option_map (λ b. (out-SubCommand (box_value b)).name.now) sub
      → Some rows ≡ option_map (λ p. p.1) (subcommand_rows sub)
      → subcommand_rows sub ≡ Some (name', rows') → (name ≡ name') × (rows ≡ rows')
  same_request None name rows name' rows' name_is rows_are asked = absurd (cc)
  same_request (Some b) name rows name' rows' name_is rows_are asked =
      let named : Some name ≡ Some name' = name_is ∙ ap (option_map (λ (p : Text × List Row). p.0)) asked in
      let found : Some rows ≡ Some rows' = rows_are ∙ ap (option_map (λ (p : Text × List Row). p.1)) asked in
      (cc, cc)

-- ---- what is done

module _ (name : List ℕ) (value : List ℕ → Option (List ℕ)) (old new : List Event) (status : Status) where
  does_solve : name ≡ codes "solve" → SolvesByWords value old new status → DoesRequest name value old new status
  does_solve is solved = record {
    validates = λ e. absurd (apart (codes "solve") (codes "validate") (λ m. omega (arith, m)) (sym is ∙ e));
    checks = λ e. absurd (apart (codes "solve") (codes "check") (λ m. omega (arith, m)) (sym is ∙ e));
    checks_sas = λ e. absurd (apart (codes "solve") (codes "check-sas") (λ m. omega (arith, m)) (sym is ∙ e));
    judges = λ e. absurd (apart (codes "solve") (codes "optimal") (λ m. omega (arith, m)) (sym is ∙ e));
    translates = λ e. absurd (apart (codes "solve") (codes "translate") (λ m. omega (arith, m)) (sym is ∙ e));
    migrates = λ e. absurd (apart (codes "solve") (codes "migrate-cert") (λ m. omega (arith, m)) (sym is ∙ e));
    solves = λ e. solved;
    solves_sas = λ e. absurd (apart (codes "solve") (codes "solve-sas") (λ m. omega (arith, m)) (sym is ∙ e));
  }

  does_solve_sas : name ≡ codes "solve-sas" → SolvesSasByWords value old new status → DoesRequest name value old new status
  does_solve_sas is solved = record {
    validates = λ e. absurd (apart (codes "solve-sas") (codes "validate") (λ m. omega (arith, m)) (sym is ∙ e));
    checks = λ e. absurd (apart (codes "solve-sas") (codes "check") (λ m. omega (arith, m)) (sym is ∙ e));
    checks_sas = λ e. absurd (apart (codes "solve-sas") (codes "check-sas") (λ m. omega (arith, m)) (sym is ∙ e));
    judges = λ e. absurd (apart (codes "solve-sas") (codes "optimal") (λ m. omega (arith, m)) (sym is ∙ e));
    translates = λ e. absurd (apart (codes "solve-sas") (codes "translate") (λ m. omega (arith, m)) (sym is ∙ e));
    migrates = λ e. absurd (apart (codes "solve-sas") (codes "migrate-cert") (λ m. omega (arith, m)) (sym is ∙ e));
    solves = λ e. absurd (apart (codes "solve-sas") (codes "solve") (λ m. omega (arith, m)) (sym is ∙ e));
    solves_sas = λ e. solved;
  }

  -- a command that solves a task
  pub does_solved : (command : SolvingCommand) → name ≡ name_of command → Solved command value old new status → DoesRequest name value old new status
  does_solved Solve is solved = does_solve is solved
  does_solved SolveSas is solved = does_solve_sas is solved

  -- a command on files alone
  pub does_files : (command : FileCommand) → IsNamed name value command → DoesCommand old new command (is_set value (codes "explain")) status → DoesRequest name value old new status
  does_files (Validate domain problem plan) (is, d, p, l) done = record {
    validates = λ e. subst (λ x. Validates old new x (operand value (codes "PROBLEM")) (operand value (codes "PLAN")) (is_set value (codes "explain")) status) d
        (subst (λ x. Validates old new domain.now x (operand value (codes "PLAN")) (is_set value (codes "explain")) status) p
        (subst (λ x. Validates old new domain.now problem.now x (is_set value (codes "explain")) status) l done));
    checks = λ e. absurd (apart (codes "validate") (codes "check") (λ m. omega (arith, m)) (sym is ∙ e));
    checks_sas = λ e. absurd (apart (codes "validate") (codes "check-sas") (λ m. omega (arith, m)) (sym is ∙ e));
    judges = λ e. absurd (apart (codes "validate") (codes "optimal") (λ m. omega (arith, m)) (sym is ∙ e));
    translates = λ e. absurd (apart (codes "validate") (codes "translate") (λ m. omega (arith, m)) (sym is ∙ e));
    migrates = λ e. absurd (apart (codes "validate") (codes "migrate-cert") (λ m. omega (arith, m)) (sym is ∙ e));
    solves = λ e. absurd (apart (codes "validate") (codes "solve") (λ m. omega (arith, m)) (sym is ∙ e));
    solves_sas = λ e. absurd (apart (codes "validate") (codes "solve-sas") (λ m. omega (arith, m)) (sym is ∙ e));
  }
  does_files (Check domain problem cert) (is, d, p, c) done = record {
    validates = λ e. absurd (apart (codes "check") (codes "validate") (λ m. omega (arith, m)) (sym is ∙ e));
    checks = λ e. subst (λ x. Checks old new x (operand value (codes "PROBLEM")) (operand value (codes "CERT")) (is_set value (codes "explain")) status) d
        (subst (λ x. Checks old new domain.now x (operand value (codes "CERT")) (is_set value (codes "explain")) status) p
        (subst (λ x. Checks old new domain.now problem.now x (is_set value (codes "explain")) status) c done));
    checks_sas = λ e. absurd (apart (codes "check") (codes "check-sas") (λ m. omega (arith, m)) (sym is ∙ e));
    judges = λ e. absurd (apart (codes "check") (codes "optimal") (λ m. omega (arith, m)) (sym is ∙ e));
    translates = λ e. absurd (apart (codes "check") (codes "translate") (λ m. omega (arith, m)) (sym is ∙ e));
    migrates = λ e. absurd (apart (codes "check") (codes "migrate-cert") (λ m. omega (arith, m)) (sym is ∙ e));
    solves = λ e. absurd (apart (codes "check") (codes "solve") (λ m. omega (arith, m)) (sym is ∙ e));
    solves_sas = λ e. absurd (apart (codes "check") (codes "solve-sas") (λ m. omega (arith, m)) (sym is ∙ e));
  }
  does_files (CheckSas sas cert) (is, s, c) done = record {
    validates = λ e. absurd (apart (codes "check-sas") (codes "validate") (λ m. omega (arith, m)) (sym is ∙ e));
    checks = λ e. absurd (apart (codes "check-sas") (codes "check") (λ m. omega (arith, m)) (sym is ∙ e));
    checks_sas = λ e. subst (λ x. ChecksSas old new x (operand value (codes "CERT")) (is_set value (codes "explain")) status) s (subst (λ x. ChecksSas old new sas.now x (is_set value (codes "explain")) status) c done);
    judges = λ e. absurd (apart (codes "check-sas") (codes "optimal") (λ m. omega (arith, m)) (sym is ∙ e));
    translates = λ e. absurd (apart (codes "check-sas") (codes "translate") (λ m. omega (arith, m)) (sym is ∙ e));
    migrates = λ e. absurd (apart (codes "check-sas") (codes "migrate-cert") (λ m. omega (arith, m)) (sym is ∙ e));
    solves = λ e. absurd (apart (codes "check-sas") (codes "solve") (λ m. omega (arith, m)) (sym is ∙ e));
    solves_sas = λ e. absurd (apart (codes "check-sas") (codes "solve-sas") (λ m. omega (arith, m)) (sym is ∙ e));
  }
  does_files (Optimal domain problem plan cert) (is, d, p, l, c) done = record {
    validates = λ e. absurd (apart (codes "optimal") (codes "validate") (λ m. omega (arith, m)) (sym is ∙ e));
    checks = λ e. absurd (apart (codes "optimal") (codes "check") (λ m. omega (arith, m)) (sym is ∙ e));
    checks_sas = λ e. absurd (apart (codes "optimal") (codes "check-sas") (λ m. omega (arith, m)) (sym is ∙ e));
    judges = λ e. subst (λ x. JudgesOptimality old new x (operand value (codes "PROBLEM")) (operand value (codes "PLAN")) (operand value (codes "CERT")) (is_set value (codes "explain")) status) d
        (subst (λ x. JudgesOptimality old new domain.now x (operand value (codes "PLAN")) (operand value (codes "CERT")) (is_set value (codes "explain")) status) p
        (subst (λ x. JudgesOptimality old new domain.now problem.now x (operand value (codes "CERT")) (is_set value (codes "explain")) status) l
        (subst (λ x. JudgesOptimality old new domain.now problem.now plan.now x (is_set value (codes "explain")) status) c done)));
    translates = λ e. absurd (apart (codes "optimal") (codes "translate") (λ m. omega (arith, m)) (sym is ∙ e));
    migrates = λ e. absurd (apart (codes "optimal") (codes "migrate-cert") (λ m. omega (arith, m)) (sym is ∙ e));
    solves = λ e. absurd (apart (codes "optimal") (codes "solve") (λ m. omega (arith, m)) (sym is ∙ e));
    solves_sas = λ e. absurd (apart (codes "optimal") (codes "solve-sas") (λ m. omega (arith, m)) (sym is ∙ e));
  }
  does_files (Translate domain problem) (is, d, p) done = record {
    validates = λ e. absurd (apart (codes "translate") (codes "validate") (λ m. omega (arith, m)) (sym is ∙ e));
    checks = λ e. absurd (apart (codes "translate") (codes "check") (λ m. omega (arith, m)) (sym is ∙ e));
    checks_sas = λ e. absurd (apart (codes "translate") (codes "check-sas") (λ m. omega (arith, m)) (sym is ∙ e));
    judges = λ e. absurd (apart (codes "translate") (codes "optimal") (λ m. omega (arith, m)) (sym is ∙ e));
    translates = λ e. subst (λ x. Translates old new x (operand value (codes "PROBLEM")) (is_set value (codes "explain")) status) d (subst (λ x. Translates old new domain.now x (is_set value (codes "explain")) status) p done);
    migrates = λ e. absurd (apart (codes "translate") (codes "migrate-cert") (λ m. omega (arith, m)) (sym is ∙ e));
    solves = λ e. absurd (apart (codes "translate") (codes "solve") (λ m. omega (arith, m)) (sym is ∙ e));
    solves_sas = λ e. absurd (apart (codes "translate") (codes "solve-sas") (λ m. omega (arith, m)) (sym is ∙ e));
  }
  does_files (MigrateCert cert) (is, c) done = record {
    validates = λ e. absurd (apart (codes "migrate-cert") (codes "validate") (λ m. omega (arith, m)) (sym is ∙ e));
    checks = λ e. absurd (apart (codes "migrate-cert") (codes "check") (λ m. omega (arith, m)) (sym is ∙ e));
    checks_sas = λ e. absurd (apart (codes "migrate-cert") (codes "check-sas") (λ m. omega (arith, m)) (sym is ∙ e));
    judges = λ e. absurd (apart (codes "migrate-cert") (codes "optimal") (λ m. omega (arith, m)) (sym is ∙ e));
    translates = λ e. absurd (apart (codes "migrate-cert") (codes "translate") (λ m. omega (arith, m)) (sym is ∙ e));
    migrates = λ e. subst (λ x. Migrates old new x (is_set value (codes "explain")) status) c done;
    solves = λ e. absurd (apart (codes "migrate-cert") (codes "solve") (λ m. omega (arith, m)) (sym is ∙ e));
    solves_sas = λ e. absurd (apart (codes "migrate-cert") (codes "solve-sas") (λ m. omega (arith, m)) (sym is ∙ e));
  }

-- a value of an option of a command that solves a task is refused
pub refused_solving : (name : List ℕ) (value : List ℕ → Option (List ℕ)) (command : SolvingCommand) → name ≡ name_of command → HasRefusedValue value
    → IsRefusedRequest name value
refused_solving name value Solve is refused = (inl is, refused)
refused_solving name value SolveSas is refused = (inr is, refused)
