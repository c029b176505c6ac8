-- Operands and options that are added to a command one after the other.
use Rattle.std.proofs.Common.{◌≡◌, ◌∙◌, ap, subst, List, [], ◌∷◌, ◌++◌, append_assoc, false, ◌||◌}
use Rattle.clap.specs.Words.{App, Rule, Shape, Text, AddsSubcommand, app_of, rule_of, shape_of, with_subcommand}
use Rattle.clap.specs.declared.builder.arg.Arg.{Arg}
use Rattle.clap.specs.declared.builder.command.Command.{Command}
use Rattle.clap.specs.declared.builder.command.Command.TheViews.{out-Command}
use Rattle.optplan_words.specs.Commands.{AddsRules, IsArg, IsCommand, command, with_rules}

-- first these, then those
pub adds_more : (a b c : Command) (xs ys : List Rule) → AddsRules a xs b → AddsRules b ys c → AddsRules a (xs ++ ys) c
adds_more a b c xs ys first second = (
  second.0 ∙ ap (λ app. with_rules app ys) first.0
      ∙ ap (λ rules. record (app_of a) { top = record (app_of a).top { rules = rules } }) (append_assoc (app_of a).top.rules xs ys),
  second.1 ∙ first.1,
)

-- the argument's rule may be given by its definition
pub adds_arg : (a b : Command) (rule : Rule) (arg : Arg) → IsArg rule arg → AddsRules a (rule_of arg ∷ []) b → AddsRules a (rule ∷ []) b
adds_arg a b rule arg is adds = subst (λ r. AddsRules a (r ∷ []) b) is.0 adds

-- one more argument behind these
pub adds_one_more : (a b c : Command) (xs : List Rule) (rule : Rule) (arg : Arg) → AddsRules a xs b → IsArg rule arg → AddsRules b (rule_of arg ∷ []) c
    → AddsRules a (xs ++ rule ∷ []) c
adds_one_more a b c xs rule arg before is adds = adds_more a b c xs (rule ∷ []) before (adds_arg b c rule arg is adds)

-- these, on a command without operands and options
pub adds_to_bare : (a b : Command) (name : Text) (rules : List Rule) → IsCommand (command name []) a → AddsRules a rules b → IsCommand (command name rules) b
adds_to_bare a b name rules bare adds = (adds.0 ∙ ap (λ app. with_rules app rules) bare.0, adds.1 ∙ bare.1)

-- an application without global arguments, and one more command behind its own
pub record IsApp (app : App) (c : Command) : Type 0 where
  pub is : app_of c ≡ app
  pub locals : (out-Command c).has_globals ≡ false

pub adds_command : (a b sub : Command) (app : App) (shape : Shape) → IsApp app a → IsCommand shape sub → AddsSubcommand a sub b → IsApp (with_subcommand app shape) b
adds_command a b sub app shape is command adds = record {
  is = adds.shape command.1 ∙ ap (λ x. with_subcommand x (shape_of sub)) is.is ∙ ap (with_subcommand app) (ap (λ (x : App). x.top) command.0);
  locals = adds.globals ∙ ap (λ x. x || (out-Command sub).has_globals) is.locals ∙ command.1;
}
