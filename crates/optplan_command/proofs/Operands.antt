-- The operands of a solve command.
use Rattle.std.proofs.Common.{◌≡◌, ℕ, Bool, List, [], ap, subst, ◌∙◌}
use Rattle.std.specs.Prelude.{Option, Some, None, unwrap_or}
use Rattle.std.specs.Option.{option_map}
use Rattle.optplan_device.specs.Events.{Event}
use Rattle.optplan_options.specs.Choices.{Choices}
use Rattle.optplan_replies.specs.declared.status.Status.{Status}
use Rattle.optplan_solve.specs.Outputs.{OutputFiles}
use Rattle.optplan_solve.specs.declared.settings.Schedule.{Schedule}
use Rattle.optplan_solve.specs.Solving.{Solves}
use Rattle.optplan_solve.specs.SasSolving.{SolvesSas}

-- a text that stands for an option of a text, with an empty one in the place of none
pub operand_is : {A : Type 0} (o : Option A) (absent x : A) (text : A → List ℕ) (value : Option (List ℕ))
    → option_map text o ≡ value → x ≡ unwrap_or o absent → text absent ≡ [] → text x ≡ unwrap_or value []
operand_is (Some y) absent x text value value_is x_is empty = ap text x_is ∙ ap (λ (v : Option (List ℕ)). unwrap_or v []) value_is
operand_is None absent x text value value_is x_is empty = ap text x_is ∙ empty ∙ ap (λ (v : Option (List ℕ)). unwrap_or v []) value_is

-- files by other names for their names
pub renamed_solves : (h new : List Event) (d d' p p' : List ℕ) (choices : Choices) (schedule : Schedule) (files : OutputFiles) (explains : Bool) (status : Status) → d' ≡ d → p' ≡ p
    → Solves h new d' p' choices schedule files explains status → Solves h new d p choices schedule files explains status
renamed_solves h new d d' p p' choices schedule files explains status d_is p_is s =
    subst (λ (x : List ℕ). Solves h new d x choices schedule files explains status) p_is
    (subst (λ (x : List ℕ). Solves h new x p' choices schedule files explains status) d_is s)

-- a file by another name for its name
pub renamed_solves_sas : (h new : List Event) (s s' : List ℕ) (choices : Choices) (schedule : Schedule) (files : OutputFiles) (explains : Bool) (status : Status) → s' ≡ s
    → SolvesSas h new s' choices schedule files explains status → SolvesSas h new s choices schedule files explains status
renamed_solves_sas h new s s' choices schedule files explains status s_is solves = subst (λ (x : List ℕ). SolvesSas h new x choices schedule files explains status) s_is solves
