-- Values of options that are refused.
use Rattle.std.proofs.Common.{ℕ, List, Some, refl, IfOk, IfErr}
use Rattle.std.specs.Prelude.{Option, None, Result, Ok, Err}
use Rattle.std.specs.Str.Parse.{digits_value}
use Rattle.optplan_command.specs.Options.{IsNumberOf, IsNumberOr}

-- what holds in any case
pub always : {T E P : Type 0} (r : Result T E) → P → IfErr r (λ _. P)
always (Ok x) p = tt
always (Err e) p = p

pub if_ok : {T E : Type 0} {P Q : T → Type 0} (r : Result T E) → ((x : T) → P x → Q x) → IfOk r P → IfOk r Q
if_ok (Ok x) f h = f x h
if_ok (Err e) f h = tt

pub if_err : {T E : Type 0} {P Q : E → Type 0} (r : Result T E) → ((e : E) → P e → Q e) → IfErr r P → IfErr r Q
if_err (Ok x) f h = tt
if_err (Err e) f h = f e h

-- where no number is that of the option, none is that of the option with a default
pub no_number : (absent least most : ℕ) (text : Option (List ℕ)) (n : ℕ) → ((k : Option ℕ) → IsNumberOf least most text k → ⊥)
    → IsNumberOr absent least most text n → ⊥
no_number absent least most None n refused is = refused None refl
no_number absent least most (Some t) n refused is = refused (Some (digits_value 10 t)) (is.0, refl)
