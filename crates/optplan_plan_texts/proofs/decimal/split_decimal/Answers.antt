use Rattle.std.proofs.Common.{◌≡◌, true, List, ℕ, subst, sym, ap, ◌∙◌}
use Rattle.std.specs.List.{list_all}
use Rattle.optplan_plan_texts.specs.Bytes.{is_digit}
use Rattle.optplan_plan_texts.specs.Decimals.{HasDigits, fraction}
use Rattle.optplan_plan_texts.proofs.Numbers.{has_digits}
use Rattle.optplan_plan_texts.proofs.decimal.split_decimal.Goals as goal

pub returns-clause-digits : goal.returns-clause-digits
returns-clause-digits c =
    let h = has_digits c.args.bytes.now in
    record {
      whole = ap (λ (ds : List ℕ). list_all is_digit ds) c.split_digits.ensures.digits ∙ h.whole;
      fraction =
          ap (λ (ds : List ℕ). list_all is_digit ds) c.split_fraction.ensures.digits
          ∙ ap (λ (bs : List ℕ). list_all is_digit (fraction bs)) c.split_digits.ensures.rest
          ∙ h.fraction;
    }
