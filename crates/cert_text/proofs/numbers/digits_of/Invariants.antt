use Rattle.std.proofs.Common.{◌≡◌, ◌-◌, ◌<◌, ◌^◌, min, drop}
use Rattle.std.specs.Prelude.{option_map}
use Rattle.cert_text.specs.Reading.{digits_after}
use Rattle.cert_text.proofs.numbers.digits_of.Given as goal

abbrev pub invariant-loop-digit : goal.invariant-loop-digit
invariant-loop-digit l = (l.value < 2 ^ 64) × (option_map (min (2 ^ 64 - 1)) (digits_after l.value (drop l.digit-index l.digits)) ≡ option_map (min (2 ^ 64 - 1)) (digits_after 0 l.digits))
