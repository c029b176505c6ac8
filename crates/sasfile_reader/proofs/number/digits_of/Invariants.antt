use Rattle.std.proofs.Common.{◌≡◌, drop}
use Rattle.sasfile_reader.specs.Reading.{digits_after}
use Rattle.sasfile_reader.proofs.number.digits_of.Given as goal

abbrev pub invariant-loop-digit : goal.invariant-loop-digit
invariant-loop-digit l = digits_after l.value (drop l.digit-index l.digits) ≡ digits_after 0 l.digits
