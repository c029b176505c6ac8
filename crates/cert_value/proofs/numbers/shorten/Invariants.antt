use Rattle.std.proofs.Common.{◌≡◌, take, length}
use Rattle.cert_value.proofs.numbers.shorten.Given as goal

abbrev pub invariant-loop-place : goal.invariant-loop-place
invariant-loop-place l =
    record {
      copied : take l.place l.into ≡ take l.place l.numbers;
      len : length l.into ≡ length l.numbers;
    }
