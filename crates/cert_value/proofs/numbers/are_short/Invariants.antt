use Rattle.std.proofs.Common.{◌<◌, ◌^◌, take, All}
use Rattle.cert_value.proofs.numbers.are_short.Given as goal

abbrev pub invariant-loop-number : goal.invariant-loop-number
invariant-loop-number l =
    record {
      short : l.greatest < 2 ^ 16 → All (λ n. n < 2 ^ 16) (take l.number-index l.numbers);
      low : All (λ n. n < 2 ^ 16) l.numbers → l.greatest < 2 ^ 16;
    }
