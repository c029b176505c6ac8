use Rattle.std.proofs.Common.{◌≡◌, ◌≢◌, ℕ, ◌-◌, ◌<◌, ◌≤◌, length, get_or, take, Some}
use Rattle.cert_text.specs.Reading.{digits_after}
use Rattle.cert_text.proofs.numbers.leading_number.Given as goal

abbrev pub invariant-loop-count : goal.invariant-loop-count
invariant-loop-count l = (l.count ≤ length l.bytes) × (l.value < l.end) × (digits_after 0 (take l.count l.bytes) ≡ Some l.value) × ((k : ℕ) → k < l.count → get_or l.bytes k 0 ≢ 32)

abbrev pub decreases-loop-count : goal.decreases-loop-count
decreases-loop-count l = length l.bytes - l.count
