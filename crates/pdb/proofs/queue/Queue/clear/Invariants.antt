use Rattle.std.proofs.Common.{◌≡◌, ℕ, ◌<◌, [], length, get_or}
use Rattle.pdb.specs.declared.queue.TheConstants.{BUCKETS}
use Rattle.pdb.proofs.queue.Queue.clear.Given as goal

abbrev pub invariant-loop-bucket : goal.invariant-loop-bucket
invariant-loop-bucket l = record {
  len : length l.self-inside.buckets.items ≡ BUCKETS;
  end : l.bucket-end ≡ BUCKETS;
  empty : (k : ℕ) → k < l.bucket → (d : _) → (get_or l.self-inside.buckets.items k d).items ≡ [];
}
