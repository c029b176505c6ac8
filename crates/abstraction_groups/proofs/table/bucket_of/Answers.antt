use Rattle.std.proofs.Common.{ℕ, ◌/◌, ◌%◌, ap}
use Rattle.abstraction_groups.specs.Tables.{bucket_of}
use Rattle.abstraction_groups.proofs.table.bucket_of.Goals as goal

pub returns-clause-value : goal.returns-clause-value
unfolding bucket_of
returns-clause-value c = ap (λ (n : ℕ). n / 4294967296 % c.args.count) c.hash_of.ensures
