use Rattle.std.proofs.Common.{◌≡◌, ℕ, ◌<◌, ◌^◌, drop, fold, get_or}
use Rattle.cert_value.specs.declared.table.Share.{Share}
use Rattle.checker_tables.specs.ShareSums as spec
use Rattle.checker_tables.proofs.shares.ShareSums.count_all.Given as goal

abbrev pub invariant-loop-share : goal.invariant-loop-share
invariant-loop-share l =
    record {
      value : fold (spec.counted l.fn.table) l.self (drop l.share-index l.shares) ≡ fold (spec.counted l.fn.table) l.fn.self l.shares;
      amounts : (k : ℕ) (d : Share) → k < l.share-index → (get_or l.shares k d).amount < 2 ^ 32;
    }
