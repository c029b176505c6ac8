use Rattle.std.proofs.Common.{◌≡◌, ◌++◌, ◌∷◌, take}
use Rattle.std.specs.List.{flat_map}
use Rattle.cert_text.specs.Spelling as text
use Rattle.cert_writer.proofs.writing.push_shares.Given as goal

abbrev pub invariant-loop-share : goal.invariant-loop-share
invariant-loop-share l = l.out.items ≡ l.fn.out.items ++ flat_map (λ q. 32 ∷ q) (flat_map text.share_words (take l.share-index l.shares))
