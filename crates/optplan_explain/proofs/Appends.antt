-- Text that is written at the end of other text, and parts of a text.
use Rattle.std.proofs.Common.{◌≡◌, ℕ, List, ◌++◌, ap, ◌∙◌, append_assoc}
use Rattle.std.proofs.lemmas.List.{map-append, append-nil, replicate_more, replicate-append-replicate, take_min, drop_min}
use Rattle.std.proofs.lemmas.List.Sums.{suffix_len-le-length}

pub ruleset appending = (append_assoc, map-append, append-nil)

-- an offset past the end counts as the end
pub ruleset clamped = (take_min, drop_min)

-- no more bytes than there are
pub ruleset within = suffix_len-le-length

-- a part of a line and what is under it, after the heading, and then more
pub assembled : (head part end under more out1 out2 out3 : List ℕ)
    → out1 ≡ head → out2 ≡ out1 ++ (part ++ end ++ under ++ end) → out3 ≡ out2 ++ more
    → out3 ≡ head ++ part ++ end ++ under ++ end ++ more
assembled head part end under more out1 out2 out3 first second third =
    let same : head ++ (part ++ end ++ under ++ end) ≡ head ++ part ++ end ++ under ++ end = simp append_assoc in
    third ∙ ap (λ (out : List ℕ). out ++ more) (second ∙ ap (λ (out : List ℕ). out ++ (part ++ end ++ under ++ end)) first ∙ same)

-- three parts, one after another
pub three : (a b c out0 out1 out2 out3 : List ℕ) → out1 ≡ out0 ++ a → out2 ≡ out1 ++ b → out3 ≡ out2 ++ c → out3 ≡ out0 ++ (a ++ b ++ c)
three a b c out0 out1 out2 out3 first second third =
    let same : out0 ++ a ++ b ++ c ≡ out0 ++ (a ++ b ++ c) = simp append_assoc in
    third ∙ ap (λ (out : List ℕ). out ++ c) (second ∙ ap (λ (out : List ℕ). out ++ b) first) ∙ same
