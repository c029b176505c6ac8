use Rattle.std.proofs.Common.{ap, sym, ◌∙◌}
use Rattle.std.proofs.lemmas.Bool.{false≢true}
use Rattle.openlist.proofs.BucketOrder.{no_element-first}
use Rattle.openlist.proofs.bucket.Bucket.is_empty.Goals as goal

pub returns-else-is_empty : goal.returns-else-is_empty
returns-else-is_empty c = (
  λ yes. absurd (false≢true (sym c.if-is_empty.false ∙ yes)),
  λ none. c.is_empty.ensures.1 (no_element-first _ _ (ap (λ v. v.entries) c.self.view_is ∙ none)),
)
