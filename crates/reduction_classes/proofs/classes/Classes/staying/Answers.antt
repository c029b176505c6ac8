use Rattle.std.proofs.Common.{◌<◌, ℕ, length, All, sym, subst, ◌∙◌}
use Rattle.abstraction_domain.specs.Rows.{classes_in}
use Rattle.reduction_classes.proofs.Loops.{all_staying_exist}
use Rattle.reduction_classes.proofs.classes.Classes.staying.Goals as goal

pub returns-clause-exist : goal.returns-clause-exist
returns-clause-exist c =
    rw (← c.self.view_is)
    (subst (All (λ (v : ℕ). v < length (classes_in c.self.inside.rows.items))) (sym (c.deref.ensures.value ∙ c.self.invariant.staying)) (all_staying_exist (classes_in c.self.inside.rows.items)))
