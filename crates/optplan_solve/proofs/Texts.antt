-- What holds of texts holds of texts that are equal.
use Rattle.std.proofs.Common.{◌≡◌, Bool, ℕ, List, subst}
use Rattle.std.specs.Prelude.{Option}
use Rattle.optplan_explain.specs.Explanations.{IsExplained}
use Rattle.optplan_explain.specs.Files.{task_files}
use Rattle.optplan_pddl.specs.declared.preparing.Prepared.{Prepared}
use Rattle.optplan_pddl.specs.Prepared.{IsPrepared}
use Rattle.optplan_replies.specs.declared.fault.Fault.{Fault}
use Rattle.optplan_solve.specs.Solving.{IsTextRefusal}

pub prepared_from : (w wanted : Bool) (d domain p problem : List ℕ) (prepared : Prepared) → w ≡ wanted → d ≡ domain → p ≡ problem
    → IsPrepared w d p prepared → IsPrepared wanted domain problem prepared
prepared_from w wanted d domain p problem prepared w_is d_is p_is is =
    subst (λ x. IsPrepared x domain problem prepared) w_is (subst (λ x. IsPrepared w x problem prepared) d_is (subst (λ x. IsPrepared w d x prepared) p_is is))

pub refused_from : (d domain p problem : List ℕ) (e : Fault) → d ≡ domain → p ≡ problem → IsTextRefusal d p e → IsTextRefusal domain problem e
refused_from d domain p problem e d_is p_is is = subst (λ x. IsTextRefusal x problem e) d_is (subst (λ x. IsTextRefusal d x e) p_is is)

pub explained_from : (explains : Bool) (domain d d' problem p p' : List ℕ) (e : Fault) (explanation : Option (List ℕ)) → d ≡ d' → p ≡ p'
    → IsExplained explains (task_files domain d problem p) e explanation → IsExplained explains (task_files domain d' problem p') e explanation
explained_from explains domain d d' problem p p' e explanation d_is p_is is =
    subst (λ x. IsExplained explains (task_files domain x problem p') e explanation) d_is
    (subst (λ x. IsExplained explains (task_files domain d problem x) e explanation) p_is is)
