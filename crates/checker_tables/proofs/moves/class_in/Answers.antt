use Rattle.std.proofs.Common.{Bool, List, [], ◌∷◌, Some, sym, ap, ◌∙◌, nat_eq}
use Rattle.std.specs.Prelude.{All, IfSome, option_map}
use Rattle.std.specs.List.{find}
use Rattle.std.proofs.lemmas.Bool.{cond_both}
use Rattle.std.proofs.lemmas.List.Elements.{All-head, All-tail}
use Rattle.fdr.specs.declared.fact.Fact.{Fact}
use Rattle.fdr.specs.Tasks.{ranges, IsInRange}
use Rattle.abstraction.specs.Steps.{at_some}
use Rattle.abstraction_mapping.specs.Mappings.{fact_by}
use Rattle.abstraction_mapping.specs.Views.{task_in, mapping_in}
use Rattle.abstraction_mapping.specs.ClassLaws.{value_by}
use Rattle.checker_tables.proofs.moves.class_in.Goals as goal

-- what holds of each element holds of the one that is found
IfSome-find : {X : Type 0} (P : X → Type 0) (test : X → Bool) (xs : List X) → All P xs → IfSome (find test xs) P
IfSome-find P test [] all = tt
IfSome-find P test (x ∷ xs) all =
    cond_both (test x) (Some x) (find test xs) (λ r. IfSome r P) (λ e. All-head P x xs all) (λ e. IfSome-find P test xs (All-tail P x xs all))

pub returns-in_err-fact : goal.returns-in_err-fact
returns-in_err-fact c =
    let by = mapping_in c.args.abstraction.now in
    c.from_residual.ensures
    ∙ sym (value_by by c.args.facts.now c.args.variable ∙ ap (option_map (λ (f : Fact). (fact_by by f).value)) (sym c.fact_on.ensures ∙ c.in_err-fact.was))

pub class_fact-requires : goal.class_fact-requires
class_fact-requires c =
    let fits = IsInRange (ranges (task_in c.args.abstraction.now)) in
    at_some fits (find (λ f. nat_eq f.variable c.args.variable) c.args.facts.now) c.in_ok-fact.fact (sym c.fact_on.ensures ∙ c.in_ok-fact.was)
    (IfSome-find fits (λ f. nat_eq f.variable c.args.variable) c.args.facts.now c.requires)

pub returns : goal.returns
returns c =
    let by = mapping_in c.args.abstraction.now in
    ap (λ (f : Fact). Some f.value) c.class_fact.ensures
    ∙ sym (value_by by c.args.facts.now c.args.variable ∙ ap (option_map (λ (f : Fact). (fact_by by f).value)) (sym c.fact_on.ensures ∙ c.in_ok-fact.was))
