use Rattle.std.proofs.Common.{◌≡◌, ℕ, ◌<◌, List, length, get_or, ap, ◌∙◌, subst, arith, Some}
use Rattle.std.specs.Prelude.{Contains}
use Rattle.std.proofs.lemmas.List.{get_or_default}
use Rattle.abstraction_groups.specs.Factors.{groups_of}
use Rattle.abstraction_groups.specs.GroupLaws.{factored_grouped}
use Rattle.abstraction_groups.proofs.TargetLaws.{same_target}
use Rattle.abstraction_groups.proofs.groups.Groups.target.Goals as goal

pub returns-in-empty : goal.returns-in-empty
returns-in-empty g c o e =
    let l : c.args.group < length c.self.inside.operators = rw c.self.invariant.1.as_long (rw (← c.self.view_is) at c.requires.group) in
    let there = (c.self.invariant.1.operators c.args.group o l).1 (rw (← c.self.view_is) at e) in
    let listed : Contains c.get.result.now o = rw c.get.ensures there in
    let inside : listed.0 < length c.get.result.now = listed.1 in
    absurd (omega arith)

pub returns-in-len1-up : goal.returns-in-len1-up
returns-in-len1-up g c o e =
    let l : c.args.group < length c.self.inside.operators = rw c.self.invariant.1.as_long (rw (← c.self.view_is) at c.requires.group) in
    let list = c.get.result.now in
    let a = c.args.self.now in
    let is = g.met.A.FactoredAbstraction.factored a in
    let classes = groups_of (g.A.Abstraction.task a) (g.A.FactoredAbstraction.factors a) in
    let first : Contains list (get_or list 0 0) = (0, omega arith, get_or_default list 0 (get_or list 0 0) 0 (omega arith)) in
    let member : classes.class (get_or list 0 0) ≡ Some c.args.group = rw (← c.self.view_is) ((c.self.invariant.1.operators c.args.group (get_or list 0 0) l).0 (subst (λ (xs : List ℕ). Contains xs (get_or list 0 0)) c.get.ensures first)) in
    c.transition.ensures.value
    ∙ ap (λ x. (g.A.Abstraction.abstraction x).transition c.args.abstract_state (get_or list 0 0)) c.self.view_is
    ∙ same_target (g.A.Abstraction.abstraction a) classes (factored_grouped (g.A.Abstraction.task a) (g.A.Abstraction.abstraction a) (g.A.FactoredAbstraction.factors a) is)
    (g.met.A.Abstraction.abstracts a).transitions (get_or list 0 0) o c.args.group c.args.abstract_state member e c.requires.state
