use Rattle.std.proofs.Common.{◌≡◌, ℕ, List, sym, ap, subst, ◌∙◌}
use Rattle.std.specs.Prelude.{Option}
use Rattle.pddl_domain.specs.Types.{differs}
use Rattle.pddl_domain.specs.Objects.{Objects, first_text, first_type, differs_text, IsTextOf}
use Rattle.pddl_domain.proofs.ObjectSteps.{other_type}
use Rattle.pddl_domain.proofs.objects.Objects.is_other_type.Goals as goal

pub returns : goal.returns
returns c =
    let t = c.args.name.now in let i = c.self.inside in
    let o : Objects = record { names = i.names; types = i.types.items; texts = i.texts; firsts = i.firsts.items } in
    subst (λ (s : Objects). (p : Option (List ℕ)) → IsTextOf s.texts p c.args.text → c.differs.result ≡ differs_text (first_type s t) p) c.self.view_is
    (λ p h. c.differs.ensures ∙ ap (λ (first : Option ℕ). differs first c.args.text) (c.first_text.ensures ∙ ap (λ (s : Objects). first_text s t) (sym c.self.view_is))
    ∙ other_type o c.are_distinct.ensures c.self.invariant t c.args.text p h)
