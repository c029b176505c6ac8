use Rattle.std.proofs.Common.{List, [], ◌∷◌, ◌++◌, sym, subst}
use Rattle.packed.specs.declared.mask.WordTest.{WordTest}
use Rattle.packed.specs.Masks.{AskAs}
use Rattle.packed.proofs.Masking.{join_tests}
use Rattle.packed.proofs.masks.add_test.Goals as goal

pub returns-in_ok-push-in-Some-and : goal.returns-in_ok-push-in-Some-and
returns-in_ok-push-in-Some-and c =
    let rest = c.pop.new.self.items in
    subst (λ (ts : List WordTest). AskAs (c.args.tests.now.items ++ c.args.test ∷ []) ts) (sym c.in_ok-push-in-Some-and.ensures.items)
    (subst (λ (ts : List WordTest). AskAs (ts ++ c.args.test ∷ []) (rest ++ c.in-Some-and.both ∷ [])) (sym c.in-Some.ensures.items)
    (join_tests rest c.in-Some.last c.args.test c.in-Some-and.both c.in-Some-and.ensures.word.0 c.in-Some-and.ensures.word.1 c.in-Some-and.ensures.same))
