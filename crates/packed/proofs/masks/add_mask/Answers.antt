use Rattle.std.proofs.Common.{List, [], ◌∷◌, ◌++◌, sym, subst}
use Rattle.packed.specs.declared.mask.WordMask.{WordMask}
use Rattle.packed.specs.Masks.{DoAs}
use Rattle.packed.proofs.Masking.{join_masks}
use Rattle.packed.proofs.masks.add_mask.Goals as goal

pub returns-in_ok-push-in-Some : goal.returns-in_ok-push-in-Some
returns-in_ok-push-in-Some c =
    let rest = c.pop.new.self.items in
    subst (λ (ms : List WordMask). DoAs (c.args.masks.now.items ++ c.args.mask ∷ []) ms) (sym c.in_ok-push-in-Some.ensures.items)
    (subst (λ (ms : List WordMask). DoAs (ms ++ c.args.mask ∷ []) (rest ++ c.then.result ∷ [])) (sym c.in-Some.ensures.items)
    (join_masks rest c.in-Some.last c.args.mask c.then.result c.if-last-mask.true c.then.ensures.word c.then.ensures.same))
