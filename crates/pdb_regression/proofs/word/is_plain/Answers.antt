use Rattle.std.proofs.Common.{List, get_or, take, sym, subst, ◌∙◌, arith}
use Rattle.std.specs.Prelude.{All}
use Rattle.std.proofs.lemmas.List.{take_all, take_more}
use Rattle.std.proofs.lemmas.List.Elements.{All-push}
use Rattle.abstraction.specs.declared.digit.Digit.{Digit}
use Rattle.pdb_regression.specs.Words.{IsPlain}
use Rattle.pdb_regression.proofs.word.is_plain.Goals as goal

pub loop-digit-preserved : goal.loop-digit-preserved
loop-digit-preserved c =
    let whole : List Digit = c.args.digits.now in
    let k = c.loop-digit.digit-index in
    let d : Digit = get_or whole k (record { weight = 0; range = 0 }) in
    subst (All IsPlain) (sym (take_more whole k (record { weight = 0; range = 0 }) c.loop-digit-test.true))
    (All-push IsPlain (take k whole) d c.loop-digit.invariant (sym c.room_of.ensures ∙ c.if-room_of-digit.false))

pub returns : goal.returns
returns c =
    let whole : List Digit = c.args.digits.now in
    λ _. subst (All IsPlain) (take_all c.loop-digit.digit-index whole (omega (arith, c.loop-digit-test.false))) c.loop-digit.invariant
