use Rattle.std.proofs.Common.{◌≡◌, ℕ, ◌<◌, ◌≤◌, ◌^◌, Bool, true, false, All, get_or, refl, subst, nat_le, arith}
use Rattle.std.specs.Prelude.{MatchBool}
use Rattle.std.proofs.lemmas.Bool.{leb-true, leb-false}
use Rattle.std.proofs.lemmas.Grind.{common_steps}
use Rattle.std.proofs.lemmas.List.{take_all}
use Rattle.std.proofs.lemmas.List.Elements.{All-more, All-get_or}
use Rattle.cert_value.proofs.numbers.are_short.Goals as goal

pub loop-number-preserved : goal.loop-number-preserved
loop-number-preserved c =
    let numbers = c.args.numbers.now in
    let i = c.loop-number.number-index in
    let grows : c.loop-number.greatest ≤ c.max-greatest.result = grind (arith, common_steps, c.max-greatest.ensures) in
    let here : get_or numbers i 0 ≤ c.max-greatest.result = grind (arith, common_steps, c.max-greatest.ensures) in
    record {
      short = λ low. All-more (λ n. n < 2 ^ 16) numbers i 0 c.loop-number-test.true (c.loop-number.invariant.short (omega (arith, grows, low))) (omega (arith, here, low));
      low = λ all.
          let before : c.loop-number.greatest < 2 ^ 16 = c.loop-number.invariant.low all in
          let number : get_or numbers i 0 < 2 ^ 16 = All-get_or (λ n. n < 2 ^ 16) numbers i 0 c.loop-number-test.true all in
          grind (arith, common_steps, c.max-greatest.ensures, before, number);
    }

-- the test of the greatest number decides it
decided : (P : Type 0) (greatest limit : ℕ) → limit ≡ 65535 → (greatest < 2 ^ 16 → P) → (P → greatest < 2 ^ 16) → MatchBool (nat_le greatest limit) P (¬ P)
decided P greatest limit is short low = go (nat_le greatest limit) refl
  where
    go : (b : Bool) → nat_le greatest limit ≡ b → MatchBool b P (¬ P)
    go true e = short (omega (arith, leb-true greatest limit e, is))
    go false e = λ p. absurd (omega (arith, leb-false greatest limit e, is, low p))

pub returns : goal.returns
returns c =
    let numbers = c.args.numbers.now in
    let i = c.loop-number.number-index in
    decided (All (λ n. n < 2 ^ 16) numbers) c.loop-number.greatest c.from.result (omega (arith, c.from.ensures))
    (λ low. subst (All (λ n. n < 2 ^ 16)) (take_all i numbers (omega (arith, c.loop-number-test.false))) (c.loop-number.invariant.short low)) c.loop-number.invariant.low
