use Rattle.std.proofs.Common.{◌≡◌, ◌<◌, ℕ, List, length, sum, take, ap, ◌∙◌, arith}
use Rattle.std.proofs.lemmas.List.{length-map}
use Rattle.fdr.specs.Tasks.{ranges}
use Rattle.packed_spread.proofs.Drawing.{drawn_none}
use Rattle.packed_spread.proofs.Places.{firsts_below, count_more, firsts_more}
use Rattle.packed_spread.proofs.words.words_of.Goals as goal

pub loop-variable-init : goal.loop-variable-init
loop-variable-init c =
    record {
      drawn =
          drawn_none 1 c.new-words.result.items c.seed_from_u64-generator.result c.new-words.ensures.items
          c.seed_from_u64-generator.ensures.same;
      count = ap (λ (ws : List ℕ). length ws) c.new-words.ensures.items;
      firsts = c.new-firsts.ensures.items;
    }

pub loop-variable-preserved : goal.loop-variable-preserved
loop-variable-preserved c =
    let rs = ranges c.args.task.now in
    let v = c.loop-variable.variable in
    let count = length-map c.args.task.now.value_names (λ names. length names) in
    let exists : v < length rs = omega arith in
    let first : c.len.result ≡ sum (take v rs) =
    omega (arith, c.len.ensures, c.loop-variable.words.ok.0, c.loop-variable.invariant.count) in
    record {
      drawn = c.in_ok-draw.ensures.drawn;
      count =
          count_more rs v (length c.loop-variable.words.items) (length c.draw.new.words.items) c.range.result exists
          c.loop-variable.invariant.count c.range.ensures c.in_ok-draw.ensures.count;
      firsts =
          firsts_more rs v c.len.result c.loop-variable.firsts.items c.push.new.self.items c.loop-variable.invariant.firsts
          first c.in_ok-push.ensures.items;
    }

pub returns-clause-firsts : goal.returns-clause-firsts
returns-clause-firsts c =
    let rs = ranges c.args.task.now in
    let count = length-map c.args.task.now.value_names (λ names. length names) in
    let all : c.loop-variable.variable ≡ length rs = omega arith in
    c.loop-variable.invariant.firsts ∙ ap (λ (n : ℕ). firsts_below rs n) all
