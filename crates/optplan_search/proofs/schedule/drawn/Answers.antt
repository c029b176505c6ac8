use Rattle.std.proofs.Common.{◌^◌, ◌-◌, ◌∙◌, sym, arith}
use Rattle.netcore.specs.Possible.{possible_steps}
use Rattle.optplan_search.proofs.Schedules.{next_word, picked}
use Rattle.optplan_search.proofs.schedule.drawn.Goals as goal

pub returns-clause-step : goal.returns-clause-step
returns-clause-step g c = λ seed count so_far.
    let steps = possible_steps g.S.Spread.owner c.args.world.now in
    let next = next_word seed count c.next_u64-word.result c.args.generator.now c.next_u64-word.new.self so_far c.next_u64-word.ensures in
    rw (← next.0) (picked steps (2 ^ 128 - 1) c.possible_count.result c.next_u64-word.result c.unwrap.result c.possible_count.ensures (omega arith)
    (sym c.possible_step.ensures ∙ c.unwrap.ensures))

pub returns-clause-next : goal.returns-clause-next
returns-clause-next g c = λ seed count so_far.
    (next_word seed count c.next_u64-word.result c.args.generator.now c.next_u64-word.new.self so_far c.next_u64-word.ensures).1
