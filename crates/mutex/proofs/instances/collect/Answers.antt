use Rattle.std.proofs.Common.{ℕ, ◌||◌, ◌&&◌, [], List, ap, ◌∙◌, arith}
use Rattle.std.specs.Prelude.{slice_index_or}
use Rattle.std.specs.List.{list_any}
use Rattle.index_rows.specs.Numbers.{has}
use Rattle.mutex.specs.declared.parts.Part.{Part}
use Rattle.mutex.specs.Steps.{binds, is_row_place}
use Rattle.mutex.proofs.InstanceLaws.{instance_is}
use Rattle.mutex.proofs.instances.collect.Goals as goal

pub returns : goal.returns
returns c = λ object l. instance_is c.args.index.now c.args.candidate.now object (slice_index_or c.sort_all.new.lists object [])
    (c.sort_all.ensures.rising object (omega arith))
    (λ k. c.sort_all.ensures.same object (omega arith) k ∙ c.in_ok-put_parts.ensures object k (omega arith)
    ∙ ap (λ (places : List ℕ). has places k || list_any (λ part. is_row_place c.args.index.now part.predicate k && binds c.args.index.now part object k) c.parts.result.now) (c.clear_all.ensures object l)
    ∙ ap (λ (parts : List Part). list_any (λ part. is_row_place c.args.index.now part.predicate k && binds c.args.index.now part object k) parts) c.parts.ensures)
