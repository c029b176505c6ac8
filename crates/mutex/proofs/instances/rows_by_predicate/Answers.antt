use Rattle.std.proofs.Common.{ℕ, [], List, length, get_or, ◌||◌, ◌&&◌, eqb, ap, ◌∙◌, arith}
use Rattle.std.specs.Vec.{with_items}
use Rattle.std.proofs.lemmas.List.{with_items_is}
use Rattle.pddl_task.specs.Atoms.{Atom}
use Rattle.index_rows.specs.Numbers.{has}
use Rattle.mutex.specs.Proposals.{is_movable}
use Rattle.mutex.proofs.InstanceLaws.{row_step, row_all}
use Rattle.mutex.proofs.instances.rows_by_predicate.Goals as goal

pub loop-place-preserved : goal.loop-place-preserved
loop-place-preserved c =
    let index = c.args.index.now in
    let place = c.loop-place.place in
    let all = c.as_slice-atom-items.ensures.atoms ∙ c.atoms.ensures in
    let written = with_items_is c.loop-place.rows c.put_movable.new.rows (omega arith) in
    record {
      count = omega (arith, ap (λ (rows : List (List ℕ)). length rows) written, c.loop-place.invariant.count);
      entries = λ q k l.
          row_step index place q k c.atom-item.result (has (get_or c.loop-place.rows.items q []) k)
          (has (get_or (with_items c.loop-place.rows c.put_movable.new.rows).items q []) k) (omega (arith, ap (λ (atoms : List Atom). length atoms) all))
          (c.atom-item.is ∙ ap (λ (atoms : List Atom). get_or atoms place c.atom-item.result) all) (c.loop-place.invariant.entries q k l)
          (ap (λ (rows : List (List ℕ)). has (get_or rows q []) k) written
          ∙ c.in_ok-put_movable.ensures q k (omega (arith, c.loop-place.invariant.count))
          ∙ ap (λ (rows : List (List ℕ)). has (get_or rows q []) k || (is_movable index place && (eqb place k && eqb c.atom-item.result.predicate q))) c.deref_mut.ensures.value);
    }

pub returns : goal.returns
returns c = λ q k l.
    let all = c.as_slice-atom-items.ensures.atoms ∙ c.atoms.ensures in
    c.loop-place.invariant.entries q k l
    ∙ row_all c.args.index.now c.loop-place.place q k (omega (arith, ap (λ (atoms : List Atom). length atoms) all))
