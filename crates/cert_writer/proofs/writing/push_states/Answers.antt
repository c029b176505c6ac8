use Rattle.std.proofs.Common.{◌++◌, ◌∷◌, ap, ◌∙◌, sym, ◌+◌, take, map, List, ℕ, arith}
use Rattle.std.specs.Prelude.{slice_get, decimal}
use Rattle.std.specs.List.{flat_map}
use Rattle.cert_value.specs.Certificates.{Entry}
use Rattle.cert_text.specs.Spelling.{line_text, entry_line}
use Rattle.cert_writer.proofs.Appends.{one_more, entry_by, flat_map-map, line_parts}
use Rattle.cert_writer.proofs.writing.push_states.Goals as goal

pub loop-index-preserved : goal.loop-index-preserved
loop-index-preserved c =
    let e : Entry = record { cost = c.cost.result; state = c.copy_state.new.into } in
    let f = λ (x : Entry). line_text (entry_line x) in
    let es = c.args.closed.now in let i = c.loop-index.index in
    let so_far = c.loop-index.invariant.written ∙ ap (λ (xs : List ℕ). c.args.out.now.items ++ xs) (flat_map-map line_text entry_line (take i es)) in
    let new = line_parts (decimal c.cost.result) (flat_map (λ (q : List ℕ). 32 ∷ q) (map decimal c.copy_state.new.into)) c.loop-index.out.items c.push_number.new.out.items c.push_numbers.new.out.items c.push.new.self.items
    c.in_ok-push_number.ensures c.in_ok-push_numbers.ensures c.in_ok-push.ensures.items in
    record {
      written =
          one_more f es i e c.args.out.now.items c.loop-index.out.items c.push.new.self.items (entry_by (slice_get es i) c.cost.result c.copy_state.new.into c.cost.ensures c.copy_state.ensures.state) so_far new
          ∙ ap (λ (xs : List ℕ). c.args.out.now.items ++ xs) (sym (flat_map-map line_text entry_line (take (i + 1) es)));
      width = omega (arith, c.copy_state.ensures.len, c.loop-index.invariant.width);
    }
