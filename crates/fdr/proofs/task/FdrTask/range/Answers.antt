use Rattle.std.proofs.Common.{◌≡◌, ℕ, ◌<◌, ◌∙◌, List, length, map, get_or, Vec, vec_len, String, string_bytes}
use Rattle.std.specs.Prelude.{slice_index}
use Rattle.std.proofs.lemmas.List.{get_or-map, length-map}
use Rattle.fdr.specs.Tasks as spec
use Rattle.fdr.proofs.task.FdrTask.range.Goals as goal

length_at : {Y Z : Type 0} (vs : List (Vec (String Z) Y)) (i : ℕ) (d : Vec (String Z) Y) → i < length vs → vec_len (get_or vs i d) ≡ slice_index (map length (spec.names_in vs)) i
length_at {Y} {Z} vs i d l =
    let in_names : i < length (spec.names_in vs) = rw length-map l in
    rw (get_or-map length (spec.names_in vs) i (map string_bytes d.items) 0 in_names, get_or-map (λ (names : Vec (String Z) Y). map string_bytes names.items) vs i d (map string_bytes d.items) l, length-map)
    (get_or vs i d).ok.0

pub returns : goal.returns
returns c =
    let short : c.args.variable < length c.self.inside.value_names.items = rw length-map at (rw (← c.self.view_is) at c.requires) in
    let v = c.index.result.now in
    let here : vec_len (get_or c.self.inside.value_names.items c.args.variable v) ≡ slice_index (map length (spec.names_in c.self.inside.value_names.items)) c.args.variable =
    length_at c.self.inside.value_names.items c.args.variable v short in
    rw (← c.self.view_is) (c.len.ensures ∙ (rw (← c.index.ensures) at here))
