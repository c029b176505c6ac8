use Rattle.std.proofs.Common.{◌≡◌, [], length, ap, sym, ◌∙◌, vec_len, arith}
use Rattle.std.proofs.lemmas.Bool.{eqb-false}
use Rattle.pdb_patterns.proofs.Choices.{pattern_within}
use Rattle.pdb_refinement.proofs.Ordered.{ordered_within}
use Rattle.pdb_refinement.proofs.mappings.mapping_by.Goals as goal

pub returns-else-is_empty-clause-within : goal.returns-else-is_empty-clause-within
returns-else-is_empty-clause-within c =
    let pattern = c.in_ok-pattern-in-Pattern.pattern in
    let long : vec_len pattern ≡ 0 → ⊥ = eqb-false (vec_len pattern) 0 (sym c.is_empty.ensures ∙ c.if-is_empty.false) in
    let some : pattern.items ≡ [] → ⊥ = λ e. (let none : length pattern.items ≡ 0 = ap length e in long (omega (arith, none))) in
    pattern_within c.args.task.now c.args.limit pattern.items c.requires.small c.in_ok-pattern-in-Pattern.ensures.pattern some

pub returns-else-is_empty-2-clause-within : goal.returns-else-is_empty-2-clause-within
returns-else-is_empty-2-clause-within c =
    let ordered = c.in_ok-ordered-in-Domain.ordered in
    let long : vec_len ordered ≡ 0 → ⊥ = eqb-false (vec_len ordered) 0 (sym c.is_empty-in-Domain.ensures ∙ c.if-is_empty-2.false) in
    let some : ordered.items ≡ [] → ⊥ = λ e. (let none : length ordered.items ≡ 0 = ap length e in long (omega (arith, none))) in
    ordered_within c.args.task.now c.args.limit c.args.rows.now ordered.items c.in_ok-ordered-in-Domain.ensures c.requires.small some
