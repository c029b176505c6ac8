use Rattle.std.proofs.Common.{◌∙◌, eqb}
use Rattle.std.proofs.lemmas.List.Filters.{dedup_is}
use Rattle.index_rows.proofs.NumberLaws.{sorted_same}
use Rattle.translate_choice.proofs.groups_at.GroupsAt.groups_with.Goals as goal

pub returns : goal.returns
returns c = λ p g there at.
    let kept = dedup_is eqb c.sort_unstable.new.self.items c.dedup.new.self.items c.dedup.ensures.filtered in
    sorted_same c.in_ok-groups.groups.items c.sort_unstable.new.self.items c.dedup.new.self.items c.sort_unstable.ensures.permutation kept g
    ∙ c.in_ok-groups.ensures p g there at
