use Rattle.std.proofs.Common.{arith}
use Rattle.std.proofs.lemmas.Option.{IfSome_then}
use Rattle.openlist.proofs.BucketLaws.{some_both}
use Rattle.openlist.proofs.BucketOrder.{none_then}
use Rattle.openlist.proofs.GroupLists.{Contains-grouped, IsBefore-grouped, never_empty}
use Rattle.openlist.proofs.groups.Groups.least.Goals as goal

pub returns-clause-member : goal.returns-clause-member
returns-clause-member c =
    rw (← c.self.view_is)
    (IfSome_then c.least.result c.least.ensures.member
    (λ e member. Contains-grouped e c.self.inside.groups.items c.in_ok-place.place c.index.result.now (omega arith)
    c.index.ensures member))

pub returns-clause-first : goal.returns-clause-first
returns-clause-first c =
    rw (← c.self.view_is)
    (some_both c.least.result c.least.ensures.key c.least.ensures.first
    (λ e key first. IsBefore-grouped e c.self.inside.groups.items c.in_ok-place.place c.index.result.now (omega arith)
    c.index.ensures key first c.self.invariant.0))

pub returns-clause-none : goal.returns-clause-none
returns-clause-none c =
    none_then c.least.result c.least.ensures.none
    (λ empty. absurd (never_empty c.self.inside.groups.items c.in_ok-place.place c.index.result.now (omega arith)
    c.index.ensures c.self.invariant.0 empty))
