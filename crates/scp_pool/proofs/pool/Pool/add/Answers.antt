use Rattle.std.proofs.Common.{◌≡◌, ◌≢◌, ◌^◌, map, subst}
use Rattle.std.specs.Prelude.{All}
use Rattle.abstraction_mapping.specs.Views.{mapping_of}
use Rattle.pdb_patterns.specs.Choices.{IsMappingWithin}
use Rattle.scp_pool.specs.Pools.{PoolOf}
use Rattle.scp_pool.proofs.Distinct.{pushed_distinct, pushed_with}
use Rattle.scp_pool.proofs.pool.Pool.add.Goals as goal

pub invariant_of-self-2 : goal.invariant_of-self-2
invariant_of-self-2 c =
    let items = c.self.inside.mappings.items in
    let is : c.args.self.now ≡ record { task = c.self.inside.task.now; mappings = map mapping_of items } = cc in
    let none = rw c.deref.ensures.value at (c.has_mapping.ensures.none c.if-has_mapping.false) in
    let within = subst (λ (p : PoolOf). IsMappingWithin p.task (2 ^ 24) (mapping_of c.args.mapping)) is c.requires in
    pushed_distinct c.self.inside.task.now items c.push.new.self.items c.args.mapping c.args.self.now c.in_ok-push.ensures.items c.self.invariant within none

pub returns-clause-added : goal.returns-clause-added
returns-clause-added c =
    let items = c.self.inside.mappings.items in
    let is : c.args.self.now ≡ record { task = c.self.inside.task.now; mappings = map mapping_of items } = cc in
    let none = rw c.deref.ensures.value at (c.has_mapping.ensures.none c.if-has_mapping.false) in
    pushed_with c.self.inside.task.now items c.push.new.self.items c.args.mapping c.args.self.now c.in_ok-push.ensures.items is none
