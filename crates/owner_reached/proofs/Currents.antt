-- What the table keeps of a node tells whether a stored entry is current.
use Rattle.std.proofs.Common.{◌≡◌, ◌<◌, Bool, true, false, ◌&&◌, List, length, Some, sym, ap, ◌∙◌, nat_eq, true≢false}
use Rattle.std.specs.Prelude.{slice_get}
use Rattle.std.proofs.lemmas.Bool.{and_parts, and_from, eqb-true, eq-eqb}
use Rattle.owner_theory.specs.Owners.{Node}
use Rattle.owner_theory.proofs.Lists.{get_at, there_at}
use Rattle.openlist.specs.declared.entry.OpenEntry.{OpenEntry}
use Rattle.closed.specs.declared.table.Entry.{Entry}
use Rattle.closed.specs.Tables.{node_with}
use Rattle.owner_space.specs.declared.ties.Ties.{Ties}
use Rattle.owner_space.specs.Keyed.{denoted}
use Rattle.owner_reached.specs.Queues.{keyed_in, IsCurrent}

-- the entry has this rank
abbrev pub has_rank : Entry → OpenEntry → Bool
has_rank k e = nat_eq k.rank.cost e.rank.cost && nat_eq k.rank.steps e.rank.steps

-- the two entries are one
abbrev pub is_entry : OpenEntry → OpenEntry → Bool
is_entry x y =
    nat_eq x.f y.f && ((nat_eq x.rank.cost y.rank.cost && nat_eq x.rank.steps y.rank.steps) && nat_eq x.index y.index)

pub is_entry-true : (x y : OpenEntry) → is_entry x y ≡ true → x ≡ y
is_entry-true x y h =
    let (f, rest) = and_parts (nat_eq x.f y.f) _ h in
    let (rank, index) = and_parts (nat_eq x.rank.cost y.rank.cost && nat_eq x.rank.steps y.rank.steps) (nat_eq x.index y.index) rest in
    let (costs, steps) = and_parts (nat_eq x.rank.cost y.rank.cost) (nat_eq x.rank.steps y.rank.steps) rank in
    λ j. record {
      f = eqb-true x.f y.f f j;
      rank = record { cost = eqb-true x.rank.cost y.rank.cost costs j; steps = eqb-true x.rank.steps y.rank.steps steps j };
      index = eqb-true x.index y.index index j;
    }

module _ (ties : Ties) (ns : List Node) (ever : List Bool) (e : OpenEntry) (k : Entry)
    (is : (n : Node) → slice_get ns (denoted ties e).index ≡ Some n → n ≡ node_with n.state k) where
  pub current_from : (denoted ties e).index < length ns → k.expanded ≡ false → has_rank k (denoted ties e) ≡ true
      → e ≡ keyed_in ties ever (denoted ties e) → IsCurrent ties ns ever e
  current_from lt waits same bit =
      let x : OpenEntry = denoted ties e in
      let (n, at) = there_at ns x.index lt in
      let node = is n (get_at ns x.index n at) in
      let (costs, steps) = and_parts (nat_eq k.rank.cost x.rank.cost) (nat_eq k.rank.steps x.rank.steps) same in
      record {
        node = n;
        there = at;
        waits = ap (λ (y : Node). y.expanded) node ∙ waits;
        cost = ap (λ (y : Node). y.cost) node ∙ eqb-true k.rank.cost x.rank.cost costs;
        steps = ap (λ (y : Node). y.steps) node ∙ eqb-true k.rank.steps x.rank.steps steps;
        bit = bit;
      }

  pub current_waits : IsCurrent ties ns ever e → k.expanded ≡ false
  current_waits c = sym (ap (λ (y : Node). y.expanded) (is c.node (get_at ns (denoted ties e).index c.node c.there))) ∙ c.waits

  pub current_rank : IsCurrent ties ns ever e → has_rank k (denoted ties e) ≡ true
  current_rank c =
      let x : OpenEntry = denoted ties e in
      let node = is c.node (get_at ns x.index c.node c.there) in
      and_from (nat_eq k.rank.cost x.rank.cost) (nat_eq k.rank.steps x.rank.steps)
      (eq-eqb k.rank.cost x.rank.cost (sym (ap (λ (y : Node). y.cost) node) ∙ c.cost))
      (eq-eqb k.rank.steps x.rank.steps (sym (ap (λ (y : Node). y.steps) node) ∙ c.steps))

  pub current_not : k.expanded ≡ true → IsCurrent ties ns ever e → ⊥
  current_not done c = true≢false (sym done ∙ current_waits c)
