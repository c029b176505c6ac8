use Rattle.engine.proofs.Beside.{own_link, own_ring, place_within, other_link, other_ring}
use Rattle.engine.proofs.Receiving.{vec_within}
use Rattle.engine.proofs.drain.match_link.Goals as goal

pub match_own_link-requires : goal.match_own_link-requires
match_own_link-requires g c =
    let link = own_link g.S.Spread.owner c.requires.members.0 c.args.others.now.items c.args.receiver.now c.args.to c.requires.to c.requires.members.1 in
    record { within = link.sends; linked = link.linked }

pub returns-then-from-to : goal.returns-then-from-to
returns-then-from-to g c =
    own_ring g.S.Spread.owner c.requires.members.0 c.args.others.now.items c.args.receiver.now c.args.to c.requires.to c.requires.members.1 c.args.from
    c.match_own_link.new.self c.match_own_link.result c.if-from-to.true c.match_own_link.ensures.matched c.match_own_link.ensures.worker

pub index_mut-requires : goal.index_mut-requires
index_mut-requires g c =
    vec_within c.place_beside-place.result _ _
    (place_within g.S.Spread.owner c.requires.members.0 c.args.others.now.items c.args.receiver.now c.args.to c.requires.to c.requires.members.1 c.args.from
    c.place_beside-place.result c.if-from-to.false c.requires.from c.place_beside-place.ensures.before c.place_beside-place.ensures.behind)
    c.args.others.now.ok.0

pub match_link-requires : goal.match_link-requires
match_link-requires g c =
    let link = other_link g.S.Spread.owner c.requires.members.0 c.args.others.now.items c.args.receiver.now c.args.to c.requires.to c.requires.members.1
    c.args.from c.place_beside-place.result c.if-from-to.false c.requires.from c.place_beside-place.ensures.before c.place_beside-place.ensures.behind
    c.index_mut.result.now c.index_mut.ensures.value in
    record { to = link.sends; from = link.receives; linked = link.linked }

pub returns : goal.returns
returns g c =
    other_ring g.S.Spread.owner c.requires.members.0 c.args.others.now.items c.args.receiver.now c.args.to c.requires.to c.requires.members.1
    c.args.from c.place_beside-place.result c.if-from-to.false c.requires.from c.place_beside-place.ensures.before c.place_beside-place.ensures.behind
    c.index_mut.result.now c.index_mut.ensures.value c.match_link.new.self c.match_link.new.receiver c.match_link.result c.match_link.ensures.matched
    c.match_link.ensures.sender c.match_link.ensures.receiver
