use Rattle.test_search.proofs.owners.hand_over.Goals as goal

pub take-requires : goal.take-requires
take-requires g c =
    let first = c.in_ok-first.ensures in
    let second = c.in_ok-second.ensures in
    let sent = rw (c.posts.ensures.space, first.space, c.posts.ensures.owners, first.owners) at c.in-Some.ensures.fits in
    rw (second.space, second.owners, second.worker) sent
