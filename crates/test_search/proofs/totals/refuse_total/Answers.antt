use Rattle.test_search.proofs.totals.refuse_total.Goals as goal

pub take-requires : goal.take-requires
take-requires g c =
    let started = c.in_ok-second.ensures in
    rw (started.space, started.owners, started.worker) c.in_ok-message.ensures
