use Rattle.openlist.proofs.buckets.BucketsOpenList.pop.Goals as goal

pub returns-clause-room : goal.returns-clause-room
returns-clause-room c = rw (← c.self.view_is) c.pop-popped.ensures.room
