use Rattle.test_abstractions.proofs.projections.keeps_goal.Goals as goal

pub returns : goal.returns
returns g c = rw (c.is_goal.ensures, c.index.ensures.value) ((g.met.A.Abstraction.abstracts c.args.a.now).goals c.args.state.now c.requires.state c.requires.goal)
