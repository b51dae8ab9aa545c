use Rattle.ppm_engine.proofs.push.push_above.Goals as goal

pub returns-in-Err-clause-came : goal.returns-in-Err-clause-came
returns-in-Err-clause-came g c = λ first l. c.in-Err.ensures.came first l

pub install-requires-clause-stands : goal.install-requires-clause-stands
install-requires-clause-stands g c κs within = (c.requires.stands.0, (c.in_default.ensures.came c.requires.stands.0 c.requires.stands.1).1)

pub returns-clause-came : goal.returns-clause-came
returns-clause-came g c = λ first l. c.install.ensures.came first ((c.in_default.ensures.came first l).1)
