use Rattle.cs_fetch.proofs.so_far.SoFar.take.Goals as goal

pub returns-in-Heartbeat-clause-taken : goal.returns-in-Heartbeat-clause-taken
returns-in-Heartbeat-clause-taken c = rw c.in-Heartbeat.is (c.take_beat.ensures.taken c.args.known.now)

pub returns-in-Heartbeat-clause-so_far : goal.returns-in-Heartbeat-clause-so_far
returns-in-Heartbeat-clause-so_far c = rw c.in-Heartbeat.is (c.take_beat.ensures.so_far c.args.known.now)

pub returns-in-Children-clause-taken : goal.returns-in-Children-clause-taken
returns-in-Children-clause-taken c = rw c.in-Children.is (c.take_list.ensures.taken c.args.known.now)

pub returns-in-Children-clause-so_far : goal.returns-in-Children-clause-so_far
returns-in-Children-clause-so_far c = rw c.in-Children.is (c.take_list.ensures.so_far c.args.known.now)
