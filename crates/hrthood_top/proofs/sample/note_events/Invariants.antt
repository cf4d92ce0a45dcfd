use Rattle.hrthood_top.proofs.Summed.{AreNoted}
use Rattle.hrthood_top.proofs.sample.note_events.Given as goal

-- the events so far are counted
abbrev pub invariant-events : goal.invariant-events
invariant-events l = AreNoted l.events l.event-index l.fn.summary l.summary
