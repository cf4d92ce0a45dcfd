use Rattle.hrthood_top.proofs.Summed.{next-below}
use Rattle.hrthood_top.proofs.sample.note_events.Goals as goal

pub note-requires : goal.note-requires
note-requires c = next-below c.args.events.now c.events.event-index c.event-item.result _ _ c.events-test.true c.event-item.is c.requires
    c.events.invariant
