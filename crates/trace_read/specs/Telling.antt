-- The events that the lines of a text tell, one after another.
-- What stands between line feeds and tells no event is passed over.
use Rattle.std.specs.Prelude.{ℕ, List, filter_map}
use Rattle.ada_tree.specs.Programs.{Program}
use Rattle.trace_tree.specs.declared.event.Event.{Event}
use Rattle.law_traces.specs.Cuts.{cut}
use Rattle.trace_read.specs.Reading.{event_of}

-- the events that these pieces tell
abbrev pub told_by : Program → List (List ℕ) → List Event
told_by p pieces = filter_map (λ l. event_of p (cut 32 l)) pieces

-- the events that the pieces of a text tell
abbrev pub events_in : Program → List ℕ → List Event
events_in p text = told_by p (cut 10 text)
