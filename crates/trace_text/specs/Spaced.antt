-- Words of which each has a space before it, as they stand behind the first word of a line, and the words of an event's line in two parts.
-- The format is this project's own.
use Rattle.std.specs.Prelude.{ℕ, List, [], ◌∷◌, ◌++◌, codes, decimal}
use Rattle.ada_tree.specs.Programs.{Program}
use Rattle.trace_tree.specs.Lines.{op_name, option_words, unit_name, value_words}
use Rattle.trace_tree.specs.declared.event.Event.{Event}
use Rattle.trace_tree.specs.declared.event.Event.TheVariants.{Release, Arrive, Enter, Leave, Request, Print, End, Stop, Horizon}

-- words, each after a space
abbrev pub spaced : List (List ℕ) → List ℕ
spaced [] = []
spaced (w ∷ ws) = 32 ∷ (w ++ spaced ws)

-- the words that an event's line begins with: the time, what happens, and the task
abbrev pub first_words : Program → Event → List (List ℕ)
first_words p (Release time task value) = decimal time ∷ codes "release" ∷ unit_name p task ∷ []
first_words p (Arrive time task value) = decimal time ∷ codes "arrive" ∷ unit_name p task ∷ []
first_words p (Enter time task unit op values) = decimal time ∷ codes "enter" ∷ unit_name p task ∷ []
first_words p (Leave time task unit op values) = decimal time ∷ codes "leave" ∷ unit_name p task ∷ []
first_words p (Request time task target value) = decimal time ∷ codes "request" ∷ unit_name p task ∷ []
first_words p (Print time task value) = decimal time ∷ codes "put" ∷ unit_name p task ∷ []
first_words p (End time task used) = decimal time ∷ codes "end" ∷ unit_name p task ∷ []
first_words p (Stop time task unit priority ceiling) = decimal time ∷ codes "stop" ∷ unit_name p task ∷ []
first_words p (Horizon time) = decimal time ∷ codes "horizon" ∷ []

-- the words behind those
abbrev pub other_words : Program → Event → List (List ℕ)
other_words p (Release time task value) = option_words value
other_words p (Arrive time task value) = option_words value
other_words p (Enter time task unit op values) = op_name p unit op ∷ value_words values
other_words p (Leave time task unit op values) = op_name p unit op ∷ value_words values
other_words p (Request time task target value) = unit_name p target ∷ option_words value
other_words p (Print time task value) = decimal value ∷ []
other_words p (End time task used) = codes "used" ∷ decimal used ∷ []
other_words p (Stop time task unit priority ceiling) = unit_name p unit ∷ codes "priority" ∷ decimal priority ∷ codes "ceiling" ∷ decimal ceiling ∷ []
other_words p (Horizon time) = []
