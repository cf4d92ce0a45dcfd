-- The lines of a trace: one for each event, of words with one space between them.
-- Tasks, units and operations stand in the events as places, and in the lines as names.
use Rattle.std.specs.Prelude.{ℕ, List, [], ◌∷◌, ◌++◌, map, Option, Some, None, slice_get, unwrap_or, option_map, codes, decimal, flat_map}
use Rattle.std.specs.List.{join_with_byte}
use Rattle.seq_tree.specs.Names.{Name}
use Rattle.seq_tree.specs.Operations.{Signature}
use Rattle.ada_tree.specs.Programs.{Program}
use Rattle.ada_tree.specs.Bodies.{heads}
use Rattle.trace_tree.specs.declared.event.Event.{Event}
use Rattle.trace_tree.specs.declared.event.Event.TheVariants.{Release, Arrive, Enter, Leave, Request, Print, End, Stop, Horizon}

-- the name of the unit at a place
unfoldable pub unit_name : Program → ℕ → Name
unit_name p unit = unwrap_or (option_map (λ u. u.name) (slice_get p.units unit)) []

-- the operations of the unit at a place, by their heads; a sporadic unit has the operation of its requests
unfoldable pub unit_ops : Program → ℕ → List Signature
unit_ops p unit = unwrap_or (option_map (λ u. heads u.form) (slice_get p.units unit)) []

-- an operation of a unit, with a dot between their names
unfoldable pub op_name : Program → ℕ → ℕ → List ℕ
op_name p unit op = unit_name p unit ++ (codes "." ++ unwrap_or (option_map (λ o. o.name) (slice_get (unit_ops p unit) op)) [])

-- values as words
abbrev pub value_words : List ℕ → List (List ℕ)
value_words values = map decimal values

-- a value as a word, where there is one
abbrev pub option_words : Option ℕ → List (List ℕ)
option_words None = []
option_words (Some value) = decimal value ∷ []

-- the words of an event's line
unfoldable pub words : Program → Event → List (List ℕ)
words p (Release time task value) = decimal time ∷ codes "release" ∷ unit_name p task ∷ option_words value
words p (Arrive time task value) = decimal time ∷ codes "arrive" ∷ unit_name p task ∷ option_words value
words p (Enter time task unit op values) = decimal time ∷ codes "enter" ∷ unit_name p task ∷ op_name p unit op ∷ value_words values
words p (Leave time task unit op values) = decimal time ∷ codes "leave" ∷ unit_name p task ∷ op_name p unit op ∷ value_words values
words p (Request time task target value) = decimal time ∷ codes "request" ∷ unit_name p task ∷ unit_name p target ∷ option_words value
words p (Print time task value) = decimal time ∷ codes "put" ∷ unit_name p task ∷ decimal value ∷ []
words p (End time task used) = decimal time ∷ codes "end" ∷ unit_name p task ∷ codes "used" ∷ decimal used ∷ []
words p (Stop time task unit priority ceiling) =
    decimal time ∷ codes "stop" ∷ unit_name p task ∷ unit_name p unit ∷ codes "priority" ∷ decimal priority ∷ codes "ceiling" ∷ decimal ceiling ∷ []
words p (Horizon time) = decimal time ∷ codes "horizon" ∷ []

-- the line of an event
unfoldable pub line : Program → Event → List ℕ
line p e = join_with_byte 32 (words p e) ++ codes "\n"

-- the lines of a trace
abbrev pub lines : Program → List Event → List ℕ
lines p told = flat_map (line p) told
