-- What is answered of a trace: the first part that is broken, of those that one pass over its events tells.
-- Each part is told by its check, on the events that the text tells by names.
use Rattle.std.specs.Prelude.{◌≡◌, ℕ, true, false, not, List, length, find, Option, Some, None, option_map, Result, Ok, Err, ⊤}
use Rattle.seq_tree.specs.Names.{Name}
use Rattle.ada_tree.specs.Programs.{Program}
use Rattle.guarantee.specs.Arrivals as given
use Rattle.guarantee.specs.Events.{Event}
use Rattle.guarantee.specs.Software.{Task, Software, program_software}
use Rattle.law_traces.specs.Checks.{in_order, is_periodic, are_told, is_requested}
use Rattle.law_traces.specs.Verdicts as verdict
use Rattle.law_traces.specs.Verdicts.{IsVerdict}
use Rattle.trace_read.specs.Lines.{Tells}
use Rattle.trace_checks.specs.declared.broken.Broken.{Broken}
use Rattle.trace_checks.specs.declared.broken.Broken.TheVariants.{Line, Times, Cyclic, Arrivals, Requests, NoMemory}

-- the first cyclic thread that isn't released as it should be
abbrev pub late : Software → given.Arrivals → List Event → Option Task
late w r told = find (λ t. not (is_periodic r.until told t.name t.timing)) w.tasks

-- the first sporadic thread whose requests aren't served as they should be
abbrev pub unserved : Software → List Event → Option Task
unserved w told = find (λ t. not (is_requested told t.name t.timing)) w.tasks

-- the name of a task, where there is one
abbrev pub named : Option Task → Option Name
named t = option_map (λ u. u.name) t

-- what is answered of events; of no line of an event nothing is said here
abbrev pub SaysOf : Software → given.Arrivals → List Event → Result ℕ Broken → Type 0
SaysOf w r told (Ok n) =
    (n ≡ length told) × (in_order w.tasks r.until 0 told ≡ true) × (named (late w r told) ≡ None) × (are_told r.until r.items told ≡ true)
    × (named (unserved w told) ≡ None)
SaysOf w r told (Err (Line line)) = ⊥
SaysOf w r told (Err Times) = in_order w.tasks r.until 0 told ≡ false
SaysOf w r told (Err (Cyclic thread)) = (in_order w.tasks r.until 0 told ≡ true) × (named (late w r told) ≡ Some thread)
SaysOf w r told (Err Arrivals) =
    (in_order w.tasks r.until 0 told ≡ true) × (named (late w r told) ≡ None) × (are_told r.until r.items told ≡ false)
SaysOf w r told (Err (Requests thread)) =
    (in_order w.tasks r.until 0 told ≡ true) × (named (late w r told) ≡ None) × (are_told r.until r.items told ≡ true)
    × (named (unserved w told) ≡ Some thread)
SaysOf w r told (Err NoMemory) = ⊤

-- what is answered of a text
abbrev pub Says : Program → given.Arrivals → List ℕ → Result ℕ Broken → Type 0
Says p r text (Err (Line line)) = IsVerdict (program_software p) p r text (verdict.Line line)
Says p r text (Err NoMemory) = ⊤
Says p r text answer = (told : List Event) × Tells p text told × SaysOf (program_software p) r told answer
