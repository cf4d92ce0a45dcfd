-- What is written of a text that comes piece by piece: a page gathers pieces before the sink gets them.
-- A run tells one event after another, of which the lines are such pieces.
use Rattle.std.specs.Prelude.{◌≡◌, ℕ, ◌<◌, List, ◌++◌, length, take, Option, Result, Ok, Err}
use Rattle.ada_tree.specs.Programs.{Program}
use Rattle.hood_io.specs.Sinks.{Appends}
use Rattle.machine.specs.Meanings.{Running, Tells}
use Rattle.trace_tree.specs.declared.event.Event.{Event}
use Rattle.trace_tree.specs.Lines.{lines}
use Rattle.hrthood_top.specs.declared.violation.Violation as values
use Rattle.hrthood_top.specs.declared.violation.Ending.{Ending}
use Rattle.hrthood_top.specs.declared.violation.Ending.TheVariants.{Horizon, Stopped}
use Rattle.hrthood_top.specs.Violations.{EndsAt, RunsOut, Violation}

-- of what a page held and then a piece a front was written, and the page holds the others
abbrev pub IsGathered : List ℕ → List ℕ → List ℕ → Option (List ℕ) → Option (List ℕ) → Type 0
IsGathered held piece held' before now = (front : List ℕ) × Appends before now front × (front ++ held' ≡ held ++ piece)

-- a proper front of a text was written
abbrev pub IsCut : List ℕ → Option (List ℕ) → Option (List ℕ) → Type 0
IsCut text before now = (n : ℕ) × (n < length text) × Appends before now (take n text)

-- a piece is gathered behind what a page held, or after a failure a proper front of both was written
abbrev pub Gathers : {E : Type 0} → List ℕ → List ℕ → List ℕ → Option (List ℕ) → Option (List ℕ) → Result (Unit {0}) E → Type 0
Gathers held piece held' before now (Ok u) = IsGathered held piece held' before now
Gathers held piece held' before now (Err e) = IsCut (held ++ piece) before now

-- what a page held was written, and the ending of the run is handed on; or after a failure a proper front of it was written
abbrev pub Closes : {E : Type 0} → List ℕ → Ending → Option (List ℕ) → Option (List ℕ) → Result Ending E → Type 0
Closes held ending before now (Ok given) = (given ≡ ending) × Appends before now held
Closes held ending before now (Err e) = IsCut held before now

-- a violation with its names as bytes
abbrev pub violation_of : values.Violation → Violation
violation_of v = record { time = v.time; task = v.task.now; object = v.object.now; priority = v.priority; ceiling = v.ceiling }

-- what the ending of a run says of all that it told
abbrev pub EndsSo : Program → Ending → List Event → Type 0
EndsSo p Horizon told = RunsOut told
EndsSo p (Stopped v) told = EndsAt p told (violation_of v)

-- the lines of all that is told from where a run stands up to its stop are written, and how it ended; or after a failure a proper front of them
abbrev pub PutsRun : {E : Type 0} → Program → Running → Option (List ℕ) → Option (List ℕ) → Result Ending E → Type 0
PutsRun p run before now (Ok ending) = (told : List Event) × Tells run told × EndsSo p ending told × Appends before now (lines p told)
PutsRun p run before now (Err e) = (told : List Event) × Tells run told × IsCut (lines p told) before now
