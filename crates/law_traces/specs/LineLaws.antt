-- The lines of a trace tell its events: no two lists of events with other names, times or values have the same lines.
-- Events are told by names; places in a program are the code's own.
use Rattle.std.specs.Prelude.{◌≡◌, ℕ, List, ◌++◌, length}
use Rattle.seq_tree.specs.Lists.{Each}
use Rattle.ada_tree.specs.Programs.{Program}
use Rattle.trace_tree.specs.Lines.{line, lines}
use Rattle.trace_tree.specs.declared.event.Event.{Event}
use Rattle.guarantee.specs.Events.{named, named_event}
use Rattle.law_traces.specs.Told.{HasPlainNames, IsEvent}

-- the first lines of a text are lines of one list of events only, as far as both go
abbrev pub LinesTellEvents : Type 0
LinesTellEvents = (p : Program) → HasPlainNames p → (es fs : List Event) → Each (IsEvent p) es → Each (IsEvent p) fs → lines p es ≡ lines p fs
    → (named p es ≡ named p fs) × (length es ≡ length fs)

-- a line in front of others tells its event
abbrev pub LineTellsEvent : Type 0
LineTellsEvent = (p : Program) → HasPlainNames p → (e f : Event) (more others : List ℕ) → IsEvent p e → IsEvent p f
    → line p e ++ more ≡ line p f ++ others → (named_event p e ≡ named_event p f) × (more ≡ others)
