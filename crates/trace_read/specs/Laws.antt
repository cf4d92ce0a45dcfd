-- What the next line of a text is tells how the events that the text tells go on.
-- Events are told by names.
use Rattle.std.specs.Prelude.{◌≡◌, ℕ, List, [], ◌∷◌, Option, Some, None, Result, Ok, Err}
use Rattle.ada_tree.specs.Programs.{Program}
use Rattle.trace_tree.specs.declared.event.Event as machine
use Rattle.guarantee.specs.Events.{Event, named_event}
use Rattle.law_traces.specs.Told.{HasPlainNames}
use Rattle.trace_read.specs.declared.lines.NoLine.{NoLine}
use Rattle.trace_read.specs.Lines.{Tells, IsNext}

-- how events go on
abbrev pub GoesOn : Program → List ℕ → List Event → Option (Result machine.Event NoLine) → Type 0
GoesOn p rest told None = told ≡ []
GoesOn p rest told (Some (Ok e)) = (more : List Event) × (told ≡ named_event p e ∷ more) × Tells p rest more
GoesOn p rest told (Some (Err fault)) = ⊥

abbrev pub LinesGoOn : Type 0
LinesGoOn = (p : Program) → HasPlainNames p → (text rest : List ℕ) (next : Option (Result machine.Event NoLine)) → IsNext p text rest next
    → (told : List Event) → Tells p text told → GoesOn p rest told next
