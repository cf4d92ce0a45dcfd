-- A text as the lines of events, one after another.
-- By names a text has one list of events at most.
use Rattle.std.specs.Prelude.{◌≡◌, ℕ, List, [], ◌++◌, Option, Some, None, Result, Ok, Err}
use Rattle.std.specs.Borrow.{Bor}
use Rattle.seq_tree.specs.Lists.{Each}
use Rattle.ada_tree.specs.Programs.{Program}
use Rattle.trace_tree.specs.Lines.{line, lines}
use Rattle.trace_tree.specs.declared.event.Event as machine
use Rattle.guarantee.specs.Events.{Event, named}
use Rattle.law_traces.specs.Told.{IsEvent}
use Rattle.law_traces.specs.Verdicts.{BeginsNoLine}
use Rattle.trace_read.specs.declared.lines.NoLine.{NoLine}

-- a text of lines of events that tell this by names
abbrev pub Tells : Program → List ℕ → List Event → Type 0
Tells p text told = (es : List machine.Event) × Each (IsEvent p) es × (text ≡ lines p es) × (told ≡ named p es)

-- what the next line of a text is, with the text behind it
abbrev pub IsNext : Program → List ℕ → List ℕ → Option (Result machine.Event NoLine) → Type 0
IsNext p text rest None = text ≡ []
IsNext p text rest (Some (Ok e)) = IsEvent p e × (text ≡ line p e ++ rest)
IsNext p text rest (Some (Err fault)) = BeginsNoLine p text

-- the event whose line a text begins with, and the text behind it, where there is one
abbrev pub IsFront : Program → List ℕ → Option (machine.Event × Bor (List ℕ)) → Type 0
IsFront p text None = (e : machine.Event) (more : List ℕ) → IsEvent p e → text ≡ line p e ++ more → ⊥
IsFront p text (Some r) = IsEvent p r.0 × (text ≡ line p r.0 ++ r.1.now)
