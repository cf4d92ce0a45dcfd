-- All events of a text, or the first of its lines that is none of an event.
-- Lines count from 1.
use Rattle.std.specs.Prelude.{◌≡◌, ℕ, suc, List, ◌++◌, length, Result, Ok, Err, ⊤}
use Rattle.seq_tree.specs.Lists.{Each}
use Rattle.ada_tree.specs.Programs.{Program}
use Rattle.trace_tree.specs.Lines.{lines}
use Rattle.trace_tree.specs.declared.event.Event.{Event}
use Rattle.law_traces.specs.Told.{IsEvent}
use Rattle.law_traces.specs.Verdicts.{BeginsNoLine}
use Rattle.trace_read.specs.declared.gather.Unread.{Unread}
use Rattle.trace_read.specs.declared.gather.Unread.TheVariants.{Line, NoMemory}

-- a list of events whose lines are the text
abbrev pub AreLines : Program → List ℕ → List Event → Type 0
AreLines p text es = Each (IsEvent p) es × (text ≡ lines p es)

-- the line of this number is none of an event, and those before it are
abbrev pub IsNoLine : Program → List ℕ → ℕ → Type 0
IsNoLine p text line =
    (es : List Event) × (rest : List ℕ) × Each (IsEvent p) es × (text ≡ lines p es ++ rest) × BeginsNoLine p rest × (line ≡ suc (length es))

-- what an answer says; want of memory says nothing
abbrev pub Gathers : {V : Type 0} → (V → List Event) → Program → List ℕ → Result V Unread → Type 0
Gathers items p text (Ok v) = AreLines p text (items v)
Gathers items p text (Err (Line line)) = IsNoLine p text line
Gathers items p text (Err NoMemory) = ⊤
