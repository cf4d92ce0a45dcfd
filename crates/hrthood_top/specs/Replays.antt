-- The verb `replay`: the trace of an Ada text under arrivals.
-- No condition is put on where the Ada text came from.
use Rattle.std.specs.Prelude.{◌≡◌, ℕ, List, [], ◌∷◌, Result, Ok, Err, ⊤}
use Rattle.ada_tree.specs.Programs.{Program}
use Rattle.ada_tree.specs.Reading.{Accepts}
use Rattle.ada_tree.specs.Trees.{program_of}
use Rattle.ada_tree.specs.declared.program.AdaProgram.{AdaProgram}
use Rattle.ada_read.specs.Answers.{Faults, Breaks}
use Rattle.arrivals_tree.specs.Arriving as arrived
use Rattle.arrivals_tree.specs.Arriving.{arrivals_of}
use Rattle.arrivals_tree.specs.Arrived.{Arrives, horizon_limit}
use Rattle.arrivals_tree.specs.declared.arrivals.Arrivals as values
use Rattle.arrivals_read.specs.Answers as arriving
use Rattle.arrivals_read.specs.declared.fault.ArrivalFault.{ArrivalFault}
use Rattle.trace_tree.specs.declared.event.Event.{Event}
use Rattle.trace_tree.specs.Lines.{lines}
use Rattle.trace_tree.specs.Exclusion.{Exclusive}
use Rattle.machine.specs.Meanings.{Meaning}
use Rattle.hrthood_top.specs.declared.file_kind.FileKind.TheVariants.{Ada, Arrivals}
use Rattle.hrthood_top.specs.declared.replay.ReplayRefusal.{ReplayRefusal}
use Rattle.hrthood_top.specs.declared.replay.ReplayRefusal.TheVariants as refusal
use Rattle.bridge.specs.declared.halt.Halt.{Halt}
use Rattle.bridge.specs.declared.halt.Halt.TheVariants as halt
use Rattle.hrthood_top.specs.Messages.{arrivals_line, text_line, unit_line}
use Rattle.hrthood_top.specs.Verbs.{Verb}
use Rattle.hrthood_top.specs.Violations.{EndsAt, RunsOut, Violation, violation_line}

-- a text is the trace of a program under arrivals: the lines of what the program means, in which no object is inside two operations
pub record IsTrace (p : Program) (a : arrived.Arrivals) (told : List Event) (text : List ℕ) : Type 0 where
  pub means : Meaning p a told
  pub exclusive : Exclusive told
  pub whole : text ≡ lines p told

-- an Ada text says this program, and no other one
pub record SaysProgram (ada : List ℕ) (p : Program) : Type 0 where
  pub accepts : Accepts ada p
  pub alone : (q : Program) → Accepts ada q → q ≡ p

-- an arrivals text says these arrivals of a program, and no other ones
pub record SaysArrivals (arrivals : List ℕ) (p : Program) (a : arrived.Arrivals) : Type 0 where
  pub arrives : Arrives horizon_limit arrivals p a
  pub alone : (b : arrived.Arrivals) → Arrives horizon_limit arrivals p b → b ≡ a

-- an Ada text and an arrivals text give this text: the trace of the program that the first says, under the arrivals that the second
-- says of it
pub record Traces (ada arrivals : List ℕ) (told : List Event) (written : List ℕ) : Type 0 where
  pub program : Program
  pub under : arrived.Arrivals
  pub says : SaysProgram ada program
  pub arriving : SaysArrivals arrivals program under
  pub trace : IsTrace program under told written

-- they replay to this: a trace up to the horizon
pub record Replays (ada arrivals written : List ℕ) : Type 0 where
  pub told : List Event
  pub traces : Traces ada arrivals told written
  pub runs_out : RunsOut told

-- they replay to this up to the stop at a violated ceiling, which is the last of the trace
pub record StopsAt (ada arrivals written : List ℕ) (v : Violation) : Type 0 where
  pub told : List Event
  pub traces : Traces ada arrivals told written
  pub ends : EndsAt traces.program told v

-- an Ada text and an arrivals text that can be replayed: they say a program and arrivals, under which what the program means has no stop
pub record CanReplay (ada arrivals : List ℕ) : Type 0 where
  pub program : Program
  pub under : arrived.Arrivals
  pub accepts : Accepts ada program
  pub arrives : Arrives horizon_limit arrivals program under
  pub told : List Event
  pub means : Meaning program under told
  pub runs_out : RunsOut told

-- an Ada text says a program, and the arrivals text is none for it, for this reason
pub record IsAdaAlone (ada arrivals : List ℕ) (found : ArrivalFault) : Type 0 where
  pub program : Program
  pub says : SaysProgram ada program
  pub none : arriving.Refuses arrivals program found

-- why two texts are not replayed: the Ada text is no text of a program, or its program breaks a rule, or the arrivals text is none for it
abbrev pub RefusesReplay : List ℕ → List ℕ → ReplayRefusal → Type 0
RefusesReplay ada arrivals (refusal.Text found) = Faults ada found
RefusesReplay ada arrivals (refusal.Unit rule unit) = Breaks ada rule unit
RefusesReplay ada arrivals (refusal.Arrivals found) = IsAdaAlone ada arrivals found

-- the line that tells it
abbrev pub replay_line : ReplayRefusal → List ℕ
replay_line (refusal.Text found) = text_line Ada found
replay_line (refusal.Unit rule unit) = unit_line rule unit
replay_line (refusal.Arrivals found) = arrivals_line found

-- the program of an Ada text, or why there is none
abbrev pub ReadsAda : Result AdaProgram (Halt ReplayRefusal) → List ℕ → Type 0
ReadsAda (Ok p) ada = SaysProgram ada (program_of p)
ReadsAda (Err (halt.Refused (refusal.Text found))) ada = Faults ada found
ReadsAda (Err (halt.Refused (refusal.Unit rule unit))) ada = Breaks ada rule unit
ReadsAda (Err (halt.Refused (refusal.Arrivals found))) ada = ⊥
ReadsAda (Err halt.NoMemory) ada = ⊤

-- the arrivals for a program, or why there are none, where an Ada text says the program
abbrev pub ReadsArrivals : Result values.Arrivals (Halt ReplayRefusal) → List ℕ → List ℕ → Program → Type 0
ReadsArrivals (Ok a) ada arrivals p = SaysArrivals arrivals p (arrivals_of a)
ReadsArrivals (Err (halt.Refused refused)) ada arrivals p = SaysProgram ada p → RefusesReplay ada arrivals refused
ReadsArrivals (Err halt.NoMemory) ada arrivals p = ⊤

-- the verb
abbrev pub replays : List ℕ → List ℕ → Verb
replays ada arrivals = record {
  files = record { kind = Ada; name = ada } ∷ record { kind = Arrivals; name = arrivals } ∷ [];
  Makes = λ texts written. Replays (texts Ada) (texts Arrivals) written;
  Refusal = ReplayRefusal;
  Refuses = λ texts refused. RefusesReplay (texts Ada) (texts Arrivals) refused;
  line = replay_line;
  Stop = Violation;
  Stops = λ texts written v. StopsAt (texts Ada) (texts Arrivals) written v;
  stop_line = violation_line;
  CanDo = λ texts. CanReplay (texts Ada) (texts Arrivals);
}
