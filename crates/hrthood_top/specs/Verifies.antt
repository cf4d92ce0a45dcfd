-- The verb `verify`: the Ada text of a design, and the trace of that text under arrivals.
-- The design's machine allows the trace, and each activation ends within its bound.
use Rattle.std.specs.Prelude.{◌≡◌, ℕ, List, [], ◌∷◌, ◌++◌, codes, Option, Result, Ok, Err}
use Rattle.ods_tree.specs.Ticks.{in_ticks}
use Rattle.ada_tree.specs.Programs.{Program}
use Rattle.arrivals_tree.specs.Arriving as arrived
use Rattle.arrivals_tree.specs.Arrived.{Arrives, horizon_limit}
use Rattle.arrivals_read.specs.declared.fault.ArrivalFault.{ArrivalFault}
use Rattle.arrivals_read.specs.declared.fault.ArrivalFault.TheVariants as fault
use Rattle.guarantee.specs.Programs.{program}
use Rattle.bridge.specs.Delivers.{IsTextFor}
use Rattle.machine.specs.Meanings.{Running, Tells}
use Rattle.hood_io.specs.Sinks.{Appends}
use Rattle.trace_tree.specs.declared.event.Event.{Event}
use Rattle.trace_tree.specs.Lines.{lines}
use Rattle.hrthood_top.specs.declared.file_kind.FileKind.TheVariants as kind
use Rattle.hrthood_top.specs.declared.generate.GenerateRefusal.{GenerateRefusal}
use Rattle.bridge.specs.declared.halt.Halt.{Halt}
use Rattle.bridge.specs.declared.halt.Halt.TheVariants as halt
use Rattle.hrthood_top.specs.declared.verify.VerifyRefusal.{VerifyRefusal}
use Rattle.hrthood_top.specs.declared.verify.VerifyRefusal.TheVariants.{Design, Arrivals}
use Rattle.hrthood_top.specs.declared.violation.Ending.{Ending}
use Rattle.hrthood_top.specs.Generates.{CanGenerate, RefusesDesign, generate_line}
use Rattle.hrthood_top.specs.Messages.{arrivals_line}
use Rattle.hrthood_top.specs.Replays.{IsAdaAlone, Replays}
use Rattle.hrthood_top.specs.RightTraces.{IsRightTrace}
use Rattle.hrthood_top.specs.Streaming.{EndsSo, IsCut}
use Rattle.hrthood_top.specs.Verbs.{Verb}

-- the line between the text and the trace
abbrev pub trace_mark : List ℕ
trace_mark = codes "-- trace\n"

-- a design and an arrivals text give this: the text of the design, a line, and what that text replays to, a trace that the design allows within
-- its bounds
pub record IsVerified (design arrivals written : List ℕ) : Type 0 where
  pub text : List ℕ
  pub made : IsTextFor design text
  pub trace : List ℕ
  pub replays : Replays text arrivals trace
  pub right : IsRightTrace design text arrivals trace
  pub whole : written ≡ text ++ (trace_mark ++ trace)

-- the arrivals text is none for the text of the design, for this reason
pub record IsTextAlone (design arrivals : List ℕ) (found : ArrivalFault) : Type 0 where
  pub text : List ℕ
  pub made : IsTextFor design text
  pub alone : IsAdaAlone text arrivals found

-- why a design and an arrivals text are not verified: no text is made of the design, or the arrivals text is none for its text
abbrev pub RefusesVerify : List ℕ → List ℕ → VerifyRefusal → Type 0
RefusesVerify design arrivals (Design refusal) = RefusesDesign design refusal
RefusesVerify design arrivals (Arrivals found) = IsTextAlone design arrivals found

-- the line that tells it
abbrev pub verify_line : VerifyRefusal → List ℕ
verify_line (Design refusal) = generate_line refusal
verify_line (Arrivals found) = arrivals_line found

-- why no text is made, as why nothing is verified
abbrev pub halted_design : Halt GenerateRefusal → Halt VerifyRefusal
halted_design (halt.Refused refusal) = halt.Refused (Design refusal)
halted_design halt.NoMemory = halt.NoMemory

-- why there are no arrivals, as why nothing is verified
abbrev pub halted_arrivals : ArrivalFault → Halt VerifyRefusal
halted_arrivals fault.NoMemory = halt.NoMemory
halted_arrivals found = halt.Refused (Arrivals found)

-- a design of which a text is made, and an arrivals text that says arrivals for its program
pub record CanVerify (design arrivals : List ℕ) : Type 0 where
  pub can : CanGenerate design
  pub under : arrived.Arrivals
  pub arrives : Arrives horizon_limit arrivals (program (in_ticks can.design)) under

-- what stands before the lines of a run, and all of these, are written, and how the run ended; or after a failure a proper front of them
abbrev pub PutsBehind : {E : Type 0} → List ℕ → Program → Running → Option (List ℕ) → Option (List ℕ) → Result Ending E → Type 0
PutsBehind front p run before now (Ok ending) = (told : List Event) × Tells run told × EndsSo p ending told
    × Appends before now (front ++ lines p told)
PutsBehind front p run before now (Err e) = (told : List Event) × Tells run told × IsCut (front ++ lines p told) before now

-- the verb; it never stops
abbrev pub verifies : List ℕ → List ℕ → Verb
verifies design arrivals = record {
  files = record { kind = kind.Design; name = design } ∷ record { kind = kind.Arrivals; name = arrivals } ∷ [];
  Makes = λ texts written. IsVerified (texts kind.Design) (texts kind.Arrivals) written;
  Refusal = VerifyRefusal;
  Refuses = λ texts refused. RefusesVerify (texts kind.Design) (texts kind.Arrivals) refused;
  line = verify_line;
  Stop = ⊥;
  Stops = λ texts text stop. ⊥;
  stop_line = λ stop. [];
  CanDo = λ texts. CanVerify (texts kind.Design) (texts kind.Arrivals);
}
