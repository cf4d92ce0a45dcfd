-- What a replay of two texts has written and told.
use Rattle.std.proofs.Common.{◌≡◌, ℕ, List, Option, Result, Ok, Err, refl, sym, subst, inl, inr}
use Rattle.std.specs.Prelude.{◌⊎◌}
use Rattle.machine.specs.Meanings.{Running, Tells, Meaning, begun}
use Rattle.arrivals_tree.specs.Arriving.{Arrivals}
use Rattle.arrivals_tree.specs.Arrived.{horizon_limit}
use Rattle.ada_tree.specs.Programs.{Program}
use Rattle.ceil_runtime.specs.Replayable.{IsReplayable}
use Rattle.law_ceilings.proofs.Shared.Programs.{exclusive}
use Rattle.trace_tree.specs.declared.event.Event.{Event}
use Rattle.trace_tree.specs.Lines.{lines}
use Rattle.hood_io.specs.Causes.{HasCause}
use Rattle.bridge.specs.declared.halt.Halt.{Halt}
use Rattle.bridge.specs.declared.halt.Halt.TheVariants.{Refused, NoMemory}
use Rattle.hrthood_top.specs.declared.replay.ReplayRefusal.{ReplayRefusal}
use Rattle.hrthood_top.specs.declared.replay.ReplayRefusal.TheVariants as refusal
use Rattle.hrthood_top.specs.declared.status.Status.{Status}
use Rattle.hrthood_top.specs.declared.file_kind.FileKind.TheVariants as kind
use Rattle.hrthood_top.specs.declared.violation.Ending.{Ending}
use Rattle.hrthood_top.specs.declared.violation.Ending.TheVariants.{Horizon, Stopped}
use Rattle.hrthood_top.specs.Files.{Texts}
use Rattle.hrthood_top.specs.Replays.{Replays, StopsAt, Traces, RefusesReplay, ReadsAda, ReadsArrivals, SaysProgram, SaysArrivals, replays}
use Rattle.hrthood_top.specs.Streaming.{PutsRun, violation_of}
use Rattle.hrthood_top.specs.Violations.{EndsAt, RunsOut, Violation}
use Rattle.hrthood_top.specs.Writing.{Streams, TellsEnding}
use Rattle.hrthood_top.proofs.RunEnds.{meaning-ends}
use Rattle.hrthood_top.proofs.Streamed.{IsHalted}

-- an Ada text that says no program
pub ada-halted : (ada arrivals : List ℕ) (why : Halt ReplayRefusal) → ReadsAda (Err why) ada → IsHalted (RefusesReplay ada arrivals) why
ada-halted ada arrivals (Refused (refusal.Text found)) h = h
ada-halted ada arrivals (Refused (refusal.Unit rule unit)) h = h
ada-halted ada arrivals (Refused (refusal.Arrivals found)) h = absurd h
ada-halted ada arrivals NoMemory h = tt

-- an arrivals text that says none of it
pub arrivals-halted : (ada arrivals : List ℕ) (p : Program) (why : Halt ReplayRefusal) → SaysProgram ada p → ReadsArrivals (Err why) ada arrivals p
    → IsHalted (RefusesReplay ada arrivals) why
arrivals-halted ada arrivals p (Refused refused) says h = h says
arrivals-halted ada arrivals p NoMemory says h = tt

-- both say something that can be run
pub texts-replayable : (ada arrivals : List ℕ) (p : Program) (a : Arrivals) → SaysProgram ada p → SaysArrivals arrivals p a → IsReplayable p a
texts-replayable ada arrivals p a s r = record { proper = s.accepts.reads.proper; meets = s.accepts.meets; accepted = r.arrives.accepted }

-- what a run tells is a trace
abbrev pub traced : (ada arrivals : List ℕ) (p : Program) (a : Arrivals) (told : List Event) → SaysProgram ada p → SaysArrivals arrivals p a
    → Meaning p a told → Traces ada arrivals told (lines p told)
traced ada arrivals p a told says arriving means = record {
  program = p;
  under = a;
  says = says;
  arriving = arriving;
  trace = record { means = means; exclusive = exclusive horizon_limit p a told says.accepts.meets arriving.arrives.accepted means; whole = refl };
}

-- such a trace comes to the horizon, or to a stop
replays_or_stops : (ada arrivals : List ℕ) (p : Program) (a : Arrivals) (told : List Event) → SaysProgram ada p → SaysArrivals arrivals p a
    → Meaning p a told
    → Replays ada arrivals (lines p told) ⊎ ((v : Violation) × StopsAt ada arrivals (lines p told) v)
replays_or_stops ada arrivals p a told says arriving means = by (meaning-ends p a told means)
  where
    trace : Traces ada arrivals told (lines p told)
    trace = traced ada arrivals p a told says arriving means

    by : RunsOut told ⊎ ((v : Violation) × EndsAt p told v) → Replays ada arrivals (lines p told)
        ⊎ ((v : Violation) × StopsAt ada arrivals (lines p told) v)
    by (inl out) = inl (record { told = told; traces = trace; runs_out = out })
    by (inr (v, h)) = inr (v, record { told = told; traces = trace; ends = h })

-- the lines of a run from its opening on are put
pub streams-run : {E : Type 0} (x y : List ℕ) (texts : Texts) (p : Program) (a : Arrivals) (m : Running) (ran : Result Ending E) (ended : Status)
    (out out' : Option (List ℕ)) (faults faults' : ℕ) (err err' : Option (List ℕ)) (told told' : ℕ)
    → SaysProgram (texts kind.Ada) p → SaysArrivals (texts kind.Arrivals) p a → m ≡ begun p a → PutsRun p m out out' ran → HasCause faults faults' ran
    → TellsEnding ran ended err err' told told'
    → Streams (replays x y) texts ended out out' faults faults' err err' told told'
streams-run x y texts p a m (Ok Horizon) ended out out' faults faults' err err' told told' says arriving opens puts cause t =
    let S : Status → Type 0 = λ z. Streams (replays x y) texts z out out' faults faults' err err' told told' in
    let means = subst (λ (r : Running). Tells r puts.0) opens puts.1 in
    let made : Replays (texts kind.Ada) (texts kind.Arrivals) (lines p puts.0) =
    record { told = puts.0; traces = traced (texts kind.Ada) (texts kind.Arrivals) p a puts.0 says arriving means; runs_out = puts.2 } in
    subst S (sym t.0) (lines p puts.0, made, puts.3, t.1)
streams-run x y texts p a m (Ok (Stopped v)) ended out out' faults faults' err err' told told' says arriving opens puts cause t =
    let S : Status → Type 0 = λ z. Streams (replays x y) texts z out out' faults faults' err err' told told' in
    let means = subst (λ (r : Running). Tells r puts.0) opens puts.1 in
    let stops : StopsAt (texts kind.Ada) (texts kind.Arrivals) (lines p puts.0) (violation_of v) =
    record { told = puts.0; traces = traced (texts kind.Ada) (texts kind.Arrivals) p a puts.0 says arriving means; ends = puts.2 } in
    subst S (sym t.0) (inr (violation_of v, lines p puts.0, stops, puts.3, t.1))
streams-run x y texts p a m (Err e) ended out out' faults faults' err err' told told' says arriving opens puts cause t =
    let S : Status → Type 0 = λ z. Streams (replays x y) texts z out out' faults faults' err err' told told' in
    let means = subst (λ (r : Running). Tells r puts.0) opens puts.1 in
    let either = replays_or_stops (texts kind.Ada) (texts kind.Arrivals) p a puts.0 says arriving means in
    subst S (sym t.0) (lines p puts.0, either, (puts.2.0, puts.2.1, puts.2.2, cause.failed, t.1))
