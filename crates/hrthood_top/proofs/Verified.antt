-- What is verified of a design and an arrivals text: its text, and the trace of that text, which never stops.
use Rattle.std.proofs.Common.{◌≡◌, ℕ, List, ◌++◌, Option, Result, Ok, Err, sym, subst, append_assoc, inl}
use Rattle.seq_tree.specs.Proper.{within_limits}
use Rattle.seq_tree.specs.declared.text_fault.TextFault.{TextFault}
use Rattle.ods_tree.specs.Designs as designs
use Rattle.ods_tree.specs.Proper.{IsProperDesign}
use Rattle.ods_tree.specs.Ticks.{in_ticks}
use Rattle.ods_tree.specs.Words.{is_design_name}
use Rattle.design_rules.specs.Rules.{MeetsRules}
use Rattle.law_designs.proofs.Shared.ReadablePrograms.{program-readable}
use Rattle.law_designs.proofs.Shared.SoundDesigns.{flat-sound, flat-spaced}
use Rattle.law_designs.proofs.Shared.TabledTasks.{sound-tabled}
use Rattle.law_ceilings.proofs.Shared.Ceiled.{is-ceiled}
use Rattle.law_ceilings.proofs.Shared.Stopping.{rest-goes-on}
use Rattle.ada_tree.specs.Programs.{Program}
use Rattle.ada_read.specs.Answers.{Faults}
use Rattle.ada_read.proofs.Shared.ReadingLaws.{reads-unfaulty}
use Rattle.arrivals_tree.specs.Arriving.{Arrivals}
use Rattle.arrivals_tree.specs.Arrived.{Arrives, horizon_limit}
use Rattle.arrivals_read.specs.Answers as arriving
use Rattle.arrivals_read.specs.declared.fault.ArrivalFault.{ArrivalFault}
use Rattle.arrivals_read.specs.declared.fault.ArrivalFault.TheVariants as fault
use Rattle.guarantee.specs.Programs.{program}
use Rattle.bridge.specs.Delivers.{IsTextFor}
use Rattle.hood_io.specs.Causes.{HasCause}
use Rattle.hood_io.specs.Sinks.{Appends}
use Rattle.hood_io.proofs.Shared.Appending.{appends-twice, puts-behind}
use Rattle.machine.specs.Meanings.{Running, Tells, Meaning, begun}
use Rattle.machine.specs.Systems.{system}
use Rattle.trace_tree.specs.declared.event.Event.{Event}
use Rattle.trace_tree.specs.Lines.{lines}
use Rattle.hrthood_top.specs.declared.file_kind.FileKind.TheVariants as kind
use Rattle.hrthood_top.specs.declared.generate.GenerateRefusal.{GenerateRefusal}
use Rattle.bridge.specs.declared.halt.Halt.{Halt}
use Rattle.bridge.specs.declared.halt.Halt.TheVariants as halt
use Rattle.hrthood_top.specs.declared.status.Status.{Status}
use Rattle.hrthood_top.specs.declared.violation.Ending.{Ending}
use Rattle.hrthood_top.specs.declared.violation.Ending.TheVariants.{Horizon, Stopped}
use Rattle.hrthood_top.specs.Files.{Texts}
use Rattle.hrthood_top.specs.Generates.{RefusesDesign}
use Rattle.hrthood_top.specs.Replays.{Replays, SaysProgram, SaysArrivals}
use Rattle.hrthood_top.specs.Streaming.{IsCut, PutsRun, violation_of}
use Rattle.hrthood_top.specs.Verifies.{IsVerified, IsTextAlone, RefusesVerify, PutsBehind, halted_arrivals, halted_design, trace_mark, verifies}
use Rattle.hrthood_top.specs.Violations.{RunsOut}
use Rattle.hrthood_top.specs.Writing.{Streams, TellsEnding}
use Rattle.hrthood_top.proofs.Gathering.{cut-more}
use Rattle.hrthood_top.proofs.Replayed.{traced}
use Rattle.hrthood_top.proofs.Replaying.{accepted_text, right_trace}
use Rattle.hrthood_top.proofs.RunEnds.{runs-out-unstopped}
use Rattle.hrthood_top.proofs.Streamed.{IsHalted}

-- a text that was made of a design has no fault, and breaks no rule
pub made-unfaulty : (design made : List ℕ) (found : TextFault) → IsTextFor design made → Faults made found → ⊥
made-unfaulty design made found w h = reads-unfaulty made (program (in_ticks w.design)) found (accepted_text design made w).reads h

-- what was read is what the text says
pub said-arrivals : (arrivals : List ℕ) (p : Program) (a : Arrivals) → Arrives horizon_limit arrivals p a
    → ((b : Arrivals) → Arrives horizon_limit arrivals p b → a ≡ b) → SaysArrivals arrivals p a
said-arrivals arrivals p a arrives only = record { arrives = arrives; alone = λ b h. sym (only b h) }

-- why nothing is verified
pub design-halted : (design arrivals : List ℕ) (why : Halt GenerateRefusal) → IsHalted (RefusesDesign design) why
    → IsHalted (RefusesVerify design arrivals) (halted_design why)
design-halted design arrivals (halt.Refused refusal) h = h
design-halted design arrivals halt.NoMemory h = tt

alone : (design arrivals text : List ℕ) (p : Program) (found : ArrivalFault) → IsTextFor design text → SaysProgram text p
    → arriving.Refuses arrivals p found → IsTextAlone design arrivals found
alone design arrivals text p found made says h = record { text = text; made = made; alone = record { program = p; says = says; none = h } }

pub arrivals-unsaid : (design arrivals text : List ℕ) (p : Program) (found : ArrivalFault) → IsTextFor design text → SaysProgram text p
    → arriving.Says arrivals p (Err found)
    → IsHalted (RefusesVerify design arrivals) (halted_arrivals found)
arrivals-unsaid design arrivals text p (fault.Text f) made says h = alone design arrivals text p (fault.Text f) made says h
arrivals-unsaid design arrivals text p (fault.Q1 line) made says h = alone design arrivals text p (fault.Q1 line) made says h
arrivals-unsaid design arrivals text p (fault.Q2 line name) made says h = alone design arrivals text p (fault.Q2 line name) made says h
arrivals-unsaid design arrivals text p (fault.Q3 line object) made says h = alone design arrivals text p (fault.Q3 line object) made says h
arrivals-unsaid design arrivals text p (fault.Q4 value limit) made says h = alone design arrivals text p (fault.Q4 value limit) made says h
arrivals-unsaid design arrivals text p (fault.Q5 line) made says h = alone design arrivals text p (fault.Q5 line) made says h
arrivals-unsaid design arrivals text p fault.NoMemory made says h = tt

-- the lines of a run behind what was written before
pub behind-run : {E : Type 0} (front : List ℕ) (p : Program) (m : Running) (before mid now : Option (List ℕ)) (ran : Result Ending E)
    → Appends before mid front → PutsRun p m mid now ran → PutsBehind front p m before now ran
behind-run front p m before mid now (Ok ending) first puts
    = (puts.0, puts.1, puts.2, appends-twice before mid now front (lines p puts.0) first puts.3)
behind-run front p m before mid now (Err e) first puts
    = (puts.0, puts.1, puts-behind {E = Unit {0}} before mid now front (lines p puts.0) (Err tt) first puts.2)

-- what stands before them was not written whole
pub front-cut : {E : Type 0} (front : List ℕ) (p : Program) (m : Running) (before now : Option (List ℕ)) (e : E) → IsCut front before now
    → (told : List Event) × Tells m told → PutsBehind {E = E} front p m before now (Err e)
front-cut front p m before now e cut rest = (rest.0, rest.1, cut-more front (lines p rest.0) before now cut)

-- no run of the program of a design stops
design-runs-out : (x : designs.Design) (a : Arrivals) (told : List Event) → IsProperDesign (within_limits is_design_name) x → MeetsRules x
    → Meaning (program (in_ticks x)) a told → RunsOut told
design-runs-out x a told proper meets means =
    let p : Program = program (in_ticks x) in
    let t = sound-tabled (in_ticks x) (flat-sound x (in_ticks x) meets) (flat-spaced x (in_ticks x) meets) in
    rest-goes-on (system p a) (is-ceiled p a (program-readable x proper meets).1 t.tabled.ceilings t.tabled.inner_ceilings) a.items told means

pub made-runs-out : (design made : List ℕ) (p : Program) (a : Arrivals) (told : List Event) → IsTextFor design made → SaysProgram made p
    → Meaning p a told → RunsOut told
made-runs-out design made p a told w says means =
    let M : Program → Type 0 = λ q. Meaning q a told in
    design-runs-out w.design a told w.reads.proper w.meets
    (subst M (sym (says.alone (program (in_ticks w.design)) (accepted_text design made w))) means)

-- the text and the trace
abbrev pub verified : (design arrivals made : List ℕ) (p : Program) (a : Arrivals) (told : List Event) → IsTextFor design made → SaysProgram made p
    → SaysArrivals arrivals p a → Meaning p a told
    → IsVerified design arrivals ((made ++ trace_mark) ++ lines p told)
verified design arrivals made p a told w says arriving means =
    let replays : Replays made arrivals (lines p told) = record {
      told = told;
      traces = traced made arrivals p a told says arriving means;
      runs_out = made-runs-out design made p a told w says means;
    } in
    record {
      text = made;
      made = w;
      trace = lines p told;
      replays = replays;
      right = right_trace design made arrivals (lines p told) w replays;
      whole = append_assoc made trace_mark (lines p told);
    }

-- the text, and the lines of a run from its opening on, are put
pub streams-verified : {E : Type 0} (x y : List ℕ) (texts : Texts) (made : List ℕ) (p : Program) (a : Arrivals) (m : Running) (ran : Result Ending E)
    (ended : Status) (out out' : Option (List ℕ)) (faults faults' : ℕ) (err err' : Option (List ℕ)) (told told' : ℕ)
    → IsTextFor (texts kind.Design) made → SaysProgram made p → SaysArrivals (texts kind.Arrivals) p a → m ≡ begun p a
    → PutsBehind (made ++ trace_mark) p m out out' ran → HasCause faults faults' ran
    → TellsEnding ran ended err err' told told' → Streams (verifies x y) texts ended out out' faults faults' err err' told told'
streams-verified x y texts made p a m (Ok Horizon) ended out out' faults faults' err err' told told' w says arriving opens puts cause t =
    let S : Status → Type 0 = λ z. Streams (verifies x y) texts z out out' faults faults' err err' told told' in
    let means = subst (λ (r : Running). Tells r puts.0) opens puts.1 in
    subst S (sym t.0) (
      (made ++ trace_mark) ++ lines p puts.0,
      verified (texts kind.Design) (texts
          kind.Arrivals) made p a puts.0 w says arriving means,
      puts.3,
      t.1,
    )
streams-verified x y texts made p a m (Ok (Stopped v)) ended out out' faults faults' err err' told told' w says arriving opens puts cause t =
    let means = subst (λ (r : Running). Tells r puts.0) opens puts.1 in
    absurd (runs-out-unstopped p puts.0 (violation_of v) (made-runs-out (texts kind.Design) made p a puts.0 w says means) puts.2)
streams-verified x y texts made p a m (Err e) ended out out' faults faults' err err' told told' w says arriving opens puts cause t =
    let S : Status → Type 0 = λ z. Streams (verifies x y) texts z out out' faults faults' err err' told told' in
    let means = subst (λ (r : Running). Tells r puts.0) opens puts.1 in
    subst S (sym t.0) (
      (made ++ trace_mark) ++ lines p puts.0,
      inl (verified (texts kind.Design) (texts kind.Arrivals) made p a puts.0 w says arriving
          means),
      (puts.2.0, puts.2.1, puts.2.2, cause.failed, t.1),
    )
