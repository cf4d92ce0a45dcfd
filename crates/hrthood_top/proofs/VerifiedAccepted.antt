-- That the trace of a design that is verified is accepted as a trace of the design, however a run of `accepts` ends that has it in a file.
use Rattle.std.proofs.Common.{◌≡◌, ℕ, List, [], length, Option, Some, refl, sym, subst}
use Rattle.std.specs.Prelude.{IfSome}
use Rattle.std.proofs.lemmas.List.{length-map}
use Rattle.seq_tree.specs.Lists.{Each}
use Rattle.ods_tree.specs.Ticks.{in_ticks}
use Rattle.ada_tree.specs.Programs.{Program}
use Rattle.arrivals_tree.specs.Arrived.{Arrives, horizon_limit}
use Rattle.machine.specs.Meanings.{Meaning}
use Rattle.trace_tree.specs.Lines.{lines}
use Rattle.guarantee.specs.Allowed.{Permits}
use Rattle.guarantee.specs.Arrivals.{named_arrivals}
use Rattle.guarantee.specs.Events.{named, named_event}
use Rattle.guarantee.specs.Programs.{program}
use Rattle.guarantee.specs.Software.{software}
use Rattle.hood_io.specs.Shelves.{Told}
use Rattle.hood_io.specs.Sinks.{Appends}
use Rattle.law_traces.specs.Told.{IsEvent}
use Rattle.law_event_lines.proofs.Shared.Events.{design-events}
use Rattle.law_replays.proofs.Shared.RightReplays.{right-replay}
use Rattle.hrthood_words.specs.Words.{Command, Verify, Accepts, command_of}
use Rattle.hrthood_top.specs.declared.file_kind.FileKind.{FileKind}
use Rattle.hrthood_top.specs.declared.file_kind.FileKind.TheVariants as kind
use Rattle.hrthood_top.specs.declared.status.Status.{Status}
use Rattle.hrthood_top.specs.declared.status.Status.TheVariants as status
use Rattle.hrthood_top.specs.Acceptances.{IsAcceptedSo, acceptances, yes_line}
use Rattle.hrthood_top.specs.Commands.{verb_of}
use Rattle.hrthood_top.specs.Ends.{Outside, Writes, Refuses, Ends, EndsVerb}
use Rattle.hrthood_top.specs.Files.{HoldsAll}
use Rattle.hrthood_top.specs.TwoRuns.{IsDone, EndsWithYes, IsVerifiedTrace}
use Rattle.hrthood_top.specs.Verifies.{IsVerified}
use Rattle.hrthood_top.proofs.AcceptanceLaws.{acceptances-exact, one-accepted}
use Rattle.hrthood_top.proofs.Replaying.{accepted_text, what_is_written}
use Rattle.hrthood_top.proofs.VerbLaws.{not-written, one_file}

-- bytes for each kind of files
abbrev texts_for : (design arrivals trace : List ℕ) → FileKind → List ℕ
texts_for design arrivals trace kind.Design = design
texts_for design arrivals trace kind.Ada = []
texts_for design arrivals trace kind.Arrivals = arrivals
texts_for design arrivals trace kind.Trace = trace

module _ (design arrivals written : List ℕ) (w : IsVerified design arrivals written) where
  abbrev p : Program
  p = program (in_ticks w.made.design)

  same : p ≡ w.replays.traces.program
  same = w.replays.traces.says.alone p (accepted_text design w.text w.made)

  arrives : Arrives horizon_limit arrivals p w.replays.traces.under
  arrives = (let A : Program → Type 0 = λ q. Arrives horizon_limit arrivals q w.replays.traces.under in
      subst A (sym same) w.replays.traces.arriving.arrives)

  -- what it tells are events of the program
  events : Each (IsEvent p) w.replays.told
  events = (let M : Program → Type 0 = λ q. Meaning q w.replays.traces.under w.replays.told in
      design-events w.made.design design w.made.reads w.made.meets arrivals w.replays.traces.under w.replays.told arrives
      (subst M (sym same) w.replays.traces.trace.means))

  pub verified-accepted : IsAcceptedSo design arrivals w.trace (yes_line (length w.replays.told))
  verified-accepted =
      let t = w.replays.traces in
      let told = w.replays.told in
      let right = right-replay horizon_limit w.made.design w.text w.made.bounds t.program t.under told w.made.reads.proper w.made.meets
      w.made.least.fits (accepted_text design w.text w.made) t.says.accepts t.arriving.arrives.accepted t.trace.means in
      let W : Program → Type 0 = λ q. w.trace ≡ lines q told in
      let P : Program → Type 0 = λ q. Permits (software (in_ticks w.made.design)) (named_arrivals q t.under) (named q told) in (
        in_ticks w.made.design,
        record { design = w.made.design; reads = w.made.reads; meets = w.made.meets; ticked = refl },
        (
          length told,
          record {
            under = t.under;
            arrives = arrives;
            verdict = (told, events, subst W (sym same) t.trace.whole, (subst P (sym same) right.0, sym (length-map told (named_event p))));
          },
          refl,
        ),
      )

-- a run of `accepts` over files that hold these
module _ (design arrivals trace : List ℕ) (n : ℕ) (yes : IsAcceptedSo design arrivals trace (yes_line n)) (d r f : List ℕ) (s : Told)
    (held : HoldsAll s (acceptances d r f).files (texts_for design arrivals trace)) where
  writes : Writes s (acceptances d r f) (yes_line n)
  writes = (texts_for design arrivals trace, held, yes)

  one-line : (written : List ℕ) → Writes s (acceptances d r f) written → written ≡ yes_line n
  one-line written h =
      let a : h.0 kind.Design ≡ design = one_file s d (h.0 kind.Design) design h.1.0.0 held.0.0 in
      let b : h.0 kind.Arrivals ≡ arrivals = one_file s r (h.0 kind.Arrivals) arrivals h.1.1.0.0 held.1.0.0 in
      let c : h.0 kind.Trace ≡ trace = one_file s f (h.0 kind.Trace) trace h.1.1.1.0.0 held.1.1.0.0 in
      one-accepted design arrivals trace written (yes_line n) (rw (← a, ← b, ← c) h.2) yes

  ends-with-yes : (u v : Outside) (ended : Status) → u.told ≡ Some s → EndsVerb ended (acceptances d r f) u v → EndsWithYes ended n u v
  ends-with-yes u v status.Done e h =
      let W : Option Told → Type 0 = λ o. IfSome o (λ t. Writes t (acceptances d r f) h.0) in
      let A : List ℕ → Type 0 = λ z. Appends u.out v.out z in
      subst A (one-line h.0 (subst W e h.2)) h.1
  ends-with-yes u v status.Refused e h =
      let R : Option Told → Type 0 = λ o. IfSome o (λ t. Refuses t (acceptances d r f) h.0) in
      not-written s (acceptances d r f) h.0 (yes_line n) (acceptances-exact d r f) (subst R e h.1) writes
  ends-with-yes u v status.Usage e h = h
  ends-with-yes u v status.ReadFault e h = h.6
  ends-with-yes u v status.WriteFault e h = h.5
  ends-with-yes u v status.NoMemory e h = tt

-- how a command ends is how its verb does
pub ends-verb : (ended : Status) (c : Command) (u v : Outside) → Ends ended (Some c) u v → EndsVerb ended (verb_of c) u v
ends-verb status.Done c u v h = h
ends-verb status.Refused c u v h = h
ends-verb status.Usage c u v h = h
ends-verb status.ReadFault c u v h = h
ends-verb status.WriteFault c u v h = h
ends-verb status.NoMemory c u v h = h

pub verified-trace : (words : List (List ℕ)) (d r written : List ℕ) (x y : Outside) (t : Told) → IsDone words (Verify d r) x y t written
    → IsVerifiedTrace t d r written
verified-trace words d r written x y t done =
    let h = what_is_written words (Verify d r) x y t written done in
    let design : List ℕ = h.0 kind.Design in
    let arrivals : List ℕ = h.0 kind.Arrivals in
    let w : IsVerified design arrivals written = h.2 in
    record {
      design = design;
      arrivals = arrivals;
      design_file = h.1.0.0;
      arrivals_file = h.1.1.0.0;
      text = w.text;
      trace = w.trace;
      whole = w.whole;
      program = w.replays.traces.program;
      told = w.replays.told;
      is_lines = w.replays.traces.trace.whole;
      accepted = λ short others e q f u v s ended command ends told held under text.
          let E : Option Command → Type 0 = λ o. Ends ended o u v in
          ends-with-yes design arrivals w.trace (length w.replays.told) (verified-accepted design arrivals written w) e q f s
          ((held, h.1.0.1), ((under, h.1.1.0.1), ((text, short), tt))) u v ended told
          (ends-verb ended (Accepts e q f) u v (subst E command ends));
    }
