-- Examples: what `replay`, `verify` and `sample` write, and why they refuse. Each definition holds of all its parts, and without one of them it
-- doesn't.
use Rattle.std.specs.Prelude.{◌≡◌, ℕ, ◌<◌, List, [], ◌∷◌, ◌++◌, length, take, Option, Some, None, codes, refl}
use Rattle.seq_tree.specs.Names.{Name}
use Rattle.seq_tree.specs.declared.text_fault.TextFault.{TextFault}
use Rattle.ods_tree.specs.Designs.{Design}
use Rattle.ods_tree.specs.Flattening.{flat}
use Rattle.ods_tree.specs.Layout.{design_text}
use Rattle.ods_tree.specs.Ticks.{in_ticks, first_priority}
use Rattle.ods_tree.specs.Reading.{Reads}
use Rattle.design_rules.specs.Rules.{MeetsRules}
use Rattle.rt_response.specs.Response.{IsLeastVector}
use Rattle.rt_response.specs.declared.rows.Bound.{Bound}
use Rattle.analysis.specs.Tables.{table}
use Rattle.ada_tree.specs.Programs.{Program}
use Rattle.ada_tree.specs.Reading.{Accepts}
use Rattle.ada_read.specs.Answers.{Faults, Breaks}
use Rattle.ada_rules.specs.declared.verdict.AdaRule.TheVariants as rule
use Rattle.arrivals_tree.specs.Arriving.{Arrivals}
use Rattle.arrivals_tree.specs.Arrived.{Arrives, horizon_limit}
use Rattle.arrivals_read.specs.Answers as arriving
use Rattle.arrivals_read.specs.declared.fault.ArrivalFault.{ArrivalFault}
use Rattle.trace_tree.specs.declared.event.Event.{Event}
use Rattle.trace_tree.specs.declared.event.Event.TheVariants as event
use Rattle.trace_tree.specs.Lines.{lines}
use Rattle.trace_tree.specs.Exclusion.{Exclusive}
use Rattle.machine.specs.Meanings.{Meaning}
use Rattle.guarantee.specs.Events.{named}
use Rattle.guarantee.specs.Arrivals.{named_arrivals}
use Rattle.guarantee.specs.Allowed.{Allows}
use Rattle.guarantee.specs.Bounded.{IsBounded}
use Rattle.guarantee.specs.Programs.{program, responses}
use Rattle.trace_text.specs.Summaries.{summary}
use Rattle.design_bounds.specs.Rows.{named_bounds}
use Rattle.bridge.specs.Delivers.{IsTextFor}
use Rattle.sample_design.specs.Requests.{sample_arrivals}
use Rattle.sample_design.specs.Samples.{sample_design}
use Rattle.hrthood_top.specs.declared.file_kind.FileKind.TheVariants as kind
use Rattle.hrthood_top.specs.declared.generate.GenerateRefusal.TheVariants as generate
use Rattle.hrthood_top.specs.declared.replay.ReplayRefusal.TheVariants as replay
use Rattle.hrthood_top.specs.declared.verify.VerifyRefusal.TheVariants as verify
use Rattle.hrthood_top.specs.declared.status.Status.TheVariants as status
use Rattle.hrthood_top.specs.Files.{File, Texts}
use Rattle.hrthood_top.specs.Messages.{arrivals_line, text_line, unit_line}
use Rattle.hrthood_top.specs.Violations.{EndsAt, RunsOut, Violation, violation_line}
use Rattle.hrthood_top.specs.Generates.{CanGenerate, RefusesDesign, generate_line}
use Rattle.hrthood_top.specs.Replays.{IsTrace, SaysProgram, SaysArrivals, Replays, IsAdaAlone, replays}
use Rattle.hrthood_top.specs.RightTraces.{IsRightTrace}
use Rattle.law_chain_bounds.specs.Served.{Serves}
use Rattle.hrthood_top.specs.Verifies.{IsVerified, trace_mark, verifies}
use Rattle.hrthood_top.specs.Samples.{IsSummed, SummaryEnds, samples, text_bounds}

abbrev design_file : File
design_file = record { kind = kind.Design; name = codes "d" }

abbrev ada_file : File
ada_file = record { kind = kind.Ada; name = codes "a" }

abbrev arrivals_file : File
arrivals_file = record { kind = kind.Arrivals; name = codes "r" }

-- THE TRACE OF A PROGRAM
module _ (p : Program) (a : Arrivals) (told : List Event) (written : List ℕ) where
  trace : Meaning p a told → Exclusive told → written ≡ lines p told → IsTrace p a told written
  trace m x w = record { means = m; exclusive = x; whole = w }

  other_run : ¬ Meaning p a told → IsTrace p a told written → ⊥
  other_run never h = never h.means

  other_lines : ¬ (written ≡ lines p told) → IsTrace p a told written → ⊥
  other_lines never h = never h.whole

-- a run in which an object is inside two operations
two_inside : (p : Program) (a : Arrivals) (written : List ℕ) → IsTrace p a (event.Enter 1 0 5 0 [] ∷ event.Enter 2 1 5 0 [] ∷ []) written → ⊥
two_inside p a written h = h.exclusive 5

-- WHAT TWO TEXTS SAY
module _ (ada : List ℕ) (p : Program) where
  says : Accepts ada p → ((q : Program) → Accepts ada q → q ≡ p) → SaysProgram ada p
  says r one = record { accepts = r; alone = one }

  says_nothing : ¬ Accepts ada p → SaysProgram ada p → ⊥
  says_nothing never h = never h.accepts

  says_another : (q : Program) → Accepts ada q → ¬ (q ≡ p) → SaysProgram ada p → ⊥
  says_another q r never h = never (h.alone q r)

module _ (bytes : List ℕ) (p : Program) (a : Arrivals) where
  says_arrivals : Arrives horizon_limit bytes p a → ((b : Arrivals) → Arrives horizon_limit bytes p b → b ≡ a) → SaysArrivals bytes p a
  says_arrivals r one = record { arrives = r; alone = one }

  says_no_arrivals : ¬ Arrives horizon_limit bytes p a → SaysArrivals bytes p a → ⊥
  says_no_arrivals never h = never h.arrives

  says_other_arrivals : (b : Arrivals) → Arrives horizon_limit bytes p b → ¬ (b ≡ a) → SaysArrivals bytes p a → ⊥
  says_other_arrivals b r never h = never (h.alone b r)

-- REPLAY
module _ (texts : Texts) where
  replay_files : (replays (codes "a") (codes "r")).files ≡ ada_file ∷ arrivals_file ∷ []
  replay_files = refl

  -- up to the horizon
  replayed : (p : Program) (a : Arrivals) (told : List Event) (written : List ℕ) → SaysProgram (texts kind.Ada) p
      → SaysArrivals (texts kind.Arrivals) p a → IsTrace p a told written → RunsOut told
      → (replays (codes "a") (codes "r")).Makes texts written
  replayed p a told written s t i r =
      record { told = told; traces = record { program = p; under = a; says = s; arriving = t; trace = i }; runs_out = r }

  not_said : (written : List ℕ) → ((p : Program) → SaysProgram (texts kind.Ada) p → ⊥)
      → (replays (codes "a") (codes "r")).Makes texts written → ⊥
  not_said written never h = never h.traces.program h.traces.says

  not_arriving : (written : List ℕ) → ((p : Program) (a : Arrivals) → SaysProgram (texts kind.Ada) p → SaysArrivals (texts kind.Arrivals) p a → ⊥)
      → (replays (codes "a") (codes "r")).Makes texts written → ⊥
  not_arriving written never h = never h.traces.program h.traces.under h.traces.says h.traces.arriving

  not_traced : (written : List ℕ) → ((p : Program) (a : Arrivals) (told : List Event) → SaysProgram (texts kind.Ada) p
      → SaysArrivals (texts kind.Arrivals) p a → IsTrace p a told written → ⊥) → (replays (codes "a") (codes "r")).Makes texts written → ⊥
  not_traced written never h = never h.traces.program h.traces.under h.told h.traces.says h.traces.arriving h.traces.trace

  not_to_the_horizon : (written : List ℕ) → ((p : Program) (a : Arrivals) (told : List Event) → IsTrace p a told written → RunsOut told → ⊥)
      → (replays (codes "a") (codes "r")).Makes texts written → ⊥
  not_to_the_horizon written never h = never h.traces.program h.traces.under h.told h.traces.trace h.runs_out

  -- up to a stop
  stopped : (p : Program) (a : Arrivals) (told : List Event) (written : List ℕ) (v : Violation) → SaysProgram (texts kind.Ada) p
      → SaysArrivals (texts kind.Arrivals) p a → IsTrace p a told written → EndsAt p told v
      → (replays (codes "a") (codes "r")).Stops texts written v
  stopped p a told written v s t i e =
      record { told = told; traces = record { program = p; under = a; says = s; arriving = t; trace = i }; ends = e }

  not_stopped : (written : List ℕ) (v : Violation) → ((p : Program) (a : Arrivals) (told : List Event) → IsTrace p a told written
      → EndsAt p told v → ⊥)
      → (replays (codes "a") (codes "r")).Stops texts written v → ⊥
  not_stopped written v never h = never h.traces.program h.traces.under h.told h.traces.trace h.ends

  stop_line : (v : Violation) → (replays (codes "a") (codes "r")).stop_line v ≡ violation_line v
  stop_line v = refl

  -- the causes
  replay_text : (f : TextFault) → Faults (texts kind.Ada) f → (replays (codes "a") (codes "r")).Refuses texts (replay.Text f)
  replay_text f h = h

  no_replay_text : (f : TextFault) → ¬ Faults (texts kind.Ada) f → (replays (codes "a") (codes "r")).Refuses texts (replay.Text f) → ⊥
  no_replay_text f never h = never h

  replay_rule : (unit : Option Name) → Breaks (texts kind.Ada) rule.G3 unit
      → (replays (codes "a") (codes "r")).Refuses texts (replay.Unit rule.G3 unit)
  replay_rule unit h = h

  no_replay_rule : (unit : Option Name) → ¬ Breaks (texts kind.Ada) rule.G3 unit
      → (replays (codes "a") (codes "r")).Refuses texts (replay.Unit rule.G3 unit) → ⊥
  no_replay_rule unit never h = never h

  replay_arrivals : (p : Program) (f : ArrivalFault) → SaysProgram (texts kind.Ada) p → arriving.Refuses (texts kind.Arrivals) p f
      → (replays (codes "a") (codes "r")).Refuses texts (replay.Arrivals f)
  replay_arrivals p f s r = record { program = p; says = s; none = r }

  no_replay_program : (f : ArrivalFault) → ((p : Program) → SaysProgram (texts kind.Ada) p → ⊥)
      → (replays (codes "a") (codes "r")).Refuses texts (replay.Arrivals f) → ⊥
  no_replay_program f never h = never h.program h.says

  no_replay_arrivals : (f : ArrivalFault) → ((p : Program) → SaysProgram (texts kind.Ada) p → arriving.Refuses (texts kind.Arrivals) p f → ⊥)
      → (replays (codes "a") (codes "r")).Refuses texts (replay.Arrivals f) → ⊥
  no_replay_arrivals f never h = never h.program h.says h.none

  replay_text_line : (f : TextFault) → (replays (codes "a") (codes "r")).line (replay.Text f) ≡ text_line kind.Ada f
  replay_text_line f = refl

  replay_rule_line : (unit : Option Name) → (replays (codes "a") (codes "r")).line (replay.Unit rule.G3 unit) ≡ unit_line rule.G3 unit
  replay_rule_line unit = refl

  replay_arrivals_line : (f : ArrivalFault) → (replays (codes "a") (codes "r")).line (replay.Arrivals f) ≡ arrivals_line f
  replay_arrivals_line f = refl

  -- what can be replayed
  can_replay : (p : Program) (a : Arrivals) (told : List Event) → Accepts (texts kind.Ada) p → Arrives horizon_limit (texts kind.Arrivals) p a
      → Meaning p a told → RunsOut told → (replays (codes "a") (codes "r")).CanDo texts
  can_replay p a told s r m o = record { program = p; under = a; accepts = s; arrives = r; told = told; means = m; runs_out = o }

  not_accepted : ((p : Program) → Accepts (texts kind.Ada) p → ⊥) → (replays (codes "a") (codes "r")).CanDo texts → ⊥
  not_accepted never h = never h.program h.accepts

  no_arrivals : ((p : Program) (a : Arrivals) → Accepts (texts kind.Ada) p → Arrives horizon_limit (texts kind.Arrivals) p a → ⊥)
      → (replays (codes "a") (codes "r")).CanDo texts → ⊥
  no_arrivals never h = never h.program h.under h.accepts h.arrives

  always_stops : ((p : Program) (a : Arrivals) (told : List Event) → Accepts (texts kind.Ada) p → Meaning p a told → RunsOut told → ⊥)
      → (replays (codes "a") (codes "r")).CanDo texts → ⊥
  always_stops never h = never h.program h.under h.told h.accepts h.means h.runs_out

-- RIGHT TRACES
module _ (d t r written : List ℕ) where
  right : (x : Design) (v : List Bound) (p : Program) (a : Arrivals) (told : List Event) → Reads d x → MeetsRules x
      → IsLeastVector (table (flat (in_ticks x))).rows v → Accepts t p → Arrives horizon_limit r p a → Meaning p a told
      → written ≡ lines p told → Exclusive told → Allows (in_ticks x) (named_arrivals p a) (named p told)
      → IsBounded (responses (flat (in_ticks x)) v) a.until (named p told) → Serves (in_ticks x) v a.until (named p told) → IsRightTrace d t r written
  right x v p a told reads meets least accepts arrives means whole exclusive allowed bounded serves = record {
    of = x;
    reads = reads;
    meets = meets;
    bounds = v;
    least = least;
    program = p;
    accepts = accepts;
    under = a;
    arrives = arrives;
    told = told;
    means = means;
    whole = whole;
    exclusive = exclusive;
    allowed = allowed;
    bounded = bounded;
    serves = serves;
  }

  of_no_design : ((x : Design) → Reads d x → ⊥) → IsRightTrace d t r written → ⊥
  of_no_design never h = never h.of h.reads

  of_broken_rules : ((x : Design) → Reads d x → MeetsRules x → ⊥) → IsRightTrace d t r written → ⊥
  of_broken_rules never h = never h.of h.reads h.meets

  of_other_bounds : ((x : Design) (v : List Bound) → Reads d x → IsLeastVector (table (flat (in_ticks x))).rows v → ⊥)
      → IsRightTrace d t r written → ⊥
  of_other_bounds never h = never h.of h.bounds h.reads h.least

  of_no_program : ((p : Program) → Accepts t p → ⊥) → IsRightTrace d t r written → ⊥
  of_no_program never h = never h.program h.accepts

  of_no_arrivals : ((p : Program) (a : Arrivals) → Accepts t p → Arrives horizon_limit r p a → ⊥) → IsRightTrace d t r written → ⊥
  of_no_arrivals never h = never h.program h.under h.accepts h.arrives

  of_no_meaning : ((p : Program) (a : Arrivals) (told : List Event) → Accepts t p → Arrives horizon_limit r p a → Meaning p a told → ⊥)
      → IsRightTrace d t r written → ⊥
  of_no_meaning never h = never h.program h.under h.told h.accepts h.arrives h.means

  of_other_lines : ((p : Program) (a : Arrivals) (told : List Event) → Accepts t p → Meaning p a told → written ≡ lines p told → ⊥)
      → IsRightTrace d t r written → ⊥
  of_other_lines never h = never h.program h.under h.told h.accepts h.means h.whole

  of_no_exclusion : ((p : Program) (a : Arrivals) (told : List Event) → Meaning p a told → Exclusive told → ⊥) → IsRightTrace d t r written → ⊥
  of_no_exclusion never h = never h.program h.under h.told h.means h.exclusive

  -- what the design's machine doesn't allow, under the arrivals of the text
  not_allowed : ((x : Design) (p : Program) (a : Arrivals) (told : List Event) → Reads d x → Arrives horizon_limit r p a → Meaning p a told
      → Allows (in_ticks x) (named_arrivals p a) (named p told) → ⊥) → IsRightTrace d t r written → ⊥
  not_allowed never h = never h.of h.program h.under h.told h.reads h.arrives h.means h.allowed

  -- an activation past the least bounds
  not_bounded : ((x : Design) (v : List Bound) (p : Program) (a : Arrivals) (told : List Event) → Reads d x
      → IsLeastVector (table (flat (in_ticks x))).rows v → Meaning p a told
      → IsBounded (responses (flat (in_ticks x)) v) a.until (named p told) → ⊥) → IsRightTrace d t r written → ⊥
  not_bounded never h = never h.of h.bounds h.program h.under h.told h.reads h.least h.means h.bounded

  -- a request that is lost, a chain that is late, or an activation that uses too much
  not_served : ((x : Design) (v : List Bound) (p : Program) (a : Arrivals) (told : List Event) → Reads d x
      → IsLeastVector (table (flat (in_ticks x))).rows v → Meaning p a told
      → Serves (in_ticks x) v a.until (named p told) → ⊥) → IsRightTrace d t r written → ⊥
  not_served never h = never h.of h.bounds h.program h.under h.told h.reads h.least h.means h.serves

-- VERIFY
mark : trace_mark ≡ codes "-- trace\n"
mark = refl

module _ (texts : Texts) where
  verify_files : (verifies (codes "d") (codes "r")).files ≡ design_file ∷ arrivals_file ∷ []
  verify_files = refl

  verified : (t u : List ℕ) → IsTextFor (texts kind.Design) t → Replays t (texts kind.Arrivals) u
      → IsRightTrace (texts kind.Design) t (texts kind.Arrivals) u → (verifies (codes "d") (codes "r")).Makes texts (t ++ (codes "-- trace\n" ++ u))
  verified t u m y i = record { text = t; made = m; trace = u; replays = y; right = i; whole = refl }

  no_text : (written : List ℕ) → ((t : List ℕ) → IsTextFor (texts kind.Design) t → ⊥) → (verifies (codes "d") (codes "r")).Makes texts written → ⊥
  no_text written never h = never h.text h.made

  -- what its text doesn't replay to
  no_replay : (written : List ℕ) → ((t u : List ℕ) → IsTextFor (texts kind.Design) t → Replays t (texts kind.Arrivals) u → ⊥)
      → (verifies (codes "d") (codes "r")).Makes texts written → ⊥
  no_replay written never h = never h.text h.trace h.made h.replays

  not_right : (written : List ℕ) → ((t u : List ℕ) → IsTextFor (texts kind.Design) t → IsRightTrace (texts kind.Design) t (texts kind.Arrivals) u → ⊥)
      → (verifies (codes "d") (codes "r")).Makes texts written → ⊥
  not_right written never h = never h.text h.trace h.made h.right

  -- no line between the two
  without_mark : (written : List ℕ) → ((t u : List ℕ) → IsTextFor (texts kind.Design) t → Replays t (texts kind.Arrivals) u
      → written ≡ t ++ (codes "-- trace\n" ++ u) → ⊥) → (verifies (codes "d") (codes "r")).Makes texts written → ⊥
  without_mark written never h = never h.text h.trace h.made h.replays h.whole

  verify_design : RefusesDesign (texts kind.Design) generate.Long → (verifies (codes "d") (codes "r")).Refuses texts (verify.Design generate.Long)
  verify_design h = h

  no_verify_design : ¬ RefusesDesign (texts kind.Design) generate.Long
      → (verifies (codes "d") (codes "r")).Refuses texts (verify.Design generate.Long) → ⊥
  no_verify_design never h = never h

  verify_arrivals : (t : List ℕ) (f : ArrivalFault) → IsTextFor (texts kind.Design) t → IsAdaAlone t (texts kind.Arrivals) f
      → (verifies (codes "d") (codes "r")).Refuses texts (verify.Arrivals f)
  verify_arrivals t f m i = record { text = t; made = m; alone = i }

  no_verify_text : (f : ArrivalFault) → ((t : List ℕ) → IsTextFor (texts kind.Design) t → ⊥)
      → (verifies (codes "d") (codes "r")).Refuses texts (verify.Arrivals f) → ⊥
  no_verify_text f never h = never h.text h.made

  no_verify_arrivals : (f : ArrivalFault) → ((t : List ℕ) → IsTextFor (texts kind.Design) t → IsAdaAlone t (texts kind.Arrivals) f → ⊥)
      → (verifies (codes "d") (codes "r")).Refuses texts (verify.Arrivals f) → ⊥
  no_verify_arrivals f never h = never h.text h.made h.alone

  verify_design_line : (verifies (codes "d") (codes "r")).line (verify.Design generate.Long) ≡ generate_line generate.Long
  verify_design_line = refl

  verify_arrivals_line : (f : ArrivalFault) → (verifies (codes "d") (codes "r")).line (verify.Arrivals f) ≡ arrivals_line f
  verify_arrivals_line f = refl

  can_verify : (can : CanGenerate (texts kind.Design)) (a : Arrivals)
      → Arrives horizon_limit (texts kind.Arrivals) (program (in_ticks can.design)) a → (verifies (codes "d") (codes "r")).CanDo texts
  can_verify can a r = record { can = can; under = a; arrives = r }

  no_can_generate : ¬ CanGenerate (texts kind.Design) → (verifies (codes "d") (codes "r")).CanDo texts → ⊥
  no_can_generate never h = never h.can

  no_can_arrive : ((can : CanGenerate (texts kind.Design)) (a : Arrivals)
      → Arrives horizon_limit (texts kind.Arrivals) (program (in_ticks can.design)) a → ⊥) → (verifies (codes "d") (codes "r")).CanDo texts → ⊥
  no_can_arrive never h = never h.can h.under h.arrives

  verify_stop : (stop : (verifies (codes "d") (codes "r")).Stop) → ⊥
  verify_stop stop = stop

-- SAMPLE
sample_files : (samples 2).files ≡ []
sample_files = refl

sample_refusal : (samples 2).Refusal → ⊥
sample_refusal r = r

sample_stop : (samples 2).Stop → ⊥
sample_stop stop = stop

sample_can : (texts : Texts) → (samples 2).CanDo texts
sample_can texts = tt

module _ (texts : Texts) (written : List ℕ) where
  -- the summary of the sample's own verification
  summed : (u : List ℕ) (run : IsVerified (design_text (sample_design 2)) (sample_arrivals 2) u)
      → written ≡ summary run.replays.traces.program (text_bounds (design_text (sample_design 2)) run.text run.made) run.replays.told
      → (samples 2).Makes texts written
  summed u run e = record { verified = u; run = run; whole = e }

  not_summed : ((u : List ℕ) → IsVerified (design_text (sample_design 2)) (sample_arrivals 2) u → ⊥) → (samples 2).Makes texts written → ⊥
  not_summed never h = never h.verified h.run

  other_summary : ((u : List ℕ) (run : IsVerified (design_text (sample_design 2)) (sample_arrivals 2) u)
      → written ≡ summary run.replays.traces.program (text_bounds (design_text (sample_design 2)) run.text run.made) run.replays.told → ⊥)
      → (samples 2).Makes texts written → ⊥
  other_summary never h = never h.verified h.run h.whole

-- the bounds of a text are those of its own design
bounds_of_text : (d t : List ℕ) (made : IsTextFor d t)
    → text_bounds d t made ≡ named_bounds (first_priority made.design) (flat (in_ticks made.design)) made.bounds
bounds_of_text d t made = refl

-- how it ends
module _ (t : List ℕ) (summed : IsSummed 2 t) where
  sample_done : SummaryEnds 2 status.Done (Some (codes "o")) (Some (codes "o" ++ t))
  sample_done = (t, summed, refl)

  sample_cut : (k : ℕ) → k < length t → SummaryEnds 2 status.WriteFault (Some (codes "o")) (Some (codes "o" ++ take k t))
  sample_cut k less = (t, summed, k, less, refl)

sample_without_memory : SummaryEnds 2 status.NoMemory (Some (codes "o")) (Some (codes "o"))
sample_without_memory = refl

sample_memory_written : SummaryEnds 2 status.NoMemory (Some (codes "o")) (Some (codes "oa")) → ⊥
sample_memory_written h = absurd (cc h)

sample_not_done : ((t : List ℕ) → IsSummed 2 t → ⊥) → SummaryEnds 2 status.Done None None → ⊥
sample_not_done never h = never h.0 h.1

sample_not_cut : ((t : List ℕ) (k : ℕ) → IsSummed 2 t → k < length t → ⊥) → SummaryEnds 2 status.WriteFault None None → ⊥
sample_not_cut never h = never h.0 h.2 h.1 h.3

sample_lost : SummaryEnds 2 status.Done None (Some []) → ⊥
sample_lost h = absurd (cc h.2)

sample_not_refused : SummaryEnds 2 status.Refused None None → ⊥
sample_not_refused h = h

sample_no_usage : SummaryEnds 2 status.Usage None None → ⊥
sample_no_usage h = h

sample_no_read_fault : SummaryEnds 2 status.ReadFault None None → ⊥
sample_no_read_fault h = h
