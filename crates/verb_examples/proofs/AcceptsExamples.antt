-- Examples: which traces `accepts` takes, why it refuses others, and the lines of both. Each definition holds of all its parts, and without one of
-- them it doesn't.
use Rattle.std.specs.Prelude.{◌≡◌, ℕ, List, [], ◌∷◌, ◌++◌, length, map, codes, decimal, refl}
use Rattle.seq_tree.specs.Lists.{Each}
use Rattle.ods_tree.specs.Designs.{Design}
use Rattle.arrivals_tree.specs.Arriving.{Arrivals}
use Rattle.arrivals_tree.specs.Arrived.{Arrives, horizon_limit}
use Rattle.arrivals_read.specs.Answers as arriving
use Rattle.arrivals_read.specs.declared.fault.ArrivalFault.{ArrivalFault}
use Rattle.trace_tree.specs.Lines.{lines}
use Rattle.trace_tree.specs.declared.event.Event.{Event}
use Rattle.guarantee.specs.Arrivals.{named_arrivals}
use Rattle.guarantee.specs.Events.{named}
use Rattle.guarantee.specs.Allowed.{Permits}
use Rattle.guarantee.specs.Programs.{program}
use Rattle.guarantee.specs.Software.{software}
use Rattle.law_traces.specs.Told.{IsEvent}
use Rattle.law_traces.specs.Verdicts.{Verdict, IsVerdict, BeginsNoLine}
use Rattle.law_traces.specs.Verdicts as verdict
use Rattle.design_accepts.specs.declared.unaccepted.Unaccepted.{Unaccepted}
use Rattle.design_accepts.specs.declared.unaccepted.Unaccepted.TheVariants as why
use Rattle.hrthood_top.specs.declared.accepts.AcceptsRefusal.TheVariants as refusal
use Rattle.bridge.specs.declared.taking.Untaken.{Untaken}
use Rattle.hrthood_top.specs.declared.file_kind.FileKind.TheVariants as kind
use Rattle.hrthood_top.specs.Files.{Texts, limit_of, kind_text}
use Rattle.hrthood_top.specs.Checks.{check_line}
use Rattle.hrthood_top.specs.Messages.{arrivals_line, too_long_line}
use Rattle.bridge.specs.Taking.{IsTakenAs, RefusesTaking}
use Rattle.hrthood_top.specs.Acceptances.{CanAccept, IsJudgedSo, IsAcceptedSo, RefusesTrace, acceptances, trace_line, yes_line}
use Rattle.verb_examples.proofs.EmptyExamples.{empty, no_design}

-- THE VERB
files : (acceptances (codes "d") (codes "r") (codes "t")).files ≡ record { kind = kind.Design; name = codes "d" }
    ∷ record { kind = kind.Arrivals; name = codes "r" } ∷ record { kind = kind.Trace; name = codes "t" } ∷ []
files = refl

most : limit_of kind.Trace ≡ 16777216
most = refl

called : kind_text kind.Trace ≡ codes "trace"
called = refl

too_long : too_long_line kind.Trace ≡ codes "refused S3 trace\n"
too_long = refl

-- A VERDICT UNDER ARRIVALS
module _ (x : Design) (arrivals trace : List ℕ) (v : Verdict) where
  judged : (r : Arrivals) → Arrives horizon_limit arrivals (program x) r → IsVerdict (software x) (program x) (named_arrivals (program x) r) trace v
      → IsJudgedSo x arrivals trace v
  judged r a h = record { under = r; arrives = a; verdict = h }

  no_arrivals : ((r : Arrivals) → Arrives horizon_limit arrivals (program x) r → ⊥) → IsJudgedSo x arrivals trace v → ⊥
  no_arrivals never h = never h.under h.arrives

  another_verdict : ((r : Arrivals) → Arrives horizon_limit arrivals (program x) r
      → IsVerdict (software x) (program x) (named_arrivals (program x) r) trace v → ⊥) → IsJudgedSo x arrivals trace v → ⊥
  another_verdict never h = never h.under h.arrives h.verdict

-- A TRACE THAT IS ACCEPTED
module _ (design arrivals trace written : List ℕ) where
  accepted : (x : Design) (n : ℕ) → IsTakenAs design x → IsJudgedSo x arrivals trace (verdict.Accepted n) → written ≡ yes_line n
      → IsAcceptedSo design arrivals trace written
  accepted x n t h e = (x, t, (n, h, e))

  untaken : ((x : Design) → IsTakenAs design x → ⊥) → IsAcceptedSo design arrivals trace written → ⊥
  untaken never h = never h.0 h.1

  unaccepted : ((x : Design) (n : ℕ) → IsTakenAs design x → IsJudgedSo x arrivals trace (verdict.Accepted n) → ⊥)
      → IsAcceptedSo design arrivals trace written → ⊥
  unaccepted never h = never h.0 h.2.0 h.1 h.2.1

  another_count : ((x : Design) (n : ℕ) → IsTakenAs design x → IsJudgedSo x arrivals trace (verdict.Accepted n) → written ≡ yes_line n → ⊥)
      → IsAcceptedSo design arrivals trace written → ⊥
  another_count never h = never h.0 h.2.0 h.1 h.2.1 h.2.2

-- it can be done of these, and of no others
module _ (design arrivals trace : List ℕ) where
  can : (x : Design) (n : ℕ) → IsTakenAs design x → IsJudgedSo x arrivals trace (verdict.Accepted n) → CanAccept design arrivals trace
  can x n t h = record { taken_as = x; taken = t; lines = n; judged = h }

  cannot_take : ((x : Design) → IsTakenAs design x → ⊥) → CanAccept design arrivals trace → ⊥
  cannot_take never h = never h.taken_as h.taken

  cannot_judge : ((x : Design) (n : ℕ) → IsTakenAs design x → IsJudgedSo x arrivals trace (verdict.Accepted n) → ⊥)
      → CanAccept design arrivals trace → ⊥
  cannot_judge never h = never h.taken_as h.lines h.taken h.judged

-- what is accepted is the lines of events that the design permits, one line each
module _ (x : Design) (arrivals : List ℕ) (r : Arrivals) (arrives : Arrives horizon_limit arrivals (program x) r) where
  of_events : (es : List Event) → Each (IsEvent (program x)) es
      → Permits (software x) (named_arrivals (program x) r) (named (program x) es)
      → IsJudgedSo x arrivals (lines (program x) es) (verdict.Accepted (length (named (program x) es)))
  of_events es all permits = record { under = r; arrives = arrives; verdict = (es, all, refl, (permits, refl)) }

-- WHY NONE IS ACCEPTED
module _ (x : Design) (texts : Texts) (taken : IsTakenAs (texts kind.Design) x) where
  abbrev Refuses : Unaccepted → Type 0
  Refuses u = (acceptances (codes "d") (codes "r") (codes "t")).Refuses texts (refusal.Trace u)

  -- by a verdict, and by that one alone
  by_times : IsJudgedSo x (texts kind.Arrivals) (texts kind.Trace) verdict.Times → Refuses why.Times
  by_times h = (x, taken, h)

  by_line : (k : ℕ) → IsJudgedSo x (texts kind.Arrivals) (texts kind.Trace) (verdict.Line k) → Refuses (why.Line k)
  by_line k h = (x, taken, h)

  by_arrivals : IsJudgedSo x (texts kind.Arrivals) (texts kind.Trace) verdict.Untold → Refuses why.Arrivals
  by_arrivals h = (x, taken, h)

  not_by_times : ((y : Design) → IsTakenAs (texts kind.Design) y → IsJudgedSo y (texts kind.Arrivals) (texts kind.Trace) verdict.Times → ⊥)
      → Refuses why.Times → ⊥
  not_by_times never h = never h.0 h.1 h.2

  -- want of memory is no verdict
  not_by_memory : Refuses why.NoMemory → ⊥
  not_by_memory h = h.2

module _ (texts : Texts) where
  no_arrivals_text : (x : Design) (f : ArrivalFault) → IsTakenAs (texts kind.Design) x → arriving.Refuses (texts kind.Arrivals) (program x) f
      → (acceptances (codes "d") (codes "r") (codes "t")).Refuses texts (refusal.Arrivals f)
  no_arrivals_text x f t h = (x, t, h)

  some_arrivals_text : (f : ArrivalFault)
      → ((x : Design) → IsTakenAs (texts kind.Design) x → arriving.Refuses (texts kind.Arrivals) (program x) f → ⊥)
      → (acceptances (codes "d") (codes "r") (codes "t")).Refuses texts (refusal.Arrivals f) → ⊥
  some_arrivals_text f never h = never h.0 h.1 h.2

  unchecked : (c : Untaken) → RefusesTaking (texts kind.Design) c
      → (acceptances (codes "d") (codes "r") (codes "t")).Refuses texts (refusal.Untaken c)
  unchecked c h = h

  checked : (c : Untaken) → (RefusesTaking (texts kind.Design) c → ⊥)
      → (acceptances (codes "d") (codes "r") (codes "t")).Refuses texts (refusal.Untaken c) → ⊥
  checked c never h = never h

  -- it never stops
  no_stop : (made : List ℕ) (stop : (acceptances (codes "d") (codes "r") (codes "t")).Stop)
      → (acceptances (codes "d") (codes "r") (codes "t")).Stops texts made stop → ⊥
  no_stop made stop h = h

-- a design that is taken is no cause that concerns its trace
not_untaken : (x : Design) (arrivals trace : List ℕ) (c : Untaken) → RefusesTrace x arrivals trace (refusal.Untaken c) → ⊥
not_untaken x arrivals trace c h = h

-- THE LINES
yes : (n : ℕ) → yes_line n ≡ codes "yes lines " ++ (decimal n ++ codes "\n")
yes n = refl

line_told : (n : ℕ) → trace_line (why.Line n) ≡ codes "refused T1 line " ++ (decimal n ++ codes "\n")
line_told n = refl

trace_lines : map trace_line (why.Times ∷ why.Cyclic (codes "p") ∷ why.Arrivals ∷ why.Requests (codes "s") ∷ why.Script (codes "s")
    ∷ why.Shared (codes "q") ∷ [])
    ≡ codes "refused T2 a\n" ∷ codes "refused T2 b p\n" ∷ codes "refused T2 c\n" ∷ codes "refused T2 c s\n"
    ∷ codes "refused T2 d s\n" ∷ codes "refused T2 e q\n" ∷ []
trace_lines = refl

check_told : (c : Untaken) → (acceptances (codes "d") (codes "r") (codes "t")).line (refusal.Untaken c) ≡ check_line c
check_told c = refl

arrivals_told : (f : ArrivalFault) → (acceptances (codes "d") (codes "r") (codes "t")).line (refusal.Arrivals f) ≡ arrivals_line f
arrivals_told f = refl

trace_told : (u : Unaccepted) → (acceptances (codes "d") (codes "r") (codes "t")).line (refusal.Trace u) ≡ trace_line u
trace_told u = refl

-- A FILE WITHOUT A BYTE
not_made : (made : List ℕ) → (acceptances (codes "d") (codes "r") (codes "t")).Makes empty made → ⊥
not_made made h = no_design h.1.design h.1.reads

cannot : (acceptances (codes "d") (codes "r") (codes "t")).CanDo empty → ⊥
cannot h = no_design h.taken.design h.taken.reads
