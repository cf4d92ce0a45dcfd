-- The verb `accepts`: whether a trace from anywhere is one that the machine of a design allows under arrivals.
-- No condition is put on where the trace came from, and none on the bounds of the design.
use Rattle.std.specs.Prelude.{◌≡◌, ℕ, List, [], ◌∷◌, codes, Option, Some, None}
use Rattle.ods_tree.specs.Designs as designs
use Rattle.arrivals_tree.specs.Arriving as arrived
use Rattle.arrivals_tree.specs.Arrived.{Arrives, horizon_limit}
use Rattle.arrivals_read.specs.Answers as arriving
use Rattle.guarantee.specs.Arrivals.{named_arrivals}
use Rattle.guarantee.specs.Programs.{program}
use Rattle.guarantee.specs.Software.{software}
use Rattle.law_traces.specs.Verdicts.{Verdict, Accepted, IsVerdict}
use Rattle.design_accepts.specs.Answers.{refusal_verdict}
use Rattle.design_accepts.specs.declared.unaccepted.Unaccepted.{Unaccepted}
use Rattle.design_accepts.specs.declared.unaccepted.Unaccepted.TheVariants as why
use Rattle.hrthood_top.specs.declared.accepts.AcceptsRefusal.{AcceptsRefusal}
use Rattle.hrthood_top.specs.declared.accepts.AcceptsRefusal.TheVariants as refusal
use Rattle.hrthood_top.specs.declared.file_kind.FileKind.TheVariants.{Design, Arrivals, Trace}
use Rattle.bridge.specs.declared.halt.Halt.{Halt}
use Rattle.bridge.specs.declared.halt.Halt.TheVariants as halt
use Rattle.hrthood_top.specs.Checks.{check_line}
use Rattle.hrthood_top.specs.Messages.{arrivals_line, count_line, name_line}
use Rattle.bridge.specs.Taking.{IsTakenAs, RefusesTaking}
use Rattle.hrthood_top.specs.Verbs.{Verb}

-- under arrivals that a text says of the program of a design in ticks, this is the verdict on a text as a trace of the design
pub record IsJudgedSo (x : designs.Design) (arrivals trace : List ℕ) (v : Verdict) : Type 0 where
  pub under : arrived.Arrivals
  pub arrives : Arrives horizon_limit arrivals (program x) under
  pub verdict : IsVerdict (software x) (program x) (named_arrivals (program x) under) trace v

-- a verdict, where there is one
abbrev pub IsJudged : designs.Design → List ℕ → List ℕ → Option Verdict → Type 0
IsJudged x arrivals trace None = ⊥
IsJudged x arrivals trace (Some v) = IsJudgedSo x arrivals trace v

-- the line of a trace that is accepted
abbrev pub yes_line : ℕ → List ℕ
yes_line lines = count_line (codes "yes lines ") lines

-- a trace that is accepted, and the line that tells how many lines it has
abbrev pub IsYes : designs.Design → List ℕ → List ℕ → List ℕ → Type 0
IsYes x arrivals trace written = (lines : ℕ) × IsJudgedSo x arrivals trace (Accepted lines) × (written ≡ yes_line lines)

-- why a trace of a design is not accepted; that no design was taken is no such cause, and want of memory is none
abbrev pub RefusesTrace : designs.Design → List ℕ → List ℕ → AcceptsRefusal → Type 0
RefusesTrace x arrivals trace (refusal.Untaken found) = ⊥
RefusesTrace x arrivals trace (refusal.Arrivals found) = arriving.Refuses arrivals (program x) found
RefusesTrace x arrivals trace (refusal.Trace why) = IsJudged x arrivals trace (refusal_verdict why)

-- why a trace is not accepted, as why nothing is told
abbrev pub halted_trace : Unaccepted → Halt AcceptsRefusal
halted_trace why.NoMemory = halt.NoMemory
halted_trace found = halt.Refused (refusal.Trace found)

-- the bytes of a design that meets the rules, arrivals, a trace that is accepted, and the line that tells it
abbrev pub IsAcceptedSo : List ℕ → List ℕ → List ℕ → List ℕ → Type 0
IsAcceptedSo design arrivals trace written = (x : designs.Design) × IsTakenAs design x × IsYes x arrivals trace written

-- why nothing is accepted
abbrev pub RefusesAccepts : List ℕ → List ℕ → List ℕ → AcceptsRefusal → Type 0
RefusesAccepts design arrivals trace (refusal.Untaken found) = RefusesTaking design found
RefusesAccepts design arrivals trace (refusal.Arrivals found) =
    (x : designs.Design) × IsTakenAs design x × RefusesTrace x arrivals trace (refusal.Arrivals found)
RefusesAccepts design arrivals trace (refusal.Trace why) =
    (x : designs.Design) × IsTakenAs design x × RefusesTrace x arrivals trace (refusal.Trace why)

-- the line of a verdict that refuses; want of memory is none, and is never told so
abbrev pub trace_line : Unaccepted → List ℕ
trace_line (why.Line line) = count_line (codes "refused T1 line ") line
trace_line why.Times = codes "refused T2 a\n"
trace_line (why.Cyclic thread) = name_line (codes "refused T2 b ") thread
trace_line why.Arrivals = codes "refused T2 c\n"
trace_line (why.Requests thread) = name_line (codes "refused T2 c ") thread
trace_line (why.Script thread) = name_line (codes "refused T2 d ") thread
trace_line (why.Shared object) = name_line (codes "refused T2 e ") object
trace_line why.NoMemory = codes "refused\n"

-- the line that tells it
abbrev pub accepts_line : AcceptsRefusal → List ℕ
accepts_line (refusal.Untaken found) = check_line found
accepts_line (refusal.Arrivals found) = arrivals_line found
accepts_line (refusal.Trace why) = trace_line why

-- the bytes of a design that meets the rules, arrivals for its program, and a trace that its machine allows
pub record CanAccept (design arrivals trace : List ℕ) : Type 0 where
  pub taken_as : designs.Design
  pub taken : IsTakenAs design taken_as
  pub lines : ℕ
  pub judged : IsJudgedSo taken_as arrivals trace (Accepted lines)

-- the verb; it never stops
abbrev pub acceptances : List ℕ → List ℕ → List ℕ → Verb
acceptances design arrivals trace = record {
  files = record { kind = Design; name = design } ∷ record { kind = Arrivals; name = arrivals } ∷ record { kind = Trace; name = trace } ∷ [];
  Makes = λ texts written. IsAcceptedSo (texts Design) (texts Arrivals) (texts Trace) written;
  Refusal = AcceptsRefusal;
  Refuses = λ texts refused. RefusesAccepts (texts Design) (texts Arrivals) (texts Trace) refused;
  line = accepts_line;
  Stop = ⊥;
  Stops = λ texts text stop. ⊥;
  stop_line = λ stop. [];
  CanDo = λ texts. CanAccept (texts Design) (texts Arrivals) (texts Trace);
}
