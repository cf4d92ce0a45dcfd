-- What an answer says of a text as a trace of a design: its verdict. Want of memory says nothing.
use Rattle.std.specs.Prelude.{ℕ, Option, Some, None, Result, Ok, Err}
use Rattle.law_traces.specs.Verdicts as verdict
use Rattle.law_traces.specs.Verdicts.{Verdict}
use Rattle.design_accepts.specs.declared.unaccepted.Unaccepted.{Unaccepted}
use Rattle.design_accepts.specs.declared.unaccepted.Unaccepted.TheVariants as why

-- the verdict on a text that is not accepted
abbrev pub refusal_verdict : Unaccepted → Option Verdict
refusal_verdict (why.Line line) = Some (verdict.Line line)
refusal_verdict why.Times = Some verdict.Times
refusal_verdict (why.Cyclic thread) = Some (verdict.Cyclic thread)
refusal_verdict why.Arrivals = Some verdict.Untold
refusal_verdict (why.Requests thread) = Some (verdict.Requests thread)
refusal_verdict (why.Script thread) = Some (verdict.Script thread)
refusal_verdict (why.Shared object) = Some (verdict.Shared object)
refusal_verdict why.NoMemory = None

-- the verdict of an answer
abbrev pub verdict_of : Result ℕ Unaccepted → Option Verdict
verdict_of (Ok lines) = Some (verdict.Accepted lines)
verdict_of (Err why) = refusal_verdict why
