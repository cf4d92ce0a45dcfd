-- Why a text isn't accepted, by the pass that found it.
use Rattle.trace_read.specs.declared.gather.Unread.{Unread}
use Rattle.trace_read.specs.declared.gather.Unread.TheVariants as unread
use Rattle.trace_checks.specs.declared.broken.Broken.{Broken}
use Rattle.trace_checks.specs.declared.broken.Broken.TheVariants as broken
use Rattle.design_accepts.specs.declared.unaccepted.Unaccepted.{Unaccepted}
use Rattle.design_accepts.specs.declared.unaccepted.Unaccepted.TheVariants.{Line, Times, Cyclic, Arrivals, Requests, NoMemory}

-- a text that has no list of events
abbrev pub unread_of : Unread → Unaccepted
unread_of (unread.Line line) = Line line
unread_of unread.NoMemory = NoMemory

-- one that breaks a part of the first pass
abbrev pub refusal_of : Broken → Unaccepted
refusal_of (broken.Line line) = Line line
refusal_of broken.Times = Times
refusal_of (broken.Cyclic thread) = Cyclic thread
refusal_of broken.Arrivals = Arrivals
refusal_of (broken.Requests thread) = Requests thread
refusal_of broken.NoMemory = NoMemory
