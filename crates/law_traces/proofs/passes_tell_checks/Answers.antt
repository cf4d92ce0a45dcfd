use Rattle.std.proofs.Common.{sym}
use Rattle.law_traces.proofs.Shared.Served.{served-sound}
use Rattle.law_traces.proofs.Shared.Told.{thread-told}
use Rattle.law_traces.proofs.passes_tell_checks.Goals as goal

pub returns : goal.returns
returns c = λ w distinct depth trace. record {
  objects = λ g. served-sound w depth g trace;
  threads = λ t. sym (thread-told w distinct depth trace t);
}
