-- What an answer says of a trace, by the machine of a design: the first part that is broken, or that all of these parts hold.
-- Those are times and their order, the releases of cyclic threads, arrivals, and the requests and releases of sporadic threads.
use Rattle.std.specs.Prelude.{◌≡◌, ℕ, List, length, Result, Ok, Err, ⊤}
use Rattle.seq_tree.specs.Lists.{Each}
use Rattle.ada_tree.specs.Programs.{Program}
use Rattle.guarantee.specs.Allowed.{IsPeriodic, IsRequested}
use Rattle.guarantee.specs.Arrivals as given
use Rattle.guarantee.specs.Events.{Event}
use Rattle.guarantee.specs.Order.{IsInOrder}
use Rattle.guarantee.specs.Requests.{AreTold}
use Rattle.guarantee.specs.Software.{Software, program_software}
use Rattle.law_traces.specs.Verdicts as verdict
use Rattle.law_traces.specs.Verdicts.{IsVerdict}
use Rattle.trace_read.specs.Lines.{Tells}
use Rattle.trace_checks.specs.declared.broken.Broken.{Broken}
use Rattle.trace_checks.specs.declared.broken.Broken.TheVariants.{Line, Times, Cyclic, Arrivals, Requests, NoMemory}

-- events of which these parts of the machine hold
pub record KeepParts (w : Software) (r : given.Arrivals) (told : List Event) : Type 0 where
  pub times : IsInOrder w.tasks r.until 0 told
  pub cyclic : Each (λ t. IsPeriodic r.until told t.name t.timing) w.tasks
  pub arrivals : AreTold r.until r.items told
  pub requests : Each (λ t. IsRequested told t.name t.timing) w.tasks

-- what an answer says; want of memory says nothing
abbrev pub Means : Program → given.Arrivals → List ℕ → Result ℕ Broken → Type 0
Means p r text (Ok n) = (told : List Event) × Tells p text told × (n ≡ length told) × KeepParts (program_software p) r told
Means p r text (Err (Line line)) = IsVerdict (program_software p) p r text (verdict.Line line)
Means p r text (Err Times) = IsVerdict (program_software p) p r text verdict.Times
Means p r text (Err (Cyclic thread)) = IsVerdict (program_software p) p r text (verdict.Cyclic thread)
Means p r text (Err Arrivals) = IsVerdict (program_software p) p r text verdict.Untold
Means p r text (Err (Requests thread)) = IsVerdict (program_software p) p r text (verdict.Requests thread)
Means p r text (Err NoMemory) = ⊤
