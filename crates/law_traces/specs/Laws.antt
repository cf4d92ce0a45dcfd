-- The laws of the checks: each answer is that of its part, and all parts together are the machine of a design.
-- The machine of a design is that of `guarantee`.
use Rattle.std.specs.Prelude.{◌≡◌, ℕ, List}
use Rattle.std.specs.Bool.{Decides}
use Rattle.seq_tree.specs.Lists.{Each}
use Rattle.guarantee.specs.Software.{Software}
use Rattle.guarantee.specs.Events.{Event}
use Rattle.guarantee.specs.Arrivals.{Arrivals}
use Rattle.guarantee.specs.Order.{IsInOrder}
use Rattle.guarantee.specs.Requests.{AreTold}
use Rattle.guarantee.specs.Allowed.{IsPeriodic, IsRequested, Permits}
use Rattle.law_traces.specs.Clear.{IsClear}
use Rattle.law_traces.specs.Parts.{Serves, Follows}
use Rattle.ada_tree.specs.Programs.{Program}
use Rattle.law_traces.specs.Told.{HasPlainNames}
use Rattle.law_traces.specs.Verdicts.{Verdict, IsVerdictOn, IsVerdict, judged}
use Rattle.law_traces.specs.Checks.{in_order, is_periodic, are_told, is_requested, serves, follows}

-- each check tells its part
pub record AreDecided (w : Software) (depth : ℕ) (r : Arrivals) (trace : List Event) : Type 0 where
  pub times : Decides (in_order w.tasks r.until 0 trace) (IsInOrder w.tasks r.until 0 trace)
  pub cyclic : Each (λ t. Decides (is_periodic r.until trace t.name t.timing) (IsPeriodic r.until trace t.name t.timing)) w.tasks
  pub arrivals : Decides (are_told r.until r.items trace) (AreTold r.until r.items trace)
  pub requests : Each (λ t. Decides (is_requested trace t.name t.timing) (IsRequested trace t.name t.timing)) w.tasks
  pub scripts : Each (λ t. Decides (follows w depth trace t) (Follows w trace t)) w.tasks
  pub objects : Each (λ g. Decides (serves w depth trace g) (Serves w trace g)) w.shared

abbrev pub PartsAreDecided : Type 0
PartsAreDecided = (w : Software) (clear : IsClear w) (r : Arrivals) (trace : List Event) → AreDecided w clear.depth r trace

-- the parts of the machine
pub record PartsHold (w : Software) (r : Arrivals) (trace : List Event) : Type 0 where
  pub times : IsInOrder w.tasks r.until 0 trace
  pub cyclic : Each (λ t. IsPeriodic r.until trace t.name t.timing) w.tasks
  pub arrivals : AreTold r.until r.items trace
  pub requests : Each (λ t. IsRequested trace t.name t.timing) w.tasks
  pub scripts : Each (Follows w trace) w.tasks
  pub objects : Each (Serves w trace) w.shared

-- a trace is permitted exactly where every part holds
pub record IsInParts (w : Software) (r : Arrivals) (trace : List Event) : Type 0 where
  pub apart : Permits w r trace → PartsHold w r trace
  pub together : PartsHold w r trace → Permits w r trace

abbrev pub MachineIsItsParts : Type 0
MachineIsItsParts = (w : Software) → IsClear w → (r : Arrivals) (trace : List Event) → IsInParts w r trace

-- what the checks say of a list of events is the verdict on it, and the only one
pub record IsJudged (w : Software) (depth : ℕ) (r : Arrivals) (told : List Event) : Type 0 where
  pub right : IsVerdictOn w r told (judged w depth r told)
  pub only : (v : Verdict) → IsVerdictOn w r told v → v ≡ judged w depth r told

abbrev pub ChecksJudge : Type 0
ChecksJudge = (w : Software) (clear : IsClear w) (r : Arrivals) (told : List Event) → IsJudged w clear.depth r told

-- a text has one verdict
abbrev pub VerdictsAreOne : Type 0
VerdictsAreOne = (w : Software) → IsClear w → (p : Program) → HasPlainNames p → (r : Arrivals) (text : List ℕ) (u v : Verdict)
    → IsVerdict w p r text u → IsVerdict w p r text v → u ≡ v
