-- The laws of explanations: the terms of a thread add up to its bound, and no thread is late exactly where a design has bounds.
use Rattle.std.specs.Prelude.{◌≡◌, ◌↔◌, ℕ, ◌+◌, ◌≤◌, List, slice_get, sum_by, take, Option, Some, None}
use Rattle.std.specs.List.{AllZip}
use Rattle.ods_tree.specs.Flats.{Flat}
use Rattle.rt_response.specs.declared.rows.ThreadRow.{ThreadRow}
use Rattle.analysis.specs.Sound.{IsSound}
use Rattle.analysis.specs.Tables.{table}
use Rattle.late_response.specs.declared.reach.Reach.{Reach}
use Rattle.late_response.specs.declared.reach.Reach.TheVariants.{Solved, Beyond, Behind}
use Rattle.explanation.specs.declared.reasons.Late.{Late}
use Rattle.explanation.specs.declared.reasons.Reasons.{Reasons}
use Rattle.explanation.specs.declared.values.Value.{Value}
use Rattle.explanation.specs.Delays.{delay_by}
use Rattle.explanation.specs.Findings.{IsFound}
use Rattle.explanation.specs.Threads.{reasons_of}
use Rattle.explanation.specs.Values.{known_jitter, value_of}

-- the jitter of a thread is that of its starter's end, or its own; its blocking, its cost and what those above it take are its response time
pub record AddsUp (ts above : List Reasons) (t : Reasons) (v : Value) : Type 0 where
  pub jitter : v.jitter ≡ known_jitter ts t.row t.row.starter
  pub response : v.response ≡ t.row.block + t.row.cost + sum_by (λ o. (delay_by ts v.response o.row).ticks) above

-- so it is of each thread of a sound flat design whose bound is known
abbrev pub TermsAddUp : Type 0
TermsAddUp =
    (first : ℕ) (f : Flat) (found : List Reach) (late : Option Late) (i : ℕ) (t : Reasons) (v : Value) → IsSound f → IsFound f found late
    → slice_get (reasons_of first f found) i ≡ Some t → value_of t.reach ≡ Some v
    → AddsUp (reasons_of first f found) (take i (reasons_of first f found)) t v

-- a row whose bound is known and within its limits
abbrev pub IsKept : ThreadRow → Reach → Type 0
IsKept row (Solved jitter response) = (response ≤ row.deadline) × (jitter + response ≤ row.period)
IsKept row (Beyond round jitter response) = ⊥
IsKept row (Behind starter) = ⊥

-- all rows are so exactly where no value is told that is over its limit
abbrev pub LateIsMissed : Type 0
LateIsMissed = (f : Flat) (found : List Reach) (late : Option Late) → IsFound f found late → (late ≡ None) ↔ AllZip IsKept (table f).rows found
