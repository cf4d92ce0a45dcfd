-- A run that stops at the horizon is a schedule of its table.
use Rattle.std.specs.Prelude.{◌≡◌, ℕ, List, slice_get, Some}
use Rattle.arrivals_tree.specs.declared.arrivals.Arrival.{Arrival}
use Rattle.rt_response.specs.declared.rows.ThreadRow.{ThreadRow}
use Rattle.rt_response.specs.declared.rows.Bound.{Bound}
use Rattle.rt_response.specs.Response.{Fits}
use Rattle.machine.specs.States.{Effects, opening}
use Rattle.machine.specs.Meanings.{run}
use Rattle.law_schedules.specs.Schedules.{IsSchedule}
use Rattle.law_responses.proofs.Logs.{schedule_of}
use Rattle.law_responses.proofs.Numbers.{within-of, needs-of, uses-of, separate-of}
use Rattle.law_responses.proofs.Jitters.{jitters-of}
use Rattle.law_responses.proofs.Views.{view}
use Rattle.law_responses.proofs.Frames.{Frame}
use Rattle.law_responses.proofs.BaseMoves.{base-unended}
use Rattle.law_responses.proofs.Stepping.{some-left}
use Rattle.law_responses.proofs.Opening.{empty}
use Rattle.law_responses.proofs.History.{History}
use Rattle.law_responses.proofs.Blocking.{IsLevelled, blocks-of}

-- a run up to a part of an instant at which no effect comes is a schedule
pub is-schedule : (f : Frame) (v : List Bound) (as' : List Arrival) (m : ℕ) → Fits f.rows v
    → ((i : ℕ) (row : ThreadRow) → slice_get f.rows i ≡ Some row → IsLevelled f i row)
    → (h : History f m (opening f.system as') empty) → ((run f.system m (opening f.system as')).0.phase ≡ Effects → ⊥)
    → IsSchedule f.rows v (schedule_of f.rows f.shift h.log)
is-schedule f v as' m fits levels h calm =
    let unended = base-unended f (view (run f.system m (opening f.system as')).0) h.log h.notes.current h.along.base
    (some-left f (view (run f.system m (opening f.system as')).0) h.log h.notes h.along calm) in
    record {
      within = within-of f.rows f.shift h.log h.along.base.logged;
      needs = needs-of f.rows v f.shift h.log h.along.base.logged unended;
      uses = uses-of f.rows f.shift h.log h.along.base.logged unended;
      separate = separate-of f.rows v f.shift h.log h.along.asking.timed;
      jitters = jitters-of f.rows v f.shift h.log fits h.along.base.logged h.along.asking.timed;
      blocks = λ i row first last asks start less inside pending. blocks-of f as' m h f.rows f.shift i row first last (levels i row
          asks) less inside pending;
    }
