-- The response law of a system: no run stops at a ceiling, and each activation of a task with a row ends within what a vector that fits
-- gives the row; and after any time each level rests within that.
use Rattle.std.specs.Prelude.{◌≡◌, ℕ, zero, suc, ◌+◌, ◌≤◌, ◌<◌, List, [], length, slice_get, Some}
use Rattle.std.proofs.Common.{sym, ◌∙◌, ap, subst, arith, le_refl}
use Rattle.std.proofs.lemmas.Bool.{false≢true}
use Rattle.seq_tree.specs.Lists.{Each}
use Rattle.arrivals_tree.specs.declared.arrivals.Arrival.{Arrival}
use Rattle.rt_response.specs.declared.rows.ThreadRow.{ThreadRow}
use Rattle.rt_response.specs.declared.rows.Bound.{Bound}
use Rattle.rt_response.specs.Tables.{IsTable}
use Rattle.rt_response.specs.Tables as tables
use Rattle.rt_response.specs.Response.{Fits}
use Rattle.trace_tree.specs.declared.event.Event.{Event}
use Rattle.machine.specs.Systems.{System, TaskUnit}
use Rattle.machine.specs.Pieces.{Piece}
use Rattle.machine.specs.Pieces as piece
use Rattle.machine.specs.States.{State, Arriving, opening}
use Rattle.machine.specs.Steps.{step}
use Rattle.machine.specs.Meanings.{run, Rest}
use Rattle.law_schedules.specs.Schedules.{AllOnTime, IsSchedule, IsStart}
use Rattle.law_schedules.proofs.Shared.Law.{on-time}
use Rattle.law_schedules.proofs.Shared.RestSteps.{levels-rest}
use Rattle.law_ceilings.specs.Ceilings.{IsCeiled, GoesOn}
use Rattle.law_ceilings.proofs.Shared.Keeping.{AreWritten, busy-ready, opening-keeps, step-keeps}
use Rattle.law_ceilings.proofs.Shared.Stopping.{rest-goes-on}
use Rattle.law_responses.proofs.Logs.{Log, schedule_of}
use Rattle.law_responses.proofs.Frames.{Frame, HasRow, IsFramed, AreKeptApart}
use Rattle.law_responses.proofs.Endings.{FirstFits}
use Rattle.law_responses.proofs.Effecting as fitting
use Rattle.law_responses.proofs.Moves.{HasUnit}
use Rattle.law_responses.proofs.Told.{answers, ends_of}
use Rattle.law_responses.proofs.Opening.{empty, nothing_noted, opening-along, none-told}
use Rattle.law_responses.proofs.History.{History, history}
use Rattle.law_responses.proofs.Blocking.{IsLevelled}
use Rattle.law_responses.proofs.Stepping.{not-effects}
use Rattle.law_responses.proofs.Stops.{run-ends}
use Rattle.law_responses.proofs.Schedules.{is-schedule}
use Rattle.law_responses.proofs.Answering.{IsAnswered, all-answered}
use Rattle.law_responses.proofs.Resting.{IsRested, all-rested}
use Rattle.law_ceilings.proofs.Shared.Pieces.{Permission, AreFit, IsFit}
use Rattle.law_ceilings.proofs.Shared.Kept.{Keeps}
use Rattle.law_ceilings.proofs.Shared.Permissions.{Anything}

-- the machine keeps what is needed of pieces
first-fits : (May : Permission) (p : Piece) (ps : List Piece) → IsFit May p ps → FirstFits p ps
first-fits May (piece.Leaving condition) ps h = h
first-fits May _ ps h = tt

keeps-fit : (y : System) (s : State) → Keeps y (λ i. Anything) s → fitting.IsFit s
keeps-fit y s keeps = record {
  exits = λ i t p ps here is.
      let sound = keeps.sound i t here in
      first-fits Anything p ps (subst (λ qs. fits_of qs) is sound.fits).0;
  ready = λ i t p ps here is. busy-ready t p ps (keeps.sound i t here).rests is;
}
  where
    fits_of : List Piece → Type 0
    fits_of qs = AreFit Anything qs

run-keeps : (y : System) (text : AreWritten y (λ i. Anything)) (n : ℕ) (s : State) → Keeps y (λ i. Anything) s → Keeps y (λ i. Anything) (run y n s).0
run-keeps y text zero s keeps = keeps
run-keeps y text (suc n) s keeps = run-keeps y text n (step y s).0 (step-keeps y (λ i. Anything) text s keeps)

-- what is needed of a system with a table, for its runs to respond
pub record IsResponsive (f : Frame) (v : List Bound) (as' : List Arrival) : Type 0 where
  pub table : IsTable f.rows
  pub fits : Fits f.rows v
  pub framed : IsFramed f
  pub levels : (i : ℕ) (row : ThreadRow) → slice_get f.rows i ≡ Some row → IsLevelled f i row
  pub ceiled : IsCeiled f.system
  pub text : AreWritten f.system (λ i. Anything)
  pub apart : AreKeptApart f.system.threads [] as'

-- each task with a row responds
abbrev pub AllRespond : Frame → List Bound → List Event → Type 0
AllRespond f v told =
    (j r : ℕ) (t : TaskUnit) (row : ThreadRow) (b : Bound) → HasRow f j r → slice_get f.system.threads j ≡ Some t → slice_get f.rows r ≡ Some row
    → slice_get v r ≡ Some b
    → tables.Each (IsAnswered f.system.until b.response) (answers t.unit told)

pub states-fit : (f : Frame) (as' : List Arrival) → AreWritten f.system (λ i. Anything) → (k : ℕ)
    → fitting.IsFit (run f.system k (opening f.system as')).0
states-fit f as' text k =
    keeps-fit f.system (run f.system k (opening f.system as')).0
    (run-keeps f.system text k (opening f.system as') (opening-keeps f.system (λ i. Anything) as'))

-- a run has its logs
pub run-history : (f : Frame) (as' : List Arrival) (n : ℕ) → IsFramed f → AreWritten f.system (λ i. Anything) → AreKeptApart f.system.threads [] as'
    → History f n (opening f.system as') empty
run-history f as' n framed text apart =
    history f n (opening f.system as') empty nothing_noted framed (opening-along f as' apart) (λ k less. states-fit f as' text k)

-- what a run up to its stop leaves: a log up to the horizon, which is a schedule and says of each task with a row what the run tells
pub record Leaves (f : Frame) (v : List Bound) (told : List Event) : Type 0 where
  pub log : Log
  pub clock : length log.ticks ≡ f.system.until
  pub schedule : IsSchedule f.rows v (schedule_of f.rows f.shift log)
  pub says : (j r : ℕ) (t : TaskUnit) → HasRow f j r → slice_get f.system.threads j ≡ Some t → answers t.unit told ≡ ends_of r log.acts
  pub goes_on : Each GoesOn told
  pub units : Each (HasUnit f) told

pub run-leaves : (f : Frame) (v : List Bound) (as' : List Arrival) (told : List Event) → IsResponsive f v as'
    → Rest f.system (opening f.system as') told → Leaves f v told
run-leaves f v as' told responsive rest = record {
  log = whole.log;
  clock = whole.along.base.clock ∙ ends.1;
  schedule = is-schedule f v as' rest.steps responsive.fits responsive.levels whole
      (not-effects (run f.system rest.steps (opening f.system as')).0.phase Arriving ends.0 tt);
  says = λ j r t has at. ap (answers t.unit) (sym rest.tells) ∙ whole.grown.told [] (none-told f) j r t has at;
  goes_on = goes_on;
  units = subst (Each (HasUnit f)) rest.tells whole.grown.units;
}
  where
    goes_on : Each GoesOn told
    goes_on = rest-goes-on f.system responsive.ceiled as' told rest

    whole : History f rest.steps (opening f.system as') empty
    whole = run-history f as' rest.steps responsive.framed responsive.text responsive.apart

    ends : ((run f.system rest.steps (opening f.system as')).0.phase ≡ Arriving)
        × ((run f.system rest.steps (opening f.system as')).0.time ≡ f.system.until)
    ends = run-ends f.system rest.steps (opening f.system as') (subst (Each GoesOn) (sym rest.tells) goes_on)
        (λ stops. absurd (false≢true stops)) rest.stops

pub system-responds : (f : Frame) (v : List Bound) (as' : List Arrival) (told : List Event) → IsResponsive f v as'
    → Rest f.system (opening f.system as') told
    → Each GoesOn told × Each (HasUnit f) told × AllRespond f v told
system-responds f v as' told responsive rest
    = (leaves.goes_on, leaves.units, λ j r t row b has at asks gets. responds j r t row b has at asks gets)
  where
    leaves : Leaves f v told
    leaves = run-leaves f v as' told responsive rest

    on_time : AllOnTime f.rows v (schedule_of f.rows f.shift leaves.log) f.system.until
    on_time =
        subst (AllOnTime f.rows v (schedule_of f.rows f.shift leaves.log)) leaves.clock
        (on-time f.rows v (schedule_of f.rows f.shift leaves.log) responsive.table responsive.fits leaves.schedule (length leaves.log.ticks)
        (le_refl (length leaves.log.ticks)))

    responds : (j r : ℕ) (t : TaskUnit) (row : ThreadRow) (b : Bound) → HasRow f j r → slice_get f.system.threads j ≡ Some t
        → slice_get f.rows r ≡ Some row → slice_get v r ≡ Some b
        → tables.Each (IsAnswered f.system.until b.response) (answers t.unit told)
    responds j r t row b has at asks gets =
        subst (tables.Each (IsAnswered f.system.until b.response)) (sym (leaves.says j r t has at))
        (all-answered f.rows v f.shift leaves.log f.system.until r row b on_time asks gets)

-- after any time each level rests within its response time
abbrev pub AllRest : Frame → List Bound → List Event → Type 0
AllRest f v told =
    (i : ℕ) (row : ThreadRow) (b : Bound) (from : ℕ) → slice_get f.rows i ≡ Some row → slice_get v i ≡ Some b → from + b.response ≤ f.system.until
    → (time : ℕ) × (from < time) × (time ≤ from + b.response)
    × ((j r : ℕ) (t : TaskUnit) → r ≤ i → HasRow f j r → slice_get f.system.threads j ≡ Some t → tables.Each (IsRested time) (answers t.unit told))

pub system-rests : (f : Frame) (v : List Bound) (as' : List Arrival) (told : List Event) → IsResponsive f v as'
    → Rest f.system (opening f.system as') told → AllRest f v told
system-rests f v as' told responsive rest i row b from asks gets near = (
  found.0,
  found.1,
  found.2,
  λ j r t low has at. subst (tables.Each (IsRested found.0)) (sym (leaves.says j r t has at))
      (all-rested f.rows f.shift leaves.log found.0 i r low found.3),
)
  where
    leaves : Leaves f v told
    leaves = run-leaves f v as' told responsive rest

    found : (time : ℕ) × (from < time) × (time ≤ from + b.response) × IsStart (schedule_of f.rows f.shift leaves.log) i time
    found =
        levels-rest f.rows v (schedule_of f.rows f.shift leaves.log) i row b from responsive.table responsive.fits leaves.schedule asks gets
        (omega (arith, near, leaves.clock))
