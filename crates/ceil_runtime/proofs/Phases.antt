-- A processor in a known part of an instant, whose run goes on: it is the same with that part and that it has not stopped written out, so that
-- what a step comes to is found by computing.
use Rattle.std.specs.Prelude.{◌≡◌, ℕ, ◌<◌, ◌^◌, false, List, Some, get_or, length, slice_get, refl}
use Rattle.std.proofs.Common.{sym, ◌∙◌, ap, subst, arith}
use Rattle.std.proofs.lemmas.Option.{same_Some, slice_get_read}
use Rattle.task_runtime.specs.Doings.{IsDeed}
use Rattle.task_runtime.specs.Tasks.{ActsAs, task_of}
use Rattle.task_runtime.specs.Written.{system_of}
use Rattle.trace_tree.specs.declared.event.Event.{Event}
use Rattle.task_runtime.specs.declared.piece.Deed.{Deed}
use Rattle.task_runtime.specs.declared.piece.Piece.{Piece}
use Rattle.task_runtime.specs.declared.task.Task.{Task}
use Rattle.task_runtime.specs.Sounds.{IsAtWork}
use Rattle.ceil_runtime.specs.Acted.{IsActing, IsDoing}
use Rattle.ceil_runtime.specs.Processing.{HasPiece, IsKept}
use Rattle.ceil_runtime.specs.Snapshots.{IsWholeAt, Snapshot}
use Rattle.ceil_runtime.specs.Stepping.{Steps, StepsTelling, Told, told_of}
use Rattle.ceil_runtime.specs.declared.processor.Phase.{Phase}
use Rattle.ceil_runtime.specs.declared.processor.Phase.TheVariants.{Effects}

-- a step, with the events that stand for what it tells
pub telling : (s s' : Snapshot) (told : Told) (events : List Event) → Steps s told s' → events ≡ told_of told → StepsTelling s events s'
telling s s' told events step is = (told, is, step)

-- a processor in this part of an instant
abbrev pub at_phase : Phase → Snapshot → Snapshot
at_phase p s = record s { phase = p; stopped = false }

-- one whose task at this place has effects
abbrev pub acting : Snapshot → ℕ → Snapshot
acting s i = record s { phase = Effects (Some i); ran = Some i; stopped = false }

module _ (s : Snapshot) (p : Phase) (whole : IsWholeAt s) (phase : s.phase ≡ p) (on : s.stopped ≡ false) where
  same-phase : s ≡ at_phase p s
  same-phase = ap (λ x. record s { phase = x }) phase ∙ ap (λ b. record s { phase = p; stopped = b }) on

  pub whole-phase : IsWholeAt (at_phase p s)
  whole-phase = subst IsWholeAt same-phase whole

  pub in-phase : (P : Snapshot → Type 0) → (IsWholeAt (at_phase p s) → P (at_phase p s)) → P s
  in-phase P h = subst P (sym same-phase) (h whole-phase)

-- a processor whose task has effects
module _ (s : Snapshot) (i : ℕ) (acts : IsActing s i) where
  same-ran : s.ran ≡ Some i
  same-ran = (whole-phase s (Effects (Some i)) acts.whole acts.phase acts.goes_on).sound.here.0

  same-acting : s ≡ acting s i
  same-acting =
      ap (λ x. record s { phase = x }) acts.phase ∙ ap (λ r. record s { phase = Effects (Some i); ran = r }) same-ran
      ∙ ap (λ b. record s { phase = Effects (Some i); ran = Some i; stopped = b }) acts.goes_on

  pub whole-acting : IsWholeAt (acting s i)
  whole-acting = subst IsWholeAt same-acting acts.whole

  pub in-acting : (P : Snapshot → Type 0) → (IsWholeAt (acting s i) → P (acting s i)) → P s
  in-acting P h = subst P (sym same-acting) (h whole-acting)

  -- a step to a processor that is in the same part of the instant
  pub step-beside : (told : Told) (n : Snapshot) → n.phase ≡ s.phase → n.ran ≡ s.ran → n.stopped ≡ s.stopped
      → (IsWholeAt (acting s i) → Steps (acting s i) told (acting n i)) → Steps s told n
  step-beside told n p r b h =
      let same : n ≡ acting n i =
      ap (λ x. record n { phase = x }) (p ∙ acts.phase) ∙ ap (λ x. record n { phase = Effects (Some i); ran = x }) (r ∙ same-ran)
      ∙ ap (λ x. record n { phase = Effects (Some i); ran = Some i; stopped = x }) (b ∙ acts.goes_on) in
      subst (λ x. Steps s told x) (sym same) (subst (λ x. Steps x told (acting n i)) (sym same-acting) (h whole-acting))

  pub caller-known : i < length s.tasks
  caller-known = whole-acting.sound.here.1

  -- the task that has effects, as it is found at its place
  module _ (t : Task) (read : t ≡ get_or s.tasks i t) where
    pub caller-here : slice_get s.tasks i ≡ Some t
    caller-here = slice_get_read s.tasks (length s.tasks) i t refl caller-known read

    pub caller-kept : IsKept s.until s.time s.units t
    caller-kept = whole-acting.sound.kept i t caller-here

    pub caller-works : t.works < 2 ^ 63
    caller-works = omega (arith, caller-kept.works, whole-acting.sound.in_time, whole-acting.sound.near)

    pub caller-used : t.used < 2 ^ 63
    caller-used = omega (arith, caller-kept.used, whole-acting.sound.in_time, whole-acting.sound.near)

    pub caller-at-work : IsAtWork s.code t.progress
    caller-at-work = acts.whole.at_work i t caller-here

    -- with its piece
    pub doing-of : (p : Piece) (d : Deed) → HasPiece s.tasks i p → IsDeed s.code t.progress.stack p d
        → ActsAs (system_of t.progress.stack.thread) (task_of t) d → (w : Task) × IsDoing s i p d w
    doing-of p d has deed reaches =
        let h = has t caller-here in
        (t, record { acting = acts; here = caller-here; piece = h.0; ready = h.1; due = h.2; deed = deed; reaches = reaches })

-- a piece whose ticks are used, and the task that does it
module _ (s : Snapshot) (i : ℕ) (p : Piece) (d : Deed) (w : (t : Task) × IsDoing s i p d t) where
  pub doing-there : (x : Task) → slice_get s.tasks i ≡ Some x → IsDoing s i p d x
  doing-there x there = subst (IsDoing s i p d) (same_Some w.0 x (sym w.1.here ∙ there)) w.1

  pub doing-here : (x : Task) → x ≡ get_or s.tasks i x → IsDoing s i p d x
  doing-here x read = doing-there x (caller-here s i w.1.acting x read)

  pub doing-piece : HasPiece s.tasks i p
  doing-piece x there = let h = doing-there x there in (h.piece, h.ready, h.due)

  pub doing-known : i < length s.tasks
  doing-known = caller-known s i w.1.acting
