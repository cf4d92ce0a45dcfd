-- A task that has acted, and what follows by what its act is to others: nothing, an event, a part of a request, or the end of its activation.
use Rattle.std.specs.Prelude.{◌≡◌, ℕ, ◌+◌, ◌<◌, ◌≤◌, ◌^◌, max, min, true, false, ◌&&◌, nat_lt, List, [], ◌∷◌, Option, Some, None, get_or, length, map}
use Rattle.std.specs.Prelude.{set, slice_get, refl}
use Rattle.std.proofs.Common.{sym, ◌∙◌, ap, subst, arith, length-set}
use Rattle.std.proofs.lemmas.Option.{same_Some, slice_get_read}
use Rattle.seq_tree.specs.Lists.{change}
use Rattle.trace_tree.specs.declared.event.Event.TheVariants as event
use Rattle.link_queue.specs.Queues.{IsFree, Queues, at_tail, in_time}
use Rattle.machine.specs.States as states
use Rattle.machine.specs.States.{Control}
use Rattle.machine.specs.Effects.{acted, ceiling_of, inside_now, outside_now}
use Rattle.machine.specs.Releases.{Next, going, is_waiting, released}
use Rattle.task_runtime.specs.Doing.{act_of}
use Rattle.task_runtime.specs.Effort.{sections_among}
use Rattle.task_runtime.specs.Readies.{is_ready}
use Rattle.task_runtime.specs.Tasks.{ActsAs, task_of}
use Rattle.task_runtime.specs.Written.{system_of}
use Rattle.task_runtime.specs.declared.effects.Act.{Act}
use Rattle.task_runtime.specs.declared.effects.Act.TheVariants.{Silent, Print, Ask, Keep, Open, Ended, Finish}
use Rattle.task_runtime.specs.declared.piece.Deed.TheVariants as to
use Rattle.task_runtime.specs.declared.readiness.Readiness.TheVariants as readies
use Rattle.task_runtime.specs.declared.task.Task.{Task}
use Rattle.task_runtime.specs.Sounds.{IsAtWork}
use Rattle.ceil_runtime.specs.Acted.{HasActed, with_tasks}
use Rattle.ceil_runtime.specs.Processing.{IsKept, IsSound}
use Rattle.ceil_runtime.specs.Snapshots.{IsWholeAt, Snapshot, system_at}
use Rattle.ceil_runtime.specs.Stepping.{Nothing, One, Steps, Told, Two}
use Rattle.ceil_runtime.specs.declared.processor.Phase.TheVariants.{Effects}
use Rattle.ceil_runtime.proofs.ActSteps.{gate-step, gated}
use Rattle.ceil_runtime.proofs.Effected.{running-free}
use Rattle.ceil_runtime.proofs.EntrySteps.{answered-step, ask-step, left-whole, ready-each, same-put, unserved-step, waits-open}
use Rattle.ceil_runtime.proofs.Phases.{acting, in-acting, step-beside, whole-acting}
use Rattle.ceil_runtime.proofs.Processed.{get-put, get_within, put-at-work, runs-alike, set-twice}
use Rattle.ceil_runtime.proofs.Reached.{among-tasks}
use Rattle.ceil_runtime.proofs.Released.{waiting-free}
use Rattle.ceil_runtime.proofs.Stepped.{effect_state, finish-rests, going-step, served-step, sleep-step, wait-step}
use Rattle.task_runtime.proofs.Shared.AtWork.{ask-is}
use Rattle.task_runtime.proofs.Shared.TasksAtWork.{nests-going, reached-act}

module _ (ts : List Task) (s : Snapshot) (i : ℕ) (act : Act) (t t' : Task) (h : HasActed ts s i act t t') where
  acted_there : slice_get s.tasks i ≡ Some t'
  acted_there = ap (λ xs. slice_get xs i) h.tasks ∙ get-put ts i t' (get_within i ts t h.here)

  pub acted-whole : IsWholeAt (acting (with_tasks ts s) i)
  acted-whole = whole-acting (with_tasks ts s) i h.acting

  pub acted-within : i < length s.tasks
  acted-within = get_within i s.tasks t' acted_there

  pub acted-few : length s.tasks < 2 ^ 32
  acted-few = omega (arith, acted-whole.sound.few, ap length h.tasks, length-set ts i t')

  -- it is the one that stands at its place
  pub acted-found : (x : Task) → x ≡ get_or s.tasks i x → HasActed ts s i act t x
  acted-found x read = subst (HasActed ts s i act t)
      (same_Some t' x (sym acted_there ∙ slice_get_read s.tasks (length s.tasks) i x refl acted-within read)) h

  -- after a further change of it
  pub acted-set : (t'' : Task) → set s.tasks i t'' ≡ set ts i t''
  acted-set t'' = ap (λ xs. set xs i t'') h.tasks ∙ set-twice ts i t' t''

  -- a task that its act concerns
  pub acted-among : (k : ℕ) → k < length (system_of t.progress.stack.thread).threads → k < length s.tasks
  acted-among k few =
      let below = among-tasks s.units ts acted-whole.sound.calls i t h.here k few in
      omega (arith, below, ap length h.tasks, length-set ts i t')

  pub acted-next : t.next < 2 ^ 63
  acted-next = let k = acted-whole.sound.kept i t h.here in omega (arith, k.next, acted-whole.sound.near)

  pub acted-works : t'.works < 2 ^ 63
  acted-works =
      let k = acted-whole.sound.kept i t h.here in
      omega (arith, h.done.works, k.works, acted-whole.sound.in_time, acted-whole.sound.near)

  -- a step that changes nothing else
  acted_step : (told : Told) → (IsWholeAt (acting (with_tasks ts s) i) → Steps (acting (with_tasks ts s) i) told
      (record (acting (with_tasks ts s) i) { tasks = set ts i t' })) → Steps (with_tasks ts s) told s
  acted_step told step =
      subst (λ xs. Steps (with_tasks ts s) told (record s { tasks = xs })) (sym h.tasks)
      (step-beside (with_tasks ts s) i h.acting told (record s { tasks = set ts i t' }) refl refl refl step)

  -- one that asks for the control structure of another task
  pub acted-asks : (k : ℕ) → ActsAs (system_of t.progress.stack.thread) (task_of t) (to.Ask k) → HasActed ts s i (Ask k) t t'
  acted-asks k reaches =
      subst (λ a. HasActed ts s i a t t')
      (ask-is act k (reached-act (system_of t.progress.stack.thread) s.costs (task_of t) (task_of t') (to.Ask k) act reaches h.done.acts)) h

  -- a part of a request that another task's control structure takes
  module _ (k : ℕ) (g : states.Task → states.Gate) (task : task_of t' ≡ going s.costs h.done.acts.vars h.done.acts.pieces (task_of t))
      (inside : sections_among (task_of t').pieces ≡ sections_among (task_of t).pieces) (gates : acted (system_at (with_tasks ts s)) i (task_of t)
      (act_of act) h.done.acts.vars h.done.acts.pieces (effect_state (with_tasks ts s) i) ≡ (
        record (effect_state (with_tasks ts s) i) {
          tasks = change k (gated g) (change i (going s.costs h.done.acts.vars h.done.acts.pieces) (map task_of ts));
        },
        [],
      ))
      (u u' : Task) (there : slice_get s.tasks k ≡ Some u) (does : task_of u' ≡ gated g (task_of u)) (progress : u'.progress ≡ u.progress)
      (ready : u'.readiness ≡ u.readiness) where
    gate-acted : Steps (with_tasks ts s) Nothing (with_tasks (set s.tasks k u') s)
    gate-acted =
        let a = h.done.acts in
        step-beside (with_tasks ts s) i h.acting Nothing (with_tasks (set s.tasks k u') s) refl refl refl
        (λ whole. gate-step (with_tasks ts s) i whole t t' h.here h.due a.piece a.rest a.pieces a.vars (act_of act) a.first
        (a.does (system_at (with_tasks ts s)) (runs-alike s.until s.costs s.units ts whole.sound.calls i t h.here))
        h.done.thread h.done.works h.done.falls (nests-going t t' s.costs a.vars a.pieces task inside) h.done.at_work s.tasks h.tasks
        task k g gates u u' (set s.tasks k u')
        (record { here = there; set_is = refl; does = does; thread = ap (λ p. p.stack.thread) progress }) ready progress)

module _ (ts : List Task) (s : Snapshot) (i : ℕ) (t t' : Task) where
  pub silent-acted : HasActed ts s i Silent t t' → Steps (with_tasks ts s) Nothing s
  silent-acted h =
      let a = h.done.acts in
      acted_step ts s i Silent t t' h Nothing
      (λ whole. going-step (with_tasks ts s) i whole t t' h.here h.due Silent h.done (nests-going t t' s.costs a.vars a.pieces a.after h.done.inside)
      a.after Nothing refl refl tt (omega arith))

  pub print-acted : (value : ℕ) → HasActed ts s i (Print value) t t'
      → Steps (with_tasks ts s) (One (event.Print s.time t'.progress.stack.thread.unit value)) s
  print-acted value h =
      let a = h.done.acts in
      let printed = One (event.Print s.time t'.progress.stack.thread.unit value) in
      acted_step ts s i (Print value) t t' h printed
      (λ whole. going-step (with_tasks ts s) i whole t t' h.here h.due (Print value) h.done
      (nests-going t t' s.costs a.vars a.pieces a.after h.done.inside) a.after printed
      (ap (λ th. let next : Next = (
        record (effect_state (with_tasks ts s) i) { tasks = change i (going s.costs a.vars a.pieces) (map task_of ts) },
        event.Print s.time th.unit value ∷ [],
      ) in next) (sym h.done.thread)) (tt, refl)
      (record { place = i; task = t; here = h.here; is_unit = ap (λ th. th.unit) h.done.thread }) (omega arith))

  -- the entry into the control structure of another task
  pub ask-acted : (k : ℕ) → HasActed ts s i (Ask k) t t' → (t'' : Task) → t''.progress ≡ t'.progress → (ceiling : ℕ)
      → ceiling_of (system_at (with_tasks ts s)) (Control k) ≡ ceiling → task_of t'' ≡ inside_now (Control k) ceiling (task_of t')
      → nat_lt ceiling t.active ≡ false → Steps (with_tasks ts s) Nothing (with_tasks (set s.tasks i t'') s)
  ask-acted k h t'' progress ceiling ceiling_is inside low =
      subst (λ xs. Steps (with_tasks ts s) Nothing (record s { tasks = xs })) (sym (acted-set ts s i (Ask k) t t' h t''))
      (step-beside (with_tasks ts s) i h.acting Nothing (record s { tasks = set ts i t'' }) refl refl refl
      (λ whole. ask-step (with_tasks ts s) i whole t h.here h.due t' t'' h.done.thread progress h.done.works h.done.falls h.done.at_work k
      h.done.acts h.done.inside
      ceiling ceiling_is inside low))

  -- the parts of a request
  module _ (k : ℕ) (u u' : Task) (read : u ≡ get_or s.tasks k u) (progress : u'.progress ≡ u.progress) (ready : u'.readiness ≡ u.readiness) where
    pub keep-acted : (value : Option ℕ) → HasActed ts s i (Keep k value) t t' → task_of u' ≡ gated (λ v. record v.gate { value = value }) (task_of u)
        → Steps (with_tasks ts s) Nothing (with_tasks (set s.tasks k u') s)
    keep-acted value h does =
        gate-acted ts s i (Keep k value) t t' h k (λ v. record v.gate { value = value }) h.done.acts.after h.done.inside refl u u'
        (slice_get_read s.tasks (length s.tasks) k u refl (acted-among ts s i (Keep k value) t t' h k h.done.among) read) does progress ready

    pub open-acted : HasActed ts s i (Open k) t t' → task_of u' ≡ gated (λ v. record v.gate { open' = true }) (task_of u)
        → Steps (with_tasks ts s) Nothing (with_tasks (set s.tasks k u') s)
    open-acted h does =
        gate-acted ts s i (Open k) t t' h k (λ v. record v.gate { open' = true }) h.done.acts.after h.done.inside refl u u'
        (slice_get_read s.tasks (length s.tasks) k u refl (acted-among ts s i (Open k) t t' h k h.done.among) read) does progress ready

-- the end of an activation
module _ (ts : List Task) (s : Snapshot) (i : ℕ) (t t' : Task) (h : HasActed ts s i Finish t t') where
  abbrev ended : Told
  ended = One (event.End s.time t'.progress.stack.thread.unit t'.used)

  pub ended-free : IsFree s.queues i
  ended-free =
      running-free s.until s.time s.units i (Some i) ts s.queues (acted-whole ts s i Finish t t' h).sound t h.here

  pub ended-next : t'.next < 2 ^ 63
  ended-next = subst (λ (n : ℕ). n < 2 ^ 63) (sym (ap (λ v. v.next) h.done.acts.after)) (acted-next ts s i Finish t t' h)

  pub ended-rest : is_ready t'.readiness ≡ false
  ended-rest = finish-rests (with_tasks ts s) i (acted-whole ts s i Finish t t' h) t t' h.here h.due h.done s.tasks h.tasks

  -- a step to a processor without a task that has effects
  ended_step : (told : Told) (tasks' : List Task) (q' : Queues) → (IsWholeAt (acting (with_tasks ts s) i) → Steps (acting (with_tasks ts s) i) told
      (record (acting (with_tasks ts s) i) { phase = Effects None; tasks = tasks'; queues = q' }))
      → Steps (with_tasks ts s) told (record s { phase = Effects None; tasks = tasks'; queues = q' })
  ended_step told tasks' q' step =
      in-acting (with_tasks ts s) i h.acting (λ x. Steps x told (record x { phase = Effects None; tasks = tasks'; queues = q' })) step

  pub sleep-acted : t'.readiness ≡ readies.Asleep → (q' : Queues) → q' ≡ record s.queues { asleep = in_time (i, max t'.next s.time) s.queues.asleep }
      → Steps (with_tasks ts s) ended (record s { phase = Effects None; tasks = set s.tasks i t'; queues = q' })
  sleep-acted sleeps q' is =
      ended_step ended (set s.tasks i t') q' (λ whole. sleep-step (with_tasks ts s) i whole t t' h.here h.due h.done (set s.tasks i t')
      (acted-set ts s i Finish t t' h t') sleeps q' is)

  pub wait-acted : (t'.readiness ≡ readies.Asleep → ⊥) → t'.gate.«open» ≡ false
      → Steps (with_tasks ts s) ended (record s { phase = Effects None; tasks = set s.tasks i t' })
  wait-acted not shut =
      ended_step ended (set s.tasks i t') s.queues (λ whole. wait-step (with_tasks ts s) i whole t t' h.here h.due h.done (set s.tasks i t')
      (acted-set ts s i Finish t t' h t') not shut)

  pub served-acted : (t'.readiness ≡ readies.Asleep → ⊥) → t'.gate.«open» ≡ true → (t'' : Task) → task_of t'' ≡ released s.costs (task_of t')
      → t''.progress.stack.thread ≡ t'.progress.stack.thread → t''.works ≤ t'.works + min t''.left 1 → 0 < t''.left
      → IsAtWork s.code t''.progress → (q' : Queues)
      → q' ≡ record s.queues { ready = at_tail (i, (task_of t'').active) s.queues.ready }
      → Steps (with_tasks ts s) (Two (event.End s.time t'.progress.stack.thread.unit t'.used)
      (event.Release s.time t'.progress.stack.thread.unit t'.gate.value))
      (record s { phase = Effects None; tasks = set s.tasks i t''; queues = q' })
  served-acted not is_open t'' task thread works some at'' q' links =
      ended_step _ (set s.tasks i t'') q' (λ whole. served-step (with_tasks ts s) i whole t t' h.here h.due h.done s.tasks h.tasks t'' task thread
      works some at'' not is_open q' links)

-- the end of a request, once the task has left the control structure of the one that it requested
pub record HasLeft (ts : List Task) (s : Snapshot) (i k : ℕ) (value : Option ℕ) (t t' t'' u : Task) : Type 0 where
  pub acted : HasActed ts s i (Ended k value) t t'
  pub progress : t''.progress ≡ t'.progress
  pub outside : task_of t'' ≡ outside_now (task_of t')
  pub there : slice_get (set s.tasks i t'') k ≡ Some u

-- as it is found, with the one that was requested
pub left-found : (ts : List Task) (s : Snapshot) (i k : ℕ) (value : Option ℕ) (t t' : Task) → HasActed ts s i (Ended k value) t t' → (x : Task)
    → x ≡ get_or s.tasks i x → (t'' : Task) → t''.progress ≡ x.progress → task_of t'' ≡ outside_now (task_of x) → (u : Task)
    → u ≡ get_or (set s.tasks i t'') k u → HasLeft ts s i k value t x t'' u
left-found ts s i k value t t' h x read t'' progress outside u asked = record {
  acted = acted-found ts s i (Ended k value) t t' h x read;
  progress = progress;
  outside = outside;
  there = slice_get_read (set s.tasks i t'') (length (set s.tasks i t'')) k u refl (omega (
    arith,
    acted-among ts s i (Ended k value) t t' h k h.done.among,
    length-set s.tasks i t'',
  )) asked;
}

module _ (ts : List Task) (s : Snapshot) (i k : ℕ) (value : Option ℕ) (t t' t'' u : Task) (h : HasLeft ts s i k value t t' t'' u) where
  left_same : set s.tasks i t'' ≡ set ts i t''
  left_same = acted-set ts s i (Ended k value) t t' h.acted t''

  left_at : slice_get (set ts i t'') k ≡ Some u
  left_at = ap (λ xs. slice_get xs k) (sym left_same) ∙ h.there

  left_sound : IsSound s.until s.time (Effects (Some i)) (Some i) s.units (set ts i t'') s.queues
  left_sound =
      let a = h.acted in
      left-whole (with_tasks ts s) i (acted-whole ts s i (Ended k value) t t' a) t a.here a.due t' t'' a.done.thread h.progress a.done.works k value
      a.done.acts a.done.inside h.outside

  pub left-at-work : IsAtWork s.code u.progress
  left-at-work =
      put-at-work s.code ts i t'' (acted-whole ts s i (Ended k value) t t' h.acted).at_work
      (subst (IsAtWork s.code) (sym h.progress) h.acted.done.at_work) k u left_at

  left_kept : IsKept s.until s.time s.units u
  left_kept = left_sound.kept k u left_at

  pub left-next : u.next < 2 ^ 63
  left-next = omega (arith, left_kept.next, left_sound.near)

  pub left-works : u.works < 2 ^ 63
  left-works = omega (arith, left_kept.works, left_sound.in_time, left_sound.near)

  pub left-free : u.readiness ≡ readies.Waiting → IsFree s.queues k
  left-free waits =
      waiting-free s.until s.time s.units (Effects (Some i)) (Some i) (set ts i t'') s.queues left_sound
      (ready-each s.until s.time s.units i (Some i) (set ts i t'') s.queues left_sound t''
      (get-put ts i t'' (get_within i ts t h.acted.here))) k u left_at waits

  -- nobody is released
  pub unserved-acted : (is_waiting (task_of u).readiness && (task_of u).gate.open') ≡ false
      → Steps (with_tasks ts s) (One (event.Request s.time t'.progress.stack.thread.unit u.progress.stack.thread.unit value))
      (with_tasks (set (set s.tasks i t'') k u) s)
  unserved-acted not =
      let a = h.acted in
      let told = One (event.Request s.time t'.progress.stack.thread.unit u.progress.stack.thread.unit value) in
      subst (λ xs. Steps (with_tasks ts s) told (with_tasks xs s)) (sym (same-put s.tasks i t'' k u h.there ∙ left_same))
      (step-beside (with_tasks ts s) i a.acting told (with_tasks (set ts i t'') s) refl refl refl
      (λ whole. unserved-step (with_tasks ts s) i whole t a.here a.due t' t'' a.done.thread h.progress a.done.works a.done.falls a.done.at_work k
      value a.done.acts
      a.done.inside h.outside u left_at not))

  -- the task that was requested is released
  pub answered-acted : (is_waiting (task_of u).readiness && (task_of u).gate.open') ≡ true → (u' : Task) → task_of u' ≡ released s.costs (task_of u)
      → u'.progress.stack.thread ≡ u.progress.stack.thread → u'.works ≤ u.works + min u'.left 1 → IsAtWork s.code u'.progress → (q' : Queues)
      → q' ≡ record s.queues { ready = at_tail (k, (task_of u').active) s.queues.ready }
      → Steps (with_tasks ts s) (Two (event.Request s.time t'.progress.stack.thread.unit u.progress.stack.thread.unit value)
      (event.Release s.time u'.progress.stack.thread.unit u.gate.value)) (record s { tasks = set (set s.tasks i t'') k u'; queues = q' })
  answered-acted served u' task thread works now' q' links =
      let a = h.acted in
      let waits = waits-open u served in
      let told = Two (event.Request s.time t'.progress.stack.thread.unit u.progress.stack.thread.unit value)
      (event.Release s.time u'.progress.stack.thread.unit u.gate.value) in
      subst (λ xs. Steps (with_tasks ts s) told (record s { tasks = set xs k u'; queues = q' })) (sym left_same)
      (step-beside (with_tasks ts s) i a.acting told (record s { tasks = set (set ts i t'') k u'; queues = q' }) refl refl refl
      (λ whole. answered-step (with_tasks ts s) i whole t a.here a.due t' t'' a.done.thread h.progress a.done.works a.done.at_work a.done.falls k
      value a.done.acts
      a.done.inside h.outside u u' left_at task thread waits.0 waits.1 works now' q' links))
