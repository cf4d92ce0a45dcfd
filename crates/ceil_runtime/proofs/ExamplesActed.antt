-- Examples of a processor whose task has done its piece: one that holds, and for each clause one that breaks it alone. None breaks `works`
-- alone, since a `work` that starts without ticks leaves as much effort as there was.
use Rattle.std.specs.Prelude.{◌≡◌, ◌^◌, true, false, List, [], ◌∷◌, Some, None, length, set, slice_get, refl}
use Rattle.std.proofs.Common.{ℕ, ◌<◌, ◌≤◌, ap, arith, subst, sym, ◌∙◌}
use Rattle.machine.specs.Deeds.{done}
use Rattle.machine.specs.Pieces.{Finishing, Idle, Requested}
use Rattle.ceil_runtime.specs.Acted.{HasActed, with_tasks}
use Rattle.task_runtime.specs.Effort.{effort, sections_among}
use Rattle.ceil_runtime.specs.Snapshots.{IsWholeAt, Snapshot}
use Rattle.task_runtime.specs.Tasks.{task_of}
use Rattle.task_runtime.specs.Written.{reserve, system_of}
use Rattle.task_runtime.specs.declared.effects.Act.TheVariants.{Silent, Print, Keep, Finish}
use Rattle.ceil_runtime.specs.declared.processor.Phase.TheVariants.{Effects}
use Rattle.task_runtime.specs.declared.task.Task.{Task}
use Rattle.task_runtime.specs.Sounds.{IsAtWork}

-- a task whose one piece does nothing has no piece then
has-acted : (s : Snapshot) (ts : List Task) (t t' : Task) → IsWholeAt s → s.phase ≡ Effects (Some 0) → s.stopped ≡ false
    → slice_get s.tasks 0 ≡ Some t → t.left ≡ 0 → (task_of t).pieces ≡ Idle ∷ [] → task_of t' ≡ record (task_of t) { pieces = []; left = 0 }
    → t'.progress.stack.thread ≡ t.progress.stack.thread → IsAtWork s.code t'.progress → ts ≡ set s.tasks 0 t'
    → HasActed s.tasks (with_tasks ts s) 0 Silent t t'
has-acted s ts t t' whole phase goes_on here due one after thread at' put =
    let none : (task_of t').pieces ≡ [] = ap (λ u. u.pieces) after in
    let works : t'.works ≡ t.works = ap (λ u. u.works) after in
    let some : (most : ℕ) → reserve t.progress.stack.thread ≤ most → 0 < effort most (task_of t).pieces =
    λ most h. subst (λ ps. 0 < effort most ps) (sym one) (omega (arith, h)) in
    record {
      acting = record { whole = whole; phase = phase; goes_on = goes_on };
      here = here;
      due = due;
      done = record {
        acts = record { piece = Idle; rest = []; vars = (task_of t).vars; pieces = []; first = one; does = λ y alike. refl; after = after };
        at_work = at';
        thread = thread;
        works = omega (arith, works);
        falls = λ most h. (some most h, λ e. subst (λ ps. effort most ps < effort most (task_of t).pieces) (sym none) (some most h));
        among = tt;
        inside = ap sections_among none ∙ sym (ap sections_among one);
      };
      tasks = put;
    }

module _ (ts : List Task) (s : Snapshot) (t t' : Task) where
  -- the horizon is too far for a whole processor
  not-whole : HasActed ts (record s { until = 2 ^ 32 }) 0 Silent t t' → ⊥
  not-whole h = let near = h.acting.whole.sound.near in omega (arith, near)

  -- another task has effects
  not-phase : s.phase ≡ Effects (Some 1) → HasActed ts s 0 Silent t t' → ⊥
  not-phase other h = absurd (cc (sym other ∙ h.acting.phase))

  not-goes-on : HasActed ts (record s { stopped = true }) 0 Silent t t' → ⊥
  not-goes-on h = absurd (cc h.acting.goes_on)

  -- another task was there
  not-here : (u : Task) → (u ≡ t → ⊥) → slice_get ts 0 ≡ Some u → HasActed ts s 0 Silent t t' → ⊥
  not-here u apart here h = apart (cc (sym here ∙ h.here))

  not-due : t.left ≡ 1 → HasActed ts s 0 Silent t t' → ⊥
  not-due left h = let due = h.due in omega (arith, left, due)

  -- a piece that does nothing prints nothing
  not-acts : (task_of t).pieces ≡ Idle ∷ [] → HasActed ts s 0 (Print 3) t t' → ⊥
  not-acts idle h =
      let y = system_of t.progress.stack.thread in
      let is_idle : Idle ≡ h.done.acts.piece = cc (sym idle ∙ h.done.acts.first) in
      absurd (cc (ap (λ p. (done y p (task_of t).vars h.done.acts.rest).act) is_idle ∙ ap (λ d. d.act) (h.done.acts.does y (λ unit op. refl))))

  -- the task is one of other units
  not-thread : (t'.progress.stack.thread.units ≡ t.progress.stack.thread.units → ⊥) → HasActed ts s 0 Silent t t' → ⊥
  not-thread apart h = apart (ap (λ w. w.units) h.done.thread)

  -- the next piece takes no tick either, and is as great an effort
  not-falls : (task_of t).pieces ≡ Idle ∷ Idle ∷ [] → (task_of t').pieces ≡ Idle ∷ [] → t'.left ≡ 0 → HasActed ts s 0 Silent t t' → ⊥
  not-falls two one left h =
      let most = reserve t.progress.stack.thread in
      let less = (h.done.falls most (omega arith)).1 left in
      let before : effort most (task_of t).pieces ≡ most = ap (effort most) two in
      let now : effort most (task_of t').pieces ≡ most = ap (effort most) one in omega (arith, before, now, less)

  -- a request of a task that is not there
  not-among : length (system_of t.progress.stack.thread).threads ≡ 1 → HasActed ts s 0 (Keep 1 None) t t' → ⊥
  not-among one h = let among = h.done.among in omega (arith, one, among)

  -- an activation ends inside a section
  not-inside : (task_of t).pieces ≡ Finishing ∷ Requested 0 None ∷ [] → (task_of t').pieces ≡ [] → HasActed ts s 0 Finish t t' → ⊥
  not-inside two none h = let inside = h.done.inside in omega (arith, inside, ap sections_among two, ap sections_among none)

  -- the task is as it was
  not-tasks : (t ≡ t' → ⊥) → ts ≡ t ∷ [] → s.tasks ≡ ts → HasActed ts s 0 Silent t t' → ⊥
  not-tasks apart alone same h = apart (cc (sym alone ∙ sym same ∙ h.tasks ∙ ap (λ xs. set xs 0 t') alone))
