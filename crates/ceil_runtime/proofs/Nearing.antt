-- Steps that tell nothing come to an end.
use Rattle.std.specs.Prelude.{◌≡◌, ℕ, zero, suc, ◌+◌, ◌-◌, ◌*◌, ◌<◌, ◌≤◌, Bool, true, false, ◌==◌, if◌then◌else◌, fold, List, [], ◌∷◌, map, sum}
use Rattle.std.specs.Prelude.{Option, Some, None, option_map, slice_get, refl}
use Rattle.std.proofs.Common.{sym, ◌∙◌, ap, subst, arith}
use Rattle.seq_tree.specs.declared.tree.Costs.{Costs}
use Rattle.arrivals_tree.specs.declared.arrivals.Arrival.{Arrival}
use Rattle.ada_tree.specs.Trees.{unit_of}
use Rattle.ada_tree.specs.declared.program.Unit as units
use Rattle.task_runtime.specs.Callable.{calls_room, libraries_room, objects_room}
use Rattle.std.proofs.lemmas.List.{length-map}
use Rattle.std.proofs.lemmas.Option.{same_Some, slice_get-map}
use Rattle.machine.specs.States as states
use Rattle.task_runtime.specs.Effort.{effort, most_ends, own_vars}
use Rattle.ceil_runtime.specs.Processing.{AllTasks, IsKept, system_by}
use Rattle.ceil_runtime.specs.Left.{effort_of, ran_effort}
use Rattle.ceil_runtime.specs.Stepping.{steps_by}
use Rattle.task_runtime.specs.Tasks.{task_of}
use Rattle.task_runtime.specs.Written.{system_of, params_of, reserve, thread_of}
use Rattle.task_runtime.specs.declared.task.Task.{Task}
use Rattle.linker.specs.declared.program.LinkedUnits.{LinkedUnits}
use Rattle.ceil_runtime.specs.Snapshots.{AreAtWork}
use Rattle.ceil_runtime.specs.declared.processor.Phase.TheVariants.{Effects, Use}
use Rattle.task_runtime.proofs.Shared.TasksAtWork.{effort-few}
use Rattle.machine.specs.Systems.{libraries_from, objects_from}

-- the sum of a list by its first number
fold-from : (a : ℕ) (xs : List ℕ) → fold ◌+◌ a xs ≡ a + fold ◌+◌ 0 xs
fold-from a [] = omega arith
fold-from a (x ∷ xs) = let here = fold-from (a + x) xs in let there = fold-from (0 + x) xs in omega (arith, here, there)

sum-cons : (x : ℕ) (xs : List ℕ) → sum (x ∷ xs) ≡ x + sum xs
sum-cons x xs = let here = fold-from (0 + x) xs in omega (arith, here)

-- each task's data are among all
sum-most : (tasks : List Task) (i : ℕ) (t : Task) → slice_get tasks i ≡ Some t
    → own_vars (thread_of t.progress.stack.thread) ≤ sum (map own_vars (map (λ u. thread_of u.progress.stack.thread) tasks))
sum-most [] i t at = absurd (cc at)
sum-most (u ∷ us) zero t at =
    let whole = sum-cons (own_vars (thread_of u.progress.stack.thread)) (map own_vars (map (λ w. thread_of w.progress.stack.thread) us)) in
    let same : own_vars (thread_of u.progress.stack.thread) ≡ own_vars (thread_of t.progress.stack.thread)
    = ap (λ v. own_vars (thread_of v.progress.stack.thread)) (same_Some u t at) in
    omega (arith, whole, same)
sum-most (u ∷ us) (suc i) t at =
    let whole = sum-cons (own_vars (thread_of u.progress.stack.thread)) (map own_vars (map (λ w. thread_of w.progress.stack.thread) us)) in
    let more = sum-most us i t at in omega (arith, more, whole)

-- what a task's frames may come to
pub reserve-most : (until time : ℕ) (costs : Costs) (us : List units.Unit) (tasks : List Task) (i : ℕ) (t : Task) → slice_get tasks i ≡ Some t
    → t.progress.stack.thread.units.now ≡ us
    → reserve t.progress.stack.thread ≤ most_ends (system_by until costs us tasks)
reserve-most until time costs us tasks i t at of =
    let room : calls_room [] (system_of t.progress.stack.thread) ≡ calls_room [] (system_by until costs us tasks) =
    ap (λ vs. libraries_room [] (libraries_from 0 (map unit_of vs)) + objects_room [] (objects_from 0 (map unit_of vs))) of in
    omega (arith, sum-most tasks i t at, room, length-map (params_of t.progress.stack.thread) (λ q. q.name))

pub ran-few : (until time : ℕ) (costs : Costs) (us : List units.Unit) (tasks : List Task) (ran : Option ℕ) → AllTasks (IsKept until time us) tasks
    → (code : LinkedUnits) → AreAtWork code tasks
    → ran_effort (most_ends (system_by until costs us tasks)) (map task_of tasks) ran ≤ most_ends (system_by until costs us tasks)
ran-few until time costs us tasks None kept code at_work = omega arith
ran-few until time costs us tasks (Some i) kept code at_work
    = subst (λ (o : Option states.Task). effort_of (most_ends (system_by until costs us tasks)) o ≤ most_ends (system_by until costs us tasks))
    (sym (slice_get-map task_of tasks i)) (by_task (slice_get tasks i) refl)
  where
    most : ℕ
    most = most_ends (system_by until costs us tasks)

    by_left : (t : Task) (b : Bool) → effort (most_ends (system_by until costs us tasks)) (task_of t).pieces
        ≤ most_ends (system_by until costs us tasks)
        → (if b then effort (most_ends (system_by until costs us tasks)) (task_of t).pieces else 0) ≤ most_ends (system_by until costs us tasks)
    by_left t true h = h
    by_left t false h = omega arith

    by_task : (o : Option Task) → slice_get tasks i ≡ o → effort_of (most_ends (system_by until costs us tasks)) (option_map task_of o)
        ≤ most_ends (system_by until costs us tasks)
    by_task None at = omega arith
    by_task (Some t) at = by_left t (t.left == 0) (effort-few code (most_ends (system_by until costs us tasks)) t (at_work i t at)
        (reserve-most until time costs us tasks i t at (kept i t at).units))

-- the use of ticks
pub nears-ticks : (running : Option ℕ) (arrivals : List Arrival) (until time time' most most' : ℕ) (tasks tasks' : List Task) (ran ran' : Option ℕ)
    → most' ≡ most → time < time' → time' ≤ until → ran_effort most' (map task_of tasks') ran' ≤ most'
    → steps_by arrivals most' until time' (Effects running) tasks' ran' < steps_by arrivals most until time Use tasks ran
nears-ticks running arrivals until time time' most most' tasks tasks' ran ran' same later within few =
    let left : until - time ≡ (until - time') + suc (time' - time - 1) = omega arith in
    let now : (until - time') * (most' + 4) + (3 + ran_effort most' (map task_of tasks') ran')
    < ((until - time') + suc (time' - time - 1)) * (most' + 4) + 0 =
    lem (until - time') (time' - time - 1) most' (ran_effort most' (map task_of tasks') ran') few in
    let rate : (until - time) * (most + 4) ≡ ((until - time') + suc (time' - time - 1)) * (most' + 4)
    = ap (λ n. n * (most + 4)) left ∙ ap (λ n. ((until - time') + suc (time' - time - 1)) * (n + 4)) (sym same) in
    omega (arith, now, rate)
  where
    lem : (a b m e : ℕ) → e ≤ m → a * (m + 4) + (3 + e) < (a + suc b) * (m + 4) + 0
    lem a b m e h = grind arith

-- the effects of the task that used the tick before, before and after one of them
pub fewer-effects : (most most' : ℕ) (tasks tasks' : List states.Task) (i : ℕ) (t t' : states.Task) → most' ≡ most → slice_get tasks i ≡ Some t
    → slice_get tasks' i ≡ Some t' → t.left ≡ 0
    → (0 < effort most t.pieces) × (t'.left ≡ 0 → effort most t'.pieces < effort most t.pieces)
    → ran_effort most' tasks' (Some i) < ran_effort most tasks (Some i)
fewer-effects most most' tasks tasks' i t t' same at at' used falls =
    let before : ran_effort most tasks (Some i) ≡ effort most t.pieces
    = ap (effort_of most) at ∙ ap (λ l. if l == 0 then effort most t.pieces else 0) used in
    let now : ran_effort most' tasks' (Some i) ≡ (if t'.left == 0 then effort most t'.pieces else 0)
    = ap (λ n. ran_effort n tasks' (Some i)) same ∙ ap (effort_of most) at' in
    subst (λ (n : ℕ). n < ran_effort most tasks (Some i)) (sym now)
    (subst (λ (n : ℕ). (if t'.left == 0 then effort most t'.pieces else 0) < n) (sym before) (by_left (t'.left == 0) refl))
  where
    by_left : (b : Bool) → (t'.left == 0) ≡ b → (if b then effort most t'.pieces else 0) < effort most t.pieces
    by_left true e = falls.1 (is_zero t'.left e)
      where
        is_zero : (m : ℕ) → (m == 0) ≡ true → m ≡ 0
        is_zero m h = grind arith
    by_left false e = falls.0

-- an effect that tells nothing
pub nears-effect : (running running' : Option ℕ) (arrivals : List Arrival) (until time most most' : ℕ) (tasks tasks' : List Task) (ran : Option ℕ)
    → most' ≡ most → ran_effort most' (map task_of tasks') ran < ran_effort most (map task_of tasks) ran
    → steps_by arrivals most' until time (Effects running') tasks' ran < steps_by arrivals most until time (Effects running) tasks ran
nears-effect running running' arrivals until time most most' tasks tasks' ran same less =
    let rate : (until - time) * (most' + 4) ≡ (until - time) * (most + 4) = ap (λ n. (until - time) * (n + 4)) same in
    omega (arith, less, rate)
