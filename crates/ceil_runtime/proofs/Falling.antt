-- A run that goes on has as many events less to tell.
use Rattle.std.specs.Prelude.{◌≡◌, ℕ, zero, suc, ◌+◌, ◌-◌, ◌*◌, ◌<◌, ◌≤◌, Bool, List, [], ◌∷◌, length, Option, Some, slice_get, map}
use Rattle.std.proofs.Common.{sym, ◌∙◌, ap, arith}
use Rattle.std.proofs.lemmas.Option.{same_Some}
use Rattle.arrivals_tree.specs.declared.arrivals.Arrival.{Arrival}
use Rattle.seq_tree.specs.Lists.{change}
use Rattle.seq_tree.specs.Variables.{Variables}
use Rattle.machine.specs.Systems.{System}
use Rattle.machine.specs.States.{Task, Readiness, Asleep, Waiting, Ready}
use Rattle.std.proofs.lemmas.List.{length-map}
use Rattle.seq_tree.specs.declared.tree.Costs.{Costs}
use Rattle.ada_tree.specs.declared.program.Unit as units
use Rattle.link_queue.specs.Queues.{Entry}
use Rattle.task_runtime.specs.Effort.{most_ends}
use Rattle.ceil_runtime.specs.Left.{left, ran_effort, sleeper, sleepers}
use Rattle.ceil_runtime.specs.Processing.{state_by, system_by}
use Rattle.task_runtime.specs.Tasks.{task_of}
use Rattle.task_runtime.specs.Readies.{readiness_of}
use Rattle.task_runtime.specs.Written.{thread_of}
use Rattle.task_runtime.specs.declared.task.Task as works
use Rattle.task_runtime.specs.declared.readiness.Readiness.TheVariants as readiness
use Rattle.ceil_runtime.specs.declared.processor.Phase.{Phase}
use Rattle.ceil_runtime.specs.declared.processor.Phase.TheVariants.{Effects, Delays, Arriving, Use}
use Rattle.ceil_runtime.proofs.Processed.{Changed, changed-system, changed-tasks, here-of}

-- the sum after one task has changed
pub sleepers-change : (ts : List Task) (i : ℕ) (t : Task) (f : Task → Task) → slice_get ts i ≡ Some t
    → sleepers (change i f ts) + sleeper t.readiness ≡ sleepers ts + sleeper (f t).readiness
sleepers-change [] i t f at = absurd (cc at)
sleepers-change (u ∷ us) zero t f at =
    let same : u ≡ t = same_Some u t at in
    let a : sleeper u.readiness ≡ sleeper t.readiness = ap (λ v. sleeper v.readiness) same in
    let b : sleeper (f u).readiness ≡ sleeper (f t).readiness = ap (λ v. sleeper (f v).readiness) same in
    sums (sleeper (f u).readiness) (sleeper u.readiness) (sleepers us) (sleeper t.readiness) (sleeper (f t).readiness) a b
  where
    sums : (a b s c d : ℕ) → b ≡ c → a ≡ d → a + s + c ≡ b + s + d
    sums a b s c d h k = omega arith
sleepers-change (u ∷ us) (suc i) t f at = sums (sleeper u.readiness) (sleepers (change i f us)) (sleepers us) (sleeper t.readiness)
    (sleeper (f t).readiness) (sleepers-change us i t f at)
  where
    sums : (a b s c d : ℕ) → b + c ≡ s + d → a + b + c ≡ a + s + d
    sums a b s c d h = omega arith

-- the most that it comes to
pub sleeper-most : (r : Readiness) → sleeper r ≤ 1
sleeper-most (Asleep until) = omega arith
sleeper-most Waiting = omega arith
sleeper-most Ready = omega arith

pub sleepers-most : (ts : List Task) → sleepers ts ≤ length ts
sleepers-most [] = omega arith
sleepers-most (t ∷ ts) = let one = sleeper-most t.readiness in let more = sleepers-most ts in omega (arith, one, more)

-- the use of ticks, where an instant tells at most k events
falls-ticks : (until time ticks k e : ℕ) → 0 < ticks → time + ticks ≤ until → e ≤ k → (until - (time + ticks)) * k + e + 0 ≤ (until - time) * k + 0
falls-ticks until time ticks k e some within few =
    let left : until - time ≡ (until - (time + ticks)) + suc (ticks - 1) = omega arith in
    let rate : (until - time) * k ≡ ((until - (time + ticks)) + suc (ticks - 1)) * k = ap (λ n. n * k) left in
    omega (arith, rate, lem (until - (time + ticks)) (ticks - 1) few)
  where
    lem : (a b : ℕ) → e ≤ k → a * k + e ≤ (a + suc b) * k
    lem a b h = grind arith

-- the most events of an instant
abbrev pub most_told : System → ℕ
most_told y = 2 * most_ends y + length y.threads

-- the number of a processor with these fields
abbrev pub left_by : List Variables → List Arrival → ℕ → Costs → List units.Unit → ℕ → Phase → Option ℕ → Bool → List works.Task → List Entry → ℕ
left_by stores arrivals until costs us time p ran stopped tasks ready
    = left (record { system = system_by until costs us tasks; state = state_by stores arrivals time p ran stopped tasks ready })

-- ticks are used
pub falls-use : (σ σ' : List Variables) (running : Option ℕ) (arrivals : List Arrival) (until : ℕ) (costs : Costs) (us : List units.Unit)
    (time ticks : ℕ) (ran ran' : Option ℕ) (stopped stopped' : Bool) (tasks tasks' : List works.Task) (ready ready' : List Entry)
    → system_by until costs us tasks' ≡ system_by until costs us tasks
    → ran_effort (most_ends (system_by until costs us tasks')) (map task_of tasks') ran' ≤ most_ends (system_by until costs us tasks')
    → 0 < ticks → time + ticks ≤ until → left_by σ' arrivals until costs us (time + ticks) (Effects running) ran' stopped' tasks' ready' + 0
    ≤ left_by σ arrivals until costs us time Use ran stopped tasks ready
falls-use σ σ' running arrivals until costs us time ticks ran ran' stopped stopped' tasks tasks' ready ready' same few some within =
    let n : ℕ = most_told (system_by until costs us tasks') in
    let e : ℕ = 2 * ran_effort (most_ends (system_by until costs us tasks')) (map task_of tasks') ran' + sleepers (map task_of tasks') in
    let most : e ≤ n = omega (
      arith,
      few,
      sleepers-most (map task_of tasks'),
      length-map tasks' task_of,
      length-map tasks' (λ u.
          thread_of u.progress.stack.thread),
    ) in
    let falls = falls-ticks until time ticks n e some within most in
    let rate : (until - time) * n ≡ (until - time) * most_told (system_by until costs us tasks) = ap (λ y. (until - time) * most_told y) same in
    omega (arith, falls, rate)

-- an arrival for no task
pub falls-nobody : (σ σ' : List Variables) (a : Arrival) (others : List Arrival) (until : ℕ) (costs : Costs) (us : List units.Unit) (time : ℕ)
    (ran : Option ℕ) (stopped : Bool) (tasks : List works.Task) (ready : List Entry)
    → left_by σ' others until costs us time Arriving ran stopped tasks ready + 0
    ≤ left_by σ (a ∷ others) until costs us time Arriving ran stopped tasks ready
falls-nobody σ σ' a others until costs us time ran stopped tasks ready = omega arith

-- one task has changed
module _ (tasks tasks' : List works.Task) (i : ℕ) (t t' : works.Task) (f : Task
    → Task) (c : Changed tasks tasks' i t t' f) (until : ℕ) (costs : Costs) (us : List units.Unit) where
  pub sleepers-sum : sleepers (map task_of tasks') + sleeper (task_of t).readiness ≡ sleepers (map task_of tasks) + sleeper (task_of t').readiness
  sleepers-sum = ap (λ ts. sleepers ts + sleeper (task_of t).readiness) (changed-tasks tasks tasks' i t t' f c)
      ∙ sleepers-change (map task_of tasks) i (task_of t) f (here-of tasks tasks' i t t' f c)
      ∙ ap (λ u. sleepers (map task_of tasks) + sleeper u.readiness) (sym c.does)

  rate : (k : ℕ) → k * most_told (system_by until costs us tasks') ≡ k * most_told (system_by until costs us tasks)
  rate k = ap (λ y. k * most_told y) (changed-system tasks tasks' i t t' f c until costs us)

  pub falls-release : (σ σ' : List Variables) (arrivals : List Arrival) (time : ℕ) (ran : Option ℕ) (stopped : Bool) (ready ready' : List Entry)
      → t.readiness ≡ readiness.Asleep → (task_of t').readiness ≡ Ready
      → left_by σ' arrivals until costs us time Delays ran stopped tasks' ready' + 1
      ≤ left_by σ arrivals until costs us time Delays ran stopped tasks ready
  falls-release σ σ' arrivals time ran stopped ready ready' a b =
      let was : sleeper (task_of t).readiness ≡ 1 = ap (λ r. sleeper (readiness_of r t.next)) a in
      let is : sleeper (task_of t').readiness ≡ 0 = ap sleeper b in
      omega (arith, rate (until - time), sleepers-sum, was, is)

  -- an arrival, which may tell two events
  pub falls-arrival : (σ σ' : List Variables) (a : Arrival) (others : List Arrival) (time n : ℕ) (ran : Option ℕ) (stopped : Bool)
      (ready ready' : List Entry) → n ≤ 2
      → left_by σ' others until costs us time Arriving ran stopped tasks' ready' + n
      ≤ left_by σ (a ∷ others) until costs us time Arriving ran stopped tasks ready
  falls-arrival σ σ' a others time n ran stopped ready ready' h = omega (arith, rate (until - time), h)

-- effects that leave fewer of them
pub falls-effect : (σ σ' : List Variables) (running running' ran : Option ℕ) (arrivals : List Arrival) (until : ℕ) (costs : Costs)
    (us : List units.Unit) (time n : ℕ) (stopped stopped' : Bool) (tasks tasks' : List works.Task) (ready ready' : List Entry)
    → system_by until costs us tasks' ≡ system_by until costs us tasks
    → 2 * ran_effort (most_ends (system_by until costs us tasks')) (map task_of tasks') ran + sleepers (map task_of tasks') + n
    ≤ 2 * ran_effort (most_ends (system_by until costs us tasks)) (map task_of tasks) ran + sleepers (map task_of tasks)
    → left_by σ' arrivals until costs us time (Effects running') ran stopped' tasks' ready' + n
    ≤ left_by σ arrivals until costs us time (Effects running) ran stopped tasks ready
falls-effect σ σ' running running' ran arrivals until costs us time n stopped stopped' tasks tasks' ready ready' same h =
    let rate : (until - time) * most_told (system_by until costs us tasks') ≡ (until - time) * most_told (system_by until costs us tasks)
    = ap (λ y. (until - time) * most_told y) same in
    omega (arith, rate, h)
