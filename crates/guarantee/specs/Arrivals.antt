-- Arrivals by names, and what it is that they keep their separations: each is at most the jitter later than its nominal time.
-- Release jitter is that of Tindell, Burns and Wellings 1994.
use Rattle.std.specs.Prelude.{◌≡◌, ℕ, ◌+◌, ◌≤◌, true, List, [], ◌∷◌, map, filter, find, max, Option, Some, None, ⊤}
use Rattle.std.specs.List.{list_any}
use Rattle.seq_tree.specs.Lists.{Each}
use Rattle.seq_tree.specs.Names.{Name, same_name}
use Rattle.seq_tree.specs.declared.tree.Param.{Param}
use Rattle.ods_tree.specs.Designs.{Design}
use Rattle.ods_tree.specs.Flats.{Timing, Cyclic, Sporadic}
use Rattle.ada_tree.specs.Programs.{Program}
use Rattle.arrivals_tree.specs.Arriving as places
use Rattle.trace_tree.specs.Lines.{unit_name}
use Rattle.guarantee.specs.Software.{Task, Software, software}

-- how long the next `work` statements of a task take, in ticks
pub record Durations : Type 0 where
  pub task : Name
  pub ticks : List ℕ

-- a request from outside
pub record Arrival : Type 0 where
  pub time : ℕ
  pub task : Name
  pub value : Option ℕ

-- the horizon, durations, and requests from outside
pub record Arrivals : Type 0 where
  pub until : ℕ
  pub work : List Durations
  pub items : List Arrival

-- the arrivals of a program's run, by names
abbrev pub named_arrivals : Program → places.Arrivals → Arrivals
named_arrivals p r = record {
  until = r.until;
  work = map (λ w. record { task = unit_name p w.task; ticks = w.ticks }) r.work;
  items = map (λ a. record { time = a.time; task = unit_name p a.task; value = a.value }) r.items;
}

-- times that don't fall
abbrev pub DontFall : ℕ → List Arrival → Type 0
DontFall now [] = ⊤
DontFall now (a ∷ more) = (now ≤ a.time) × DontFall a.time more

-- a value that is there exactly where there is a parameter
abbrev pub IsValueFor : List Param → Option ℕ → Type 0
IsValueFor [] None = ⊤
IsValueFor (p ∷ ps) (Some value) = ⊤
IsValueFor [] (Some value) = ⊥
IsValueFor (p ∷ ps) None = ⊥

-- a request that a task of this timing takes from outside
abbrev pub Takes : Timing → Option ℕ → Type 0
Takes (Cyclic period offset) value = ⊥
Takes (Sporadic op separation None) value = ⊥
Takes (Sporadic op separation (Some jitter)) value = IsValueFor op.params value

-- a request that is taken from outside, where the task is there
abbrev pub IsTaken : Option Task → Option ℕ → Type 0
IsTaken None value = ⊥
IsTaken (Some t) value = Takes t.timing value

-- a request of a task from outside
abbrev pub IsExternal : List Task → Arrival → Type 0
IsExternal ts a = IsTaken (find (λ t. same_name t.name a.task) ts) a.value

-- times that are at most the jitter later than their nominal times; a nominal time is the time less the jitter, but at least this one,
-- and counts here with the jitter added
abbrev pub KeepTime : ℕ → ℕ → ℕ → List ℕ → Type 0
KeepTime separation jitter least [] = ⊤
KeepTime separation jitter least (time ∷ more) =
    (max time least ≤ time + jitter) × KeepTime separation jitter (max time least + separation) more

-- the times of a task's requests from outside
abbrev pub times_of : Name → List Arrival → List ℕ
times_of name items = map (λ a. a.time) (filter (λ a. same_name a.task name) items)

-- the requests of a task that keep its separation
abbrev pub KeepsSeparation : List Arrival → Name → Timing → Type 0
KeepsSeparation items name (Cyclic period offset) = ⊤
KeepsSeparation items name (Sporadic op separation None) = ⊤
KeepsSeparation items name (Sporadic op separation (Some jitter)) = KeepTime separation jitter 0 (times_of name items)

-- durations of a task, of at least a tick each
abbrev pub AreDurations : List Task → Durations → Type 0
AreDurations ts w = (list_any (λ t. same_name t.name w.task) ts ≡ true) × Each (λ n. 1 ≤ n) w.ticks

-- arrivals that keep the separations of some software, up to the farthest horizon allowed
pub record AreKept (limit : ℕ) (w : Software) (r : Arrivals) : Type 0 where
  pub horizon : r.until ≤ limit
  pub durations : Each (AreDurations w.tasks) r.work
  pub times : DontFall 0 r.items
  pub external : Each (IsExternal w.tasks) r.items
  pub separations : Each (λ t. KeepsSeparation r.items t.name t.timing) w.tasks

-- arrivals that keep the separations of a design
abbrev pub KeepsSeparations : ℕ → Design → Arrivals → Type 0
KeepsSeparations limit x r = AreKept limit (software x) r
