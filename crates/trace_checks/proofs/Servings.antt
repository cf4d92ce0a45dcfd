-- How units stand behind an event is what the check of requests asks of the events that follow.
use Rattle.std.proofs.Common.{◌≡◌, ℕ, Bool, true, false, List, [], ◌∷◌, ◌++◌, ◌&&◌, not, map, Option, Some, None, refl, sym, ap, ◌∙◌}
use Rattle.std.specs.Prelude.{◌==◌, max, filter_map, slice_get, find, option_map, if◌then◌else◌}
use Rattle.std.specs.List.{cons_option}
use Rattle.seq_tree.specs.Lists.{change}
use Rattle.seq_tree.specs.Names.{Name, same_name}
use Rattle.ods_tree.specs.Walk.{only_if}
use Rattle.ada_tree.specs.Programs.{Form, Unit, Program, Passive, Shared, Cyclic, Sporadic}
use Rattle.ada_tree.specs.Rules.{MeetsRules}
use Rattle.trace_tree.specs.Lines.{unit_name}
use Rattle.trace_tree.specs.Placed.{IsPlaced, IsUnit}
use Rattle.trace_tree.specs.declared.event.Event as machine
use Rattle.trace_tree.specs.declared.event.Event.TheVariants as event
use Rattle.guarantee.specs.Events.{Event, named_event}
use Rattle.guarantee.specs.Requests.{Notice, Asked, Taken, Done, Pending, notice_by, notices}
use Rattle.guarantee.specs.Software.{task_by, program_software}
use Rattle.law_walks.specs.Walks.{same_value}
use Rattle.law_lists.proofs.Shared.Facts.{is-same}
use Rattle.law_calls.proofs.Shared.Apart.{units_apart}
use Rattle.law_traces.specs.Checks.{are_served, is_requested}
use Rattle.law_trace_places.proofs.Shared.Units.{item-at, name-is, names-tell}
use Rattle.trace_checks.specs.First.{first_failing, served_by, requested_by, is_requested_by}
use Rattle.trace_checks.specs.Serving.{Serving, nothing_waits, asked, taken_by, taken, idle_behind, done, rests, is_served, serving_after}
use Rattle.trace_checks.proofs.Firsts.{unnoted, noted, tested, first-thread}

abbrev pending : ℕ → Option ℕ → Pending
pending time value = record { time = time; value = value }

asks : (queue : List Pending) (idle : Option ℕ) (time : ℕ) (value : Option ℕ) (ns : List Notice)
    → are_served (queue ++ pending time value ∷ []) idle ns ≡ are_served queue idle (Asked time value ∷ ns)
asks [] None time value ns = refl
asks [] (Some since) time value ns = refl
asks (first ∷ queue) None time value ns = refl
asks (first ∷ queue) (Some since) time value ns = refl

pub served-asked : (time : ℕ) (value : Option ℕ) (s : Serving) (ns : List Notice) → served_by (asked time value s) ns ≡ served_by s (Asked time value ∷ ns)
served-asked time value s ns = ap (λ b. if s.broken then false else b) (asks s.queue s.idle time value ns)

takes : (time : ℕ) (value : Option ℕ) (queue : List Pending) (idle : Option ℕ) (broken : Bool) (ns : List Notice)
    → served_by (taken_by time value queue idle broken) ns ≡ (if broken then false else are_served queue idle (Taken time value ∷ ns))
takes time value [] None true ns = refl
takes time value [] None false ns = refl
takes time value (first ∷ queue) None true ns = refl
takes time value (first ∷ queue) None false ns = refl
takes time value [] (Some since) true ns = refl
takes time value [] (Some since) false ns = refl
takes time value (first ∷ queue) (Some since) true ns = refl
takes time value (first ∷ queue) (Some since) false ns = by (time == max first.time since) (same_value value first.value)
  where
    by : (a b : Bool) → (if not (a && b) then false else are_served queue None ns) ≡ (a && b && are_served queue None ns)
    by true true = refl
    by true false = refl
    by false b = refl

pub served-taken : (time : ℕ) (value : Option ℕ) (s : Serving) (ns : List Notice) → served_by (taken time value s) ns ≡ served_by s (Taken time value ∷ ns)
served-taken time value s ns = takes time value s.queue s.idle s.broken ns

ends : (queue : List Pending) (idle : Option ℕ) (time : ℕ) (ns : List Notice)
    → are_served queue (idle_behind time idle) ns ≡ are_served queue idle (Done time ∷ ns)
ends [] None time ns = refl
ends [] (Some since) time ns = refl
ends (first ∷ queue) None time ns = refl
ends (first ∷ queue) (Some since) time ns = refl

pub served-done : (time : ℕ) (s : Serving) (ns : List Notice) → served_by (done time s) ns ≡ served_by s (Done time ∷ ns)
served-done time s ns = ap (λ b. if s.broken then false else b) (ends s.queue s.idle time ns)

rest : (queue : List Pending) (idle : Option ℕ) → are_served queue idle [] ≡ rests queue idle
rest [] None = refl
rest [] (Some since) = refl
rest (first ∷ queue) None = refl
rest (first ∷ queue) (Some since) = refl

pub served-none : (s : Serving) → served_by s [] ≡ is_served s
served-none s = ap (λ b. if s.broken then false else b) (rest s.queue s.idle) ∙ by s.broken
  where
    by : (b : Bool) → (if b then false else rests s.queue s.idle) ≡ (not b && rests s.queue s.idle)
    by true = refl
    by false = refl

pub is-served-none : (s : Serving) → is_served s ≡ served_by s []
is-served-none s = sym (served-none s)

pub ruleset served_steps = (is-served-none)

module _ (p : Program) (meets : MeetsRules p) where
  abbrev B : Unit → Serving → List Event → Bool
  B = is_requested_by

  -- an event that is no notice to a unit
  passed : (u : Unit) (s : Serving) (told : List Event) (e : Event) → notice_by u.name e ≡ None → B u s told ≡ B u s (e ∷ told)
  passed u s told e none = by u.form
    where
      by : (f : Form) → requested_by u.name f s told ≡ requested_by u.name f s (e ∷ told)
      by (Passive ops) = refl
      by (Shared ceiling vars ops) = refl
      by (Cyclic priority offset period vars block) = refl
      by (Sporadic priority ceiling op separation jitter external vars block) =
          ap (λ o. served_by s (cons_option o (filter_map (notice_by u.name) told))) (sym none)

  here : (u : Unit) (s s' : Serving) (told : List Event) (e : Event) (n : Notice) → ((ns : List Notice) → served_by s' ns ≡ served_by s (n ∷ ns))
      → notice_by u.name e ≡ Some n → B u s' told ≡ B u s (e ∷ told)
  here u s s' told e n step some = by u.form
    where
      by : (f : Form) → requested_by u.name f s' told ≡ requested_by u.name f s (e ∷ told)
      by (Passive ops) = refl
      by (Shared ceiling vars ops) = refl
      by (Cyclic priority offset period vars block) = refl
      by (Sporadic priority ceiling op separation jitter external vars block) =
          step (notices u.name told) ∙ ap (λ o. served_by s (cons_option o (filter_map (notice_by u.name) told))) (sym some)

  -- an event that is a notice to the unit at a place
  noticed : (k : ℕ) (e : Event) (f : Serving → Serving) (n : Notice) → IsUnit p k
      → ((name : Name) → notice_by name e ≡ only_if (same_name (unit_name p k) name) n)
      → ((s : Serving) (ns : List Notice) → served_by (f s) ns ≡ served_by s (n ∷ ns))
      → (ss : List Serving) (told : List Event) → first_failing B p.units (change k f ss) told ≡ first_failing B p.units ss (e ∷ told)
  noticed k e f n h notice step ss told =
      let u = item-at p.units k h in
      let names : (i : ℕ) (v : Unit) → slice_get p.units i ≡ Some v → same_name (unit_name p k) v.name ≡ (k == i) =
      λ i v to. ap (λ m. same_name m v.name) (name-is p k u.0 u.1) ∙ names-tell p.units k i u.0 v (units_apart p meets) u.1 to in
      noted B e (unit_name p k) (λ v s more differ. passed v s more e (notice v.name ∙ ap (λ b. only_if b n) differ)) p.units ss k f names
      (λ v s more to is. here v s (f s) more e n (step s)
      (notice v.name ∙ ap (λ b. only_if b n) (is-same (unit_name p k) v.name (name-is p k v to)))) told

  pub serving-go-on : (ss : List Serving) (e : machine.Event) (told : List Event) → IsPlaced p e
      → first_failing B p.units (serving_after ss e) told ≡ first_failing B p.units ss (named_event p e ∷ told)
  serving-go-on ss (event.Release time task value) told h =
      noticed task (named_event p (event.Release time task value)) (taken time value) (Taken time value) h (λ name. refl) (λ s ns. served-taken time value s ns) ss told
  serving-go-on ss (event.Arrive time task value) told h =
      noticed task (named_event p (event.Arrive time task value)) (asked time value) (Asked time value) h (λ name. refl) (λ s ns. served-asked time value s ns) ss told
  serving-go-on ss (event.Request time task target value) told h =
      noticed target (named_event p (event.Request time task target value)) (asked time value) (Asked time value) h.1 (λ name. refl)
      (λ s ns. served-asked time value s ns) ss told
  serving-go-on ss (event.End time task used) told h =
      noticed task (named_event p (event.End time task used)) (done time) (Done time) h (λ name. refl) (λ s ns. served-done time s ns) ss told
  serving-go-on ss (event.Enter time task unit op values) told h = unnoted B _ p.units ss (λ u s more. passed u s more _ refl) told
  serving-go-on ss (event.Leave time task unit op values) told h = unnoted B _ p.units ss (λ u s more. passed u s more _ refl) told
  serving-go-on ss (event.Print time task value) told h = unnoted B _ p.units ss (λ u s more. passed u s more _ refl) told
  serving-go-on ss (event.Stop time task unit priority ceiling) told h = unnoted B _ p.units ss (λ u s more. passed u s more _ refl) told
  serving-go-on ss (event.Horizon time) told h = unnoted B _ p.units ss (λ u s more. passed u s more _ refl) told

  -- the first thread whose requests aren't served as they should be
  pub first-unserved : (told : List Event) → first_failing B p.units (map (λ u. nothing_waits) p.units) told
      ≡ option_map (λ t. t.name) (find (λ t. not (is_requested told t.name t.timing)) (program_software p).tasks)
  first-unserved told = first-thread B (λ u. nothing_waits) (λ t. is_requested told t.name t.timing) told (λ u. by u.name u.form) p.units
    where
      by : (name : Name) (f : Form) → requested_by name f nothing_waits told ≡ tested (λ t. is_requested told t.name t.timing) (task_by name f)
      by name (Passive ops) = refl
      by name (Shared ceiling vars ops) = refl
      by name (Cyclic priority offset period vars block) = refl
      by name (Sporadic priority ceiling op separation jitter external vars block) = refl
