-- What is kept of cyclic units is what the check of their releases asks of the events that follow.
use Rattle.std.proofs.Common.{◌≡◌, ℕ, zero, suc, Bool, true, false, List, [], ◌∷◌, ◌&&◌, map, Option, Some, None, refl, sym, ap, ◌∙◌}
use Rattle.std.specs.Prelude.{◌+◌, ◌==◌, nat_le, filter_map, slice_get, find, not, option_map, if◌then◌else◌}
use Rattle.std.specs.List.{cons_option}
use Rattle.std.proofs.lemmas.Option.{same_Some}
use Rattle.seq_tree.specs.Lists.{change}
use Rattle.seq_tree.specs.Names.{Name, same_name}
use Rattle.ods_tree.specs.Walk.{only_if}
use Rattle.ada_tree.specs.Programs.{Form, Unit, Program, Passive, Shared, Cyclic, Sporadic}
use Rattle.ada_tree.specs.Rules.{MeetsRules}
use Rattle.trace_tree.specs.Lines.{unit_name}
use Rattle.trace_tree.specs.Placed.{IsPlaced}
use Rattle.trace_tree.specs.declared.event.Event as machine
use Rattle.trace_tree.specs.declared.event.Event.TheVariants as event
use Rattle.guarantee.specs.Events.{Event, Deed, By, named_event}
use Rattle.guarantee.specs.Events as deed
use Rattle.guarantee.specs.Releases.{Released, release_by, releases}
use Rattle.guarantee.specs.Software.{task_by, program_software}
use Rattle.law_walks.specs.Walks.{same_value}
use Rattle.law_lists.proofs.Shared.Facts.{is-same}
use Rattle.law_calls.proofs.Shared.Apart.{units_apart}
use Rattle.law_traces.specs.Checks.{on_time, is_periodic}
use Rattle.law_trace_places.proofs.Shared.Units.{item-at, name-is, names-tell}
use Rattle.trace_checks.specs.First.{first_failing, on_time_by, periodic_by, is_periodic_by}
use Rattle.trace_checks.specs.Cycles.{first_release, next_after, nexts_by, nexts_at, nexts_after}
use Rattle.trace_checks.proofs.Firsts.{unnoted, noted, tested, first-thread}

-- a release behind which the next is this one
stepped : (until period : ℕ) (next : Option ℕ) (time : ℕ) (value : Option ℕ) (rs : List Released)
    → on_time_by period until (next_after period until next time value) rs
    ≡ on_time_by period until next ((let r : Released = record { time = time; value = value } in r) ∷ rs)
stepped until period None time value rs = refl
stepped until period (Some next) time value rs = by (nat_le next until) (time == next) (same_value value None)
  where
    by : (a b c : Bool) → on_time_by period until (if a && b && c then Some (next + period) else None) rs ≡ (a && b && c && on_time period until (next + period) rs)
    by true true true = refl
    by true true false = refl
    by true false c = refl
    by false b c = refl

module _ (p : Program) (meets : MeetsRules p) (until : ℕ) where
  abbrev A : Unit → Option ℕ → List Event → Bool
  A = is_periodic_by until

  -- an event that releases no unit of this name
  passed : (u : Unit) (s : Option ℕ) (told : List Event) (e : Event) → release_by u.name e ≡ None → A u s told ≡ A u s (e ∷ told)
  passed u s told e none = by u.form
    where
      by : (f : Form) → periodic_by until u.name f s told ≡ periodic_by until u.name f s (e ∷ told)
      by (Passive ops) = refl
      by (Shared ceiling vars ops) = refl
      by (Cyclic priority offset period vars block) =
          ap (λ o. on_time_by period until s (cons_option o (filter_map (release_by u.name) told))) (sym none)
      by (Sporadic priority ceiling op separation jitter external vars block) = refl

  other : (time : ℕ) (name : Name) (value : Option ℕ) (u : Unit) (s : Option ℕ) (told : List Event) → same_name name u.name ≡ false
      → A u s told ≡ A u s (By time name (deed.Release value) ∷ told)
  other time name value u s told e = passed u s told (By time name (deed.Release value)) (ap (λ b. only_if b (let r : Released = record { time = time; value = value } in r)) e)

  here : (time : ℕ) (name : Name) (value : Option ℕ) (u : Unit) (s : Option ℕ) (told : List Event) (priority offset period : ℕ) (vars : _) (block : _)
      → u.form ≡ Cyclic priority offset period vars block → same_name name u.name ≡ true
      → A u (next_after period until s time value) told ≡ A u s (By time name (deed.Release value) ∷ told)
  here time name value u s told priority offset period vars block form same =
      ap (λ f. periodic_by until u.name f (next_after period until s time value) told) form
      ∙ stepped until period s time value (releases u.name told)
      ∙ ap (λ b. on_time_by period until s (cons_option (only_if b (let r : Released = record { time = time; value = value } in r)) (releases u.name told))) (sym same)
      ∙ ap (λ f. periodic_by until u.name f s (By time name (deed.Release value) ∷ told)) (sym form)

  -- a release of a unit that isn't cyclic
  idle : (time : ℕ) (name : Name) (value : Option ℕ) (u : Unit) (s : Option ℕ) (told : List Event)
      → ((priority offset period : ℕ) (vars : _) (block : _) → u.form ≡ Cyclic priority offset period vars block → ⊥)
      → A u s told ≡ A u s (By time name (deed.Release value) ∷ told)
  idle time name value u s told none = by u.form refl
    where
      by : (f : Form) → u.form ≡ f → periodic_by until u.name f s told ≡ periodic_by until u.name f s (By time name (deed.Release value) ∷ told)
      by (Passive ops) e = refl
      by (Shared ceiling vars ops) e = refl
      by (Cyclic priority offset period vars block) e = absurd (none priority offset period vars block e)
      by (Sporadic priority ceiling op separation jitter external vars block) e = refl

  still : (time task : ℕ) (value : Option ℕ) (ns : List (Option ℕ)) (told : List Event) (u : Unit) → slice_get p.units task ≡ Some u
      → ((priority offset period : ℕ) (vars : _) (block : _) → u.form ≡ Cyclic priority offset period vars block → ⊥)
      → first_failing A p.units ns told ≡ first_failing A p.units ns (By time (unit_name p task) (deed.Release value) ∷ told)
  still time task value ns told u at none =
      let names : (i : ℕ) (v : Unit) → slice_get p.units i ≡ Some v → same_name (unit_name p task) v.name ≡ (task == i) =
      λ i v to. ap (λ n. same_name n v.name) (name-is p task u at) ∙ names-tell p.units task i u v (units_apart p meets) at to in
      ap (λ ss. first_failing A p.units ss told) (sym (change-id task ns))
      ∙ noted A (By time (unit_name p task) (deed.Release value)) (unit_name p task) (λ v s more e. other time (unit_name p task) value v s more e)
      p.units ns task (λ next. next) names
      (λ v s more to is. idle time (unit_name p task) value v s more
      (λ a b c d e h. none a b c d e (ap (λ (z : Unit). z.form) (same_Some u v (sym at ∙ to)) ∙ h))) told
    where
      change-id : (k : ℕ) (xs : List (Option ℕ)) → change k (λ x. x) xs ≡ xs
      change-id k [] = refl
      change-id zero (x ∷ xs) = refl
      change-id (suc k) (x ∷ xs) = ap (λ ys. x ∷ ys) (change-id k xs)

  released : (time task : ℕ) (value : Option ℕ) (ns : List (Option ℕ)) (told : List Event) (u : Unit) → slice_get p.units task ≡ Some u
      → (f : Form) → u.form ≡ f
      → first_failing A p.units (nexts_by until f ns time task value) told
      ≡ first_failing A p.units ns (By time (unit_name p task) (deed.Release value) ∷ told)
  released time task value ns told u at (Cyclic priority offset period vars block) form =
      let names : (i : ℕ) (v : Unit) → slice_get p.units i ≡ Some v → same_name (unit_name p task) v.name ≡ (task == i) =
      λ i v to. ap (λ n. same_name n v.name) (name-is p task u at) ∙ names-tell p.units task i u v (units_apart p meets) at to in
      noted A (By time (unit_name p task) (deed.Release value)) (unit_name p task) (λ v s more e. other time (unit_name p task) value v s more e)
      p.units ns task (λ next. next_after period until next time value) names
      (λ v s more to is. here time (unit_name p task) value v s more priority offset period vars block
      (ap (λ (z : Unit). z.form) (same_Some v u (sym to ∙ at)) ∙ form) (same v to)) told
    where
      same : (v : Unit) → slice_get p.units task ≡ Some v → same_name (unit_name p task) v.name ≡ true
      same v to = is-same (unit_name p task) v.name (name-is p task v to)
  released time task value ns told u at (Passive ops) form = still time task value ns told u at (λ a b c d e h. let z = sym form ∙ h in cc)
  released time task value ns told u at (Shared ceiling vars ops) form = still time task value ns told u at (λ a b c d e h. let z = sym form ∙ h in cc)
  released time task value ns told u at (Sporadic priority ceiling op separation jitter external vars block) form =
      still time task value ns told u at (λ a b c d e h. let z = sym form ∙ h in cc)

  -- WHAT IS KEPT behind an event
  pub nexts-go-on : (ns : List (Option ℕ)) (e : machine.Event) (told : List Event) → IsPlaced p e
      → first_failing A p.units (nexts_after p until ns e) told ≡ first_failing A p.units ns (named_event p e ∷ told)
  nexts-go-on ns (event.Release time task value) told h =
      let u = item-at p.units task h in
      ap (λ o. first_failing A p.units (nexts_at until o ns time task value) told) u.1
      ∙ released time task value ns told u.0 u.1 u.0.form refl
  nexts-go-on ns (event.Arrive time task value) told h = unnoted A _ p.units ns (λ u s more. passed u s more _ refl) told
  nexts-go-on ns (event.Enter time task unit op values) told h = unnoted A _ p.units ns (λ u s more. passed u s more _ refl) told
  nexts-go-on ns (event.Leave time task unit op values) told h = unnoted A _ p.units ns (λ u s more. passed u s more _ refl) told
  nexts-go-on ns (event.Request time task target value) told h = unnoted A _ p.units ns (λ u s more. passed u s more _ refl) told
  nexts-go-on ns (event.Print time task value) told h = unnoted A _ p.units ns (λ u s more. passed u s more _ refl) told
  nexts-go-on ns (event.End time task used) told h = unnoted A _ p.units ns (λ u s more. passed u s more _ refl) told
  nexts-go-on ns (event.Stop time task unit priority ceiling) told h = unnoted A _ p.units ns (λ u s more. passed u s more _ refl) told
  nexts-go-on ns (event.Horizon time) told h = unnoted A _ p.units ns (λ u s more. passed u s more _ refl) told

  -- the first thread whose releases aren't as they should be
  pub first-late : (told : List Event) → first_failing A p.units (map (λ u. first_release u.form) p.units) told
      ≡ option_map (λ t. t.name) (find (λ t. not (is_periodic until told t.name t.timing)) (program_software p).tasks)
  first-late told = first-thread A (λ u. first_release u.form) (λ t. is_periodic until told t.name t.timing) told (λ u. by u.name u.form) p.units
    where
      by : (name : Name) (f : Form) → periodic_by until name f (first_release f) told ≡ tested (λ t. is_periodic until told t.name t.timing) (task_by name f)
      by name (Passive ops) = refl
      by name (Shared ceiling vars ops) = refl
      by name (Cyclic priority offset period vars block) = refl
      by name (Sporadic priority ceiling op separation jitter external vars block) = refl
