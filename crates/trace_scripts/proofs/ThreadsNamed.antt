-- How far threads are by places is how far they are by names.
use Rattle.std.proofs.Common.{◌≡◌, ℕ, Bool, true, false, ◌&&◌, List, [], ◌∷◌, Option, Some, None, refl, sym, ap, ◌∙◌}
use Rattle.std.specs.Prelude.{◌==◌, slice_get, option_map, option_and_then, unwrap_or, if◌then◌else◌}
use Rattle.std.proofs.lemmas.Bool.{eqb-true}
use Rattle.std.proofs.lemmas.Option.{none-some, same_Some}
use Rattle.std.proofs.Math.Bool.{and-true}
use Rattle.seq_tree.specs.Lists.{Each, change}
use Rattle.seq_tree.specs.Names.{Name, same_name}
use Rattle.seq_tree.specs.Variables.{written}
use Rattle.ods_tree.specs.Flats.{Guarded}
use Rattle.ada_tree.specs.Programs.{Program}
use Rattle.ada_tree.specs.Rules.{MeetsRules}
use Rattle.trace_tree.specs.Lines.{unit_name}
use Rattle.trace_tree.specs.Placed.{IsPlaced, IsUnit}
use Rattle.trace_tree.specs.declared.event.Event as machine
use Rattle.trace_tree.specs.declared.event.Event.TheVariants as event
use Rattle.guarantee.specs.Software.{Software, Task, program_software}
use Rattle.guarantee.specs.Events.{Deed, Release, Arrive, Enter, Leave, Request, Print, End, Stop, Event, By, named, named_event, op_at}
use Rattle.guarantee.specs.Steps.{is_own}
use Rattle.law_traces.specs.Checks.{follows, most_used, serves}
use Rattle.law_traces.specs.Clear.{IsClear}
use Rattle.law_trace_places.specs.Places.{guarded_at, task_at, task_in}
use Rattle.law_trace_places.proofs.Shared.Units.{item-at, name-is, task-name, unit-names, what-it-is}
use Rattle.law_traces.specs.Entries.{entries_in}
use Rattle.law_traces.specs.Progress as laws
use Rattle.law_traces.specs.Progress.{is_good, is_well, moved_by, moved_from, step_on}
use Rattle.law_traces.specs.Services as services
use Rattle.law_traces.specs.Services.{is_served, is_sound}
use Rattle.law_traces.specs.PassLaws.{at_first, charges_in, is_served_in}
use Rattle.law_traces.proofs.Shared.Told.{thread-told}
use Rattle.trace_scripts.specs.Insides.{entries_from}
use Rattle.trace_scripts.specs.Moving.{AreFollowing, good_at, good_with, idle_at_first, move_by, threads_first, threads_from, threads_with}
use Rattle.trace_scripts.specs.Objects.{AreServing}
use Rattle.trace_scripts.specs.Serving.{charges_by, objects_from, service_at, services_first}
use Rattle.trace_scripts.proofs.Clearing.{objects-say}
use Rattle.trace_scripts.proofs.Entering.{entries-named, get-changed}
use Rattle.trace_scripts.proofs.ObjectsNamed.{charges-named, first-named, map-at}

module _ (p : Program) (meets : MeetsRules p) (depth : ℕ) (os : List services.Service) (served : Name → Bool)
    (goods : (unit : ℕ) → IsUnit p unit → good_at p os unit ≡ served (unit_name p unit)) where
  abbrev w : Software
  w = program_software p

  of-thread : (task u : ℕ) (t : Task) → IsUnit p task → IsUnit p u → task_at p u ≡ Some t → same_name (unit_name p task) t.name ≡ (task == u)
  of-thread task u t i k at =
      let v = item-at p.units u k in
      let made : task_in v.0 ≡ Some t = sym (ap (option_and_then task_in) v.1) ∙ at in
      ap (same_name (unit_name p task)) (task-name v.0 t made ∙ sym (name-is p u v.0 v.1)) ∙ unit-names p meets task u i k

  -- a step of the thread of a unit
  own-step : (time task : ℕ) (deed : Deed) (good : Bool) → is_own deed ≡ true → is_good (λ object. good) deed ≡ is_good served deed → IsUnit p task
      → (c : ℕ × ℕ) (ss : List laws.Progress) (u : ℕ) (t : Task) (s : laws.Progress) → IsUnit p u → task_at p u ≡ Some t → slice_get ss u ≡ Some s
      → slice_get (change task (move_by p depth good c (By time (unit_name p task) deed) (task_at p task)) ss) u
      ≡ Some (moved_by w depth t served (By time (unit_name p task) deed) c s)
  own-step time task deed good own is i c ss u t s k at here =
      get-changed task u (move_by p depth good c (By time (unit_name p task) deed) (task_at p task)) ss s here ∙ by (task == u) refl
      ∙ ap (λ b. Some (if b then step_on w depth t (is_good served deed) c time deed s else s)) (sym same)
    where
      same : (same_name (unit_name p task) t.name && is_own deed) ≡ (task == u)
      same =
          ap (λ z. z && is_own deed) (of-thread task u t i k at) ∙ ap (λ z. (task == u) && z) own ∙ and-true (task == u)

      by : (b : Bool) → (task == u) ≡ b
          → (let r : laws.Progress = if b then move_by p depth good c (By time (unit_name p task) deed) (task_at p task) s else s in Some r)
          ≡ Some (if b then step_on w depth t (is_good served deed) c time deed s else s)
      by true e =
          ap (λ o. Some (move_by p depth good c (By time (unit_name p task) deed) o s)) (ap (task_at p) (eqb-true task u e) ∙ at)
          ∙ ap (λ g. Some (step_on w depth t g c time deed s)) is
      by false e = refl

  own-event : (e : machine.Event) (c : ℕ × ℕ) (ss : List laws.Progress) → IsPlaced p e → (u : ℕ) (t : Task) (s : laws.Progress) → IsUnit p u
      → task_at p u ≡ Some t → slice_get ss u ≡ Some s
      → slice_get (threads_with p depth (good_with p os e) e c ss) u ≡ Some (moved_by w depth t served (named_event p e) c s)
  unfolding threads_with
  own-event (event.Release time task value) c ss i u t s k at here = own-step time task (Release value) true refl refl i c ss u t s k at here
  own-event (event.Arrive time task value) c ss i u t s k at here = here ∙ by (same_name (unit_name p task) t.name)
    where
      by : (b : Bool) → (let r : laws.Progress = s in Some r)
          ≡ Some (if b && false then step_on w depth t true c time (Arrive value) s else s)
      by true = refl
      by false = refl
  own-event (event.Enter time task unit op values) c ss i u t s k at here =
      own-step time task (Enter (op_at p unit op) values) (good_at p os unit) refl (goods unit i.1) i.0 c ss u t s k at here
  own-event (event.Leave time task unit op values) c ss i u t s k at here =
      own-step time task (Leave (op_at p unit op) values) true refl refl i.0 c ss u t s k at here
  own-event (event.Request time task target value) c ss i u t s k at here =
      own-step time task (Request (unit_name p target) value) true refl refl i.0 c ss u t s k at here
  own-event (event.Print time task value) c ss i u t s k at here = own-step time task (Print value) true refl refl i c ss u t s k at here
  own-event (event.End time task used) c ss i u t s k at here = own-step time task (End used) true refl refl i c ss u t s k at here
  own-event (event.Stop time task unit priority ceiling) c ss i u t s k at here =
      own-step time task (Stop (unit_name p unit) priority ceiling) true refl refl i.0 c ss u t s k at here
  own-event (event.Horizon time) c ss i u t s k at here = here

  -- ALL EVENTS
  pub threads-named : (es : List machine.Event) (cs : List (ℕ × ℕ)) (ss : List laws.Progress) → Each (IsPlaced p) es → (u : ℕ) (t : Task)
      (s : laws.Progress) → IsUnit p u → task_at p u ≡ Some t → slice_get ss u ≡ Some s
      → slice_get (threads_from p depth os es cs ss) u ≡ Some (moved_from w depth t served (named p es) cs s)
  unfolding threads_from
  threads-named [] cs ss i u t s k at here = here
  threads-named (e ∷ es) [] ss i u t s k at here = here
  threads-named (e ∷ es) (c ∷ cs) ss i u t s k at here =
      threads-named es cs (threads_with p depth (good_with p os e) e c ss) i.1 u t (moved_by w depth t served (named_event p e) c s) k at
      (own-event e c ss i.0 u t s k at here)

threads-start : (p : Program) (u : ℕ) (t : Task) → IsUnit p u → task_at p u ≡ Some t
    → slice_get (threads_first p) u ≡ Some (laws.Idle (written t.vars))
threads-start p u t k at =
    let v = item-at p.units u k in
    let made : task_in v.0 ≡ Some t = sym (ap (option_and_then task_in) v.1) ∙ at in
    map-at (λ z. idle_at_first (task_in z)) p.units u v.0 v.1 ∙ ap (λ o. Some (idle_at_first o)) made

-- whether objects are served, by places and by names
good-named : (p : Program) → MeetsRules p → (depth : ℕ) (told : List Event) (os : List services.Service)
    → AreServing p os (serves (program_software p) depth told) → (unit : ℕ) → IsUnit p unit
    → good_at p os unit ≡ is_served_in (program_software p) depth told (unit_name p unit)
good-named p meets depth told os are unit k =
    by (guarded_at p unit) refl ∙ ap (is_served (serves w depth told)) (sym (what-it-is p meets unit k).object)
  where
    w : Software
    w = program_software p

    sound : (o : Option services.Service) (b : Bool) → option_map is_sound o ≡ Some b → is_sound (unwrap_or o services.Broken) ≡ b
    sound None b e = absurd (none-some b e)
    sound (Some s) b e = same_Some (is_sound s) b e

    by : (o : Option Guarded) → guarded_at p unit ≡ o
        → is_served (λ g. is_sound (service_at unit os)) o ≡ is_served (serves w depth told) o
    by None e = refl
    by (Some g) e = sound (slice_get os unit) (serves w depth told g) (are unit g k e)

-- what is said of threads behind a trace
pub threads-say : (p : Program) → MeetsRules p → (clear : IsClear (program_software p)) (es : List machine.Event) → Each (IsPlaced p) es
    → (os : List services.Service) → AreServing p os (serves (program_software p) clear.depth (named p es)) → (cs : List (ℕ × ℕ))
    → cs ≡ charges_by p clear.depth (most_used (named p es)) es (entries_from p es) (services_first p)
    → (ss : List laws.Progress) → ss ≡ threads_from p clear.depth os es cs (threads_first p)
    → AreFollowing p clear.depth ss (follows (program_software p) clear.depth (named p es))
threads-say p meets clear es placed os are cs charged ss is u t k at =
    let w : Software = program_software p in
    let told : List Event = named p es in
    let d : ℕ = clear.depth in
    let served : Name → Bool = is_served_in w d told in
    let Well : Option laws.Progress → Option Bool = option_map (is_well w d t) in
    let right : cs ≡ charges_in w d told =
    charged ∙ ap (λ xs. charges_by p d (most_used told) es xs (services_first p)) (entries-named p meets es placed)
    ∙ charges-named p meets d (most_used told) es (entries_in w told) (services_first p) (at_first w) placed
    (first-named p meets d (most_used told)) in
    ap (λ z. Well (slice_get z u)) is
    ∙ ap Well (threads-named p meets d os served (good-named p meets d told os are) es cs (threads_first p) placed u t
    (laws.Idle (written t.vars)) k at (threads-start p u t k at))
    ∙ ap (λ z. Some (is_well w d t (moved_from w d t served told z (laws.Idle (written t.vars))))) right
    ∙ ap (λ b. Some b) (thread-told w clear.objects d told t)

pub threads-told : (p : Program) → MeetsRules p → (clear : IsClear (program_software p)) (es : List machine.Event) → Each (IsPlaced p) es
    → (os : List services.Service) → os ≡ objects_from p clear.depth es (entries_from p es) (services_first p)
    → (most : ℕ) → most ≡ most_used (named p es) → (ss : List laws.Progress)
    → ss ≡ threads_from p clear.depth os es (charges_by p clear.depth most es (entries_from p es) (services_first p)) (threads_first p)
    → AreFollowing p clear.depth ss (follows (program_software p) clear.depth (named p es))
threads-told p meets clear es placed os made most greatest ss is =
    threads-say p meets clear es placed os (objects-say p meets clear es placed os made)
    (charges_by p clear.depth most es (entries_from p es) (services_first p))
    (ap (λ m. charges_by p clear.depth m es (entries_from p es) (services_first p)) greatest) ss is
