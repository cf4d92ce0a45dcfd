-- One thread that takes an event, and the steps over a trace and over units.
use Rattle.std.proofs.Common.{◌≡◌, ℕ, zero, suc, ◌+◌, ◌<◌, ◌≤◌, Bool, true, false, not, List, [], ◌∷◌, map, drop, length}
use Rattle.std.proofs.Common.{Option, Some, None, refl, sym, ap, subst, ◌∙◌, get_or, set, arith}
use Rattle.std.specs.Prelude.{slice_get, option_map, option_and_then, find, filter_map, is_some}
use Rattle.std.proofs.lemmas.Option.{none-some, same_Some, slice_get-map, slice_get_read}
use Rattle.seq_tree.specs.Lists.{change}
use Rattle.seq_tree.specs.Names.{Name}
use Rattle.seq_tree.specs.Statements.{Statements}
use Rattle.seq_tree.specs.Trees.{block_of}
use Rattle.ods_tree.specs.Flats.{Guarded}
use Rattle.ada_tree.specs.Programs.{Program, Form, Passive, Shared, Cyclic, Sporadic}
use Rattle.trace_tree.specs.Lines.{unit_name}
use Rattle.trace_tree.specs.Placed.{IsUnit}
use Rattle.trace_tree.specs.declared.event.Event as machine
use Rattle.trace_tree.specs.declared.event.Event.TheVariants as event
use Rattle.guarantee.specs.Events.{named_event}
use Rattle.guarantee.specs.Software.{Task, program_software}
use Rattle.law_traces.specs.Verdicts.{Shared}
use Rattle.law_trace_places.specs.Places.{guarded_at, task_at, task_in}
use Rattle.law_trace_places.proofs.Shared.Units.{item-at, task-name}
use Rattle.law_traces.specs.Progress as laws
use Rattle.law_traces.specs.Progress.{is_well}
use Rattle.law_traces.specs.Services as services
use Rattle.law_traces.specs.Services.{is_served, is_sound}
use Rattle.trace_read.specs.Deeds.{Reads, task_of}
use Rattle.trace_scripts.specs.Moving.{AreFollowing, AreOf, good_at, good_with, move_by, moved_at, threads_from, threads_with, well_by}
use Rattle.trace_scripts.specs.Objects.{service_of}
use Rattle.trace_scripts.specs.Scenes.{AllBlocks, AllIn}
use Rattle.trace_scripts.specs.Insides.{entries_from, entry_from}
use Rattle.trace_scripts.specs.Serving.{charge_with, charges_by, objects_with, service_at}
use Rattle.trace_scripts.specs.Threads.{IsOf, progress_of, step_by}
use Rattle.trace_scripts.specs.declared.progress.Progress.{Progress}
use Rattle.trace_scripts.specs.declared.progress.Thread.{Thread}
use Rattle.trace_scripts.specs.declared.services.Service.{Service}
use Rattle.trace_scripts.proofs.Finding.{found-here, found-past, passes}
use Rattle.trace_scripts.proofs.Objecting.{change-same, read-at, state-set}
use Rattle.trace_scripts.proofs.Passing.{behind-is}
use Rattle.law_traces.proofs.Shared.Events.{each-at}

-- THE THREAD at a place
pub record Found (p : Program) (unit : ℕ) (h : Thread) : Type 0 where
  pub task : Task
  pub at : task_at p unit ≡ Some task
  pub is : IsOf task h

pub thread-found : (p : Program) (unit : ℕ) (r : Option Thread) (h : Thread) → AreOf (task_at p unit) r → r ≡ Some h → Found p unit h
thread-found p unit r h are e = by (task_at p unit) refl (subst (AreOf (task_at p unit)) e are)
  where
    by : (o : Option Task) → task_at p unit ≡ o → AreOf o (Some h) → Found p unit h
    by None at a = absurd a
    by (Some t) at a = record { task = t; at = at; is = a }

pub thread-none : (p : Program) (unit : ℕ) (r : Option Thread) → AreOf (task_at p unit) r → r ≡ None → task_at p unit ≡ None
thread-none p unit r are e = by (task_at p unit) refl (subst (AreOf (task_at p unit)) e are)
  where
    by : (o : Option Task) → task_at p unit ≡ o → AreOf o None → task_at p unit ≡ None
    by None at a = at
    by (Some t) at a = absurd a

task-block : (P : Statements → Type 0) (name : Name) (f : Form) (t : Task) → task_in (record { name = name; form = f }) ≡ Some t → AllBlocks P f
    → P t.block
task-block P name (Passive ops) t e h = absurd (none-some t e)
task-block P name (Shared ceiling vars ops) t e h = absurd (none-some t e)
task-block P name (Cyclic priority offset period vars block) t e h = subst (λ (z : Task). P z.block) (same_Some _ t e) h
task-block P name (Sporadic priority ceiling op separation jitter external vars block) t e h =
    subst (λ (z : Task). P z.block) (same_Some _ t e) h

pub block-at : (p : Program) (unit : ℕ) → IsUnit p unit → (h : Thread) → Found p unit h → (P : Statements → Type 0) → AllIn P p
    → P (block_of h.block.now)
block-at p unit in' h f P all =
    let u = item-at p.units unit in' in
    let blocks : AllBlocks P u.0.form = each-at (λ v. AllBlocks P v.form) p.units unit u.0 all u.1 in
    subst P f.is.block (task-block P u.0.name u.0.form f.task (sym (ap (option_and_then task_in) u.1) ∙ f.at) blocks)

-- ONE EVENT
pub step-made : (p : Program) (es : List machine.Event) (depth : ℕ) (good : Bool) (charge : ℕ × ℕ) (e : machine.Event) (task : ℕ) (h : Thread) → (f : Found p task h)
    → (ss : List Progress) (b before after : Progress) → task < length ss → before ≡ get_or ss task before
    → progress_of p es after ≡ step_by p depth f.task good charge (named_event p e) (progress_of p es before)
    → map (progress_of p es) (set (set ss task b) task after) ≡ moved_at p depth good charge e task (map (progress_of p es) ss)
step-made p es depth good charge e task h f ss b before after in' is does =
    state-set (progress_of p es) ss task b before after (step_by p depth f.task good charge (named_event p e)) in' is does
    ∙ ap (λ o. change task (move_by p depth good charge (named_event p e) o) (map (progress_of p es) ss)) (sym f.at)

pub step-none : (p : Program) (depth : ℕ) (good : Bool) (charge : ℕ × ℕ) (e : machine.Event) (task : ℕ) (ss : List laws.Progress)
    → task_at p task ≡ None → ss ≡ moved_at p depth good charge e task ss
step-none p depth good charge e task ss at =
    sym (change-same task (move_by p depth good charge (named_event p e) None) ss (λ x. refl))
    ∙ ap (λ o. change task (move_by p depth good charge (named_event p e) o) ss) (sym at)

pub stepped-with : (p : Program) (depth : ℕ) (good : Bool) (c : ℕ × ℕ) (ss : List laws.Progress) (e : machine.Event) (task : ℕ)
    → task_of e ≡ Some task → moved_at p depth good c e task ss ≡ threads_with p depth good e c ss
unfolding threads_with
stepped-with p depth good c ss (event.Release time own value) task h =
    ap (λ k. moved_at p depth good c (event.Release time own value) k ss) (sym (same_Some own task h))
stepped-with p depth good c ss (event.Arrive time own value) task h = absurd (none-some task h)
stepped-with p depth good c ss (event.Enter time own unit op values) task h =
    ap (λ k. moved_at p depth good c (event.Enter time own unit op values) k ss) (sym (same_Some own task h))
stepped-with p depth good c ss (event.Leave time own unit op values) task h =
    ap (λ k. moved_at p depth good c (event.Leave time own unit op values) k ss) (sym (same_Some own task h))
stepped-with p depth good c ss (event.Request time own target value) task h =
    ap (λ k. moved_at p depth good c (event.Request time own target value) k ss) (sym (same_Some own task h))
stepped-with p depth good c ss (event.Print time own value) task h =
    ap (λ k. moved_at p depth good c (event.Print time own value) k ss) (sym (same_Some own task h))
stepped-with p depth good c ss (event.End time own used) task h =
    ap (λ k. moved_at p depth good c (event.End time own used) k ss) (sym (same_Some own task h))
stepped-with p depth good c ss (event.Stop time own unit priority ceiling) task h =
    ap (λ k. moved_at p depth good c (event.Stop time own unit priority ceiling) k ss) (sym (same_Some own task h))
stepped-with p depth good c ss (event.Horizon time) task h = absurd (none-some task h)

-- whether the object at a place is served
pub good-object : (p : Program) (unit : ℕ) (ss : List Service) (s : Service) → unit < length ss → s ≡ get_or ss unit s → (b : Bool)
    → b ≡ is_sound (service_of s) → is_some (guarded_at p unit) ≡ true → b ≡ good_at p (map service_of ss) unit
good-object p unit ss s h at b e there =
    e ∙ ap is_sound (sym (read-at service_of ss unit s services.Broken h at)) ∙ by (guarded_at p unit) there
  where
    by : (o : Option Guarded) → is_some o ≡ true
        → is_sound (service_at unit (map service_of ss)) ≡ is_served (λ g. is_sound (service_at unit (map service_of ss))) o
    by None t = absurd (cc)
    by (Some g) t = refl

pub good-none : (p : Program) (unit : ℕ) (os : List services.Service) → is_some (guarded_at p unit) ≡ false → true ≡ good_at p os unit
good-none p unit os e = by (guarded_at p unit) e
  where
    by : (o : Option Guarded) → is_some o ≡ false → true ≡ is_served (λ g. is_sound (service_at unit os)) o
    by None t = refl
    by (Some g) t = absurd (cc)

-- ALL EVENTS
pub go-on : (p : Program) (depth most : ℕ) (os : List services.Service) (es : List machine.Event) (at behind here : ℕ) (e : machine.Event)
    → Reads es at behind (Some e) → here ≡ at
    → (ss ss' : List services.Service) → ss' ≡ objects_with p depth e (entry_from p e (drop (suc here) es)) ss → (ts ts' target : List laws.Progress)
    → threads_from p depth os (drop at es) (charges_by p depth most (drop at es) (entries_from p (drop at es)) ss) ts ≡ target → (c : ℕ × ℕ)
    → c ≡ charge_with p depth most e (entry_from p e (drop (suc here) es)) ss → (good : Bool) → good ≡ good_with p os e
    → ts' ≡ threads_with p depth good e c ts
    → threads_from p depth os (drop behind es) (charges_by p depth most (drop behind es) (entries_from p (drop behind es)) ss') ts' ≡ target
unfolding threads_from charges_by entries_from
go-on p depth most os es at behind here e r here-is ss ss' serves ts ts' target so-far c is good g does =
    let rest : List machine.Event = drop behind es in
    let same : drop (suc here) es ≡ rest = behind-is es at behind here e r here-is in
    let Rest : List services.Service → List laws.Progress → List laws.Progress =
    λ z t. threads_from p depth os rest (charges_by p depth most rest (entries_from p rest) z) t in
    ap (λ z. Rest z ts') (serves ∙ ap (λ z. objects_with p depth e (entry_from p e z) ss) same)
    ∙ ap (Rest (objects_with p depth e (entry_from p e rest) ss))
    (does ∙ ap (λ z. threads_with p depth z e c ts) g
    ∙ ap (λ z. threads_with p depth (good_with p os e) e z ts) (is ∙ ap (λ z. charge_with p depth most e (entry_from p e z) ss) same))
    ∙ ap (λ z. threads_from p depth os z (charges_by p depth most z (entries_from p z) ss) ts) (sym r.0) ∙ so-far

pub all-done : (p : Program) (depth : ℕ) (os : List services.Service) (left : List machine.Event) (cs : List (ℕ × ℕ)) (ss target : List laws.Progress)
    → left ≡ [] → threads_from p depth os left cs ss ≡ target → ss ≡ target
unfolding threads_from
all-done p depth os left cs ss target n h = sym (ap (λ z. threads_from p depth os z cs ss) n) ∙ h

-- WHETHER STEPS ARE ACTIVATIONS
pub well-none : (p : Program) (depth unit : ℕ) (s : laws.Progress) → task_at p unit ≡ None
    → true ≡ well_by (program_software p) depth (task_at p unit) s
well-none p depth unit s e = ap (λ o. well_by (program_software p) depth o s) (sym e)

pub well-some : (p : Program) (depth unit : ℕ) (h : Thread) (f : Found p unit h) (s : laws.Progress) (b : Bool)
    → b ≡ is_well (program_software p) depth f.task s → b ≡ well_by (program_software p) depth (task_at p unit) s
well-some p depth unit h f s b e = e ∙ ap (λ o. well_by (program_software p) depth o s) (sym f.at)

-- OVER UNITS
pub other-units : (p : Program) (es : List machine.Event) (ss : List Progress) (at u : ℕ) (y : Progress) → at + 1 ≤ u
    → slice_get (map (progress_of p es) (set ss at y)) u ≡ slice_get (map (progress_of p es) ss) u
other-units p es [] at u y h = refl
other-units p es (s ∷ ss) at zero y h = absurd (omega (arith, h))
other-units p es (s ∷ ss) zero (suc u) y h = refl
other-units p es (s ∷ ss) (suc at) (suc u) y h = other-units p es ss at u y (let g : suc at + 1 ≤ suc u = h in omega (arith, g))

pub passes-thread : (p : Program) (es : List machine.Event) (depth at : ℕ) → IsUnit p at → (all : List laws.Progress) (ss : List Progress) (s : Progress)
    (following : Task → Bool)
    → AreFollowing p depth all following → slice_get (map (progress_of p es) ss) at ≡ slice_get all at → at < length ss → s ≡ get_or ss at s → (b : Bool)
    → b ≡ well_by (program_software p) depth (task_at p at) (progress_of p es s) → b ≡ passes following (task_at p at)
passes-thread p es depth at in' all ss s following are same h is b e = e ∙ by (task_at p at) refl
  where
    read : slice_get all at ≡ Some (progress_of p es s)
    read = sym same ∙ slice_get-map (progress_of p es) ss at ∙ ap (option_map (progress_of p es)) (slice_get_read ss (length ss) at s refl h is)

    by : (o : Option Task) → task_at p at ≡ o → well_by (program_software p) depth o (progress_of p es s) ≡ passes following o
    by None k = refl
    by (Some t) k =
        same_Some (is_well (program_software p) depth t (progress_of p es s)) (following t)
        (sym (ap (option_map (is_well (program_software p) depth t)) read) ∙ are at t in' k)

pub past-thread : (p : Program) (at : ℕ) → IsUnit p at → (following : Task → Bool) (target : Option Task)
    → find (λ t. not (following t)) (filter_map task_in (drop at p.units)) ≡ target → (b : Bool) → b ≡ passes following (task_at p at) → b ≡ true
    → find (λ t. not (following t)) (filter_map task_in (drop (at + 1) p.units)) ≡ target
past-thread p at in' following target all b is e = found-past task_in (λ t. t.name) task-name p at in' following target all b is e

pub here-thread : (p : Program) (at : ℕ) → IsUnit p at → (following : Task → Bool) (target : Option Task)
    → find (λ t. not (following t)) (filter_map task_in (drop at p.units)) ≡ target → (b : Bool) → b ≡ passes following (task_at p at) → b ≡ false
    → Some (unit_name p at) ≡ option_map (λ t. t.name) target
here-thread p at in' following target all b is e = found-here task_in (λ t. t.name) task-name p at in' following target all b is e

dropped : {A : Type 0} (at : ℕ) (xs : List A) → length xs ≤ at → drop at xs ≡ []
dropped zero [] h = refl
dropped zero (x ∷ xs) h = absurd (omega (arith, h))
dropped (suc at) [] h = refl
dropped (suc at) (x ∷ xs) h = dropped at xs (let g : suc (length xs) ≤ suc at = h in omega (arith, g))

pub none-left : (p : Program) (at : ℕ) (following : Task → Bool) (target : Option Task) → length p.units ≤ at
    → find (λ t. not (following t)) (filter_map task_in (drop at p.units)) ≡ target → None ≡ option_map (λ t. t.name) target
none-left p at following target h all =
    ap (option_map (λ (t : Task). t.name))
    (sym (ap (λ us. find (λ t. not (following t)) (filter_map task_in us)) (dropped at p.units h)) ∙ all)
