-- What is told of a task to its requests: releases where its control structure is open, and none of those of other tasks.
use Rattle.std.specs.Prelude.{◌≡◌, ℕ, Bool, true, false, ◌&&◌, List, [], ◌∷◌, ◌++◌, slice_get, Option, Some, None, if◌then◌else◌, refl}
use Rattle.std.specs.Prelude.{unwrap_or, option_map, map}
use Rattle.std.specs.List.{cons_option}
use Rattle.std.proofs.Common.{sym, ◌∙◌, ap, subst, inl}
use Rattle.seq_tree.specs.Lists.{change}
use Rattle.seq_tree.specs.Names.{same_name}
use Rattle.ada_tree.specs.Programs.{Program}
use Rattle.trace_tree.specs.declared.event.Event as machine
use Rattle.trace_tree.specs.declared.event.Event.TheVariants as event
use Rattle.trace_tree.specs.Lines.{unit_name}
use Rattle.ods_tree.specs.Walk.{only_if}
use Rattle.machine.specs.Systems.{System, TaskUnit}
use Rattle.machine.specs.States.{State, Task, Waiting, Ready, first_task}
use Rattle.machine.specs.Releases.{Next, released, release, release_task, serve, serve_task, is_waiting}
use Rattle.guarantee.specs.Events.{named}
use Rattle.guarantee.specs.Requests.{Pending, Notice, Taken, notices}
use Rattle.law_releases.proofs.RequestPieces.{keeps, free_heads, free_keeps}
use Rattle.law_releases.proofs.RequestStanding.{Stands, moved}
use Rattle.law_releases.proofs.Gates.{released-free}
use Rattle.std.proofs.lemmas.Option.{none-some, same_Some}
use Rattle.std.proofs.lemmas.Bool.{true≢false, and_parts}
use Rattle.law_releases.specs.Serving.{ServedWhile}
use Rattle.law_lists.proofs.Shared.Places.{changed, mapped-at}
use Rattle.machine.specs.Effects.{task_unit}

-- the request that is told and not yet served, where there is one
abbrev pub first_of : List Pending → Option Pending
first_of [] = None
first_of (r ∷ q) = Some r

-- what is told, from how a task stands to how it stands then
abbrev pub Onward : List Pending → Option ℕ → List Notice → List Pending → Option ℕ → Type 0
Onward q idle told q' idle' = (more : List Notice) → ServedWhile (first_of q') idle' more → ServedWhile (first_of q) idle (told ++ more)

pub onward_none : (q : List Pending) (idle : Option ℕ) → Onward q idle [] q idle
onward_none q idle = λ more a. a

-- tasks as they are written, of which those that are not ready have nothing left to do
pub record AreGood (y : System) (ts : List Task) : Type 0 where
  pub written : (k : ℕ) (u : Task) → slice_get ts k ≡ Some u → slice_get y.threads k ≡ Some u.thread
  pub rests : (k : ℕ) (u : Task) → slice_get ts k ≡ Some u → (u.readiness ≡ Ready → ⊥) → u.pieces ≡ []

pub good_change : (y : System) (i : ℕ) (f : Task → Task) (ts : List Task) → AreGood y ts → ((u : Task) → (f u).thread ≡ u.thread)
    → ((u : Task) → slice_get ts i ≡ Some u → ((f u).readiness ≡ Ready → ⊥) → (f u).pieces ≡ []) → AreGood y (change i f ts)
good_change y i f ts good threads rests = record {
  written = λ k u at. changed i k f ts u at
      (λ x e there same. ap (slice_get y.threads) e ∙ good.written i x there ∙ ap Some (sym (ap (λ w. w.thread) same ∙ threads x))) (λ apart there.
      good.written k u there);
  rests = λ k u at not_ready. changed i k f ts u at
      (λ x e there same. ap (λ w. w.pieces) same ∙ rests x there (λ r. not_ready (ap (λ w. w.readiness) same ∙ r))) (λ apart there.
      good.rests k u there not_ready);
}

-- the unit of a task is that of its thread
pub unit-at : (y : System) (k : ℕ) (th : TaskUnit) → slice_get y.threads k ≡ Some th → task_unit y k ≡ th.unit
unit-at y k th at = ap (λ o. unwrap_or (option_map (λ (t : TaskUnit). t.unit) o) 0) at

-- at the opening no task has pieces
pub no_first_pieces : (y : System) (i : ℕ) (u : Task) → slice_get (map first_task y.threads) i ≡ Some u → u.pieces ≡ []
no_first_pieces y i u at = let m = mapped-at first_task y.threads i u at in ap (λ t. t.pieces) (sym m.2)

-- a task that is told of by its name alone
pub record IsNamed (p : Program) (y : System) (j : ℕ) (th : TaskUnit) : Type 0 where
  pub at : slice_get y.threads j ≡ Some th
  pub own : same_name (unit_name p th.unit) th.name ≡ true
  pub others : (k : ℕ) (u : TaskUnit) → slice_get y.threads k ≡ Some u → (k ≡ j → ⊥) → same_name (unit_name p u.unit) th.name ≡ false

module _ (p : Program) (y : System) (j : ℕ) (th : TaskUnit) (is : IsNamed p y j th) where
  abbrev pub told : List machine.Event → List Notice
  told es = notices th.name (named p es)

  -- a release of the task, and of another
  taken : (time : ℕ) (unit : ℕ) (value : Option ℕ) (b : Bool) → same_name (unit_name p unit) th.name ≡ b
      → told (event.Release time unit value ∷ []) ≡ cons_option (only_if b (Taken time value)) []
  taken time unit value b e = ap (λ b. cons_option (only_if b (Taken time value)) []) e

  pub taken_own : (time : ℕ) (t : Task) (value : Option ℕ) → t.thread ≡ th → told (event.Release time t.thread.unit value ∷ [])
      ≡ Taken time value ∷ []
  taken_own time t value e = taken time t.thread.unit value true (ap (λ h. same_name (unit_name p h.unit) th.name) e ∙ is.own)

  pub taken_other : (time k : ℕ) (u : Task) (value : Option ℕ) → slice_get y.threads k ≡ Some u.thread → (k ≡ j → ⊥)
      → told (event.Release time u.thread.unit value ∷ []) ≡ []
  taken_other time k u value at apart = taken time u.thread.unit value false (is.others k u.thread at apart)

  -- another task may be served
  abbrev pub Outcome : ℕ → List Pending → Option ℕ → Next → Type 0
  Outcome now q idle next = (q' : List Pending) × (idle' : Option ℕ) × Stands th j now next.0.tasks q' idle' × Onward q idle (told next.1) q' idle'

  pub serve_other : (k : ℕ) (s : State) (q : List Pending) (idle : Option ℕ) → (k ≡ j → ⊥) → AreGood y s.tasks → Stands th j s.time s.tasks q idle
      → Outcome s.time q idle (serve y k s)
  serve_other k s q idle apart good h = by_task (slice_get s.tasks k) refl
    where
      stays : Outcome s.time q idle (s, [])
      stays = (q, idle, h, onward_none q idle)

      not_ready : (u : Task) → is_waiting u.readiness ≡ true → u.readiness ≡ Ready → ⊥
      not_ready u waits ready = true≢false (sym waits ∙ ap is_waiting ready)

      by_release : (u : Task) (o : Option Task) → slice_get s.tasks k ≡ Some u → o ≡ Some u → is_waiting u.readiness ≡ true
          → Outcome s.time q idle (release_task y k o s)
      by_release u None at e waits = absurd (none-some u e)
      by_release u (Some v) at e waits =
          let one : v ≡ u = same_Some v u e in
          let rests : u.pieces ≡ [] = good.rests k u at (not_ready u waits) in
          let after : Stands th j s.time (change k (released y.costs) s.tasks) q idle =
          moved th j s.time s.tasks q idle k (released y.costs) h (λ w there.
          let same : w ≡ u = same_Some w u (sym there ∙ at) in
          inl (
            ap (λ z. keeps j z.pieces) same ∙ ap (keeps j) rests,
            free_heads (released y.costs w).pieces (released-free y.costs
                w),
            free_keeps j (released y.costs w).pieces (released-free y.costs w),
          ))
          (λ same. absurd (apart same)) in
          let none : told (event.Release s.time v.thread.unit v.gate.value ∷ []) ≡ [] =
          taken_other s.time k v v.gate.value (ap (slice_get y.threads) refl ∙ good.written k v (at ∙ sym e)) apart in
          (q, idle, after, subst (λ ns. Onward q idle ns q idle) (sym none) (onward_none q idle))

      by_test : (u : Task) (b : Bool) → slice_get s.tasks k ≡ Some u → (is_waiting u.readiness && u.gate.open') ≡ b
          → Outcome s.time q idle (if b then release y k s else (s, []))
      by_test u true at e = by_release u (slice_get s.tasks k) at at ((and_parts (is_waiting u.readiness) u.gate.open' e).0)
      by_test u false at e = stays

      by_task : (o : Option Task) → slice_get s.tasks k ≡ o → Outcome s.time q idle (serve_task y k o s)
      by_task None at = stays
      by_task (Some u) at = by_test u (is_waiting u.readiness && u.gate.open') at refl

  -- the task itself is served, where its control structure is open
  pub record Served (s : State) (t : Task) (next : Next) : Type 0 where
    pub tasks : next.0.tasks ≡ change j (released y.costs) s.tasks
    pub tells : told next.1 ≡ Taken s.time t.gate.value ∷ []

  pub serve_waiting : (s : State) (t : Task) → slice_get s.tasks j ≡ Some t → t.thread ≡ th → t.readiness ≡ Waiting → t.gate.open' ≡ true
      → Served s t (serve y j s)
  serve_waiting s t at thread waits opens =
      subst (λ o. Served s t (serve_task y j o s)) (sym at)
      (subst (λ b. Served s t (if b then release y j s else (s, []))) (sym (ap (λ r. is_waiting r && t.gate.open') waits ∙ opens))
      (subst (λ o. Served s t (release_task y j o s)) (sym at) (record { tasks = refl; tells = taken_own s.time t t.gate.value thread })))

  pub serve_ready : (s : State) (t : Task) → slice_get s.tasks j ≡ Some t → t.readiness ≡ Ready → serve y j s ≡ (s, [])
  serve_ready s t at ready = ap (λ o. serve_task y j o s) at ∙ ap (λ r. if is_waiting r && t.gate.open' then release y j s else (s, [])) ready

  pub serve_closed : (s : State) (t : Task) → slice_get s.tasks j ≡ Some t → t.gate.open' ≡ false → serve y j s ≡ (s, [])
  serve_closed s t at closed = ap (λ o. serve_task y j o s) at ∙ ap (λ b. if is_waiting t.readiness && b then release y j s else (s, [])) closed ∙
      by (is_waiting t.readiness)
    where
      by : (b : Bool) → (if b && false then release y j s else (s, [])) ≡ (s, [])
      by true = refl
      by false = refl
