-- What the acts of a running task that is apart from the ready list do to the order of dispatch.
-- An entry and an exit give it a place by its new active priority; a request may release a task, which goes behind those of its priority.
use Rattle.std.specs.Prelude.{◌≡◌, ◌≢◌, ℕ, true, false, ◌&&◌, if◌then◌else◌, nat_lt, List, [], ◌∷◌, Some, slice_get, ℤ, refl}
use Rattle.std.proofs.Common.{sym, ◌∙◌, ap, subst}
use Rattle.std.proofs.lemmas.Option.{same_Some}
use Rattle.seq_tree.specs.Lists.{change}
use Rattle.seq_tree.specs.Variables.{Variables}
use Rattle.seq_tree.specs.declared.tree.Costs.{Costs}
use Rattle.trace_tree.specs.declared.event.Event.{Event}
use Rattle.trace_tree.specs.declared.event.Event.TheVariants as event
use Rattle.link_queue.specs.Queues.{Entry, at_head, at_tail}
use Rattle.machine.specs.Systems.{System}
use Rattle.machine.specs.Pieces.{Piece}
use Rattle.machine.specs.States.{State, Task, Resource, Held, Ready, Waiting}
use Rattle.machine.specs.Dispatch.{put_first, put_last}
use Rattle.machine.specs.Releases.{going, is_waiting, release, release_task, released, serve, serve_task}
use Rattle.machine.specs.Effects.{ceiling_of, entered_at, entry, inside_now, outside_by, outside_now, stopped_at}
use Rattle.law_dispatching.specs.Queueing.{AreQueued, IsReadyAt}
use Rattle.law_dispatching.proofs.Shared.Queued.{queued-kept}
use Rattle.law_dispatching.proofs.Shared.Running.{running-here, running-moved, running-released}

-- what a task that goes on is dispatched by
pub goes-active : (costs : Costs) (vars : Variables) (ps : List Piece) (t : Task) → (going costs vars ps t).active ≡ t.active
goes-active costs vars [] t = refl
goes-active costs vars (p ∷ ps) t = refl

pub goes-readiness : (costs : Costs) (vars : Variables) (ps : List Piece) (t : Task) → (going costs vars ps t).readiness ≡ t.readiness
goes-readiness costs vars [] t = refl
goes-readiness costs vars (p ∷ ps) t = refl

outside-by-readiness : (hs : List Held) (t : Task) → (outside_by hs t).readiness ≡ t.readiness
outside-by-readiness [] t = refl
outside-by-readiness (h ∷ hs) t = refl

-- a task that leaves a section is as ready as before
pub outside-readiness : (t : Task) → (outside_now t).readiness ≡ t.readiness
outside-readiness t = outside-by-readiness t.inside t

-- the ceiling test
pub entry-goes : (y : System) (i : ℕ) (t : Task) (section : Resource) (told : List Event) (vars : Variables) (ps : List Piece) (s : State)
    → nat_lt (ceiling_of y section) t.active ≡ false
    → entry y i t section told vars ps s ≡ entered_at y i section told vars ps s
entry-goes y i t section told vars ps s test = ap (λ b. if b then stopped_at y t section s else entered_at y i section told vars ps s) test

pub entry-stops : (y : System) (i : ℕ) (t : Task) (section : Resource) (told : List Event) (vars : Variables) (ps : List Piece) (s : State)
    → nat_lt (ceiling_of y section) t.active ≡ true
    → entry y i t section told vars ps s ≡ stopped_at y t section s
entry-stops y i t section told vars ps s test = ap (λ b. if b then stopped_at y t section s else entered_at y i section told vars ps s) test

module _ (y : System) (ts : List Task) (os : List ℤ) (i : ℕ) (t : Task) (rest : List Entry) (at : slice_get ts i
    ≡ Some t) (queued : AreQueued ts os (at_head (i, t.active) rest)) where
  runs : t.readiness ≡ Ready
  runs =
      let r : IsReadyAt ts (i, t.active) = running-here ts os (i, t.active) rest queued in
      ap (λ u. u.readiness) (same_Some t r.0 (sym at ∙ r.1)) ∙ r.2

  -- an entry: the active priority is the ceiling
  pub entry-queued : (section : Resource) (vars : Variables) (ps : List Piece)
      → AreQueued (change i (λ u. going y.costs vars ps (inside_now section (ceiling_of y section) u)) ts) (put_first i os)
      (at_head (i, ceiling_of y section) rest)
  entry-queued section vars ps =
      let f : Task → Task = λ u. going y.costs vars ps (inside_now section (ceiling_of y section) u) in
      subst (λ (n : ℕ). AreQueued (change i f ts) (put_first i os) (at_head (i, n) rest))
      (goes-active y.costs vars ps (inside_now section (ceiling_of y section) t))
      (running-moved ts os (i, t.active) rest queued t f at (goes-readiness y.costs vars ps (inside_now section (ceiling_of y section) t) ∙ runs))

  -- an exit: the active priority is that from before the entry
  pub exit-queued : (vars : Variables) (ps : List Piece)
      → AreQueued (change i (λ u. going y.costs vars ps (outside_now u)) ts) (put_first i os) (at_head (i, (outside_now t).active) rest)
  exit-queued vars ps =
      let f : Task → Task = λ u. going y.costs vars ps (outside_now u) in
      subst (λ (n : ℕ). AreQueued (change i f ts) (put_first i os) (at_head (i, n) rest)) (goes-active y.costs vars ps (outside_now t))
      (running-moved ts os (i, t.active) rest queued t f at (goes-readiness y.costs vars ps (outside_now t) ∙ outside-readiness t ∙ runs))

  -- a task that goes on
  pub go-queued : (vars : Variables) (ps : List Piece) → AreQueued (change i (going y.costs vars ps) ts) os (at_head (i, t.active) rest)
  go-queued vars ps = queued-kept ts os (at_head (i, t.active) rest) i (going y.costs vars ps) queued
      (λ u. (goes-readiness y.costs vars ps u, goes-active y.costs vars ps u))

  -- a change of another task's control structure
  pub gate-queued : (k : ℕ) (f : Task → Task) → ((u : Task) → ((f u).readiness ≡ u.readiness) × ((f u).active ≡ u.active))
      → AreQueued (change k f ts) os (at_head (i, t.active) rest)
  gate-queued k f same = queued-kept ts os (at_head (i, t.active) rest) k f queued same

  -- the release of a task that waits: it is another one
  pub other-waits : (k : ℕ) (u : Task) → slice_get ts k ≡ Some u → u.readiness ≡ Waiting → k ≢ i
  other-waits k u there waits same = wrong (sym runs ∙ ap (λ v. v.readiness) (same_Some t u (sym at ∙ ap (slice_get ts) (sym same) ∙ there)) ∙ waits)
    where
      wrong : Ready ≡ Waiting → ⊥
      wrong e = cc

  pub release-queued : (k : ℕ) (u : Task) → slice_get ts k ≡ Some u → u.readiness ≡ Waiting
      → AreQueued (change k (released y.costs) ts) (put_last k os) (at_head (i, t.active) (at_tail (k, (released y.costs u).active) rest))
  release-queued k u there waits = running-released ts os (i, t.active) rest queued k u (released y.costs) there (λ e. wrong (sym waits ∙ e))
      (goes-readiness y.costs _ _ _)
    where
      wrong : Waiting ≡ Ready → ⊥
      wrong e = cc

-- what a request comes to: the task that is requested is released where it waits and its control structure is open
module _ (y : System) (k : ℕ) (u : Task) (s : State) (there : slice_get s.tasks k ≡ Some u) where
  pub served : is_waiting u.readiness && u.gate.open' ≡ true
      → serve y k s ≡ (
        record s {
          tasks = change k (released y.costs) s.tasks;
          orders = put_last k s.orders;
        },
        event.Release s.time u.thread.unit u.gate.value ∷ [],
      )
  served test = ap (λ o. serve_task y k o s) there ∙ ap (λ b. if b then release y k s else (s, [])) test ∙ ap (λ o. release_task y k o s) there

  pub not-served : is_waiting u.readiness && u.gate.open' ≡ false → serve y k s ≡ (s, [])
  not-served test = ap (λ o. serve_task y k o s) there ∙ ap (λ b. if b then release y k s else (s, [])) test
