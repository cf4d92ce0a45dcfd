-- A task whose first piece has just started: where that piece takes ticks, some are left. What effects keep of such tasks.
use Rattle.std.specs.Prelude.{◌≡◌, ◌⊎◌, ℕ, suc, ◌≤◌, Bool, true, false, ◌&&◌, List, [], ◌∷◌, nat_lt, slice_get, Option, Some, None}
use Rattle.std.specs.Prelude.{if◌then◌else◌, ⊤, refl}
use Rattle.std.proofs.Common.{sym, ap, subst, inl, inr}
use Rattle.seq_tree.specs.Lists.{change}
use Rattle.seq_tree.specs.Variables.{Variables}
use Rattle.seq_tree.specs.declared.tree.Costs.{Costs}
use Rattle.trace_tree.specs.declared.event.Event.{Event}
use Rattle.machine.specs.Systems.{System}
use Rattle.machine.specs.Pieces.{Piece, Idle, Store, Leaving, Calling, Working, Printing, Testing, Turning, Turned, Returning, Closing, Keeping}
use Rattle.machine.specs.Pieces.{Opening, Requested, Finishing, ticks_of}
use Rattle.machine.specs.Deeds.{Act, Silent, Print, Enter, Leave, Ask, Keep, Open, Ended, Finish}
use Rattle.machine.specs.States.{State, Task, Resource, Object, Control}
use Rattle.machine.specs.Releases.{going, released, release, release_task, serve, serve_task, is_waiting}
use Rattle.machine.specs.Effects.{acted, entry, entered_at, stopped_at, exit, go, ended, ceiling_of}
use Rattle.std.proofs.lemmas.Bool.{true≢false}
use Rattle.law_lists.proofs.Shared.Places.{changed-at, change-any}
use Rattle.law_calls.proofs.Shared.Tasks.{released-readiness}

-- costs of a tick at least
pub record AreSome (costs : Costs) : Type 0 where
  pub assign : 1 ≤ costs.assign
  pub test : 1 ≤ costs.test
  pub turn : 1 ≤ costs.turn
  pub call : 1 ≤ costs.call
  pub nothing : 1 ≤ costs.nothing
  pub put : 1 ≤ costs.put
  pub finish : 1 ≤ costs.finish

-- whether a piece takes ticks for sure
abbrev pub is_slow : Piece → Bool
is_slow (Working ticks) = false
is_slow (Turned name at last body) = false
is_slow (Returning outs stores caller) = false
is_slow (Closing object op vars outs stores caller) = false
is_slow (Requested task value) = false
is_slow _ = true

-- how many pieces in front may take none
abbrev pub quick : List Piece → ℕ
quick [] = 0
quick (x ∷ xs) = if is_slow x then 0 else suc (quick xs)

-- ticks left of a slow piece
abbrev pub HasLeft : List Piece → ℕ → Type 0
HasLeft [] left = ⊤
HasLeft (x ∷ xs) left = is_slow x ≡ true → 1 ≤ left

abbrev pub IsFresh : Task → Type 0
IsFresh t = HasLeft t.pieces t.left

abbrev pub FreshAt : List Task → ℕ → Type 0
FreshAt ts i = (t : Task) → slice_get ts i ≡ Some t → IsFresh t

pub some_ticks : (costs : Costs) → AreSome costs → (d : Option ℕ) (x : Piece) → is_slow x ≡ true → 1 ≤ ticks_of costs d x
some_ticks costs some d Idle e = some.nothing
some_ticks costs some d (Store target v) e = some.assign
some_ticks costs some d (Leaving condition) e = some.test
some_ticks costs some d (Calling unit op actuals) e = some.call
some_ticks costs some d (Working ticks) e = absurd (true≢false (sym e))
some_ticks costs some d (Printing v) e = some.put
some_ticks costs some d (Testing condition block others) e = some.test
some_ticks costs some d (Turning name at last body) e = some.turn
some_ticks costs some d (Turned name at last body) e = absurd (true≢false (sym e))
some_ticks costs some d (Returning outs stores caller) e = absurd (true≢false (sym e))
some_ticks costs some d (Closing object op vars outs stores caller) e = absurd (true≢false (sym e))
some_ticks costs some d (Keeping task v) e = some.assign
some_ticks costs some d (Opening task) e = some.assign
some_ticks costs some d (Requested task v) e = absurd (true≢false (sym e))
some_ticks costs some d Finishing e = some.finish

pub going-fresh : (costs : Costs) → AreSome costs → (vars : Variables) (ps : List Piece) (t : Task) → IsFresh (going costs vars ps t)
going-fresh costs some vars [] t = tt
going-fresh costs some vars (x ∷ ps) t = some_ticks costs some (slice_get t.thread.durations t.works) x

pub released-ready : (costs : Costs) (t : Task) → is_waiting (released costs t).readiness ≡ false
released-ready costs t = ap is_waiting (released-readiness costs t)

fresh-own : (i : ℕ) (f : Task → Task) (ts : List Task) → ((t : Task) → IsFresh (f t)) → FreshAt (change i f ts) i
fresh-own i f ts all t at = let h = changed-at i f ts t at in subst IsFresh (sym h.2) (all h.0)

fresh-any : (k i : ℕ) (f : Task → Task) (ts : List Task) → ((t : Task) → IsFresh t → IsFresh (f t)) → FreshAt ts i → FreshAt (change k f ts) i
fresh-any k i f ts keeps fresh t at = by (change-any k i f ts t at)
  where
    by : (x : Task) × (slice_get ts i ≡ Some x) × ((t ≡ x) ⊎ ((t ≡ f x) × (k ≡ i))) → IsFresh t
    by (x, there, inl same) = subst IsFresh (sym same) (fresh x there)
    by (x, there, inr changed) = subst IsFresh (sym changed.0) (keeps x (fresh x there))

module _ (y : System) (some : AreSome y.costs) where
  released-fresh : (t : Task) → IsFresh (released y.costs t)
  released-fresh t = going-fresh y.costs some _ _ _

  release_task-fresh : (k i : ℕ) (o : Option Task) (s : State) → FreshAt s.tasks i → FreshAt (release_task y k o s).0.tasks i
  release_task-fresh k i None s fresh = fresh
  release_task-fresh k i (Some t) s fresh = fresh-any k i (released y.costs) s.tasks (λ u h. released-fresh u) fresh

  serve_task-fresh : (k i : ℕ) (o : Option Task) (s : State) → FreshAt s.tasks i → FreshAt (serve_task y k o s).0.tasks i
  serve_task-fresh k i None s fresh = fresh
  serve_task-fresh k i (Some t) s fresh = by (is_waiting t.readiness && t.gate.open')
    where
      by : (b : Bool) → FreshAt (if b then release y k s else (s, [])).0.tasks i
      by true = release_task-fresh k i (slice_get s.tasks k) s fresh
      by false = fresh

  serve-fresh : (k i : ℕ) (s : State) → FreshAt s.tasks i → FreshAt (serve y k s).0.tasks i
  serve-fresh k i s fresh = serve_task-fresh k i (slice_get s.tasks k) s fresh

  entry-fresh : (i : ℕ) (t : Task) (c : Resource) (told : List Event) (vars : Variables) (ps : List Piece) (s : State)
      → ((entry y i t c told vars ps s).0.stopped ≡ true) ⊎ FreshAt (entry y i t c told vars ps s).0.tasks i
  entry-fresh i t c told vars ps s = by c (nat_lt (ceiling_of y c) t.active)
    where
      by : (z : Resource) (b : Bool) → ((if b then stopped_at y t z s else entered_at y i z told vars ps s).0.stopped ≡ true)
          ⊎ FreshAt (if b then stopped_at y t z s else entered_at y i z told vars ps s).0.tasks i
      by z true = inl refl
      by (Object k) false = inr (fresh-own i _ s.tasks (λ u. going-fresh y.costs some _ _ _))
      by (Control k) false = inr (fresh-own i _ s.tasks (λ u. going-fresh y.costs some _ _ _))

  -- after an effect the task's first piece has just started, unless the run has stopped
  pub acted-fresh : (i : ℕ) (t : Task) (a : Act) (vars : Variables) (ps : List Piece) (s : State)
      → ((acted y i t a vars ps s).0.stopped ≡ true) ⊎ FreshAt (acted y i t a vars ps s).0.tasks i
  acted-fresh i t Silent vars ps s = inr (fresh-own i _ s.tasks (λ u. going-fresh y.costs some _ _ _))
  acted-fresh i t (Print v) vars ps s = inr (fresh-own i _ s.tasks (λ u. going-fresh y.costs some _ _ _))
  acted-fresh i t (Enter object op values) vars ps s = entry-fresh i t (Object object) _ vars ps s
  acted-fresh i t (Leave object op values data') vars ps s = inr (fresh-own i _ s.tasks (λ u. going-fresh y.costs some _ _ _))
  acted-fresh i t (Ask task) vars ps s = entry-fresh i t (Control task) [] vars ps s
  acted-fresh i t (Keep task v) vars ps s
      = inr (fresh-any task i _ (go y i vars ps s).tasks (λ u h. h) (fresh-own i _ s.tasks (λ u. going-fresh y.costs some _ _ _)))
  acted-fresh i t (Open task) vars ps s
      = inr (fresh-any task i _ (go y i vars ps s).tasks (λ u h. h) (fresh-own i _ s.tasks (λ u. going-fresh y.costs some _ _ _)))
  acted-fresh i t (Ended task v) vars ps s
      = inr (serve-fresh task i (exit y i vars ps s) (fresh-own i _ s.tasks (λ u. going-fresh y.costs some _ _ _)))
  acted-fresh i t Finish vars ps s = inr (serve-fresh i i (record s { tasks = change i (ended vars) s.tasks }) (fresh-own i _ s.tasks (λ u. tt)))
