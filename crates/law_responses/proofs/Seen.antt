-- The view of a state after what the machine does: a task goes on, is released, ends, or its control structure opens.
use Rattle.std.specs.Prelude.{◌≡◌, ◌⊎◌, ℕ, zero, suc, Bool, true, false, List, [], ◌∷◌, ◌++◌, map, slice_get, nat_lt, drop, set, Option, Some}
use Rattle.std.specs.Prelude.{option_map, ⊤, if◌then◌else◌, refl}
use Rattle.std.proofs.Common.{◌∙◌, ap, inl, inr}
use Rattle.std.proofs.lemmas.Option.{slice_get-map}
use Rattle.seq_tree.specs.Lists.{change}
use Rattle.seq_tree.specs.Variables.{Variables}
use Rattle.seq_tree.specs.declared.tree.Costs.{Costs}
use Rattle.trace_tree.specs.declared.event.Event.{Event}
use Rattle.trace_tree.specs.declared.event.Event.TheVariants as event
use Rattle.machine.specs.Systems.{System, CallTarget, Plain, Protected, Request, Unknown, callee}
use Rattle.seq_tree.specs.Expressions.{Expression}
use Rattle.seq_tree.specs.Values.{holds}
use Rattle.machine.specs.Pieces.{Piece, Leaving, Calling, Opening, Requested, Finishing, pieces, after_loop}
use Rattle.machine.specs.Deeds.{deed, Act, Silent, Print, Enter, Leave, Ask, Keep, Open, Ended, Finish, done, called}
use Rattle.machine.specs.States.{State, Task, Resource, Object, Control, Held}
use Rattle.machine.specs.Releases.{Next, going, released, parameter}
use Rattle.machine.specs.Effects.{outside_by, outside_now, inside_now, lent, ceiling_of, stopped_at, entered_at, entry, exit, go, keep}
use Rattle.machine.specs.Effects.{open_gate, ended, acted, object_unit, section_unit}
use Rattle.law_responses.proofs.Views.{Core, View, core, view, on_with, released_core, ended_core, opened_core, changed}
use Rattle.law_responses.proofs.Frames.{Frame}
use Rattle.law_lists.proofs.Shared.Places.{map-changed, map-kept}
use Rattle.law_responses.proofs.Moves.{AreQuiet, quiet-none, quiet-one}

-- a task in a state and in its view
pub see : (ts : List Task) (i : ℕ) (t : Task) → slice_get ts i ≡ Some t → slice_get (map core ts) i ≡ Some (core t)
see ts i t e = slice_get-map core ts i ∙ ap (option_map core) e

pub seen : (ts : List Task) (i : ℕ) (c : Core) → slice_get (map core ts) i ≡ Some c → (t : Task) × (slice_get ts i ≡ Some t) × (core t ≡ c)
seen [] i c e = cc
seen (t ∷ ts) zero c e = let is : core t ≡ c = cc in (t, refl, is)
seen (t ∷ ts) (suc i) c e = seen ts i c e

-- one more task changed in a view
abbrev with_cores : State → List Core → View
with_cores s cs = record { time = s.time; phase = s.phase; ran = s.ran; arrivals = s.arrivals; cores = cs }

core-going : (costs : Costs) (vars : Variables) (qs : List Piece) (t : Task) → core (going costs vars qs t) ≡ on_with costs qs (core t)
core-going costs vars [] t = refl
core-going costs vars (q ∷ qs) t = refl

core-outside : (hs : List Held) (t : Task) → core (outside_by hs t) ≡ core t
core-outside [] t = refl
core-outside (h ∷ hs) t = refl

-- a task goes on
pub view-goes : (y : System) (i : ℕ) (vars : Variables) (qs : List Piece) (s : State)
    → view (go y i vars qs s) ≡ changed i (on_with y.costs qs) (view s)
view-goes y i vars qs s = ap (with_cores s) (map-changed core i (going y.costs vars qs) (on_with y.costs qs) s.tasks (core-going y.costs vars qs))

-- a task leaves a section
pub view-exit : (y : System) (i : ℕ) (vars : Variables) (qs : List Piece) (s : State)
    → view (exit y i vars qs s) ≡ changed i (on_with y.costs qs) (view s)
view-exit y i vars qs s =
    ap (with_cores s) (map-changed core i (λ u. going y.costs vars qs (outside_now u)) (on_with y.costs qs) s.tasks
    (λ t. core-going y.costs vars qs (outside_now t) ∙ ap (on_with y.costs qs) (core-outside t.inside t)))

-- a task enters a section
view-entered : (y : System) (i : ℕ) (section : Resource) (told : List Event) (vars : Variables) (qs : List Piece) (s : State)
    → view ((entered_at y i section told vars qs s).0) ≡ changed i (on_with y.costs qs) (view s)
view-entered y i (Object object) told vars qs s =
    ap (with_cores s) (map-changed core i (λ u. going y.costs (lent (Object object) s vars) qs
    (inside_now (Object object) (ceiling_of y (Object object)) u)) (on_with y.costs qs) s.tasks
    (λ t. core-going y.costs (lent (Object object) s vars) qs (inside_now (Object object) (ceiling_of y (Object object)) t)))
view-entered y i (Control task) told vars qs s =
    ap (with_cores s) (map-changed core i (λ u. going y.costs (lent (Control task) s vars) qs
    (inside_now (Control task) (ceiling_of y (Control task)) u)) (on_with y.costs qs) s.tasks
    (λ t. core-going y.costs (lent (Control task) s vars) qs (inside_now (Control task) (ceiling_of y (Control task)) t)))

-- a value is kept in a control structure
view-keep : (k : ℕ) (value : Option ℕ) (s : State) → view (keep k value s) ≡ view s
view-keep k value s = ap (with_cores s) (map-kept core k (λ u. record u { gate = record u.gate { value = value } }) s.tasks (λ t. refl))

-- a control structure opens
pub view-open : (k : ℕ) (s : State) → view (open_gate k s) ≡ changed k opened_core (view s)
view-open k s = ap (with_cores s) (map-changed core k (λ u. record u { gate = record u.gate { open' = true } }) opened_core s.tasks (λ t. refl))

-- an activation ends
pub view-ended : (i : ℕ) (vars : Variables) (s : State) → view (record s { tasks = change i (ended vars) s.tasks }) ≡ changed i ended_core (view s)
view-ended i vars s = ap (with_cores s) (map-changed core i (ended vars) ended_core s.tasks (λ t. refl))

-- a task is released
pub view-released : (y : System) (i : ℕ) (s : State) → with_cores s (map core (change i (released y.costs) s.tasks))
    ≡ changed i (released_core y.costs) (view s)
view-released y i s =
    ap (with_cores s) (map-changed core i (released y.costs) (released_core y.costs) s.tasks
    (λ t. core-going y.costs (parameter t.thread.timing t.gate.value ++ t.vars) (pieces t.thread.block (Finishing ∷ [])) _))

-- what is neither a barrier, nor the end of a request or of the activation
abbrev pub IsQuietAct : Act → Type 0
IsQuietAct (Open task) = ⊥
IsQuietAct (Ended task value) = ⊥
IsQuietAct Finish = ⊥
IsQuietAct _ = ⊤

-- after such an act the task has gone on, or the run has stopped
pub record Goes (f : Frame) (i : ℕ) (qs : List Piece) (s : State) (next : Next) : Type 0 where
  pub view' : (view next.0 ≡ changed i (on_with f.system.costs qs) (view s)) ⊎ (view next.0 ≡ view s)
  pub quiet : AreQuiet f next.1

entry-goes : (f : Frame) (i : ℕ) (t : Task) (section : Resource) (told : List Event) (vars : Variables) (qs : List Piece) (s : State)
    → AreQuiet f told → Goes f i qs s (entry f.system i t section told vars qs s)
entry-goes f i t section told vars qs s quiet = by (nat_lt (ceiling_of f.system section) t.active)
  where
    by : (b : Bool) → Goes f i qs s (if b then stopped_at f.system t section s else entered_at f.system i section told vars qs s)
    by true = record {
      view' = inr refl;
      quiet = quiet-one f (event.Stop s.time t.thread.unit (section_unit f.system section) t.active (ceiling_of f.system section)) (λ u.
          (refl, refl)) tt;
    }
    by false = record { view' = inl (view-entered f.system i section told vars qs s); quiet = quiet }

pub acted-goes : (f : Frame) (i : ℕ) (t : Task) (act : Act) (vars : Variables) (qs : List Piece) (s : State) → IsQuietAct act
    → Goes f i qs s (acted f.system i t act vars qs s)
acted-goes f i t Silent vars qs s quiet = record { view' = inl (view-goes f.system i vars qs s); quiet = quiet-none f }
acted-goes f i t (Print v) vars qs s quiet = record {
  view' = inl (view-goes f.system i vars qs s);
  quiet = quiet-one f (event.Print s.time t.thread.unit v) (λ u. (refl, refl)) tt;
}
acted-goes f i t (Enter object op values) vars qs s quiet =
    entry-goes f i t (Object object) (event.Enter s.time t.thread.unit (object_unit f.system object) op values ∷ []) vars qs s
    (quiet-one f (event.Enter s.time t.thread.unit (object_unit f.system object) op values) (λ u. (refl, refl)) tt)
acted-goes f i t (Leave object op values data') vars qs s quiet = record {
  view' = inl (view-exit f.system i vars qs (record s { stores = set s.stores object data' }));
  quiet = quiet-one f (event.Leave s.time t.thread.unit (object_unit f.system object) op values) (λ u. (refl, refl)) tt;
}
acted-goes f i t (Ask task) vars qs s quiet = entry-goes f i t (Control task) [] vars qs s (quiet-none f)
acted-goes f i t (Keep task v) vars qs s quiet = record {
  view' = inl (view-keep task v (go f.system i vars qs s) ∙ view-goes f.system i vars qs s);
  quiet = quiet-none f;
}
acted-goes f i t (Open task) vars qs s quiet = absurd quiet
acted-goes f i t (Ended task v) vars qs s quiet = absurd quiet
acted-goes f i t Finish vars qs s quiet = absurd quiet

-- a piece that is none of these does nothing but such acts
abbrev pub IsQuietPiece : Piece → Type 0
IsQuietPiece (Opening task) = ⊥
IsQuietPiece (Requested task value) = ⊥
IsQuietPiece Finishing = ⊥
IsQuietPiece _ = ⊤

called-quiet : (c : CallTarget) (actuals : List Expression) (vars : Variables) (ps : List Piece) → IsQuietAct ((called c actuals vars ps).act)
called-quiet (Plain o) actuals vars ps = tt
called-quiet (Protected object op g o) actuals vars ps = tt
called-quiet (Request task) actuals vars ps = tt
called-quiet Unknown actuals vars ps = tt

pub done-quiet : (y : System) (p : Piece) (vars : Variables) (ps : List Piece) → IsQuietPiece p → IsQuietAct ((done y p vars ps).act)
done-quiet y (Leaving condition) vars ps q = by (holds condition vars)
  where
    by : (b : Bool) → IsQuietAct ((if b then deed Silent (drop 1 vars) (after_loop ps) else deed Silent vars ps).act)
    by true = tt
    by false = tt
done-quiet y (Calling unit op actuals) vars ps q = called-quiet (callee y unit op) actuals vars ps
done-quiet y (Opening task) vars ps q = absurd q
done-quiet y (Requested task v) vars ps q = absurd q
done-quiet y Finishing vars ps q = absurd q
done-quiet y _ vars ps q = tt
