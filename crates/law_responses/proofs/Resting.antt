-- What a trace tells of a level that rests: each release before a time has its end by then, where a log says so.
use Rattle.std.specs.Prelude.{◌≡◌, ℕ, ◌≤◌, ◌<◌, ◌==◌, Bool, true, false, List, [], ◌∷◌, slice_get, Some, ⊤, zero, suc, ◌+◌, if◌then◌else◌, refl}
use Rattle.std.proofs.Common.{sym, subst, arith}
use Rattle.std.proofs.lemmas.Option.{none-some, same_Some}
use Rattle.seq_tree.specs.Lists as lists
use Rattle.seq_tree.specs.Names.{Name, same_name}
use Rattle.rt_response.specs.declared.rows.ThreadRow.{ThreadRow}
use Rattle.rt_response.specs.Tables.{Each}
use Rattle.ada_tree.specs.Programs.{Program}
use Rattle.trace_tree.specs.Lines.{unit_name}
use Rattle.trace_tree.specs.declared.event.Event as machine
use Rattle.trace_tree.specs.declared.event.Event.TheVariants as event
use Rattle.guarantee.specs.Events.{named}
use Rattle.guarantee.specs.Bounded.{Either, EndsBy}
use Rattle.law_schedules.specs.Schedules.{is_over, IsOverBy, IsStart}
use Rattle.law_responses.specs.Resting.{RestsBy}
use Rattle.law_responses.proofs.Frames.{Frame}
use Rattle.law_responses.proofs.Moves.{HasUnit}
use Rattle.law_responses.proofs.Logs.{Made, Log, activation, activations, schedule_of}
use Rattle.law_responses.proofs.Numbers.{stands-activation}
use Rattle.law_responses.proofs.Told.{Answer, next_end, answers, ends_of}
use Rattle.law_responses.proofs.Answering.{Names, over-is, ends-named}

-- an answer by a time, where it is to a release before that time
abbrev pub IsRested : ℕ → Answer → Type 0
IsRested time a = a.0 < time → (end : ℕ) × (a.1 ≡ Some end) × (end ≤ time)

-- all activations of a row that are over by a time
rested-from : (time r : ℕ) (ms : List Made)
    → ((k : ℕ) (m : Made) → slice_get ms k ≡ Some m → m.row ≡ r → m.release < time → is_over m.over time ≡ true)
    → Each (IsRested time) (ends_of r ms)
rested-from time r [] h = tt
rested-from time r (m ∷ ms) h = by (m.row == r) refl (rested-from time r ms (λ k x e same. h (suc k) x e same))
  where
    by : (b : Bool) → (m.row == r) ≡ b → Each (IsRested time) (ends_of r ms)
        → Each (IsRested time) (if b then (m.release, m.over) ∷ ends_of r ms else ends_of r ms)
    by true e rest = (λ less. over-is m.over time (h 0 m refl (let same : m.row ≡ r = grind arith in same) less), rest)
    by false e rest = rest

-- what holds of each item holds of that at a place
item-at : {A : Type 0} (P : A → Type 0) (xs : List A) (k : ℕ) (x : A) → Each P xs → slice_get xs k ≡ Some x → P x
item-at P [] k x all e = absurd (none-some x e)
item-at P (y ∷ xs) zero x all e = subst P (same_Some y x e) all.0
item-at P (y ∷ xs) (suc k) x all e = item-at P xs k x all.1 e

-- at a start of a level all activations of its rows that were released before are over
pub all-rested : (rows : List ThreadRow) (shift : ℕ) (l : Log) (time i r : ℕ) → r ≤ i → IsStart (schedule_of rows shift l) i time
    → Each (IsRested time) (ends_of r l.acts)
all-rested rows shift l time i r low start =
    rested-from time r l.acts (λ k m e same less.
    item-at (IsOverBy i time) (activations rows shift l.ticks 0 l.acts) k (activation rows shift l.ticks (0 + k) m) start
    (stands-activation rows shift l.ticks 0 l.acts k m e) (omega (arith, low, same)) less)

pub rests-named : (f : Frame) (p : Program) (name : Name) (u time : ℕ) (es : List machine.Event) → Names f p name u → lists.Each (HasUnit f) es
    → Each (IsRested time) (answers u es) → RestsBy time (named p es) name
rests-named f p name u time [] names units all = tt
rests-named f p name u time (event.Release at task value ∷ es) names units all
    = by (task == u) (names task units.0) all (λ rest. rests-named f p name u time es names units.1 rest)
  where
    Told : Bool → Type 0
    Told b = Either b (at < time → EndsBy name time (named p es)) ⊤ × RestsBy time (named p es) name

    by : (b : Bool) → same_name (unit_name p task) name ≡ b → Each (IsRested time) (if b then (at, next_end u es) ∷ answers u es else answers u es)
        → (Each (IsRested time) (answers u es) → RestsBy time (named p es) name)
        → Either (same_name (unit_name p task) name) (at < time → EndsBy name time (named p es)) ⊤ × RestsBy time (named p es) name
    by true same h rest =
        subst Told (sym same) (
          λ less. let found = h.0 less in ends-named f p name u time found.0 es names units.1 found.1 found.2,
          rest h.1,
        )
    by false same h rest = subst Told (sym same) (tt, rest h)
rests-named f p name u time (event.End at task used ∷ es) names units all = rests-named f p name u time es names units.1 all
rests-named f p name u time (event.Arrive at task value ∷ es) names units all = rests-named f p name u time es names units.1 all
rests-named f p name u time (event.Enter at task unit op values ∷ es) names units all = rests-named f p name u time es names units.1 all
rests-named f p name u time (event.Leave at task unit op values ∷ es) names units all = rests-named f p name u time es names units.1 all
rests-named f p name u time (event.Request at task target value ∷ es) names units all = rests-named f p name u time es names units.1 all
rests-named f p name u time (event.Print at task value ∷ es) names units all = rests-named f p name u time es names units.1 all
rests-named f p name u time (event.Stop at task unit priority ceiling ∷ es) names units all = rests-named f p name u time es names units.1 all
rests-named f p name u time (event.Horizon at ∷ es) names units all = rests-named f p name u time es names units.1 all
