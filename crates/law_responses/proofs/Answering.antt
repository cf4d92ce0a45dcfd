-- What a trace tells of a task's activations, by names: each release has its end within a response time where a log says so.
use Rattle.std.specs.Prelude.{◌≡◌, ℕ, suc, ◌+◌, ◌≤◌, ◌==◌, Bool, true, false, List, [], ◌∷◌, slice_get, Option, Some, None, ⊤, if◌then◌else◌, refl}
use Rattle.std.proofs.Common.{sym, ◌∙◌, ap, subst, arith}
use Rattle.std.proofs.lemmas.Option.{none-some}
use Rattle.seq_tree.specs.Names.{Name, same_name}
use Rattle.rt_response.specs.declared.rows.ThreadRow.{ThreadRow}
use Rattle.rt_response.specs.declared.rows.Bound.{Bound}
use Rattle.rt_response.specs.Tables.{Each}
use Rattle.ada_tree.specs.Programs.{Program}
use Rattle.trace_tree.specs.Lines.{unit_name}
use Rattle.trace_tree.specs.declared.event.Event as machine
use Rattle.trace_tree.specs.declared.event.Event.TheVariants as event
use Rattle.guarantee.specs.Events.{named}
use Rattle.guarantee.specs.Bounded.{Either, EndsBy, Responds}
use Rattle.law_schedules.specs.Schedules.{is_over, AllOnTime}
use Rattle.seq_tree.specs.Lists as lists
use Rattle.law_responses.proofs.Frames.{Frame}
use Rattle.law_responses.proofs.Moves.{IsOfUnit, HasUnit}
use Rattle.law_responses.proofs.Logs.{Made, Log, activation, schedule_of}
use Rattle.law_responses.proofs.Numbers.{stands-activation}
use Rattle.law_responses.proofs.Told.{Answer, next_end, answers, ends_of}

-- an answer within a response time, where that is within the horizon
abbrev pub IsAnswered : ℕ → ℕ → Answer → Type 0
IsAnswered until ticks a = a.0 + ticks ≤ until → (end : ℕ) × (a.1 ≡ Some end) × (end ≤ a.0 + ticks)

-- an end that is there by a time
pub over-is : (o : Option ℕ) (time : ℕ) → is_over o time ≡ true → (end : ℕ) × (o ≡ Some end) × (end ≤ time)
over-is None time e = cc
over-is (Some end) time e = (end, refl, (let past : end ≤ time = grind arith in past))

-- all activations of a row that are on time
answered-from : (until ticks r n : ℕ) (ms : List Made)
    → ((k : ℕ) (m : Made) → slice_get ms k ≡ Some m → m.row ≡ r → m.release + ticks ≤ until → is_over m.over (m.release + ticks) ≡ true)
    → Each (IsAnswered until ticks) (ends_of r ms)
answered-from until ticks r n [] h = tt
answered-from until ticks r n (m ∷ ms) h = by (m.row == r) refl (answered-from until ticks r n ms (λ k x e same. h (suc k) x e same))
  where
    by : (b : Bool) → (m.row == r) ≡ b → Each (IsAnswered until ticks) (ends_of r ms)
        → Each (IsAnswered until ticks) (if b then (m.release, m.over) ∷ ends_of r ms else ends_of r ms)
    by true e rest = (λ near. over-is m.over (m.release + ticks) (h 0 m refl (let same : m.row ≡ r = grind arith in same) near), rest)
    by false e rest = rest

pub all-answered : (rows : List ThreadRow) (v : List Bound) (shift : ℕ) (l : Log) (until r : ℕ) (row : ThreadRow) (b : Bound)
    → AllOnTime rows v (schedule_of rows shift l) until
    → slice_get rows r ≡ Some row → slice_get v r ≡ Some b → Each (IsAnswered until b.response) (ends_of r l.acts)
all-answered rows v shift l until r row b on_time asks gets =
    answered-from until b.response r 0 l.acts (λ k m e same near.
    on_time k (activation rows shift l.ticks (0 + k) m) row b
    (record {
      stands = stands-activation rows shift l.ticks 0 l.acts k m e;
      asks = ap (slice_get rows) same ∙ asks;
      gets = ap (slice_get v) same ∙ gets;
    }) near)

-- a name that is that of one unit alone, among those of tasks
abbrev pub Names : Frame → Program → Name → ℕ → Type 0
Names f p name u = (x : ℕ) → IsOfUnit f x → same_name (unit_name p x) name ≡ (x == u)

pub ends-named : (f : Frame) (p : Program) (name : Name) (u latest end : ℕ) (es : List machine.Event) → Names f p name u → lists.Each (HasUnit f) es
    → next_end u es ≡ Some end → end ≤ latest → EndsBy name latest (named p es)
ends-named f p name u latest end [] names units e near = absurd (none-some end e)
ends-named f p name u latest end (event.End time task used ∷ es) names units e near
    = by (task == u) (names task units.0) e (λ g. ends-named f p name u latest end es names units.1 g near)
  where
    by : (b : Bool) → same_name (unit_name p task) name ≡ b → (if b then Some time else next_end u es) ≡ Some end
        → (next_end u es ≡ Some end → EndsBy name latest (named p es))
        → Either (same_name (unit_name p task) name) (time ≤ latest) (EndsBy name latest (named p es))
    by true same g rest =
        let is : time ≡ end = cc in
        subst (λ b. Either b (time ≤ latest) (EndsBy name latest (named p es))) (sym same) (omega (arith, is, near))
    by false same g rest = subst (λ b. Either b (time ≤ latest) (EndsBy name latest (named p es))) (sym same) (rest g)
ends-named f p name u latest end (event.Release time task value ∷ es) names units e near = ends-named f p name u latest end es names units.1 e near
ends-named f p name u latest end (event.Arrive time task value ∷ es) names units e near = ends-named f p name u latest end es names units.1 e near
ends-named f p name u latest end (event.Enter time task unit op values ∷ es) names units e near
    = ends-named f p name u latest end es names units.1 e near
ends-named f p name u latest end (event.Leave time task unit op values ∷ es) names units e near
    = ends-named f p name u latest end es names units.1 e near
ends-named f p name u latest end (event.Request time task target value ∷ es) names units e near
    = ends-named f p name u latest end es names units.1 e near
ends-named f p name u latest end (event.Print time task value ∷ es) names units e near = ends-named f p name u latest end es names units.1 e near
ends-named f p name u latest end (event.Stop time task unit priority ceiling ∷ es) names units e near
    = ends-named f p name u latest end es names units.1 e near
ends-named f p name u latest end (event.Horizon time ∷ es) names units e near = ends-named f p name u latest end es names units.1 e near

pub responds-named : (f : Frame) (p : Program) (name : Name) (u ticks until : ℕ) (es : List machine.Event) → Names f p name u
    → lists.Each (HasUnit f) es → Each (IsAnswered until ticks) (answers u es)
    → Responds until (named p es) (record { thread = name; ticks = ticks })
responds-named f p name u ticks until [] names units all = tt
responds-named f p name u ticks until (event.Release time task value ∷ es) names units all
    = by (task == u) (names task units.0) all (λ rest. responds-named f p name u ticks until es names units.1 rest)
  where
    Told : Bool → Type 0
    Told b = Either b (time + ticks ≤ until → EndsBy name (time + ticks) (named p es)) ⊤
        × Responds until (named p es) (record { thread = name; ticks = ticks })

    by : (b : Bool) → same_name (unit_name p task) name ≡ b
        → Each (IsAnswered until ticks) (if b then (time, next_end u es) ∷ answers u es else answers u es)
        → (Each (IsAnswered until ticks) (answers u es) → Responds until (named p es) (record { thread = name; ticks = ticks }))
        → Either (same_name (unit_name p task) name) (time + ticks ≤ until → EndsBy name (time + ticks) (named p es)) ⊤
        × Responds until (named p es) (record { thread = name; ticks = ticks })
    by true same h rest =
        subst Told (sym same) (
          λ near. let found = h.0 near in ends-named f p name u (time
              + ticks) found.0 es names units.1 found.1 found.2,
          rest h.1,
        )
    by false same h rest = subst Told (sym same) (tt, rest h)
responds-named f p name u ticks until (event.End time task used ∷ es) names units all = responds-named f p name u ticks until es names units.1 all
responds-named f p name u ticks until (event.Arrive time task value ∷ es) names units all = responds-named f p name u ticks until es names units.1 all
responds-named f p name u ticks until (event.Enter time task unit op values ∷ es) names units all
    = responds-named f p name u ticks until es names units.1 all
responds-named f p name u ticks until (event.Leave time task unit op values ∷ es) names units all
    = responds-named f p name u ticks until es names units.1 all
responds-named f p name u ticks until (event.Request time task target value ∷ es) names units all
    = responds-named f p name u ticks until es names units.1 all
responds-named f p name u ticks until (event.Print time task value ∷ es) names units all = responds-named f p name u ticks until es names units.1 all
responds-named f p name u ticks until (event.Stop time task unit priority ceiling ∷ es) names units all
    = responds-named f p name u ticks until es names units.1 all
responds-named f p name u ticks until (event.Horizon time ∷ es) names units all = responds-named f p name u ticks until es names units.1 all
