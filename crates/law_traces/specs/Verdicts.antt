-- The verdict on a text as a trace of a program: that the design's machine allows it, or the first thing that is wrong with it.
-- The parts of the machine are tried in the order of its definition, and within a part the first thread or object in order is told.
use Rattle.std.specs.Prelude.{◌≡◌, ℕ, suc, not, List, [], ◌∷◌, ◌++◌, length, find, Option, Some, None, if◌then◌else◌}
use Rattle.seq_tree.specs.Lists.{Each}
use Rattle.seq_tree.specs.Names.{Name}
use Rattle.ods_tree.specs.Flats.{Guarded}
use Rattle.ada_tree.specs.Programs.{Program}
use Rattle.trace_tree.specs.Lines.{line, lines}
use Rattle.trace_tree.specs.declared.event.Event as machine
use Rattle.guarantee.specs.Software.{Software, Task}
use Rattle.guarantee.specs.Events.{Event, named}
use Rattle.guarantee.specs.Arrivals.{Arrivals}
use Rattle.guarantee.specs.Order.{IsInOrder}
use Rattle.guarantee.specs.Requests.{AreTold}
use Rattle.guarantee.specs.Allowed.{IsPeriodic, IsRequested, Permits}
use Rattle.law_traces.specs.Told.{IsEvent}
use Rattle.law_traces.specs.Parts.{Serves, Follows}
use Rattle.law_traces.specs.Checks.{in_order, is_periodic, are_told, is_requested, serves, follows}

-- a verdict
pub data Verdict : Type 0 where
  -- the text has so many lines, of a trace that is allowed
  Accepted : (lines : ℕ) → Verdict
  -- the line of this number, from 1, is none of an event
  Line : (line : ℕ) → Verdict
  -- times, tasks, stops or the horizon are wrong
  Times : Verdict
  -- the releases of a cyclic thread
  Cyclic : (thread : Name) → Verdict
  -- the arrivals
  Untold : Verdict
  -- the requests and releases of a sporadic thread
  Requests : (thread : Name) → Verdict
  -- the activations of a thread
  Script : (thread : Name) → Verdict
  -- the operations of an object
  Shared : (object : Name) → Verdict

-- the first of a list for which something doesn't hold
pub record IsFirstWithout {A : Type 0} (P : A → Type 0) (xs : List A) (x : A) : Type 0 where
  pub front : List A
  pub back : List A
  pub split : xs ≡ front ++ x ∷ back
  pub before : Each P front
  pub broken : P x → ⊥

-- the verdict on a list of events
abbrev pub IsVerdictOn : Software → Arrivals → List Event → Verdict → Type 0
IsVerdictOn w r told (Accepted n) = Permits w r told × (n ≡ length told)
IsVerdictOn w r told (Line k) = ⊥
IsVerdictOn w r told Times = IsInOrder w.tasks r.until 0 told → ⊥
IsVerdictOn w r told (Cyclic thread) =
    IsInOrder w.tasks r.until 0 told
    × (t : Task) × IsFirstWithout (λ u. IsPeriodic r.until told u.name u.timing) w.tasks t × (thread ≡ t.name)
IsVerdictOn w r told Untold =
    IsInOrder w.tasks r.until 0 told × Each (λ t. IsPeriodic r.until told t.name t.timing) w.tasks × (AreTold r.until r.items told → ⊥)
IsVerdictOn w r told (Requests thread) =
    IsInOrder w.tasks r.until 0 told × Each (λ t. IsPeriodic r.until told t.name t.timing) w.tasks × AreTold r.until r.items told
    × (t : Task) × IsFirstWithout (λ u. IsRequested told u.name u.timing) w.tasks t × (thread ≡ t.name)
IsVerdictOn w r told (Script thread) =
    IsInOrder w.tasks r.until 0 told × Each (λ t. IsPeriodic r.until told t.name t.timing) w.tasks × AreTold r.until r.items told
    × Each (λ t. IsRequested told t.name t.timing) w.tasks × (t : Task) × IsFirstWithout (Follows w told) w.tasks t × (thread ≡ t.name)
IsVerdictOn w r told (Shared object) =
    IsInOrder w.tasks r.until 0 told × Each (λ t. IsPeriodic r.until told t.name t.timing) w.tasks × AreTold r.until r.items told
    × Each (λ t. IsRequested told t.name t.timing) w.tasks × Each (Follows w told) w.tasks
    × (g : Guarded) × IsFirstWithout (Serves w told) w.shared g × (object ≡ g.name)

-- bytes that don't begin with the line of an event, and are some
abbrev pub BeginsNoLine : Program → List ℕ → Type 0
BeginsNoLine p rest = (rest ≡ [] → ⊥) × ((e : machine.Event) (more : List ℕ) → IsEvent p e → rest ≡ line p e ++ more → ⊥)

-- the verdict on a text
abbrev pub IsVerdict : Software → Program → Arrivals → List ℕ → Verdict → Type 0
IsVerdict w p r text (Line k) =
    (es : List machine.Event) × (rest : List ℕ) × Each (IsEvent p) es × (text ≡ lines p es ++ rest) × BeginsNoLine p rest × (k ≡ suc (length es))
IsVerdict w p r text v = (es : List machine.Event) × Each (IsEvent p) es × (text ≡ lines p es) × IsVerdictOn w r (named p es) v

-- WHAT IS COMPUTED
-- a verdict on the first that fails a test, or else another
abbrev pub first_or : {A : Type 0} → (A → Verdict) → Option A → Verdict → Verdict
first_or verdict None other = other
first_or verdict (Some x) other = verdict x

-- the verdict on a list of events, by the checks
unfoldable pub judged : Software → ℕ → Arrivals → List Event → Verdict
judged w depth r told =
    if in_order w.tasks r.until 0 told
    then first_or (λ t. Cyclic t.name) (find (λ t. not (is_periodic r.until told t.name t.timing)) w.tasks)
    (if are_told r.until r.items told
    then first_or (λ t. Requests t.name) (find (λ t. not (is_requested told t.name t.timing)) w.tasks)
    (first_or (λ t. Script t.name) (find (λ t. not (follows w depth told t)) w.tasks)
    (first_or (λ g. Shared g.name) (find (λ g. not (serves w depth told g)) w.shared) (Accepted (length told))))
    else Untold)
    else Times
