-- The laws of the passes: what they compute, one event at a time, are the checks of threads and objects over a whole trace.
use Rattle.std.specs.Prelude.{◌≡◌, ℕ, Bool, true, ◌&&◌, List, ◌∷◌, map, if◌then◌else◌}
use Rattle.seq_tree.specs.Names.{Name, same_name, are_distinct}
use Rattle.seq_tree.specs.Variables.{written}
use Rattle.ods_tree.specs.Flats.{Guarded}
use Rattle.guarantee.specs.Software.{Software, Task}
use Rattle.guarantee.specs.Events.{Deed, Event, By}
use Rattle.guarantee.specs.Steps.{is_own}
use Rattle.law_traces.specs.Checks.{action_of, scripted, does_in, object_named, written_in, most_used, serves, follows}
use Rattle.law_traces.specs.Entries.{shown_at, with_action, stack_of, entries_in}
use Rattle.law_traces.specs.Services.{Service, Free, is_sound, served_from, charges_from, is_served}
use Rattle.law_traces.specs.Progress.{Idle, is_well, moved_from}

-- what is inside an operation, by the scripts of its thread's levels, and these from the end of a trace backwards
pub record StacksTell (w : Software) (thread : Name) (later : List Event) : Type 0 where
  pub inside : scripted w (does_in thread later) ≡ shown_at 0 (stack_of w thread later)
  pub before : (time : ℕ) (task : Name) (deed : Deed) → stack_of w thread (By time task deed ∷ later)
      ≡ (if same_name task thread && is_own deed then with_action deed (action_of w deed) (stack_of w thread later) else stack_of w thread later)

abbrev pub StacksTellScripts : Type 0
StacksTellScripts = (w : Software) (thread : Name) (later : List Event) → StacksTell w thread later

-- every object at its written data
abbrev pub at_first : Software → Name → Service
at_first w object = Free (written_in w object)

-- the ticks of the way of each event of a trace
abbrev pub charges_in : Software → ℕ → List Event → List (ℕ × ℕ)
charges_in w depth trace = charges_from w depth (most_used trace) trace (entries_in w trace) (at_first w)

-- whether an object of this name is served, where it is one
abbrev pub is_served_in : Software → ℕ → List Event → Name → Bool
is_served_in w depth trace object = is_served (serves w depth trace) (object_named w object)

-- the checks, by what objects and threads are at behind the trace
pub record AreTold (w : Software) (depth : ℕ) (trace : List Event) : Type 0 where
  pub objects : (g : Guarded) → serves w depth trace g ≡ is_sound (served_from w depth g trace (entries_in w trace) (Free (written g.vars)))
  pub threads : (t : Task) → follows w depth trace t
      ≡ is_well w depth t (moved_from w depth t (is_served_in w depth trace) trace (charges_in w depth trace) (Idle (written t.vars)))

abbrev pub PassesTellChecks : Type 0
PassesTellChecks = (w : Software) → are_distinct (map (λ g. g.name) w.shared) ≡ true → (depth : ℕ) (trace : List Event) → AreTold w depth trace
