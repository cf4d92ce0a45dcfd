-- What is read off a trace from its end backwards: of each entry into an operation the script of what the thread does inside, and whether
-- the object is passed again.
use Rattle.std.specs.Prelude.{ℕ, zero, suc, Bool, false, List, [], ◌∷◌, map, drop, Option, Some}
use Rattle.seq_tree.specs.Names.{Name}
use Rattle.seq_tree.specs.Runs.{Action}
use Rattle.guarantee.specs.Software.{Software}
use Rattle.guarantee.specs.Events.{Deed, Enter, Leave, Event, By}
use Rattle.guarantee.specs.Steps.{moments, steps_of}
use Rattle.law_traces.specs.Levels.{levels}
use Rattle.law_traces.specs.Checks.{both, scripted, does_in, is_passed}

-- a script, or none where a deed shows no action
abbrev pub Shown : Type 0
Shown = Option (List Action)

-- the script of the level at a place, and the empty one where there is no level
abbrev pub shown_at : ℕ → List Shown → Shown
shown_at k [] = Some []
shown_at zero (s ∷ ss) = s
shown_at (suc k) (s ∷ ss) = shown_at k ss

-- a deed in front, with the action that it shows: an entry opens a level, an exit closes one
abbrev pub with_action : Deed → Option Action → List Shown → List Shown
with_action (Enter name values) a ss = both a (shown_at 1 ss) ∷ drop 2 ss
with_action (Leave name values) a ss = Some [] ∷ both a (shown_at 0 ss) ∷ drop 1 ss
with_action d a ss = both a (shown_at 0 ss) ∷ drop 1 ss

-- the scripts of a thread's levels in what is left of a trace
abbrev pub stack_of : Software → Name → List Event → List Shown
stack_of w thread later = map (scripted w) (levels (map (λ s. s.deed) (steps_of thread (moments later []))))

-- what is known of an entry
pub record Entry : Type 0 where
  pub script : Shown
  pub again : Bool

-- of an event that enters nothing
abbrev pub no_entry : Entry
no_entry = record { script = Some []; again = false }

-- of an event, from what follows it
abbrev pub entry_at : Software → Event → List Event → Entry
entry_at w (By time task (Enter name values)) later = record { script = scripted w (does_in task later); again = is_passed name.object later }
entry_at w _ later = no_entry

-- of each event of a trace
abbrev pub entries_in : Software → List Event → List Entry
entries_in w [] = []
entries_in w (e ∷ later) = entry_at w e later ∷ entries_in w later
