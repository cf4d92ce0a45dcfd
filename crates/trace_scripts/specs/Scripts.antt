-- Scripts as the code holds them, and the actions that events show.
use Rattle.std.specs.Prelude.{◌≡◌, ℕ, suc, true, List, [], ◌∷◌, drop, filter_map, is_some, Option, Some, None, if◌then◌else◌, ⊤}
use Rattle.std.specs.List.{cons_option}
use Rattle.seq_tree.specs.Names.{Name}
use Rattle.seq_tree.specs.Runs as runs
use Rattle.seq_tree.specs.Lists.{Each}
use Rattle.ada_tree.specs.Rules.{MeetsRules}
use Rattle.ada_tree.specs.Programs.{Form, Program, Passive, Shared, Cyclic, Sporadic}
use Rattle.guarantee.specs.Software.{program_software}
use Rattle.guarantee.specs.Events.{Event, By, Horizon, named_event}
use Rattle.law_traces.specs.Checks.{action_of}
use Rattle.trace_tree.specs.declared.event.Event as machine
use Rattle.trace_tree.specs.Placed.{IsPlaced}
use Rattle.law_traces.specs.Entries.{Shown}
use Rattle.trace_scripts.specs.declared.scripts.Script.{Script}

-- the action that an event shows, where it shows one
abbrev pub action_by : Program → Event → Option runs.Action
action_by p (By time task deed) = action_of (program_software p) deed
action_by p (Horizon time) = None

-- an event stands at an index, and the others behind it
abbrev pub IsAt : List machine.Event → ℕ → machine.Event → Type 0
IsAt es here e = drop here es ≡ e ∷ drop (suc here) es

-- the action of the first of these events
abbrev pub first_action : Program → List machine.Event → Option runs.Action
first_action p [] = None
first_action p (e ∷ es) = action_by p (named_event p e)

-- the action that the event at an index shows, where it shows one
unfoldable pub action_at : Program → List machine.Event → ℕ → Option runs.Action
action_at p es here = first_action p (drop here es)

-- the actions that the events at these indices show
unfoldable pub actions_at : Program → List machine.Event → List ℕ → List runs.Action
actions_at p es [] = []
actions_at p es (here ∷ more) = cons_option (action_at p es here) (actions_at p es more)

-- the script that is held
abbrev pub shown_of : Program → List machine.Event → Script → Shown
shown_of p es s = if s.shows then Some (actions_at p es s.lines.items) else None

-- an event that is read ahead is of the program, and shows an action
abbrev pub IsNext : Program → Option machine.Event → Type 0
IsNext p None = ⊤
IsNext p (Some e) = IsPlaced p e × (is_some (action_by p (named_event p e)) ≡ true)

-- what is so of a script that is read along
pub record IsReading (p : Program) (es : List machine.Event) (next : Option machine.Event) : Type 0 where
  pub rules : MeetsRules p
  pub placed : Each (IsPlaced p) es
  pub ahead : IsNext p next

-- the actions that are left: that of the event that was read, and those at these indices
abbrev pub left_of : Program → List machine.Event → Option machine.Event → List ℕ → List runs.Action
left_of p es None more = []
left_of p es (Some e) more = cons_option (action_by p (named_event p e)) (actions_at p es more)

-- the operation by which a unit is requested; where there is none its own name stands there, by which nothing is requested
abbrev pub asked_name : Name → Form → Name
asked_name name (Passive ops) = name
asked_name name (Shared ceiling vars ops) = name
asked_name name (Cyclic priority offset period vars block) = name
asked_name name (Sporadic priority ceiling op separation jitter external vars block) = op.name
