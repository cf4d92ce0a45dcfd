-- The actions that the values of the program stand for: what is left when capacities are forgotten.
-- Each contract that speaks of an action speaks of its tree.
use Rattle.seq_tree.specs.Runs as runs
use Rattle.seq_eval.specs.declared.action.Action.{Action}
use Rattle.seq_eval.specs.declared.action.Action.TheVariants.{Enter, Leave, Request, Print}

-- the tree of an action
abbrev pub action_of : Action → runs.Action
action_of (Enter name values) = runs.Enter name values.items
action_of (Leave name values) = runs.Leave name values.items
action_of (Request name value) = runs.Request name value
action_of (Print value) = runs.Print value
