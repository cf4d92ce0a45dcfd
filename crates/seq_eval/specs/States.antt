-- What the stack of the code stands for: a frame is something to do, and the innermost stands last in the code, first in the definitions.
use Rattle.std.specs.Prelude.{List, [], ◌∷◌, fold, map, option_map}
use Rattle.seq_tree.specs.Runs.{Action}
use Rattle.seq_tree.specs.Trees.{arm_of, block_of, branches_of, expression_of, operation_of, otherwise, statement_of, statements_of}
use Rattle.seq_eval.specs.Stepping.{Doing, State}
use Rattle.seq_eval.specs.Stepping as doing
use Rattle.seq_eval.specs.declared.walk.Frame.{Frame}
use Rattle.seq_eval.specs.declared.walk.Frame.TheVariants.{Stmts, Arms, Turned, Returned}
use Rattle.seq_eval.specs.declared.walk.Walk.{Walk}

-- what a frame has to do
abbrev pub doing_of : Frame → Doing
doing_of (Stmts stmts) = doing.Rest (statements_of (map statement_of stmts.now))
doing_of (Arms arms other) = doing.Arms (branches_of (map arm_of arms.now) (otherwise (option_map block_of other.now)))
doing_of (Turned round) = doing.Turned round.name.now round.at round.last (block_of round.body.now)
doing_of (Returned op actuals vars) = doing.Returned (operation_of op.now) (map expression_of actuals.now) vars

-- with one more to do
abbrev pub with_frame : List Doing → Frame → List Doing
with_frame rest f = doing_of f ∷ rest

-- what frames have to do
abbrev pub doings_of : List Frame → List Doing
doings_of frames = fold with_frame [] frames

-- how far the following is, where a script has this meaning
abbrev pub state_of : {S : Type 0} → (S → List Action) → Walk S → State
state_of meaning w = record {
  doings = doings_of w.frames.items;
  leaving = w.leaving;
  vars = w.vars;
  low = w.low;
  high = w.high;
  script = meaning w.script;
}
