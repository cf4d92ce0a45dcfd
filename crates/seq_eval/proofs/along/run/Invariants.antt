use Rattle.std.proofs.Common.{length}
use Rattle.grammar.specs.Reading.{whole_at}
use Rattle.seq_tree.specs.Trees.{block_of}
use Rattle.law_walks.specs.Walks.{walk_at}
use Rattle.seq_eval.specs.Calls.{calls_in}
use Rattle.seq_eval.specs.Ends.{comes_to, names_of}
use Rattle.seq_eval.specs.States.{doings_of, state_of}
use Rattle.seq_eval.proofs.Keeping.{Keeps, deepest}
use Rattle.seq_eval.proofs.Tolls.{toll}
use Rattle.seq_eval.proofs.along.run.Given as goal

-- what is left of the walk is what is to do, and there is room for its ticks
abbrev pub invariant-frames : goal.invariant-frames
invariant-frames g l =
    Keeps l.costs (calls_in l.calls) (block_of l.block)
    (λ depth. comes_to (whole_at (walk_at l.costs (calls_in l.calls) depth (block_of l.block) l.env.slots.items) (g.S.Actions.meaning l.fn.script)))
    (names_of l.env.slots.items) (length (g.S.Actions.meaning l.fn.script)) (state_of g.S.Actions.meaning l.walk)

-- what the steps that are left take
abbrev pub decreases-frames : goal.decreases-frames
decreases-frames g l = toll l.costs (calls_in l.calls) 1 deepest (doings_of l.walk.frames.items)
