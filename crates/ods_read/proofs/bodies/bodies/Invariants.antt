use Rattle.std.proofs.Common.{◌≡◌, length, map, codes}
use Rattle.seq_tree.specs.declared.token.Token.TheVariants.{Word}
use Rattle.ods_tree.specs.Trees.{body_of}
use Rattle.ods_tree.specs.Words.{is_design_name}
use Rattle.token_read.specs.Readers.{next_is}
use Rattle.seq_read.specs.Statements.{block_at}
use Rattle.ods_read.specs.Readers.{body_at, bodies_at}
use Rattle.token_read.specs.Ahead.{ahead}
use Rattle.ods_read.proofs.ListSteps.{gathered}
use Rattle.ods_read.proofs.bodies.bodies.Given as goal

-- the items so far, and then those that are left
abbrev pub invariant-bodies : goal.invariant-bodies
invariant-bodies l = gathered (next_is (Word (codes "operation"))) (body_at (block_at is_design_name 32 l.fn.deeper)) (map body_of l.bodies.items)
    (ahead l.rest) ≡ bodies_at (block_at is_design_name 32 l.fn.deeper) (ahead l.fn.tokens)

abbrev pub decreases-bodies : goal.decreases-bodies
decreases-bodies l = length (ahead l.rest)
