-- The trees of what the code puts together: of a block, and of an object with those inside it.
use Rattle.seq_tree.proofs.Shared.TreeForms.{block_of_roll}
use Rattle.ods_tree.proofs.Shared.TreeForms.{tree_of_roll}

pub ruleset tree_steps = (block_of_roll, tree_of_roll)
