use Rattle.ods_tree.specs.Trees.{tree_of}
use Rattle.background.proofs.HardSteps.{terminal-hard}
use Rattle.background.proofs.hardening.harden_terminal.Goals as goal

pub returns : goal.returns
returns c =
    terminal-hard c.retype.new.node (tree_of c.args.node.now) c.soften_all.new.provides c.requires c.in_ok-retype.ensures
    (rw c.as_mut_slice.ensures.value at c.soften_all.ensures)
