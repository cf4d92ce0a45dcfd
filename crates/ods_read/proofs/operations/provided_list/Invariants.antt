use Rattle.std.proofs.Common.{◌≡◌, length, map}
use Rattle.ods_tree.specs.Trees.{provided_of}
use Rattle.ods_read.specs.Readers.{next_is_design_name, provided_at, provided_list_at}
use Rattle.token_read.specs.Ahead.{ahead}
use Rattle.ods_read.proofs.ListSteps.{gathered}
use Rattle.ods_read.proofs.operations.provided_list.Given as goal

-- the items so far, and then those that are left
abbrev pub invariant-provides : goal.invariant-provides
invariant-provides l = gathered (next_is_design_name) provided_at (map provided_of l.provides.items) (ahead l.rest)
    ≡ provided_list_at (ahead l.fn.tokens)

abbrev pub decreases-provides : goal.decreases-provides
decreases-provides l = length (ahead l.rest)
