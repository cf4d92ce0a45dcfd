use Rattle.std.proofs.Common.{◌≡◌, length}
use Rattle.ods_read.specs.Readers.{next_is_design_name, needed_at, needed_list_at}
use Rattle.token_read.specs.Ahead.{ahead}
use Rattle.ods_read.proofs.ListSteps.{gathered}
use Rattle.ods_read.proofs.operations.needed_list.Given as goal

-- the items so far, and then those that are left
abbrev pub invariant-needs : goal.invariant-needs
invariant-needs l = gathered (next_is_design_name) needed_at l.needs.items (ahead l.rest) ≡ needed_list_at (ahead l.fn.tokens)

abbrev pub decreases-needs : goal.decreases-needs
decreases-needs l = length (ahead l.rest)
