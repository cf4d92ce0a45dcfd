use Rattle.std.proofs.Common.{◌≡◌, length}
use Rattle.token_read.specs.Ahead.{ahead}
use Rattle.seq_read.specs.Names.{may_name}
use Rattle.seq_read.specs.Parts.{more_data_at}
use Rattle.seq_read.proofs.PartSteps.{data_after}
use Rattle.seq_read.proofs.parts.more_data.Given as goal

-- the variables so far, and then those that are left
abbrev pub invariant-data : goal.invariant-data
invariant-data l = data_after (may_name l.fn.text) l.data.items (ahead l.rest)
    ≡ more_data_at (may_name l.fn.text) l.fn.front.items (ahead l.fn.tokens)

abbrev pub decreases-data : goal.decreases-data
decreases-data l = length (ahead l.rest)
