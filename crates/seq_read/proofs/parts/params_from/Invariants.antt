use Rattle.std.proofs.Common.{◌≡◌, length}
use Rattle.token_read.specs.Ahead.{ahead}
use Rattle.seq_read.specs.Names.{may_name}
use Rattle.seq_read.specs.Parts.{params_from_at}
use Rattle.seq_read.proofs.PartSteps.{params_after}
use Rattle.seq_read.proofs.parts.params_from.Given as goal

-- the parameters so far, and then those that are left
abbrev pub invariant-params : goal.invariant-params
invariant-params l = params_after (may_name l.fn.text) l.params.items (ahead l.rest)
    ≡ params_from_at (may_name l.fn.text) l.fn.head (ahead l.fn.tokens)

abbrev pub decreases-params : goal.decreases-params
decreases-params l = length (ahead l.rest)
