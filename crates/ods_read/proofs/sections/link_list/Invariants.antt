use Rattle.std.proofs.Common.{◌≡◌, length}
use Rattle.ods_read.specs.Readers.{next_is_design_name, link_at, link_list_at}
use Rattle.token_read.specs.Ahead.{ahead}
use Rattle.ods_read.proofs.ListSteps.{gathered}
use Rattle.ods_read.proofs.sections.link_list.Given as goal

-- the items so far, and then those that are left
abbrev pub invariant-links : goal.invariant-links
invariant-links l = gathered (next_is_design_name) link_at l.links.items (ahead l.rest) ≡ link_list_at (ahead l.fn.tokens)

abbrev pub decreases-links : goal.decreases-links
decreases-links l = length (ahead l.rest)
