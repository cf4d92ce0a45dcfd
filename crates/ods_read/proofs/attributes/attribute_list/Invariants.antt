use Rattle.std.proofs.Common.{◌≡◌, length}
use Rattle.ods_read.specs.Readers.{next_by, key_named, attribute_at, attribute_list_at}
use Rattle.token_read.specs.Ahead.{ahead}
use Rattle.ods_read.proofs.ListSteps.{gathered}
use Rattle.ods_read.proofs.attributes.attribute_list.Given as goal

-- the items so far, and then those that are left
abbrev pub invariant-attrs : goal.invariant-attrs
invariant-attrs l = gathered (next_by key_named) (attribute_at l.fn.units) l.attrs.items (ahead l.rest)
    ≡ attribute_list_at l.fn.units (ahead l.fn.tokens)

abbrev pub decreases-attrs : goal.decreases-attrs
decreases-attrs l = length (ahead l.rest)
