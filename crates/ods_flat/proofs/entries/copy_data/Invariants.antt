use Rattle.std.proofs.Common.{◌≡◌, take}
use Rattle.ods_flat.proofs.entries.copy_data.Given as goal

-- the copies so far are the data so far
abbrev pub invariant-variables : goal.invariant-variables
invariant-variables l = l.copies.items ≡ take l.datum-index l.variables
