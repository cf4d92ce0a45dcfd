use Rattle.std.proofs.Common.{◌≡◌, drop, find}
use Rattle.ods_tree.specs.Attributes.{has_key}
use Rattle.ods_index.proofs.attributes.attribute.Given as goal

-- the first is among those that are left
abbrev pub invariant-attrs : goal.invariant-attrs
invariant-attrs l = find (has_key l.key) (drop l.attr-index l.attrs) ≡ find (has_key l.key) l.attrs
