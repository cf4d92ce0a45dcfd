use Rattle.std.proofs.Common.{◌≡◌, ◌+◌, ◌≤◌, drop, filter, length}
use Rattle.ods_tree.specs.Attributes.{has_key}
use Rattle.ods_index.proofs.attributes.count.Given as goal

-- those so far, and those that are left
abbrev pub invariant-attrs : goal.invariant-attrs
invariant-attrs l = record {
  counted : l.count + length (filter (has_key l.key) (drop l.attr-index l.attrs)) ≡ length (filter (has_key l.key) l.attrs);
  few : l.count ≤ l.attr-index;
}
