use Rattle.std.proofs.Common.{◌≡◌, ◌+◌, ◌≤◌, drop, filter, length}
use Rattle.seq_tree.specs.Names.{Name, same_name}
use Rattle.ods_forms.specs.Counts.{count_in}
use Rattle.ods_forms.proofs.counts.link_counts.Given as goal

-- of each name those so far, and those that are left
abbrev pub invariant-links : goal.invariant-links
invariant-links l = record {
  counted : (n : Name) → count_in l.counts n + length (filter (λ k. same_name k.op n) (drop l.link-index l.links))
      ≡ length (filter (λ k. same_name k.op n) l.links);
  few : (n : Name) → count_in l.counts n ≤ l.link-index;
}
