use Rattle.std.proofs.Common.{◌≡◌, ◌+◌, ◌≤◌, drop, filter, length, map}
use Rattle.seq_tree.specs.Names.{Name, same_name}
use Rattle.ods_tree.specs.Trees.{body_of}
use Rattle.ods_forms.specs.Counts.{count_in}
use Rattle.ods_forms.proofs.counts.body_counts.Given as goal

-- of each name those so far, and those that are left
abbrev pub invariant-bodies : goal.invariant-bodies
invariant-bodies l = record {
  counted : (n : Name) → count_in l.counts n + length (filter (λ b. same_name b.name n) (map body_of (drop l.body-index l.bodies)))
      ≡ length (filter (λ b. same_name b.name n) (map body_of l.bodies));
  few : (n : Name) → count_in l.counts n ≤ l.body-index;
}
