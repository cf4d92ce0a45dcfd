use Rattle.std.proofs.Common.{◌≡◌, ◌≤◌, drop, length}
use Rattle.std.specs.Prelude.{unwrap_or}
use Rattle.name_sets.specs.Tables.{named}
use Rattle.seq_tree.specs.Names.{Name}
use Rattle.seq_tree.specs.Variables.{read}
use Rattle.trace_scripts.proofs.data.values_of.Given as goal

-- the variables from this place on are there
abbrev pub invariant-slots : goal.invariant-slots
invariant-slots l = record {
  within : l.at ≤ length l.env.slots.items;
  told : (n : Name) → unwrap_or (named l.table n) 0 ≡ read n (drop l.at l.env.slots.items);
}

abbrev pub decreases-slots : goal.decreases-slots
decreases-slots l = l.at
