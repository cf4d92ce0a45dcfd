use Rattle.std.proofs.Common.{◌≡◌, ◌||◌, drop}
use Rattle.seq_tree.specs.Names.{Name, is_named}
use Rattle.name_sets.specs.Sets.{has}
use Rattle.rt_order.specs.ByNames.{IsMarked, places_at}
use Rattle.rt_order.specs.Called.{names_of}
use Rattle.rt_order.proofs.by_name.PlacesByName.add_each.Given as goal

-- the names so far have the place, and the others are those that are left
abbrev pub invariant-names : goal.invariant-names
invariant-names l = record {
  marked : IsMarked (places_at l.initial.self) l.place l.self l.seen;
  seen : (n : Name) → (has l.seen n || is_named (names_of (drop l.name-index l.names)) n) ≡ is_named (names_of l.names) n;
}
