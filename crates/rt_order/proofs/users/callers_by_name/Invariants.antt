use Rattle.std.proofs.Common.{◌≡◌, ◌++◌, map, drop}
use Rattle.seq_tree.specs.Names.{Name}
use Rattle.ods_tree.specs.Trees.{guarded_of}
use Rattle.analysis.specs.Ceilings.{calls_from_inside}
use Rattle.rt_order.specs.ByNames.{places_at}
use Rattle.rt_order.specs.Numbers.{places_from}
use Rattle.rt_order.proofs.users.callers_by_name.Given as goal

-- the places so far, and those of the objects that are left
abbrev pub invariant-shared : goal.invariant-shared
invariant-shared l =
    (n : Name) → places_at l.places n ++ places_from (calls_from_inside n) l.i (map guarded_of (drop l.i l.shared))
    ≡ places_from (calls_from_inside n) 0 (map guarded_of l.shared)
