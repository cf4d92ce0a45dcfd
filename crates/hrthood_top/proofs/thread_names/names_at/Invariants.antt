use Rattle.std.proofs.Common.{◌≡◌, ◌++◌, drop}
use Rattle.ods_tree.specs.Trees.{flat_of}
use Rattle.hrthood_top.specs.Searches.{names_at}
use Rattle.hrthood_top.proofs.thread_names.names_at.Given as goal

-- the names so far, and those of the places that are left
abbrev pub invariant-places : goal.invariant-places
invariant-places l = l.names.items ++ names_at (flat_of l.flat) (drop l.place-index l.places) ≡ names_at (flat_of l.flat) l.places
