-- The bounds of the hard threads of a design in ticks with background objects, and their threads by name.
-- They go by priority, greatest first.
use Rattle.std.specs.Prelude.{ℕ, List, filter_map, zip, Option}
use Rattle.seq_tree.specs.Names.{Name}
use Rattle.ods_tree.specs.Designs.{Design}
use Rattle.ods_tree.specs.Flattening.{flat}
use Rattle.rt_response.specs.declared.rows.Bound.{Bound}
use Rattle.trace_text.specs.declared.bound.NamedBound.{NamedBound}
use Rattle.design_bounds.specs.Rows.{named_at}
use Rattle.background_designs.specs.HardParts.{hard_part}
use Rattle.background_designs.specs.Programs.{background_flat, background_ranks, hard_rows, hard_places}
use Rattle.background.specs.Fronts.{name_at}

-- a vector for the rows of the hard threads, with their names and numbers, and with the priorities of the program
abbrev pub background_bounds : Design → List Bound → List NamedBound
background_bounds x v = filter_map (named_at (background_flat x) (background_ranks x).threads) (zip (hard_places x) (zip (hard_rows x) v))

-- the name of the thread of a row
abbrev pub hard_name : Design → ℕ → Option Name
hard_name x row = name_at (flat (hard_part x)).threads (hard_places x) row
