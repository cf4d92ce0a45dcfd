-- In every run of the program of a design by a ranking requests are served at once, and chains and costs are within bounds, where the design meets
-- the rules and has bounds by it.
use Rattle.std.specs.Prelude.{ℕ}
use Rattle.ods_tree.specs.Flattening.{flat}
use Rattle.ods_tree.specs.Ticks.{in_ticks}
use Rattle.analysis.specs.Priorities.{priorities_of}
use Rattle.law_designs.proofs.Shared.PriorityPlaces.{deadline-ranking}
use Rattle.law_chain_bounds.specs.Served.{RankedDesignsServe, DesignsServe}
use Rattle.law_chain_bounds.proofs.PrintedChains as printed

pub ranked-designs-serve : (limit : ℕ) → RankedDesignsServe limit
ranked-designs-serve = printed.ranked-designs-serve

pub designs-serve : (limit : ℕ) → DesignsServe limit
designs-serve limit x v r told proper meets =
    let f = flat (in_ticks x) in ranked-designs-serve limit x (priorities_of f) v r told proper meets (deadline-ranking f)
