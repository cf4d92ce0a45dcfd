-- What each body and each thread of a flat design costs, cut at one tick over the greatest cost.
-- They go in the order of the flat design: bodies of passive objects, then of protected ones, then threads.
use Rattle.std.specs.Prelude.{ℕ, min, List, ◌++◌, map, flat_map}
use Rattle.seq_tree.specs.Operations.{Operation}
use Rattle.ods_tree.specs.Flats.{Flat}
use Rattle.ods_tree.specs.Services.{flat_services}
use Rattle.analysis.specs.Execution.{block_cost}
use Rattle.rt_block.specs.Bases.{thread_cost}
use Rattle.call_graph.specs.Prices.{cap}

-- the body of an operation
abbrev pub body_cost : Flat → Operation → ℕ
body_cost f o = min cap (block_cost f.costs (flat_services f) o.block)

-- all of them
abbrev pub part_costs : Flat → List ℕ
part_costs f =
    flat_map (λ l. map (body_cost f) l.ops) f.passive ++ (flat_map (λ g. map (body_cost f) g.ops) f.shared ++ map (thread_cost f) f.threads)
