-- Every run of a design's program is right, where the program can be read, its tasks stand in the design's table, and the processor responds:
-- deadline-monotonic priorities are a ranking.
use Rattle.std.specs.Prelude.{ℕ, List}
use Rattle.ods_tree.specs.Designs.{Design}
use Rattle.ods_tree.specs.Flattening.{flat}
use Rattle.ada_tree.specs.Programs.{Program}
use Rattle.arrivals_tree.specs.Arriving.{Arrivals}
use Rattle.analysis.specs.Priorities.{priorities_of}
use Rattle.analysis.specs.Tables.{table}
use Rattle.rt_response.specs.declared.rows.Bound.{Bound}
use Rattle.rt_response.specs.Response.{Fits}
use Rattle.guarantee.specs.Arrivals.{named_arrivals, KeepsSeparations}
use Rattle.guarantee.specs.Programs.{program}
use Rattle.guarantee.specs.Guaranteed.{IsRight}
use Rattle.guarantee.specs.MachineLaw.{IsReadable}
use Rattle.guarantee.specs.ResponseLaw.{ProcessorResponds}
use Rattle.law_designs.specs.TabledDesigns.{IsTabledDesign}
use Rattle.law_designs.proofs.Shared.PriorityPlaces.{deadline-ranking}
use Rattle.law_runs.specs.Ranked.{IsRightBy}
use Rattle.law_runs.proofs.Shared.RankedRuns.{kept_runs}

-- what is right by deadline-monotonic priorities is right
pub right-by-deadlines : (x : Design) (v : List Bound) (p : Program) (r : Arrivals) → IsRightBy x (priorities_of (flat x)) v p r → IsRight x v p r
right-by-deadlines x v p r right = record { trace = right.trace; means = right.means; allowed = right.allowed; bounded = right.bounded }

pub guaranteed_runs : (limit : ℕ) → ProcessorResponds limit → (x : Design) (v : List Bound) → IsReadable (program x) → IsTabledDesign x
    → Fits (table (flat x)).rows v
    → (r : Arrivals) → KeepsSeparations limit x (named_arrivals (program x) r) → IsRight x v (program x) r
guaranteed_runs limit law x v readable d fits r keeps =
    right-by-deadlines x v (program x) r
    (kept_runs limit law x (priorities_of (flat x)) v (deadline-ranking (flat x)) readable d fits r keeps)
