-- What `search` writes of a design that keeps its limits by the order of deadlines: the lines of `analyse`.
-- That the deadline-monotonic order is found where it passes is a law of priority orders.
use Rattle.std.specs.Prelude.{◌≡◌, ℕ, List}
use Rattle.ods_tree.specs.Designs.{Design}
use Rattle.ods_tree.specs.Flattening.{flat}
use Rattle.ods_tree.specs.Ticks.{first_priority}
use Rattle.rt_response.specs.Response.{IsLeastVector}
use Rattle.rt_response.specs.declared.rows.Bound.{Bound}
use Rattle.analysis.specs.Tables.{table}
use Rattle.design_bounds.specs.Rows.{named_bounds, ceiling_rows}
use Rattle.hrthood_top.specs.Analyses.{IsAnalysed, report}
use Rattle.hrthood_top.specs.Searches.{IsSearched}
use Rattle.bridge.specs.Taking.{IsTakenAs}

-- where the design has bounds by the order of deadlines, `search` writes the lines of the least of them and of the ceilings by this order
abbrev pub WritesByDeadline : Type 0
WritesByDeadline =
    (bytes lines : List ℕ) (x : Design) (bounds : List Bound) → IsSearched bytes lines → IsTakenAs bytes x → IsLeastVector (table (flat x)).rows bounds
    → lines ≡ report (named_bounds (first_priority x) (flat x) bounds) (ceiling_rows (first_priority x) (flat x))

-- where `analyse` writes something of bytes and `search` does, they write the same
abbrev pub WritesAsAnalysed : Type 0
WritesAsAnalysed = (bytes lines others : List ℕ) → IsSearched bytes lines → IsAnalysed bytes others → lines ≡ others
