-- What is told of the rows of a flat design's table: each with its bound, or, where a value is over its limit, what is told of each row
-- without limits.
-- The bounds are the least (Audsley et al. 1993; Tindell, Burns and Wellings 1994).
use Rattle.std.specs.Prelude.{◌≡◌, List, map, Option, Some, None}
use Rattle.ods_tree.specs.Flats.{Flat}
use Rattle.rt_response.specs.declared.rows.Bound.{Bound}
use Rattle.rt_response.specs.Response.{IsLeastVector}
use Rattle.analysis.specs.Tables.{table}
use Rattle.design_bounds.specs.Analyses.{IsMissed}
use Rattle.late_response.specs.declared.reach.Reach.{Reach}
use Rattle.late_response.specs.declared.reach.Reach.TheVariants.{Solved}
use Rattle.late_response.specs.Late.{AreTold}
use Rattle.explanation.specs.declared.reasons.Late.{Late}

-- a row with its bound
abbrev pub solved_of : Bound → Reach
solved_of b = Solved b.jitter b.response

-- what is told of the rows, by the first value that is over its limit
abbrev pub IsFound : Flat → List Reach → Option Late → Type 0
IsFound f found None = (v : List Bound) × IsLeastVector (table f).rows v × (found ≡ map solved_of v)
IsFound f found (Some late) = IsMissed f late.thread late.miss × AreTold (table f).rows found
