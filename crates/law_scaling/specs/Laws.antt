-- What does not fall where `work` grows, and what stays: the laws behind the margin of a design.
-- That response times grow with execution times is what sensitivity analysis rests on (Lehoczky, Sha and Ding 1989; Bini et al. 2008).
use Rattle.std.specs.Prelude.{◌≡◌, ◌≤◌, ℕ, List, Option, None}
use Rattle.std.specs.List.{AllZip}
use Rattle.seq_tree.specs.Names.{Name}
use Rattle.seq_tree.specs.Statements.{Statements}
use Rattle.ods_tree.specs.Designs.{Design}
use Rattle.ods_tree.specs.Flats.{Flat}
use Rattle.ods_tree.specs.Flattening.{flat}
use Rattle.ods_tree.specs.Services.{flat_services}
use Rattle.rt_response.specs.declared.rows.ThreadRow.{ThreadRow}
use Rattle.rt_response.specs.declared.rows.Bound.{Bound}
use Rattle.rt_response.specs.Response.{IsAtMost, Fits, IsLeastVector}
use Rattle.analysis.specs.Blocking.{blocking}
use Rattle.analysis.specs.Ceilings.{ranks, ranks_for}
use Rattle.analysis.specs.Sections.{sections}
use Rattle.analysis.specs.Sound.{IsSound, IsSpaced}
use Rattle.analysis.specs.Tables.{table}
use Rattle.law_scaling.specs.Working.{reworked_block, reworked}
use Rattle.law_scaling.specs.Scaling.{scaled, scaled_in}
use Rattle.law_scaling.specs.Parts.{parts, first_dear}
use Rattle.law_scaling.specs.Rows.{AskNoMore}
use Rattle.law_scaling.specs.Holding.{Holds, HoldsIn, HoldsWith}
use Rattle.law_scaling.specs.Designs.{scaled_design, scaled_design_in}

-- a change of `work` that is nowhere above another
abbrev pub IsBelow : (Name → ℕ → ℕ) → (Name → ℕ → ℕ) → Type 0
IsBelow v w = (object : Name) (ticks : ℕ) → v object ticks ≤ w object ticks

-- bodies and threads cost no less, part by part
abbrev pub CostsGrow : Type 0
CostsGrow =
    (f : Flat) (v w : Name → ℕ → ℕ) → IsBelow v w
    → AllZip (λ p q. (p.object ≡ q.object) × (p.op ≡ q.op) × (p.ticks ≤ q.ticks)) (parts (reworked v f)) (parts (reworked w f))

-- the sections of a block of an object are on the same objects and no shorter
abbrev pub SectionsGrow : Type 0
SectionsGrow =
    (f : Flat) (v w : Name → ℕ → ℕ) (object : Name) (b : Statements) → IsBelow v w
    → AllZip (λ s t. (s.object ≡ t.object) × (s.cost ≤ t.cost)) (sections f.costs (flat_services (reworked v f)) (reworked_block (v object) b))
    (sections f.costs (flat_services (reworked w f)) (reworked_block (w object) b))

-- the blocking of a level is no less
abbrev pub BlockingGrows : Type 0
BlockingGrows =
    (f : Flat) (v w : Name → ℕ → ℕ) (ps : List ℕ) (level : ℕ) → IsBelow v w → blocking (reworked v f) ps level ≤ blocking (reworked w f) ps level

-- the rows of the table ask no less, with periods, deadlines, jitters and starters as they were
abbrev pub RowsGrow : Type 0
RowsGrow = (f : Flat) (v w : Name → ℕ → ℕ) → IsBelow v w → AskNoMore (table (reworked v f)).rows (table (reworked w f)).rows

-- what fits rows fits rows that ask no more
abbrev pub FittingIsKept : Type 0
FittingIsKept = (rows more : List ThreadRow) (v : List Bound) → AskNoMore rows more → Fits more v → Fits rows v

-- the least vector is nowhere below
abbrev pub LeastVectorsGrow : Type 0
LeastVectorsGrow =
    (rows more : List ThreadRow) (v u : List Bound) → AskNoMore rows more → IsLeastVector rows v → IsLeastVector more u → IsAtMost v u

-- priorities, ceilings and the places of rows stay, whatever `work` takes
pub record RanksStay : Type 0 where
  pub ceilings : (f : Flat) (w : Name → ℕ → ℕ) (ps : List ℕ) → ranks_for (reworked w f) ps ≡ ranks_for f ps
  pub priorities : (f : Flat) (w : Name → ℕ → ℕ) → ranks (reworked w f) ≡ ranks f
  pub places : (f : Flat) (w : Name → ℕ → ℕ) → (table (reworked w f)).places ≡ (table f).places

-- a sound design stays sound as long as no body or thread is too dear
abbrev pub SoundnessStays : Type 0
SoundnessStays = (f : Flat) (w : Name → ℕ → ℕ) → IsSound f → first_dear (reworked w f) ≡ None → IsSound (reworked w f)

-- and a spaced one stays spaced
abbrev pub SpacingStays : Type 0
SpacingStays = (f : Flat) (w : Name → ℕ → ℕ) → IsSpaced f → IsSpaced (reworked w f)

-- a design that holds at so many per mille holds at less
abbrev pub HoldingIsKept : Type 0
HoldingIsKept = (f : Flat) (j k : ℕ) → j ≤ k → Holds f k → Holds f j

-- a design that holds with some `work` holds with `work` that is nowhere above
abbrev pub LessWorkHolds : Type 0
LessWorkHolds = (f : Flat) (v w : Name → ℕ → ℕ) → IsBelow v w → HoldsWith f w → HoldsWith f v

-- so one that holds with the `work` of one object alone at so many per mille holds with it at less
abbrev pub HoldingAloneIsKept : Type 0
HoldingAloneIsKept = (only : Option Name) (f : Flat) (j k : ℕ) → j ≤ k → HoldsIn only f k → HoldsIn only f j

-- a sound design is nowhere too dear at one per mille, so there it fails by its bounds alone
abbrev pub LeastScaleIsCheap : Type 0
LeastScaleIsCheap = (f : Flat) → IsSound f → first_dear (scaled 1 f) ≡ None

-- nor where the `work` of one object alone is at one per mille
abbrev pub LeastScaleAloneIsCheap : Type 0
LeastScaleAloneIsCheap = (only : Option Name) (f : Flat) → IsSound f → first_dear (scaled_in only 1 f) ≡ None

-- what runs of a design at so many per mille is its flat design at so many per mille
abbrev pub FlatDesignsScale : Type 0
FlatDesignsScale = (x : Design) (k : ℕ) → flat (scaled_design k x) ≡ scaled k (flat x)

-- and so with the `work` of one object alone
abbrev pub FlatDesignsScaleAlone : Type 0
FlatDesignsScaleAlone = (only : Option Name) (x : Design) (k : ℕ) → flat (scaled_design_in only k x) ≡ scaled_in only k (flat x)
