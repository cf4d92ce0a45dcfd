-- What the rules of a design give: its flat design is sound and spaced, its program can be read, and the program's tasks stand in its table.
-- The rules follow HRT-HOOD (Burns and Wellings 1995) where it has them; those of a program are this project's own profile of Ada.
use Rattle.std.specs.Prelude.{ℕ, List}
use Rattle.seq_tree.specs.Proper.{within_limits}
use Rattle.ods_tree.specs.Designs.{Design}
use Rattle.ods_tree.specs.Words.{is_design_name}
use Rattle.ods_tree.specs.Proper.{IsProperDesign}
use Rattle.ods_tree.specs.Ticks.{in_ticks}
use Rattle.ods_tree.specs.Flattening.{flat}
use Rattle.design_rules.specs.Rules.{MeetsRules}
use Rattle.analysis.specs.Sound.{IsSound, IsSpaced}
use Rattle.guarantee.specs.Programs.{program}
use Rattle.guarantee.specs.MachineLaw.{IsReadable}
use Rattle.law_designs.specs.TabledDesigns.{IsTabledDesign}
use Rattle.law_designs.specs.Rankings.{IsRanking, program_by, IsTabledRanking}

-- the flat design of each design that meets the rules is sound and spaced
abbrev pub FlatDesignsAreSound : Type 0
FlatDesignsAreSound = (x : Design) → MeetsRules x → IsSound (flat (in_ticks x)) × IsSpaced (flat (in_ticks x))

-- the program of each proper design that meets the rules can be read
abbrev pub DesignProgramsAreReadable : Type 0
DesignProgramsAreReadable = (x : Design) → IsProperDesign (within_limits is_design_name) x → MeetsRules x → IsReadable (program (in_ticks x))

-- the tasks of the program of each design whose flat design is sound and spaced stand in the design's table
abbrev pub SoundDesignsAreTabled : Type 0
SoundDesignsAreTabled = (x : Design) → IsSound (flat x) → IsSpaced (flat x) → IsTabledDesign x

-- the program by each ranking of each proper design that meets the rules can be read
abbrev pub RankedProgramsAreReadable : Type 0
RankedProgramsAreReadable =
    (x : Design) (ps : List ℕ) → IsProperDesign (within_limits is_design_name) x → MeetsRules x → IsRanking (flat (in_ticks x)) ps
    → IsReadable (program_by (in_ticks x) ps)

-- the tasks of the program by each ranking of each design whose flat design is sound and spaced stand in the design's table by that ranking
abbrev pub RankedDesignsAreTabled : Type 0
RankedDesignsAreTabled = (x : Design) (ps : List ℕ) → IsSound (flat x) → IsSpaced (flat x) → IsRanking (flat x) ps → IsTabledRanking x ps
