-- Programs and designs that meet the rules are software that can be followed: their blocks can be walked, and names tell what they name.
-- The rules follow HRT-HOOD (Burns and Wellings 1995) where it has them; those of a program are this project's own profile of Ada.
use Rattle.seq_tree.specs.Proper.{within_limits}
use Rattle.ods_tree.specs.Designs.{Design}
use Rattle.ods_tree.specs.Words.{is_design_name}
use Rattle.ods_tree.specs.Proper.{IsProperDesign}
use Rattle.ods_tree.specs.Ticks.{in_ticks}
use Rattle.design_rules.specs.Rules as design
use Rattle.ada_tree.specs.Programs.{Program}
use Rattle.ada_tree.specs.Rules.{MeetsRules}
use Rattle.guarantee.specs.Software.{software, program_software}
use Rattle.law_traces.specs.Clear.{IsClear}

-- every program that meets the rules is clear
abbrev pub ProgramsAreClear : Type 0
ProgramsAreClear = (p : Program) → MeetsRules p → IsClear (program_software p)

-- and so is every proper design that meets the rules
abbrev pub DesignsAreClear : Type 0
DesignsAreClear = (x : Design) → IsProperDesign (within_limits is_design_name) x → design.MeetsRules x → IsClear (software (in_ticks x))
