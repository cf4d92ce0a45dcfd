-- What is taken of the bytes of a design: the design in ticks, where it meets the rules.
-- Its fault or its first broken rule is told where it is not.
use Rattle.std.specs.Prelude.{◌≡◌, ℕ, List, Option, Some, None, Result, Ok, Err, ⊤}
use Rattle.ods_tree.specs.Designs.{Design}
use Rattle.ods_tree.specs.Reading.{Reads}
use Rattle.ods_tree.specs.Ticks.{in_ticks}
use Rattle.ods_read.specs.Answers.{Faults}
use Rattle.design_rules.specs.Broken.{Broken}
use Rattle.design_rules.specs.Rules.{MeetsRules, IsFirstBroken}
use Rattle.ods_index.specs.Told.{told_of}
use Rattle.ods_rules.specs.Checks.{checked_design}
use Rattle.ods_rules.specs.declared.checked.Checked.{Checked}
use Rattle.bridge.specs.declared.halt.Halt.{Halt}
use Rattle.bridge.specs.declared.halt.Halt.TheVariants.{Refused, NoMemory}
use Rattle.bridge.specs.declared.taking.Untaken.{Untaken}
use Rattle.bridge.specs.declared.taking.Untaken.TheVariants.{Text, Rule}

-- the design that the bytes are meets the rules, and this is it in ticks
pub record IsTakenAs (bytes : List ℕ) (x : Design) : Type 0 where
  pub design : Design
  pub reads : Reads bytes design
  pub meets : MeetsRules design
  pub ticked : x ≡ in_ticks design

-- a rule is broken first; want of memory is no such rule
abbrev pub IsBroken : Design → Option Broken → Type 0
IsBroken x None = ⊥
IsBroken x (Some told) = IsFirstBroken x told

-- the design that the bytes are breaks a rule
pub record BreaksRule (bytes : List ℕ) (told : Option Broken) : Type 0 where
  pub design : Design
  pub reads : Reads bytes design
  pub broken : IsBroken design told

-- why bytes are not taken
abbrev pub RefusesTaking : List ℕ → Untaken → Type 0
RefusesTaking bytes (Text fault) = Faults bytes fault
RefusesTaking bytes (Rule broken) = BreaksRule bytes (told_of broken)

-- what an answer says; want of memory says nothing
abbrev pub Takes : List ℕ → Result Checked (Halt Untaken) → Type 0
Takes bytes (Ok c) = IsTakenAs bytes (checked_design c)
Takes bytes (Err (Refused refusal)) = RefusesTaking bytes refusal
Takes bytes (Err NoMemory) = ⊤
