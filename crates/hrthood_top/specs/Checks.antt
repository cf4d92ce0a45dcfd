-- The verb `check`: whether a design is taken, how many objects and threads it has, or the first rule that it breaks.
-- The rules are those of designs; the lines are this project's own.
use Rattle.std.specs.Prelude.{◌≡◌, ℕ, List, ◌++◌, length, codes, decimal}
use Rattle.ods_tree.specs.Designs as designs
use Rattle.ods_tree.specs.Reading.{Reads}
use Rattle.ods_tree.specs.Ticks.{in_ticks}
use Rattle.ods_tree.specs.Walk.{objects}
use Rattle.design_rules.specs.Rings.{thread_objects}
use Rattle.design_rules.specs.Rules.{MeetsRules}
use Rattle.bridge.specs.Taking.{RefusesTaking}
use Rattle.hrthood_top.specs.declared.file_kind.FileKind.TheVariants.{Design}
use Rattle.bridge.specs.declared.taking.Untaken.{Untaken}
use Rattle.bridge.specs.declared.taking.Untaken.TheVariants.{Text, Rule}
use Rattle.hrthood_top.specs.Messages.{text_line, rule_line}
use Rattle.hrthood_top.specs.Verbs.{OfDesign, Verb, on_design}

-- the line of a design in ticks that is taken: its name, and the numbers of all its objects and of its threads
abbrev pub taken_line : designs.Design → List ℕ
taken_line x =
    codes "ok " ++ (x.name ++ (codes " objects " ++ (decimal (length (objects x)) ++ (codes " threads "
    ++ (decimal (length (thread_objects x)) ++ codes "\n")))))

-- bytes of a design that meets the rules, and its line
pub record IsTaken (bytes line : List ℕ) : Type 0 where
  pub design : designs.Design
  pub reads : Reads bytes design
  pub meets : MeetsRules design
  pub line_is : line ≡ taken_line (in_ticks design)

-- the line that tells why a design is not taken
abbrev pub check_line : Untaken → List ℕ
check_line (Text fault) = text_line Design fault
check_line (Rule broken) = rule_line broken

-- bytes of a design that meets the rules
pub record CanCheck (bytes : List ℕ) : Type 0 where
  pub design : designs.Design
  pub reads : Reads bytes design
  pub meets : MeetsRules design

-- what the verb makes of a design
abbrev pub of_check : OfDesign
of_check = record {
  Makes = IsTaken;
  Refusal = Untaken;
  Refuses = RefusesTaking;
  line = check_line;
  CanDo = CanCheck;
}

-- the verb
abbrev pub checks : List ℕ → Verb
checks = on_design of_check
