-- What is answered of a program that was read, by its rules.
-- The rules and their order are those of the program's own definitions.
use Rattle.std.specs.Prelude.{◌≡◌, Result, Ok, Err, ⊤}
use Rattle.ada_tree.specs.Programs.{Program}
use Rattle.ada_tree.specs.Trees.{program_of}
use Rattle.ada_tree.specs.Rules.{MeetsRules}
use Rattle.ada_tree.specs.declared.program.AdaProgram.{AdaProgram}
use Rattle.ada_rules.specs.Verdicts.{Says}
use Rattle.ada_rules.specs.declared.verdict.RuleBreak.TheVariants as told
use Rattle.ada_read.specs.declared.fault.AdaFault.{AdaFault}
use Rattle.ada_read.specs.declared.fault.AdaFault.TheVariants.{Text, Rule, NoMemory}

-- the program itself where it meets the rules, else the first rule that it breaks; want of memory says nothing
abbrev pub IsJudged : Program → Result AdaProgram AdaFault → Type 0
IsJudged p (Ok q) = (program_of q ≡ p) × MeetsRules p
IsJudged p (Err (Text fault)) = ⊥
IsJudged p (Err (Rule rule unit)) = Says p (Err (told.Rule rule unit))
IsJudged p (Err NoMemory) = ⊤
