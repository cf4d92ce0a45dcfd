-- The rules that are judged one after another, and what is told after all of them.
-- The version is judged before.
use Rattle.std.specs.Prelude.{ℕ, ◌<◌, Bool, true, false, Option, Some, None, Result, Ok, Err, ⊤}
use Rattle.ods_tree.specs.Designs.{Design}
use Rattle.design_rules.specs.Broken.{Broken}
use Rattle.design_rules.specs.Rules.{Rule, Clash, KeptName, Include, Operation, Fitting, Stranger, Absence, Use, CallRing, ObjectRing, StartRing}
use Rattle.design_rules.specs.Rules.{Source, Number, IdleActive, BodyFault, Budget, Size, Spacing, number_of, AreMet, IsFirst}
use Rattle.ods_index.specs.Judging.{Passes}
use Rattle.ods_index.specs.Told.{told_of, is_memory}
use Rattle.ods_index.specs.declared.broken.Broken as codes
use Rattle.ods_rules.specs.declared.verdict.Rule as code
use Rattle.ods_rules.specs.declared.verdict.Rule.TheVariants as rule

-- the rule of the definitions
abbrev pub rule_of : code.Rule → Rule
rule_of rule.Clash = Clash
rule_of rule.KeptName = KeptName
rule_of rule.Include = Include
rule_of rule.Operation = Operation
rule_of rule.Fitting = Fitting
rule_of rule.Stranger = Stranger
rule_of rule.Absence = Absence
rule_of rule.Use = Use
rule_of rule.CallRing = CallRing
rule_of rule.ObjectRing = ObjectRing
rule_of rule.StartRing = StartRing
rule_of rule.Source = Source
rule_of rule.Number = Number
rule_of rule.IdleActive = IdleActive
rule_of rule.BodyFault = BodyFault
rule_of rule.Budget = Budget
rule_of rule.Size = Size
rule_of rule.Spacing = Spacing

-- the number of the rule that is judged next, and past the last where there is none
abbrev pub limit : Option code.Rule → ℕ
limit None = 19
limit (Some r) = number_of (rule_of r)

-- nothing offends against the rules below a number
abbrev pub PassesBelow : Design → ℕ → Type 0
PassesBelow x limit = (lower : Rule) → number_of lower < limit → Passes x lower

-- an error that is told is the first rule that is broken, unless it is want of memory
abbrev pub IsToldOf : Bool → Option Broken → Design → Type 0
IsToldOf true told x = ⊤
IsToldOf false None x = ⊥
IsToldOf false (Some told) x = IsFirst x x told

-- what is told of a design in ticks after all rules
abbrev pub Verdict : Design → Result (Unit {0}) codes.Broken → Type 0
Verdict x (Ok done) = AreMet x x
Verdict x (Err e) = IsToldOf (is_memory e) (told_of e) x
