-- The rules on which each object is judged by itself, and what is told of one that breaks them.
-- They are the rules of `design_rules`, by name.
use Rattle.std.specs.Prelude.{◌<◌, ⊤, Bool, ◌&&◌, true, false, List, filter_map, Option, Some}
use Rattle.seq_tree.specs.Names.{Name}
use Rattle.ods_tree.specs.Walk.{Standing, is_terminal, only_if}
use Rattle.ods_tree.specs.declared.design.Kind.{Kind}
use Rattle.ods_tree.specs.declared.design.Constraint.{Constraint}
use Rattle.design_rules.specs.Broken.{Broken, V03, V04, V11, V12, V17}
use Rattle.design_rules.specs.Bodies.{is_active}
use Rattle.design_rules.specs.Includes.{breaks_includes}
use Rattle.design_rules.specs.Numbers.{breaks_numbers}
use Rattle.design_rules.specs.Operations.{breaks_operations, may_provide, may_pass_on}
use Rattle.design_rules.specs.Versions.{breaks_ticks}
use Rattle.ods_forms.specs.declared.objects.ObjectRule.{ObjectRule}
use Rattle.ods_forms.specs.declared.objects.ObjectRule.TheVariants as rule

-- whether an object of a kind may have an operation of a constraint, where it has no children and where it has some
abbrev pub may_have : Bool → Kind → Option Constraint → Bool
may_have true = may_provide
may_have false = may_pass_on

-- whether an object breaks a rule
abbrev pub breaks_rule : ObjectRule → Standing → Bool
breaks_rule (rule.Whole tick) s = breaks_ticks tick s.own
breaks_rule rule.Include s = breaks_includes s
breaks_rule rule.Operation s = breaks_operations s
breaks_rule rule.Number s = breaks_numbers s
breaks_rule rule.IdleActive s = is_terminal s && is_active s.own.kind

-- ticks that are some time
abbrev pub IsRightTick : ObjectRule → Type 0
IsRightTick (rule.Whole tick) = 0 < tick
IsRightTick _ = ⊤

-- what is told of an object that breaks a rule
abbrev pub told_by : ObjectRule → Name → Broken
told_by (rule.Whole tick) object = V17 object
told_by rule.Include object = V03 object
told_by rule.Operation object = V04 object
told_by rule.Number object = V11 (Some object)
told_by rule.IdleActive object = V12 object

-- the objects that break a rule
abbrev pub bad_objects : ObjectRule → List Standing → List Broken
bad_objects r ss = filter_map (λ s. only_if (breaks_rule r s) (told_by r s.own.name)) ss
