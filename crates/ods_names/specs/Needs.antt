-- The rules on required operations: which operations break one, what is told of one, and what the names near an object are.
-- The rules of use are those of HRT-HOOD (Burns and Wellings 1995).
use Rattle.std.specs.Prelude.{◌≡◌, Bool, not, List, filter, map, Option}
use Rattle.std.specs.List.{list_any}
use Rattle.seq_tree.specs.Names.{Name, same_name}
use Rattle.seq_tree.specs.declared.tree.OpName.{OpName}
use Rattle.name_sets.specs.Sets.{has}
use Rattle.ods_tree.specs.Designs.{Object, Design}
use Rattle.ods_tree.specs.Walk.{Standing}
use Rattle.design_rules.specs.Broken.{Broken, V06, V07, V08}
use Rattle.design_rules.specs.Lookups.{operation_named}
use Rattle.design_rules.specs.Uses.{is_there, is_forbidden, is_near, is_uncle}
use Rattle.ods_names.specs.declared.uses.Near.{Near}
use Rattle.ods_names.specs.declared.uses.Rule.{Rule}
use Rattle.ods_names.specs.declared.uses.Rule.TheVariants as rule

-- whether an operation that an object requires breaks a rule
abbrev pub breaks : Rule → Design → Standing → OpName → Bool
breaks rule.Near x s n = not (is_near s n)
breaks rule.There x s n = not (is_there (operation_named x n))
breaks rule.Allowed x s n = is_forbidden s.own.kind (operation_named x n)

-- what is told of it
abbrev pub told_by : Rule → Name → OpName → Broken
told_by rule.Near name target = V06 name target
told_by rule.There name target = V07 name target
told_by rule.Allowed name target = V08 name target

-- the operations that an object requires and that break a rule
abbrev pub bad_needs : Rule → Design → Standing → List Broken
bad_needs rule x s = map (told_by rule s.own.name) (filter (breaks rule x s) s.own.needs)

-- the sets of names are those of the children of an object's parent, and of the objects whose operations the parent requires
pub record IsNear (near : Near) (parent : Option Object) (siblings : List Object) : Type 0 where
  pub siblings_in : (n : Name) → has near.siblings n ≡ list_any (λ o. same_name o.name n) siblings
  pub uncles_in : (n : Name) → has near.uncles n ≡ is_uncle parent n
