-- Which operations an object may require: of a sibling or an uncle, one that is there, and one that its kind may call.
-- The rules of use are those of HRT-HOOD (Burns and Wellings 1995), in this project's table.
use Rattle.std.specs.Prelude.{Bool, true, false, not, ◌&&◌, ◌||◌, List, filter, map, flat_map, Option, Some, None}
use Rattle.std.specs.List.{list_any}
use Rattle.seq_tree.specs.Names.{Name, same_name}
use Rattle.seq_tree.specs.declared.tree.OpName.{OpName}
use Rattle.ods_tree.specs.Designs.{Provided, Object, Design}
use Rattle.ods_tree.specs.Walk.{Standing, objects}
use Rattle.ods_tree.specs.declared.design.Kind.{Kind}
use Rattle.ods_tree.specs.declared.design.Kind.TheVariants.{Passive, Active}
use Rattle.ods_tree.specs.declared.design.Constraint.{Constraint}
use Rattle.ods_tree.specs.declared.design.Constraint.TheVariants.{Hser}
use Rattle.design_rules.specs.Broken.{Broken, V06, V07, V08}
use Rattle.design_rules.specs.Lookups.{operation_named}
pub use Rattle.design_rules.specs.Fittings.{is_provided as is_there}

-- whether an object's parent requires an operation of this object
abbrev pub is_uncle : Option Object → Name → Bool
is_uncle None name = false
is_uncle (Some parent) name = list_any (λ n. same_name n.object name) parent.needs

-- whether another child of the parent has this name
abbrev pub is_sibling : Standing → Name → Bool
is_sibling s name = not (same_name s.own.name name) && list_any (λ o. same_name o.name name) s.siblings

-- whether an object may require operations of this one
abbrev pub is_near : Standing → OpName → Bool
is_near s need = is_sibling s need.object || is_uncle s.parent need.object

-- whether an object of a kind may call an operation of a constraint
abbrev pub may_call : Kind → Option Constraint → Bool
may_call kind None = true
may_call Passive (Some c) = false
may_call Active (Some c) = true
may_call kind (Some Hser) = false
may_call kind (Some c) = true

-- whether an operation is there and an object of a kind may not call it
abbrev pub is_forbidden : Kind → Option Provided → Bool
is_forbidden kind None = false
is_forbidden kind (Some p) = not (may_call kind p.constraint)

-- the required operations that fail a test, in order, each told with its object
abbrev pub needs_that : (Name → OpName → Broken) → (Standing → OpName → Bool) → Design → List Broken
needs_that told test x = flat_map (λ s. map (told s.own.name) (filter (test s) s.own.needs)) (objects x)

-- required operations of an object that is neither sibling nor uncle
abbrev pub strangers : Design → List Broken
strangers x = needs_that V06 (λ s n. not (is_near s n)) x

-- required operations that aren't there
abbrev pub absent : Design → List Broken
absent x = needs_that V07 (λ s n. not (is_there (operation_named x n))) x

-- required operations that the object may not call
abbrev pub forbidden : Design → List Broken
forbidden x = needs_that V08 (λ s n. is_forbidden s.own.kind (operation_named x n)) x
