-- What the definitions of single rules hold of, and what breaks each alone.
use Rattle.std.proofs.Common.{◌≡◌, true, false, List, [], ◌∷◌, Some, None, refl, arith}
use Rattle.std.specs.Prelude.{codes}
use Rattle.seq_tree.specs.Statements.{Work}
use Rattle.ods_tree.specs.Designs.{Object, Tree, Node, Empty, With}
use Rattle.ods_tree.specs.Walk.{Standing, own_of}
use Rattle.ods_tree.specs.declared.design.Kind.{Kind}
use Rattle.ods_tree.specs.declared.design.AttrKey.TheVariants.{Period, Deadline}
use Rattle.ods_tree.specs.declared.design.TickUnit.TheVariants.{Ms}
use Rattle.ods_tree.proofs.Shared.Short.{attr, cyc_with, pas}
use Rattle.design_rules.specs.Broken.{V03, V04, V11, V12, V17}
use Rattle.ods_forms.specs.ObjectFaults.{IsRightTick, bad_objects, breaks_rule, told_by, may_have}
use Rattle.ods_forms.specs.Whole.{at_most_most, attribute_set, count_set, tree_set, is_whole}
use Rattle.ods_tree.specs.declared.design.Attr.{Attr}
use Rattle.ods_tree.specs.declared.design.Constraint.TheVariants.{Pser}
use Rattle.ods_tree.specs.declared.design.Kind.TheVariants as kind
use Rattle.ods_forms.specs.declared.objects.ObjectRule.TheVariants as rule

abbrev passive : Tree
passive = pas (codes "p") (codes "f") (Work 3 ∷ [])

abbrev stand : Object → List Object → Standing
stand o children = record { own = o; parent = None; siblings = o ∷ []; children = children }

abbrev of_kind : Kind → Object
of_kind k = record (own_of passive) { kind = k }

-- an active object without children is idle, one with children isn't; nor is a passive one
idle : breaks_rule rule.IdleActive (stand (of_kind kind.Active) []) ≡ true
idle = refl

idle_not : breaks_rule rule.IdleActive (stand (of_kind kind.Active) (own_of passive ∷ [])) ≡ false
idle_not = refl

idle_passive : breaks_rule rule.IdleActive (stand (own_of passive) []) ≡ false
idle_passive = refl

-- a passive object may hold a passive one, and no cyclic one
includes : breaks_rule rule.Include (stand (own_of passive) (own_of passive ∷ [])) ≡ false
includes = refl

includes_not : breaks_rule rule.Include (stand (own_of passive) (of_kind kind.Cyclic ∷ [])) ≡ true
includes_not = refl

told_idle : told_by rule.IdleActive (codes "p") ≡ V12 (codes "p")
told_idle = refl

told_whole : told_by (rule.Whole 1000) (codes "p") ≡ V17 (codes "p")
told_whole = refl

told_include : told_by rule.Include (codes "p") ≡ V03 (codes "p")
told_include = refl

told_operation : told_by rule.Operation (codes "p") ≡ V04 (codes "p")
told_operation = refl

told_number : told_by rule.Number (codes "p") ≡ V11 (Some (codes "p"))
told_number = refl

-- one that breaks a rule is told, one that doesn't isn't
objects_bad : bad_objects rule.IdleActive (stand (own_of passive) [] ∷ stand (of_kind kind.Active) [] ∷ []) ≡ V12 (codes "p") ∷ []
objects_bad = refl

-- a tick is some time
right_tick : IsRightTick (rule.Whole 1)
right_tick = omega arith

wrong_tick : IsRightTick (rule.Whole 0) → ⊥
wrong_tick h = absurd (omega (arith, h))

-- 3 ms are 3 ticks of 1,000 microseconds; a number without a unit stays, and none is over the greatest
set_unit : count_set 1000 3 (Some Ms) ≡ 3
set_unit = refl

set_ticks : count_set 1000 3 None ≡ 3
set_ticks = refl

set_greatest : count_set 1 4294967295 (Some Ms) ≡ 4294967295
set_greatest = refl

most_stays : at_most_most 4294967295 ≡ 4294967295
most_stays = refl

most_cut : at_most_most 4294967296 ≡ 4294967295
most_cut = refl

set_attribute : attribute_set 1000 (record { key = Period; value = 3; unit = Some Ms }) ≡ attr Period 3
set_attribute = refl

set_tree : tree_set 1000 (cyc_with (codes "t") (record { key = Deadline; value = 3; unit = Some Ms } ∷ []) [] [])
    ≡ cyc_with (codes "t") (attr Deadline 3 ∷ []) [] []
set_tree = refl

-- a passive object may provide what has no constraint, and not what waits under exclusion; a cyclic one may with children alone
free : may_have true kind.Passive None ≡ true
free = refl

free_not : may_have true kind.Passive (Some Pser) ≡ false
free_not = refl

passes_on : may_have false kind.Cyclic None ≡ true
passes_on = refl

provides_not : may_have true kind.Cyclic None ≡ false
provides_not = refl

-- 3 ms are whole in ticks of 1,000 microseconds, and not in ticks of 2,000, also where they stand inside
abbrev with_attrs : List Attr → Object
with_attrs as' = record {
  name = 97 ∷ [];
  kind = kind.Cyclic;
  attrs = as';
  provides = [];
  needs = [];
  vars = [];
  bodies = [];
  thread = None;
  links = [];
}

abbrev three : List Attr
three = record { key = Period; value = 3; unit = Some Ms } ∷ []

whole : is_whole 1000 (Node (with_attrs three) (With (Node (with_attrs three) Empty) Empty)) ≡ true
whole = refl

whole_not : is_whole 2000 (Node (with_attrs three) Empty) ≡ false
whole_not = refl

whole_not_inside : is_whole 2000 (Node (with_attrs []) (With (Node (with_attrs three) Empty) Empty)) ≡ false
whole_not_inside = refl
