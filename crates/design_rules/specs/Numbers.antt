-- The numbers of a design: attributes that are missing, given twice, foreign or out of range, costs, ticks of `work`, parameters.
-- The ranges are this project's own.
use Rattle.std.specs.Prelude.{ℕ, ◌-◌, Bool, true, false, not, ◌&&◌, ◌||◌, ◌==◌, List, [], ◌∷◌, ◌++◌, flat_map, filter_map, length, nat_lt, Some, None}
use Rattle.std.specs.List.{list_any, list_all}
use Rattle.seq_tree.specs.Limits.{tick_limit, is_within}
use Rattle.seq_tree.specs.Calls.{block_works}
use Rattle.ods_tree.specs.Designs.{Object, Design}
use Rattle.ods_tree.specs.Walk.{Standing, objects, is_terminal, is_empty}
use Rattle.ods_tree.specs.Attributes.{attribute_or, attribute_count}
use Rattle.ods_tree.specs.Sound.{costs_of}
use Rattle.ods_tree.specs.declared.design.Kind.{Kind}
use Rattle.ods_tree.specs.declared.design.Kind.TheVariants as kind
use Rattle.ods_tree.specs.declared.design.AttrKey.{AttrKey}
use Rattle.ods_tree.specs.declared.design.AttrKey.TheVariants.{Period, Offset, Separation, Deadline, ThreadBudget, ArrivalJitter}
use Rattle.ods_tree.specs.Walk.{only_if}
use Rattle.design_rules.specs.Broken.{Broken, V11}
use Rattle.std.specs.Prelude.{option_to_list}

-- whether an attribute is there once, in this range
abbrev pub is_required : ℕ → ℕ → AttrKey → Object → Bool
is_required low high key o = attribute_count key o == 1 && is_within low high (attribute_or 0 key o)

-- whether an attribute is there at most once, in this range where it is
abbrev pub is_optional : ℕ → ℕ → AttrKey → Object → Bool
is_optional low high key o = attribute_count key o == 0 || is_required low high key o

-- whether an attribute isn't there
abbrev pub is_foreign : AttrKey → Object → Bool
is_foreign key o = attribute_count key o == 0

-- whether the deadline and the budget are right, for this period or separation
abbrev pub are_common_right : ℕ → Object → Bool
are_common_right period o = is_required 1 period Deadline o && is_required 1 tick_limit ThreadBudget o

-- whether the attributes of a terminal object are right
abbrev pub are_attributes_right : Kind → Object → Bool
are_attributes_right kind.Cyclic o =
    is_required 1 tick_limit Period o && is_optional 0 tick_limit Offset o && is_foreign Separation o && is_foreign ArrivalJitter o
    && are_common_right (attribute_or 0 Period o) o
are_attributes_right kind.Sporadic o =
    is_required 1 tick_limit Separation o && is_optional 0 (attribute_or 0 Separation o - 1) ArrivalJitter o && is_foreign Period o
    && is_foreign Offset o
    && are_common_right (attribute_or 0 Separation o) o
are_attributes_right _ o = is_empty o.attrs

-- whether the attributes of an object are right; one with children has none
abbrev pub are_right : Bool → Object → Bool
are_right true o = are_attributes_right o.kind o
are_right false o = is_empty o.attrs

-- the ticks of all `work` statements of an object
abbrev pub works : Object → List ℕ
works o = flat_map (λ b. block_works b.block) o.bodies ++ flat_map block_works (option_to_list o.thread)

-- whether the numbers of an object are out of range
abbrev pub breaks_numbers : Standing → Bool
breaks_numbers s =
    not (are_right (is_terminal s) s.own) || not (list_all (is_within 1 tick_limit) (works s.own))
    || list_any (λ p. nat_lt 8 (length p.sig.params)) s.own.provides

-- the costs, where one is out of range
abbrev pub bad_costs : Design → List Broken
bad_costs x = filter_map (λ fine. only_if (not fine) (V11 None)) (list_all (is_within 1 1000) (costs_of x.costs) ∷ [])

-- the costs and the objects whose numbers are out of range
abbrev pub bad_numbers : Design → List Broken
bad_numbers x = bad_costs x ++ filter_map (λ s. only_if (breaks_numbers s) (V11 (Some s.own.name))) (objects x)
