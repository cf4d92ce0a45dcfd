-- Costs against budgets, and sizes: activations over their budgets, too many threads or objects, bodies that are too dear.
-- Budgets are those of HRT-HOOD (Burns and Wellings 1995); the limits are this project's own.
use Rattle.std.specs.Prelude.{ℕ, suc, ◌+◌, ◌-◌, min, Bool, ◌&&◌, List, ◌++◌, filter_map, flat_map, length, nat_lt, nat_le, Option, Some, None}
use Rattle.std.specs.Prelude.{option_to_list}
use Rattle.seq_tree.specs.Limits.{tick_limit}
use Rattle.seq_tree.specs.Statements.{Statements}
use Rattle.ods_tree.specs.Designs.{Body, Object, Design}
use Rattle.ods_tree.specs.Walk.{objects, terminals}
use Rattle.ods_tree.specs.Ticks.{stated_priorities}
use Rattle.ods_tree.specs.Attributes.{attribute_or}
use Rattle.ods_tree.specs.Links.{resolved}
use Rattle.ods_tree.specs.Services.{flat_services}
use Rattle.ods_tree.specs.Flattening.{flat}
use Rattle.ods_tree.specs.declared.design.AttrKey.TheVariants.{ThreadBudget}
use Rattle.analysis.specs.Execution.{block_cost}
use Rattle.ods_tree.specs.Walk.{only_if}
use Rattle.design_rules.specs.Broken.{Broken, V14, V15Threads, V15Objects, V15Cost}
use Rattle.design_rules.specs.Rings.{thread_objects}

-- the cost of a body
abbrev pub body_cost : Design → Statements → ℕ
body_cost x b = block_cost x.costs (flat_services (flat x)) (resolved x b)

-- the cost of a thread's activation
abbrev pub activation_cost : Design → Statements → ℕ
activation_cost x b = body_cost x b + x.costs.finish

-- the greatest cost
abbrev pub greatest_cost : ℕ
greatest_cost = tick_limit

-- whether a cost is over the budget, and not too great
abbrev pub is_over : ℕ → ℕ → Bool
is_over budget cost = nat_lt budget cost && nat_le cost greatest_cost

-- a thread over its budget
abbrev pub over_budget : Design → Object → Statements → Option Broken
over_budget x o b =
    only_if (is_over (attribute_or 0 ThreadBudget o) (activation_cost x b)) (V14 o.name (activation_cost x b) (attribute_or 0 ThreadBudget o))

-- the threads over their budgets
abbrev pub bad_budgets : Design → List Broken
bad_budgets x = flat_map (λ o. filter_map (over_budget x o) (option_to_list o.thread)) (thread_objects x)

-- the body of an operation that is too dear
abbrev pub dear_body : Design → Object → Body → Option Broken
dear_body x o b = only_if (nat_lt greatest_cost (body_cost x b.block)) (V15Cost o.name (Some b.name))

-- a thread that is too dear
abbrev pub dear_thread : Design → Object → Statements → Option Broken
dear_thread x o b = only_if (nat_lt greatest_cost (activation_cost x b)) (V15Cost o.name None)

-- a count over its limit
abbrev pub over_limit : ℕ → ℕ → Broken → List Broken
over_limit limit count told = option_to_list (only_if (nat_lt limit count) told)

-- how many threads a design may have: 30, and not more than there are priorities where these are stated
abbrev pub thread_limit : Option (ℕ × ℕ) → ℕ
thread_limit None = 30
thread_limit (Some range) = min 30 (suc range.1 - range.0)

-- what is too large: threads, then objects, then costs in flattened order and order of writing
abbrev pub bad_sizes : Design → List Broken
bad_sizes x =
    over_limit (thread_limit (stated_priorities x)) (length (thread_objects x)) (V15Threads (length (thread_objects x)))
    ++ (over_limit 500 (length (objects x)) (V15Objects (length (objects x)))
    ++ flat_map (λ s. filter_map (dear_body x s.own) s.own.bodies ++ filter_map (dear_thread x s.own) (option_to_list s.own.thread)) (terminals x))
