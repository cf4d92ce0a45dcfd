use Rattle.std.proofs.Common.{◌≡◌, drop}
use Rattle.std.specs.Prelude.{find, option_map, unwrap_or}
use Rattle.ods_tree.specs.Attributes.{has_key}
use Rattle.ods_tree.specs.declared.design.AttrKey.TheVariants.{ThreadBudget}
use Rattle.ods_calls.proofs.budgets.budget_of.Given as goal

-- it is up to those that are left
abbrev pub invariant-attrs : goal.invariant-attrs
invariant-attrs l =
    unwrap_or (option_map (λ a. a.value) (find (has_key ThreadBudget) (drop l.attr-index l.attrs))) 0
    ≡ unwrap_or (option_map (λ a. a.value) (find (has_key ThreadBudget) l.attrs)) 0
