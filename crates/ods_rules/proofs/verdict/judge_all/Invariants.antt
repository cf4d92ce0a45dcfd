use Rattle.std.proofs.Common.{◌≡◌, ◌-◌}
use Rattle.std.specs.Prelude.{IfSome}
use Rattle.ods_tree.specs.Trees.{design_of}
use Rattle.ods_calls.specs.Pricing.{priced_design}
use Rattle.ods_rules.specs.Orders.{PassesBelow, limit}
use Rattle.ods_rules.proofs.verdict.judge_all.Given as goal

-- nothing offends against the rules before, and the costs that are known are of this design
abbrev pub invariant-rules : goal.invariant-rules
invariant-rules l = PassesBelow (design_of l.index.design.now) (limit l.rule)
    × IfSome l.known (λ p. priced_design p ≡ design_of l.index.design.now)

-- the rules that are left
abbrev pub decreases-rules : goal.decreases-rules
decreases-rules l = 19 - limit l.rule
