use Rattle.std.proofs.Common.{◌≡◌, ◌++◌, length, map, option_map}
use Rattle.analysis.specs.Tables.{downwards}
use Rattle.block_causes.specs.Causes.{cause}
use Rattle.rt_block.specs.Causes.{cause_of}
use Rattle.rt_block.specs.Designs.{design_of}
use Rattle.rt_block.proofs.causes.causes_of.Given as goal

-- the causes so far, and those of the lower levels
abbrev pub invariant-levels : goal.invariant-levels
invariant-levels l =
    map (option_map cause_of) l.found.items ++ map (cause (design_of l.facts) l.order.threads.items) (downwards l.level)
    ≡ map (cause (design_of l.facts) l.order.threads.items) (downwards (length l.order.threads.items))

abbrev pub decreases-levels : goal.decreases-levels
decreases-levels l = l.level
