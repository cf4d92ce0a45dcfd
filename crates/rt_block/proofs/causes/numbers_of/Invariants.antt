use Rattle.std.proofs.Common.{◌≡◌, ◌≤◌, ◌+◌, ◌++◌, length}
use Rattle.rt_block.specs.Causes.{cause_numbers}
use Rattle.rt_block.proofs.causes.numbers_of.Given as goal

-- the numbers so far, and those of the operations that are left
abbrev pub invariant-operations : goal.invariant-operations
invariant-operations l = record {
  numbers : l.numbers.items ++ cause_numbers l.level l.ticks l.ceilings l.sections ≡ cause_numbers l.level l.ticks l.fn.ceilings l.fn.sections;
  same : length l.sections ≡ length l.ceilings;
  many : length l.numbers.items + length l.ceilings ≡ length l.fn.ceilings;
  few : length l.fn.ceilings ≤ 4294967295;
}

abbrev pub decreases-operations : goal.decreases-operations
decreases-operations l = length l.ceilings
