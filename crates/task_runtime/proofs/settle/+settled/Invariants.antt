use Rattle.std.proofs.Common.{◌-◌, length}
use Rattle.task_runtime.proofs.settle.+settled.Given as goal

-- a jump leads forwards
abbrev pub decreases-settled : goal.decreases-settled
decreases-settled l = length l.code.now.ins.items - l.at
