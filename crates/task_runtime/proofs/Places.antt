-- A place of the body that runs is one of code.
use Rattle.std.proofs.Common.{◌<◌, ℕ, length}
use Rattle.std.proofs.lemmas.Option.{slice_get_within}
use Rattle.linker.specs.Standing.{lists_of}
use Rattle.linker.specs.declared.program.LinkedUnits.{LinkedUnits}
use Rattle.task_runtime.specs.Lefts.{running_of}
use Rattle.task_runtime.specs.Settling.{IsAmid}
use Rattle.task_runtime.specs.Sounds.{IsStacked}
use Rattle.task_runtime.specs.declared.stack.Stack.{Stack}
use Rattle.task_runtime.proofs.Arrivals.{somewhere}
use Rattle.task_runtime.proofs.Found.{ins_at}

pub place_there : (c : LinkedUnits) (s : Stack) → IsStacked c s → (at : ℕ) → IsAmid (running_of s).start (running_of s).block at
    → at < length c.code.ins.items
place_there c s h at amid =
    let there = ins_at (lists_of c.code) at (somewhere c s h at amid) in
    slice_get_within c.code.ins.items at there.0 there.1
