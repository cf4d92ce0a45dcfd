-- What starts with an instruction and with a piece.
use Rattle.std.specs.Prelude.{ℕ, Option}
use Rattle.seq_tree.specs.declared.tree.Costs.{Costs}
use Rattle.machine.specs.Pieces.{work_ticks}
use Rattle.linker.specs.declared.code.Ins.{Ins}
use Rattle.linker.specs.declared.code.Ins.TheVariants as ins
use Rattle.task_runtime.specs.declared.piece.Piece.{Piece}
use Rattle.task_runtime.specs.declared.piece.Piece.TheVariants as is

-- the ticks of an instruction, and of a piece, with the duration that a `work` is handed
abbrev pub ins_ticks : Costs → Option ℕ → Ins → ℕ
ins_ticks costs duration ins.Null = costs.«nothing»
ins_ticks costs duration (ins.Work ticks) = work_ticks ticks duration
ins_ticks costs duration (ins.Assign slot value) = costs.assign
ins_ticks costs duration (ins.Put value) = costs.put
ins_ticks costs duration (ins.Test cond other) = costs.test
ins_ticks costs duration (ins.Exit cond to) = costs.test
ins_ticks costs duration (ins.Jump to) = 0
ins_ticks costs duration (ins.Begin counter low) = costs.turn
ins_ticks costs duration (ins.Next counter last start) = 0
ins_ticks costs duration (ins.Call op actuals outs) = costs.call
ins_ticks costs duration (ins.Request task value) = costs.call
ins_ticks costs duration ins.Nowhere = costs.call
ins_ticks costs duration ins.Return = 0
ins_ticks costs duration ins.Finish = costs.finish

abbrev pub piece_ticks : Costs → Option ℕ → Piece → ℕ
piece_ticks costs duration (is.Here i) = ins_ticks costs duration i
piece_ticks costs duration (is.Turn counter start) = costs.turn
piece_ticks costs duration is.Close = 0
piece_ticks costs duration (is.Keep q) = costs.assign
piece_ticks costs duration (is.Open q) = costs.assign
piece_ticks costs duration (is.Requested q) = 0

-- how many `work` statements start with a piece
abbrev pub piece_works : Piece → ℕ
piece_works (is.Here (ins.Work ticks)) = 1
piece_works _ = 0
