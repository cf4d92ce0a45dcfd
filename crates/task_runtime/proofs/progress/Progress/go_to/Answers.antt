use Rattle.std.proofs.Common.{◌<◌, length, refl, arith}
use Rattle.std.specs.Prelude.{slice_get}
use Rattle.std.proofs.lemmas.Option.{slice_get_read, slice_get_within}
use Rattle.task_runtime.proofs.Arrivals.{goes_on_at, somewhere}
use Rattle.task_runtime.proofs.Found.{still_there}
use Rattle.task_runtime.proofs.progress.Progress.go_to.Goals as goal

pub settled-at-requires : goal.settled-at-requires
settled-at-requires c = somewhere c.args.code.now c.args.self.now.stack c.requires.stacked c.args.at c.requires.amid

pub index-requires : goal.index-requires
index-requires c =
    let items = c.args.code.now.code.ins.items in
    let there = still_there (slice_get items c.settled-at.result) c.settled-at.ensures.still in
    let lt : c.settled-at.result < length items = slice_get_within items c.settled-at.result there.0 there.1 in
    let long = c.args.code.now.code.ins.ok.0 in
    omega (arith, lt, long)

pub returns : goal.returns
returns c =
    let code = c.args.code.now in
    let items = code.code.ins.items in
    let there = still_there (slice_get items c.settled-at.result) c.settled-at.ensures.still in
    let lt : c.settled-at.result < length items = slice_get_within items c.settled-at.result there.0 there.1 in
    goes_on_at code c.args.self.now.stack c.args.at c.settled-at.result c.index.result.now c.piece_at.result c.requires.stacked c.requires.amid
    c.settled-at.ensures.lands c.settled-at.ensures.still
    (slice_get_read items (length items) c.settled-at.result c.index.result.now refl lt c.index.ensures) c.piece_at.ensures
