use Rattle.std.proofs.lemmas.Slice.Zip.{AllZip-long}
use Rattle.rt_response.proofs.Shared.Places.{each-at, entries-within, entries-reach, right_sides-at, side-found, side-over}
use Rattle.rt_response.proofs.sides.side.Goals as goal

pub jitter_of-requires-clause-row : goal.jitter_of-requires-clause-row
jitter_of-requires-clause-row c =
    rw (AllZip-long _ c.args.table.now c.args.from.now c.requires.within)
    (each-at _ c.args.table.now c.args.index _ c.requires.table.each c.requires.index)

pub jitter_of-requires-clause-bounds : goal.jitter_of-requires-clause-bounds
jitter_of-requires-clause-bounds c
    = entries-reach c.args.table.now c.args.from.now (entries-within _ c.args.table.now c.args.from.now c.requires.table.each c.requires.within)

pub returns-clause-within : goal.returns-clause-within
returns-clause-within c =
    let long = AllZip-long _ c.args.table.now c.args.from.now c.requires.within in
    side-found c.args.table.now c.args.from.now c.args.index _ (record { jitter = 0; response = 0 }) c.jitter_of.result c.response_of-response.result
    c.requires.index long c.jitter_of.ensures
    (c.response_of-response.ensures _ (right_sides-at c.args.table.now c.args.from.now c.args.index _ _ c.requires.index long))
    c.within_limits.result c.within_limits.ensures.within

pub returns-clause-over : goal.returns-clause-over
returns-clause-over c =
    let long = AllZip-long _ c.args.table.now c.args.from.now c.requires.within in
    side-over c.args.table.now c.args.from.now c.args.index _ (record { jitter = 0; response = 0 }) c.jitter_of.result c.response_of-response.result
    c.requires.index long c.jitter_of.ensures
    (c.response_of-response.ensures _ (right_sides-at c.args.table.now c.args.from.now c.args.index _ _ c.requires.index long))
    c.within_limits.result c.within_limits.ensures.over
