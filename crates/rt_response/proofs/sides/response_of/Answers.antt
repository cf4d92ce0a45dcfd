use Rattle.std.proofs.Common.{◌+◌, arith, refl}
use Rattle.std.proofs.lemmas.Slice.Zip.{AllZip-long}
use Rattle.rt_response.proofs.Shared.Places.{entries-within, entries-front, response-small}
use Rattle.rt_response.proofs.Kept.{kept-response, computed-response}
use Rattle.rt_response.proofs.sides.response_of.Goals as goal

pub split_at-requires-2 : goal.split_at-requires-2
split_at-requires-2 c = omega (arith, AllZip-long _ c.args.table.now c.args.from.now c.requires.within)

pub all_interference-taken-requires-clause-entries : goal.all_interference-taken-requires-clause-entries
all_interference-taken-requires-clause-entries c =
    rw (c.split_at.ensures.front, c.split_at-2.ensures.front)
    (entries-front c.args.index c.args.table.now c.args.from.now
    (entries-within _ c.args.table.now c.args.from.now c.requires.table.each c.requires.within))

pub all_interference-taken-requires-clause-window : goal.all_interference-taken-requires-clause-window
all_interference-taken-requires-clause-window c =
    response-small _ c.args.table.now c.args.from.now c.args.index _ c.requires.table.each c.requires.within c.requires.index

pub bounds-from-index : goal.bounds-from-index
bounds-from-index c = omega (arith, AllZip-long _ c.args.table.now c.args.from.now c.requires.within)

pub returns-then-keeps : goal.returns-then-keeps
returns-then-keeps c =
    kept-response c.args.table.now c.args.from.now c.args.index c.from.result
    (AllZip-long _ c.args.table.now c.args.from.now c.requires.within) c.requires.index (c.requires.kept c.if-keeps.true) c.from.ensures

pub returns : goal.returns
returns c =
    computed-response c.args.table.now c.args.from.now c.args.index (c.from-2.result + c.from-3.result + c.all_interference-taken.result)
    (AllZip-long _ c.args.table.now c.args.from.now c.requires.within) c.requires.index
    (rw (c.from-2.ensures, c.from-3.ensures, c.all_interference-taken.ensures.value, c.split_at.ensures.front, c.split_at-2.ensures.front) refl)
