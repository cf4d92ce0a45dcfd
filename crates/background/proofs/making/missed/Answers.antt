use Rattle.std.proofs.Common.{◌<◌, ◌∙◌, length, option_map, refl, ap, arith}
use Rattle.std.proofs.lemmas.List.{length-map}
use Rattle.std.proofs.lemmas.Option.{slice_get_read, slice_get-map}
use Rattle.ods_tree.specs.Trees.{flat_of, thread_of}
use Rattle.background.proofs.FrontTables.{miss-inside, place-inside, called-at}
use Rattle.background.proofs.making.missed.Goals as goal

pub index-requires : goal.index-requires
index-requires c =
    omega (
      arith,
      miss-inside (flat_of c.args.flat.now) c.args.miss c.args.table.now.thread.items c.requires.places c.requires.missed.first,
      c.args.table.now.thread.ok.0,
    )

pub index-requires-2 : goal.index-requires-2
index-requires-2 c =
    let places = c.args.table.now.thread.items in
    let i = miss-inside (flat_of c.args.flat.now) c.args.miss places c.requires.places c.requires.missed.first in
    let at = slice_get_read places _ c.args.miss.index c.index.result.now refl i c.index.ensures in
    omega (
      arith,
      place-inside (flat_of c.args.flat.now) places c.args.miss.index c.index.result.now c.requires.places at,
      length-map c.args.flat.now.threads.items thread_of,
      c.args.flat.now.threads.ok.0,
    )

pub returns-in-Ok : goal.returns-in-Ok
returns-in-Ok c =
    let f = flat_of c.args.flat.now in
    let places = c.args.table.now.thread.items in
    let i = miss-inside f c.args.miss places c.requires.places c.requires.missed.first in
    let at = slice_get_read places _ c.args.miss.index c.index.result.now refl i c.index.ensures in
    let k : c.index.result.now < length c.args.flat.now.threads.items =
    omega (
      arith,
      place-inside f places c.args.miss.index c.index.result.now c.requires.places at,
      length-map c.args.flat.now.threads.items thread_of,
    ) in
    let thread = slice_get_read c.args.flat.now.threads.items _ c.index.result.now c.index-2.result.now refl k c.index-2.ensures in
    record {
      missed = c.requires.missed;
      called = called-at f places c.args.miss.index c.index.result.now (thread_of c.index-2.result.now) c.in-Ok.thread c.requires.places at
          (slice_get-map thread_of c.args.flat.now.threads.items c.index.result.now ∙ ap (option_map thread_of) thread) c.in-Ok.ensures;
    }
