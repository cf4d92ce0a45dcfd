use Rattle.std.proofs.Common.{◌<◌, ◌≡◌, length, refl, ap, arith}
use Rattle.std.proofs.lemmas.List.{length-map}
use Rattle.std.proofs.lemmas.Option.{slice_get_read}
use Rattle.ods_tree.specs.Trees.{flat_of, thread_of}
use Rattle.analysis.specs.Trees.{ranks_of}
use Rattle.design_bounds.proofs.Shared.TablePlaces.{ranks-long}
use Rattle.background.proofs.RequestLaws.{row-counted}
use Rattle.background.proofs.requests.row_of.Goals as goal

pub index-requires : goal.index-requires
index-requires c =
    omega (
      arith,
      c.requires.inside,
      ranks-long (flat_of c.args.flat.now) (ranks_of c.args.order.now) c.requires.order,
      length-map c.args.flat.now.threads.items thread_of,
      c.args.order.now.threads.ok.0,
    )

pub overflow_sub-result : goal.overflow_sub-result
overflow_sub-result c =
    let long = ranks-long (flat_of c.args.flat.now) (ranks_of c.args.order.now) c.requires.order in
    let i : c.args.place < length c.args.order.now.threads.items =
    omega (arith, c.requires.inside, long, length-map c.args.flat.now.threads.items thread_of) in
    let there = slice_get_read c.args.order.now.threads.items _ c.args.place c.index.result.now refl i c.index.ensures in
    let whole : c.len.result ≡ length c.args.order.now.threads.items = omega (arith, c.len.ensures, c.args.order.now.threads.ok.0) in
    (row-counted (flat_of c.args.flat.now) c.args.order.now.threads.items c.args.place c.len.result c.index.result.now
    (ap (λ r. r.threads) c.requires.order) whole there).0

pub returns : goal.returns
returns c =
    let long = ranks-long (flat_of c.args.flat.now) (ranks_of c.args.order.now) c.requires.order in
    let i : c.args.place < length c.args.order.now.threads.items =
    omega (arith, c.requires.inside, long, length-map c.args.flat.now.threads.items thread_of) in
    let there = slice_get_read c.args.order.now.threads.items _ c.args.place c.index.result.now refl i c.index.ensures in
    let whole : c.len.result ≡ length c.args.order.now.threads.items = omega (arith, c.len.ensures, c.args.order.now.threads.ok.0) in
    (row-counted (flat_of c.args.flat.now) c.args.order.now.threads.items c.args.place c.len.result c.index.result.now
    (ap (λ r. r.threads) c.requires.order) whole there).1
