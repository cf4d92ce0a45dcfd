use Rattle.std.proofs.Common.{◌≡◌, ◌-◌, ◌≤◌, ◌<◌, ℕ, length, sym, ap, subst, ◌∙◌, arith}
use Rattle.std.proofs.lemmas.List.{length-map}
use Rattle.seq_tree.specs.Lists.{Each}
use Rattle.ods_tree.specs.Trees.{flat_of, thread_of}
use Rattle.analysis.specs.Ceilings.{ranks, Ranks}
use Rattle.analysis.specs.Trees.{ranks_of, table_of}
use Rattle.background_designs.specs.Programs.{raised}
use Rattle.background.specs.Fronts.{front_count, slow_count}
use Rattle.background.proofs.FrontTables.{front-bounds, front-stand}
use Rattle.background.proofs.MadeFronts.{cut-rows, cut-places, set-threads, raised-threads, raised-obcs, finished}
use Rattle.background.proofs.RaisedRooms.{slow-few, small-threads, small-shared}
use Rattle.background.proofs.making.make_calm.Goals as goal

pub overflow_sub-len : goal.overflow_sub-len
overflow_sub-len c =
    let counted : c.slow_count-clients.result ≡ slow_count (flat_of c.args.flat) = rw c.as_slice.ensures.value at c.slow_count-clients.ensures in
    omega (
      arith,
      counted,
      slow-few (flat_of c.args.flat),
      length-map c.args.flat.threads.items thread_of,
      c.len.ensures,
      c.args.flat.threads.ok.0,
    )

pub overflow_cast-clients : goal.overflow_cast-clients
overflow_cast-clients c =
    let counted : c.slow_count-clients.result ≡ slow_count (flat_of c.args.flat) = rw c.as_slice.ensures.value at c.slow_count-clients.ensures in
    omega (arith, counted, slow-few (flat_of c.args.flat), c.requires.sound.formed.thread_count)

pub finish-requires-clause-threads : goal.finish-requires-clause-threads
finish-requires-clause-threads c =
    let f = flat_of c.args.flat in
    let up = c.raise.ensures ∙ ap (raised c.slow_count-clients.result) c.requires.order in
    raised-threads f (ranks_of c.raise.new.order) c.slow_count-clients.result up
    ∙ sym (set-threads f (flat_of c.set_restless.new.flat) c.set_restless.ensures) ∙ length-map c.set_restless.new.flat.threads.items thread_of

pub finish-requires-clause-obcs : goal.finish-requires-clause-obcs
finish-requires-clause-obcs c =
    let f = flat_of c.args.flat in
    let up = c.raise.ensures ∙ ap (raised c.slow_count-clients.result) c.requires.order in
    raised-obcs f (ranks_of c.raise.new.order) c.slow_count-clients.result up
    ∙ sym (set-threads f (flat_of c.set_restless.new.flat) c.set_restless.ensures) ∙ length-map c.set_restless.new.flat.threads.items thread_of

pub finish-requires-clause-bounds : goal.finish-requires-clause-bounds
finish-requires-clause-bounds c =
    let f = flat_of c.args.flat in
    let counted : c.slow_count-clients.result ≡ slow_count f = rw c.as_slice.ensures.value at c.slow_count-clients.ensures in
    let whole : c.len.result ≡ length f.threads =
    omega (arith, length-map c.args.flat.threads.items thread_of, c.len.ensures, c.args.flat.threads.ok.0) in
    let count : c.len.result - c.slow_count-clients.result ≡ front_count f = omega (arith, counted, whole) in
    let front = cut-places f (table_of c.args.table) (c.len.result - c.slow_count-clients.result) c.cut.new.table.thread.items c.requires.table count
    c.cut.ensures.places in
    ap length c.as_slice-2.ensures.value ∙ front-bounds f c.in_ok-bounds.bounds.items c.in_ok-bounds.ensures.least.fits ∙ sym (ap length front)

pub finish-requires-clause-places : goal.finish-requires-clause-places
finish-requires-clause-places c =
    let f = flat_of c.args.flat in
    let counted : c.slow_count-clients.result ≡ slow_count f = rw c.as_slice.ensures.value at c.slow_count-clients.ensures in
    let whole : c.len.result ≡ length f.threads =
    omega (arith, length-map c.args.flat.threads.items thread_of, c.len.ensures, c.args.flat.threads.ok.0) in
    let count : c.len.result - c.slow_count-clients.result ≡ front_count f = omega (arith, counted, whole) in
    let front = cut-places f (table_of c.args.table) (c.len.result - c.slow_count-clients.result) c.cut.new.table.thread.items c.requires.table count
    c.cut.ensures.places in
    let same = sym (set-threads f (flat_of c.set_restless.new.flat) c.set_restless.ensures)
    ∙ length-map c.set_restless.new.flat.threads.items thread_of in
    let Q : ℕ → Type 0 = λ n. Each (λ at. at < n) c.cut.new.table.thread.items in
    let P : _ → Type 0 = λ ps. Each (λ at. at < length f.threads) ps in
    subst Q same (subst P (sym front) (front-stand f))

pub finish-requires-clause-small : goal.finish-requires-clause-small
finish-requires-clause-small c =
    let f = flat_of c.args.flat in
    let counted : c.slow_count-clients.result ≡ slow_count f = rw c.as_slice.ensures.value at c.slow_count-clients.ensures in
    let up : ranks_of c.raise.new.order ≡ raised (slow_count f) (ranks f)
    = c.raise.ensures ∙ ap (raised c.slow_count-clients.result) c.requires.order ∙ ap (λ n. raised n (ranks f)) counted in
    let P : Ranks → Type 0 = λ r. Each (λ n. n ≤ 31) r.threads in subst P (sym up) (small-threads f c.requires.sound)

pub finish-requires-clause-low : goal.finish-requires-clause-low
finish-requires-clause-low c =
    let f = flat_of c.args.flat in
    let counted : c.slow_count-clients.result ≡ slow_count f = rw c.as_slice.ensures.value at c.slow_count-clients.ensures in
    let up : ranks_of c.raise.new.order ≡ raised (slow_count f) (ranks f)
    = c.raise.ensures ∙ ap (raised c.slow_count-clients.result) c.requires.order ∙ ap (λ n. raised n (ranks f)) counted in
    let P : Ranks → Type 0 = λ r. Each (λ n. n ≤ 31) r.shared in subst P (sym up) (small-shared f c.requires.sound)

pub returns : goal.returns
returns c =
    let f = flat_of c.args.flat in
    let counted : c.slow_count-clients.result ≡ slow_count f = rw c.as_slice.ensures.value at c.slow_count-clients.ensures in
    let whole : c.len.result ≡ length f.threads =
    omega (arith, length-map c.args.flat.threads.items thread_of, c.len.ensures, c.args.flat.threads.ok.0) in
    let count : c.len.result - c.slow_count-clients.result ≡ front_count f = omega (arith, counted, whole) in
    let k = c.len.result - c.slow_count-clients.result in
    let up : ranks_of c.raise.new.order ≡ raised (slow_count f) (ranks f)
    = c.raise.ensures ∙ ap (raised c.slow_count-clients.result) c.requires.order ∙ ap (λ n. raised n (ranks f)) counted in
    finished c.args.first f (flat_of c.set_restless.new.flat) c.set_restless.ensures (ranks_of c.raise.new.order) up c.cut.new.table.thread.items
    (cut-places f (table_of c.args.table) k c.cut.new.table.thread.items c.requires.table count c.cut.ensures.places)
    c.cut.new.table.rows.items (cut-rows f (table_of c.args.table) k c.cut.new.table.rows.items c.requires.table count c.cut.ensures.rows)
    c.in_ok-bounds.bounds.items c.in_ok-bounds.ensures.least c.finish.result (rw c.as_slice-2.ensures.value at c.finish.ensures)
