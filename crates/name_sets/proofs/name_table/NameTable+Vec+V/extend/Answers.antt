use Rattle.std.proofs.Common.{◌∙◌, None, refl, sym, ap}
use Rattle.std.proofs.lemmas.Result.{err_from_is_err_and}
use Rattle.std.proofs.lemmas.Slice.Eq.{bytes_eq-Decides}
use Rattle.std.specs.Prelude.{option_and_then, slice_get}
use Rattle.seq_tree.specs.Names.{same_name}
use Rattle.name_sets.specs.Places.{place_in}
use Rattle.name_sets.specs.Tables.{named}
use Rattle.name_sets.proofs.ListSteps.{kept_law, longer_law, more_law}
use Rattle.name_sets.proofs.name_table.NameTable+Vec+V.extend.Goals as goal

pub returns-in_ok-append-in-Some-clause-added : goal.returns-in_ok-append-in-Some-clause-added
unfolding named
returns-in_ok-append-in-Some-clause-added g c = λ n.
    let k = c.args.name.now in
    let t = c.args.self.now in
    let found = sym c.get.ensures ∙ c.in-Some.is in
    longer_law t.values.items c.in-Some.place c.index_mut.result.now c.append.new.self c.args.items.items (same_name k n) (place_in t.places n)
    (t.inside k c.in-Some.place found) (λ h. ap (place_in t.places) (sym ((bytes_eq-Decides k n).0 h)) ∙ found)
    (t.apart k n c.in-Some.place found)
    c.index_mut.ensures.value c.in_ok-append-in-Some.ensures.items

pub returns-in_ok-put-in-None-clause-added : goal.returns-in_ok-put-in-None-clause-added
unfolding named
returns-in_ok-put-in-None-clause-added g c = λ n.
    let k = c.args.name.now in
    let t = c.args.self.now in
    more_law (same_name k n) c.args.items None (named t n) (named c.put.new.self n) c.args.items.items (c.in_ok-put-in-None.ensures.put n)
    (λ h. ap (option_and_then (slice_get t.values.items))
    (ap (place_in t.places) (sym ((bytes_eq-Decides k n).0 h)) ∙ sym c.get.ensures ∙ c.in-None.is)) refl

pub returns-in_err-append-in-Some-clause-unchanged : goal.returns-in_err-append-in-Some-clause-unchanged
unfolding named
returns-in_err-append-in-Some-clause-unchanged g c =
    let p = err_from_is_err_and c.from_residual.result c.from_residual.ensures.1 in
    rw p.1 (λ n.
    let t = c.args.self.now in
    let within = t.inside c.args.name.now c.in-Some.place (sym c.get.ensures ∙ c.in-Some.is) in
    kept_law t.values.items c.in-Some.place c.index_mut.result.now c.append.new.self (place_in t.places n) within
    c.index_mut.ensures.value c.in_err-append-in-Some.ensures.items)
