use Rattle.std.proofs.Common.{◌∙◌, None, refl, sym, ap}
use Rattle.std.proofs.lemmas.Result.{err_from_is_err_and}
use Rattle.std.specs.Prelude.{option_and_then, slice_get}
use Rattle.seq_tree.specs.Calls.{same_op}
use Rattle.seq_tree.specs.declared.tree.OpName.{OpName}
use Rattle.seq_tree.proofs.Shared.Walks.{same_op-eq}
use Rattle.name_sets.specs.OpPlaces.{op_place_in}
use Rattle.name_sets.specs.Tables.{at}
use Rattle.name_sets.proofs.ListSteps.{kept_law, longer_law, more_law}
use Rattle.name_sets.proofs.op_table.OpTable+Vec+V.extend.Goals as goal

pub returns-in_ok-append-in-Some-clause-added : goal.returns-in_ok-append-in-Some-clause-added
unfolding at
returns-in_ok-append-in-Some-clause-added g c = λ n.
    let k : OpName = record { object = c.args.object.now; op = c.args.op.now } in
    let t = c.args.self.now in
    let found = sym c.get.ensures ∙ c.in-Some.is in
    longer_law t.values.items c.in-Some.place c.index_mut.result.now c.append.new.self c.args.items.items (same_op k n) (op_place_in t.places n)
    (t.inside k c.in-Some.place found) (λ h. ap (op_place_in t.places) (sym (same_op-eq k n h)) ∙ found) (t.apart k n c.in-Some.place found)
    c.index_mut.ensures.value c.in_ok-append-in-Some.ensures.items

pub returns-in_ok-put-in-None-clause-added : goal.returns-in_ok-put-in-None-clause-added
unfolding at
returns-in_ok-put-in-None-clause-added g c = λ n.
    let k : OpName = record { object = c.args.object.now; op = c.args.op.now } in
    let t = c.args.self.now in
    more_law (same_op k n) c.args.items None (at t n) (at c.put.new.self n) c.args.items.items (c.in_ok-put-in-None.ensures.put n)
    (λ h. ap (option_and_then (slice_get t.values.items))
    (ap (op_place_in t.places) (sym (same_op-eq k n h)) ∙ sym c.get.ensures ∙ c.in-None.is)) refl

pub returns-in_err-append-in-Some-clause-unchanged : goal.returns-in_err-append-in-Some-clause-unchanged
unfolding at
returns-in_err-append-in-Some-clause-unchanged g c =
    let p = err_from_is_err_and c.from_residual.result c.from_residual.ensures.1 in
    rw p.1 (λ n.
    let t = c.args.self.now in
    let within = t.inside (record { object = c.args.object.now; op = c.args.op.now }) c.in-Some.place (sym c.get.ensures ∙ c.in-Some.is) in
    kept_law t.values.items c.in-Some.place c.index_mut.result.now c.append.new.self (op_place_in t.places n) within
    c.index_mut.ensures.value c.in_err-append-in-Some.ensures.items)
