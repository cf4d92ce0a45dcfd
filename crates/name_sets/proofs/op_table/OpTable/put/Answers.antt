use Rattle.std.proofs.Common.{◌∙◌, List, Some, cond, sym, ap}
use Rattle.std.specs.Prelude.{option_and_then, slice_get}
use Rattle.seq_tree.specs.Calls.{same_op}
use Rattle.seq_tree.specs.declared.tree.OpName.{OpName}
use Rattle.seq_tree.proofs.Shared.Walks.{same_op-eq}
use Rattle.name_sets.specs.OpPlaces.{op_place_in}
use Rattle.name_sets.specs.Tables.{at}
use Rattle.name_sets.proofs.TableSteps.{behind_law, over_law}
use Rattle.name_sets.proofs.op_table.OpTable.put.Goals as goal

pub returns-in-Some-clause-put : goal.returns-in-Some-clause-put
unfolding at
returns-in-Some-clause-put g c = λ n.
    let k : OpName = record { object = c.args.object.now; op = c.args.op.now } in
    let t = c.args.self.now in
    let found = sym c.get.ensures ∙ c.in-Some.is in
    over_law t.values.items c.in-Some.place c.args.value (same_op k n) (op_place_in t.places n) (t.inside k c.in-Some.place found)
    (λ h. ap (op_place_in t.places) (sym (same_op-eq k n h)) ∙ found) (t.apart k n c.in-Some.place found)

pub returns-in_ok-put-in-None-clause-put : goal.returns-in_ok-put-in-None-clause-put
unfolding at
returns-in_ok-put-in-None-clause-put g c = λ n.
    let k : OpName = record { object = c.args.object.now; op = c.args.op.now } in
    let t = c.args.self.now in
    let old = op_place_in t.places n in
    ap {A = List g.row.V.Denot} (λ vs. option_and_then (slice_get vs) (op_place_in c.put.new.self n)) c.in_ok-push-in-None.ensures.items
    ∙ behind_law t.values.items c.args.value (same_op k n) old (op_place_in c.put.new.self n)
    (c.in_ok-put-in-None.ensures.put n ∙ ap (λ p. cond (same_op k n) (Some p) old) (c.len-place.ensures ∙ t.values.ok.0)) (t.inside n)
