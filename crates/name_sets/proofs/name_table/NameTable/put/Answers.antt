use Rattle.std.proofs.Common.{◌∙◌, List, Some, cond, sym, ap}
use Rattle.std.proofs.lemmas.Slice.Eq.{bytes_eq-Decides}
use Rattle.std.specs.Prelude.{option_and_then, slice_get}
use Rattle.seq_tree.specs.Names.{same_name}
use Rattle.name_sets.specs.Places.{place_in}
use Rattle.name_sets.specs.Tables.{named}
use Rattle.name_sets.proofs.TableSteps.{behind_law, over_law}
use Rattle.name_sets.proofs.name_table.NameTable.put.Goals as goal

pub returns-in-Some-clause-put : goal.returns-in-Some-clause-put
unfolding named
returns-in-Some-clause-put g c = λ n.
    let k = c.args.name.now in
    let t = c.args.self.now in
    let found = sym c.get.ensures ∙ c.in-Some.is in
    over_law t.values.items c.in-Some.place c.args.value (same_name k n) (place_in t.places n) (t.inside k c.in-Some.place found)
    (λ h. ap (place_in t.places) (sym ((bytes_eq-Decides k n).0 h)) ∙ found) (t.apart k n c.in-Some.place found)

pub returns-in_ok-put-in-None-clause-put : goal.returns-in_ok-put-in-None-clause-put
unfolding named
returns-in_ok-put-in-None-clause-put g c = λ n.
    let k = c.args.name.now in
    let t = c.args.self.now in
    let old = place_in t.places n in
    ap {A = List g.row.V.Denot} (λ vs. option_and_then (slice_get vs) (place_in c.put.new.self n)) c.in_ok-push-in-None.ensures.items
    ∙ behind_law t.values.items c.args.value (same_name k n) old (place_in c.put.new.self n)
    (c.in_ok-put-in-None.ensures.put n ∙ ap (λ p. cond (same_name k n) (Some p) old) (c.len-place.ensures ∙ t.values.ok.0)) (t.inside n)
