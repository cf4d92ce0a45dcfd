use Rattle.std.proofs.Common.{◌∙◌, ◌≡◌, ℕ, true, Option, Some, None, cond, sym, ap, refl}
use Rattle.std.specs.Prelude.{option_and_then, slice_get}
use Rattle.std.proofs.lemmas.Option.{slice_get_read}
use Rattle.std.proofs.lemmas.Slice.Eq.{bytes_eq-Decides}
use Rattle.seq_tree.specs.Names.{same_name}
use Rattle.name_sets.specs.OpPlaces.{op_place_in}
use Rattle.name_sets.specs.Places.{place_in}
use Rattle.name_sets.specs.declared.places.Places.{Places}
use Rattle.name_sets.proofs.PlaceSteps.{put_law}
use Rattle.name_sets.proofs.TableSteps.{behind_law, over_law}
use Rattle.name_sets.proofs.op_places.OpPlaces.put.Goals as goal

pub returns-in_ok-put-in-Some-clause-put : goal.returns-in_ok-put-in-Some-clause-put
unfolding op_place_in
returns-in_ok-put-in-Some-clause-put c = λ n.
    let k = c.args.object.now in
    let t = c.args.self.now in
    let i = c.in-Some.found in
    let found = sym c.get.ensures ∙ c.in-Some.is in
    let within = t.inside k i found in
    let here : (same_name k n.object ≡ true → place_in t.objects n.object ≡ Some i) =
    λ h. ap (place_in t.objects) (sym ((bytes_eq-Decides k n.object).0 h)) ∙ found in
    let look : Places → Option ℕ = λ places. place_in places n.op in
    put_law look (same_name k n.object) (same_name c.args.op.now n.op) c.args.place (Some c.index_mut.result.now)
    (option_and_then (slice_get t.ops.items) (place_in t.objects n.object)) _ c.put.new.self
    (over_law t.ops.items i c.put.new.self (same_name k n.object) (place_in t.objects n.object) within here (t.apart k n.object i found))
    (λ h. ap (option_and_then (slice_get t.ops.items)) (here h)
    ∙ slice_get_read t.ops.items _ i c.index_mut.result.now refl within c.index_mut.ensures.value)
    (c.in_ok-put-in-Some.ensures.put n.op)

pub returns-in_ok-put-in-None-2-clause-put : goal.returns-in_ok-put-in-None-2-clause-put
unfolding op_place_in
returns-in_ok-put-in-None-2-clause-put c = λ n.
    let k = c.args.object.now in
    let t = c.args.self.now in
    let old = place_in t.objects n.object in
    let new = place_in c.put-in-None-2.new.self n.object in
    let look : Places → Option ℕ = λ places. place_in places n.op in
    ap (λ ps. option_and_then look (option_and_then (slice_get ps) new)) c.in_ok-push-in-None.ensures.items
    ∙ put_law look (same_name k n.object) (same_name c.args.op.now n.op) c.args.place None (option_and_then (slice_get t.ops.items) old) _
    c.put-in-None.new.self
    (behind_law t.ops.items c.put-in-None.new.self (same_name k n.object) old new
    (c.in_ok-put-in-None-2.ensures.put n.object ∙ ap (λ p. cond (same_name k n.object) (Some p) old) (c.len-last.ensures ∙ t.ops.ok.0))
    (t.inside n.object))
    (λ h. ap (option_and_then (slice_get t.ops.items))
    (ap (place_in t.objects) (sym ((bytes_eq-Decides k n.object).0 h)) ∙ sym c.get.ensures ∙ c.in-None.is))
    (c.in_ok-put-in-None.ensures.put n.op ∙ ap (cond (same_name c.args.op.now n.op) (Some c.args.place)) (c.new-first.ensures n.op))
