use Rattle.std.proofs.Common.{◌≡◌, ℕ, Option, flat_map, length, map, ap, sym, subst, ◌∙◌}
use Rattle.std.proofs.lemmas.List.{length-map}
use Rattle.name_sets.specs.FirstPlaces.{place_from}
use Rattle.name_sets.specs.Places.{place_in}
use Rattle.name_sets.specs.Tables.{at}
use Rattle.seq_tree.specs.Names.{Name}
use Rattle.rings.specs.Graphs.{is_step}
use Rattle.ada_tree.specs.Programs.{Unit}
use Rattle.ada_tree.specs.Trees.{program_of, unit_of}
use Rattle.ada_tree.specs.Uses.{BreaksRings}
use Rattle.ada_rules.specs.Callers.{caller_edges, caller_of, names, unit_callers}
use Rattle.ada_rules.specs.Firsts.{IsFirst}
use Rattle.ada_rules.specs.UnitPlaces.{earlier, unit_at}
use Rattle.ada_rules.specs.declared.callers.Sort.TheVariants as sort
use Rattle.ada_rules.proofs.RoundLaws.{first-of-both, objects-first, ops-first}
use Rattle.ada_rules.proofs.rounds.first_by_rings.Goals as goal

pub returns : goal.returns
returns c =
    let p = program_of c.args.program.now in
    let list = c.as_slice-list.ensures.value in
    let unit = place_in c.in_ok-units.units in
    let units : (n : Name) → unit n ≡ place_from 0 n (map (λ u. u.name) p.units) =
    λ n. c.in_ok-units.ensures n ∙ ap (λ us. place_from 0 n (map (λ u. u.name) (map unit_of us))) list in
    let cs = map caller_of c.as_slice-ops.result.now in
    let made = ap (map caller_of) c.as_slice-ops.ensures.value ∙ c.in_ok-passive.ensures
    ∙ ap (λ us. flat_map (unit_callers sort.Passive) (map unit_of us)) list in
    let place = at c.in_ok-places.places in
    let long : length c.as_slice-ops.result.now ≡ length (names cs) =
    sym (length-map cs (λ k. k.name) ∙ length-map c.as_slice-ops.result.now caller_of) in
    let count : length c.as_slice-list.result.now ≡ length (map (λ (u : Unit). u.name) p.units) =
    ap length list ∙ sym (length-map p.units (λ u. u.name) ∙ length-map c.args.program.now.units.items unit_of) in
    let op = ops-first p c.requires.naming unit units cs made place c.in_ok-places.ensures
    (is_step (length c.as_slice-ops.result.now) (caller_edges place cs)) (λ a b. ap (λ n. is_step n (caller_edges place cs) a b) long)
    c.in_ok-op.op c.in_ok-op.ensures in
    let object = objects-first p c.requires.naming unit units (map caller_of c.args.shared.now) c.requires.shared
    (is_step (length c.as_slice-list.result.now) (caller_edges (λ n. unit n.object) (map caller_of c.args.shared.now)))
    (λ a b. ap (λ n. is_step n (caller_edges (λ n. unit n.object) (map caller_of c.args.shared.now)) a b) count)
    c.in_ok-object.object c.in_ok-object.ensures in
    let Q : Option ℕ → Type 0 = IsFirst (λ k u. BreaksRings p u) p.units in
    subst Q (sym (c.earlier.ensures ∙ ap (λ o. earlier o c.in_ok-object.object) c.unit_at.ensures))
    (first-of-both _ _ p.units (unit_at unit cs c.in_ok-op.op) c.in_ok-object.object op object)
