use Rattle.std.proofs.Common.{rules, ◌≡◌, List, Option, false, ap, sym, subst, ◌∙◌, arith, map, slice_get, ℕ}
use Rattle.std.specs.Prelude.{option_map}
use Rattle.std.specs.List.{list_any}
use Rattle.ods_tree.specs.Designs.{Object}
use Rattle.ods_tree.specs.Trees.{design_of}
use Rattle.ods_tree.specs.Walk.{objects}
use Rattle.design_rules.specs.Broken.{V09Starts}
use Rattle.design_rules.specs.Lookups.{is_sporadic}
use Rattle.design_rules.specs.Rings.{thread_objects}
use Rattle.design_rules.specs.Rules.{Fitting}
use Rattle.ods_index.specs.Judging.{Passes, Tells}
use Rattle.ods_index.specs.Nodes.{node_object}
use Rattle.ods_index.specs.Walking.{standing_of}
use Rattle.ods_calls.specs.Starting.{starts_step}
use Rattle.ods_calls.proofs.StartGraph.{judged, leads-on, none-ringed, told-same, whole-threads}
use Rattle.ods_calls.proofs.StartPaths.{none-started}
use Rattle.ods_calls.proofs.start_rings.first_ringed_thread.Goals as goal
use Rattle.rings.specs.Reached.{IsFirstOnRing}

pub returns-then-not-any_sporadic : goal.returns-then-not-any_sporadic
returns-then-not-any_sporadic c = λ place told r.
    let x = design_of c.args.index.now.design.now in
    let passes : Passes x Fitting = c.requires.before Fitting (omega arith) in
    let seen : map standing_of c.as_slice.result.now ≡ objects x = ap (map standing_of) c.as_slice.ensures.value ∙ c.requires.indexed.walked in
    let threads : map node_object c.as_slice-2.result.now ≡ thread_objects x =
    ap (map node_object) c.as_slice-2.ensures.value
    ∙ whole-threads x (map standing_of c.as_slice.result.now) c.in_ok-threads.threads.items seen c.in_ok-threads.ensures in
    let none : c.any_sporadic.result ≡ false = search rules in
    none-started x (leads-on x passes)
    (ap (λ (os : List Object). list_any (λ (o : Object). is_sporadic o.kind) os) (sym threads) ∙ sym c.any_sporadic.ensures ∙ none)
    r.thread.name r.ring

pub returns-in-None : goal.returns-in-None
returns-in-None c =
    let x = design_of c.args.index.now.design.now in
    none-ringed x (c.requires.before Fitting (omega arith))
    (subst (λ (o : Option ℕ). IsFirstOnRing (starts_step x) o) c.in-None.is c.in_ok-first_ringed.ensures)

pub returns : goal.returns
returns c =
    let x = design_of c.args.index.now.design.now in
    let place = c.in-Some.place in
    let all = c.as_slice-in-Some.result.now in
    let seen : map standing_of c.as_slice.result.now ≡ objects x = ap (map standing_of) c.as_slice.ensures.value ∙ c.requires.indexed.walked in
    let threads : map node_object all ≡ thread_objects x =
    ap (map node_object) c.as_slice-in-Some.ensures.value
    ∙ whole-threads x (map standing_of c.as_slice.result.now) c.in_ok-threads.threads.items seen c.in_ok-threads.ensures in
    judged x (c.requires.before Fitting (omega arith)) c.tell_thread.result place
    (subst (λ (o : Option ℕ). IsFirstOnRing (starts_step x) o) c.in-Some.is c.in_ok-first_ringed.ensures)
    (subst (λ w. Tells c.tell_thread.result w)
    (told-same all place ∙ ap (λ (os : List Object). option_map (λ (o : Object). V09Starts o.name) (slice_get os place)) threads) c.tell_thread.ensures)
