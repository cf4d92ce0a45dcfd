use Rattle.std.proofs.Common.{◌≡◌, ◌||◌, ℕ, true, false, get_or, length, map, ap, sym, ◌∙◌}
use Rattle.std.specs.List.{list_any}
use Rattle.std.proofs.Math.Bool.{or-false}
use Rattle.std.proofs.lemmas.List.{length-map}
use Rattle.seq_tree.specs.Calls.{same_op}
use Rattle.seq_tree.specs.declared.tree.OpName.{OpName}
use Rattle.seq_cost.specs.Different.{call_of}
use Rattle.name_sets.specs.Sets.{has_op}
use Rattle.name_sets.specs.Tables.{at}
use Rattle.rings.specs.Graphs.{is_step}
use Rattle.rings.specs.Reached.{leads}
use Rattle.ada_rules.specs.Callers.{IsFound, Makes, caller_edges, caller_of, is_led_to, names}
use Rattle.ada_rules.proofs.ReachLaws.{follow_found}
use Rattle.ada_rules.proofs.requests.follow.Goals as goal
use Rattle.ada_rules.proofs.requests.follow.Goals.{In_ok-add_callers}

-- what is in the set is what the calls lead to, by the marks
found : (c : In_ok-add_callers) (n : OpName)
    → (has_op c.add_callers.new.called n ≡ true → IsFound (Makes (map caller_of c.args.callers.now)) (map call_of c.args.calls.now) n)
    × (IsFound (Makes (map caller_of c.args.callers.now)) (map call_of c.args.calls.now) n → has_op c.add_callers.new.called n ≡ true)
found c =
    let cs = map caller_of c.args.callers.now in
    let place = at c.in_ok-places.places in
    let long : length c.args.callers.now ≡ length (names cs) = sym (length-map cs (λ k. k.name) ∙ length-map c.args.callers.now caller_of) in
    let stepped : (p q : ℕ) → leads c.in_ok-graph.graph p q ≡ is_step (length (names cs)) (caller_edges place cs) p q = λ p q.
    c.in_ok-graph.ensures.edges p q ∙ ap (λ k. is_step k c.as_slice.result.now p q) long
    ∙ ap (λ es. is_step (length (names cs)) es p q) (c.as_slice.ensures.value ∙ c.in_ok-edges.ensures) in
    let marked = c.as_slice-3.ensures.value in
    let begun = map call_of c.args.calls.now in
    let added : (m : OpName) → has_op c.add_callers.new.called m
    ≡ (is_led_to place c.as_slice-3.result.now cs m || list_any (λ k. same_op k m) begun) =
    λ m. c.in_ok-add_callers.ensures m ∙ ap (λ b. is_led_to place c.as_slice-3.result.now cs m || b)
    (c.in_ok-add_calls.ensures m ∙ ap (λ b. list_any (λ k. same_op k m) begun || b) (c.new-called.ensures m)
    ∙ or-false (list_any (λ k. same_op k m) begun)) in
    follow_found cs place c.in_ok-places.ensures (leads c.in_ok-graph.graph) stepped begun
    c.as_slice-2.result.now (c.as_slice-2.ensures.value ∙ c.in_ok-starts.ensures) c.in_ok-graph.graph.count (c.in_ok-graph.ensures.count ∙ long)
    c.as_slice-3.result.now
    (λ p k. c.in_ok-marks.ensures.sound p (ap (λ ms. get_or ms p false) (sym marked) ∙ k))
    (λ p k. ap (λ ms. get_or ms p false) marked ∙ c.in_ok-marks.ensures.complete p k)
    (has_op c.add_callers.new.called) added

pub returns-clause-sound : goal.returns-clause-sound
returns-clause-sound c = λ n h. (found (goal.at.returns-clause-sound c).In_ok-add_callers n).0 h

pub returns-clause-complete : goal.returns-clause-complete
returns-clause-complete c = λ n h. (found (goal.at.returns-clause-complete c).In_ok-add_callers n).1 h
