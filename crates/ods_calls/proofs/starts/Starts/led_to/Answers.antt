use Rattle.std.proofs.Common.{◌≡◌, List, [], ◌++◌, false, true, get_or, length, map, filter_map, Some, ap, sym, subst, ◌∙◌, ℕ, append-nil}
use Rattle.std.specs.List.{list_any}
use Rattle.seq_tree.specs.Names.{Name}
use Rattle.ods_tree.specs.Trees.{design_of}
use Rattle.ods_index.specs.Calling.{design_calls}
use Rattle.ods_calls.specs.Spotted.{spot_in}
use Rattle.ods_calls.specs.Spreading.{led}
use Rattle.ods_calls.specs.Starting.{Op, Thread, all_held, spots_of}
use Rattle.ods_calls.proofs.StartGraph.{leads-on}
use Rattle.ods_calls.proofs.StartReach.{both-ok, found-led, led-found, same-bool}
use Rattle.ods_calls.proofs.starts.Starts.led_to.Goals as goal
use Rattle.rings.specs.Graphs.{is_step}
use Rattle.rings.specs.Reached.{IsReached, leads}
use Rattle.seq_cost.specs.Different.{call_of}

pub returns : goal.returns
returns c =
    let self = c.args.self.now in
    let x = design_of self.links.now.design.now in
    let place = spot_in self.spots in
    let cs = map call_of c.args.calls.now in
    let ss = filter_map (λ k. place (Thread k.object)) cs ++ filter_map (λ k. place (Op k)) cs in
    let starts : c.as_slice-2.result.now ≡ ss =
    c.as_slice-2.ensures.value ∙ c.in_ok-extend_from_slice.ensures.items ∙ ap (λ (l : List ℕ). l ++ c.as_slice.result.now) c.in_ok-starts.ensures
    ∙ ap (λ (l : List ℕ). filter_map (λ k. place (Thread k.object)) cs ++ l) (c.as_slice.ensures.value ∙ c.in_ok-more.ensures) in
    let on = leads-on x self.fits in
    let stepped : (a b : ℕ) → leads self.graph a b ≡ is_step (length (spots_of x)) (all_held place (design_calls x) ++ []) a b =
    λ a b. self.stepped a b ∙ ap (λ (es : List (ℕ × ℕ)). is_step (length (spots_of x)) es a b) (sym (append-nil (all_held place (design_calls x)))) in
    both-ok (λ v. (n : ℕ) → get_or v.items n false ≡ true → IsReached self.graph c.as_slice-2.result.now n)
    (λ v. (n : ℕ) → IsReached self.graph c.as_slice-2.result.now n → get_or v.items n false ≡ true)
    (λ v. (n : Name) (p : ℕ) → place (Thread n) ≡ Some p → get_or v.items p false ≡ list_any (led x n) cs) c.reached.result
    (λ v sound complete n p e.
    same-bool (get_or v.items p false) (list_any (led x n) cs)
    (λ h. found-led x on place self.placed self.graph stepped self.counted cs n p e (subst (λ ns. IsReached self.graph ns p) starts (sound p h)))
    (λ h. complete p (subst (λ ns. IsReached self.graph ns p) (sym starts)
    (led-found x on place self.placed self.graph stepped self.counted cs n p e h)))) c.reached.ensures.sound c.reached.ensures.complete
