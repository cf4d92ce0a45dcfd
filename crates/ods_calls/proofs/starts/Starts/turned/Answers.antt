use Rattle.std.proofs.Common.{◌≡◌, List, ℕ, map, length, ap, ◌∙◌}
use Rattle.std.proofs.lemmas.Result.{IfOk-weaker}
use Rattle.ods_tree.specs.Trees.{design_of}
use Rattle.ods_index.specs.Calling.{Calls, design_calls}
use Rattle.ods_calls.specs.Spotted.{spot_in}
use Rattle.ods_calls.specs.Starting.{all_held, spots_of, turned}
use Rattle.ods_calls.proofs.starts.Starts.turned.Goals as goal
use Rattle.rings.specs.Graphs.{is_step}
use Rattle.rings.specs.Reached.{leads}

pub returns-clause-edges : goal.returns-clause-edges
returns-clause-edges c =
    let self = c.args.self.now in
    let x = design_of self.links.now.design.now in
    let same : c.as_slice-2.result.now ≡ map turned (all_held (spot_in self.spots) (design_calls x)) =
    c.as_slice-2.ensures.value ∙ c.in_ok-turned.ensures
    ∙ ap (λ (es : List (ℕ × ℕ)). map turned es) (c.as_slice.ensures.value ∙ c.in_ok-edges.ensures)
    ∙ ap (λ (cs : List Calls). map turned (all_held (spot_in self.spots) cs)) c.requires in
    IfOk-weaker c.new.result (λ g. (a b : ℕ) → leads g a b ≡ is_step self.count c.as_slice-2.result.now a b)
    (λ g. (a b : ℕ) → leads g a b ≡ is_step (length (spots_of x)) (map turned (all_held (spot_in self.spots) (design_calls x))) a b)
    (λ g is a b. is a b ∙ ap (λ es. is_step self.count es a b) same
    ∙ ap (λ n. is_step n (map turned (all_held (spot_in self.spots) (design_calls x))) a b) self.long) c.new.ensures.edges
