use Rattle.std.proofs.Common.{◌∙◌, ℕ, List, Some, cond, ap, sym, refl, Bor}
use Rattle.std.proofs.lemmas.Map.Text.{is_eq-slice_cmp}
use Rattle.std.specs.BTreeMap.{get_by}
use Rattle.std.specs.Cmp.Lexicographic.{slice_cmp}
use Rattle.std.specs.Ordering.{is_eq, nat_cmp}
use Rattle.seq_tree.specs.Names.{same_name}
use Rattle.name_sets.specs.Places.{ends, is_another, place_in}
use Rattle.name_sets.proofs.EndSteps.{firsts_law, others_law}
use Rattle.name_sets.proofs.places.Places.put.Goals as goal

pub returns-then-is_taken-clause-put : goal.returns-then-is_taken-clause-put
unfolding place_in
returns-then-is_taken-clause-put c = λ n.
    let t = c.args.self.now in
    let m = c.bytes-bytes.result.now in
    let q : Bor (List ℕ) = record { ref_ptr = (0, 0); now = n } in
    others_law m n c.args.place (λ e. get_by (nat_cmp e) t.firsts) (get_by (λ k. slice_cmp nat_cmp n k.now) t.others) _
    (ap (λ e. is_another m (get_by (nat_cmp e) t.firsts)) (sym c.ends-number.ensures) ∙ sym c.is_taken.ensures ∙ c.if-is_taken.true)
    (c.in_ok-insert.ensures.updates.0 q
    ∙ ap (λ b. cond b (Some c.args.place) (get_by (λ k. slice_cmp nat_cmp n k.now) t.others)) (is_eq-slice_cmp m n))
    ∙ ap (λ x. cond (same_name x n) (Some c.args.place) (place_in t n)) c.bytes-bytes.ensures.bytes

pub returns-clause-put : goal.returns-clause-put
unfolding place_in
returns-clause-put c = λ n.
    let t = c.args.self.now in
    let m = c.bytes-bytes.result.now in
    firsts_law m n c.args.place c.bytes-bytes.result (λ e. get_by (nat_cmp e) t.firsts) (λ e. get_by (nat_cmp e) c.insert-2.new.self)
    (get_by (λ k. slice_cmp nat_cmp n k.now) t.others) refl
    (ap (λ e. is_another m (get_by (nat_cmp e) t.firsts)) (sym c.ends-number.ensures) ∙ sym c.is_taken.ensures ∙ c.if-is_taken.false)
    (c.in_ok-insert-2.ensures.updates.0 (ends n)
    ∙ ap (λ e. cond (is_eq (nat_cmp e (ends n))) (Some (c.bytes-bytes.result, c.args.place)) (get_by (nat_cmp (ends n)) t.firsts))
    c.ends-number.ensures)
    ∙ ap (λ x. cond (same_name x n) (Some c.args.place) (place_in t n)) c.bytes-bytes.ensures.bytes
