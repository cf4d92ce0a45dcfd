use Rattle.std.proofs.Common.{◌∙◌, ℕ, List, Bor, ap, cond, true}
use Rattle.std.specs.Ordering.{is_eq, nat_cmp, ordering_then}
use Rattle.std.specs.Cmp.Lexicographic.{slice_cmp}
use Rattle.ods_names.specs.Keys.{end_of, has_key}
use Rattle.ods_names.proofs.KeySteps.{added_key}
use Rattle.ods_names.proofs.keys.Keys.add.Goals as goal

pub returns : goal.returns
unfolding has_key
returns c = λ p r o n.
    let k : ℕ × ℕ × ℕ × Bor (List ℕ) × Bor (List ℕ) =
    (p, r, end_of n, record { ref_ptr = (0, 0); now = o }, record { ref_ptr = (0, 0); now = n }) in
    c.in_ok-insert.ensures.updates.0 k
    ∙ ap (λ e. cond (is_eq (ordering_then (ordering_then (ordering_then (ordering_then (nat_cmp c.args.place p) (nat_cmp c.args.number r))
    (nat_cmp e (end_of n))) (slice_cmp nat_cmp c.args.op.now o)) (slice_cmp nat_cmp c.args.name.now n))) true (has_key c.args.self.now p r o n))
    c.end_of.ensures
    ∙ added_key c.args.place c.args.number p r c.args.op.now c.args.name.now o n (has_key c.args.self.now p r o n)
