use Rattle.std.proofs.Common.{rules, ◌≡◌, ◌∷◌, map, sym, ◌∙◌}
use Rattle.name_sets.specs.Sets.{has}
use Rattle.seq_tree.specs.Faults.{out_actuals}
use Rattle.seq_tree.specs.Trees.{expression_of}
use Rattle.seq_check.proofs.SeenLaws.{none_seen, outs_step}
use Rattle.seq_check.proofs.actuals.repeats_by_set.Goals as goal

pub outs-init : goal.outs-init
outs-init c = none_seen (has c.new-seen.result) c.new-seen.ensures (out_actuals c.args.params.now (map expression_of c.args.actuals.now))

pub outs-preserved : goal.outs-preserved
outs-preserved c =
    let params : c.outs.params.now ≡ c.in-Some-Some.param.now ∷ c.in-Some-Some.later.now = search rules in
    let actuals : c.outs.actuals.now ≡ c.in-Some-Some.actual.now ∷ c.in-Some-Some.others.now = search rules in
    sym (outs_step (has c.outs.seen) (has c.add_out_actual.new.seen) c.in-Some-Some.param.now (expression_of c.in-Some-Some.actual.now)
    c.in-Some-Some.later.now
    (map expression_of c.in-Some-Some.others.now) c.in_ok-add_out_actual.ensures.added (sym c.in_ok-add_out_actual.ensures.told ∙ c.if-branch.false))
    ∙ (rw (params, actuals) at c.outs.invariant)
