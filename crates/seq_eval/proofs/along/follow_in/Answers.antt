use Rattle.std.proofs.Common.{◌≡◌, ◌-◌, ◌≤◌, Ok, length, map, ap, arith, subst, sym, ◌∙◌}
use Rattle.std.proofs.lemmas.Bool.{eq-eqb, eqb-true, false≢true}
use Rattle.std.proofs.lemmas.List.{length-map}
use Rattle.seq_tree.specs.Trees.{block_of}
use Rattle.seq_eval.specs.Actions.{action_of}
use Rattle.seq_eval.specs.Calls.{calls_in}
use Rattle.seq_eval.specs.Following.{Follows, Means}
use Rattle.seq_eval.specs.Scripts.{IsWithin, answered, followed_as}
use Rattle.seq_eval.specs.declared.action.Followed.TheVariants as followed
use Rattle.seq_eval.proofs.Answering.{as-off, as-short, means-failed}
use Rattle.seq_eval.proofs.along.follow_in.Goals as goal

pub returns-in-Done : goal.returns-in-Done
returns-in-Done c =
    let a = c.args in
    let calls = calls_in a.calls.now in
    let b = block_of a.block.now in
    let vars = a.env.now.slots.items in
    let after = c.follow_actions.new.env.slots.items in
    let script = map action_of a.script.now in
    let same : answered (λ s. map action_of s.now) (length script) c.follow_actions.result ≡ Ok (followed.Done c.in-Done.low c.in-Done.high)
    = ap (answered (λ s. map action_of s.now) (length script)) c.in_ok-low.was ∙ ap (λ x. Ok (followed_as (λ s. map action_of s.now)
    (length script) x)) c.in-Done.is in
    record {
      says = λ cheap depth may. subst (λ r. Follows a.costs.now calls depth b vars script r after) same
          (c.follow_actions.ensures.says cheap depth may);
      means = λ cheap depth may. subst (λ r. Means a.costs.now calls b vars script r after) same (c.follow_actions.ensures.means cheap depth may);
    }

pub returns-then-is_empty : goal.returns-then-is_empty
returns-then-is_empty c =
    let a = c.args in
    let calls = calls_in a.calls.now in
    let b = block_of a.block.now in
    let vars = a.env.now.slots.items in
    let after = c.follow_actions.new.env.slots.items in
    let script = map action_of a.script.now in
    let rest = c.in-Stopped.rest.now in
    let same : answered (λ s. map action_of s.now) (length script) c.follow_actions.result ≡ Ok followed.Short
    = ap (answered (λ s. map action_of s.now) (length script)) c.in_ok-low.was ∙ ap (λ x. Ok (followed_as (λ s. map action_of s.now)
    (length script) x)) c.in-Stopped.is
    ∙ ap (λ x. Ok x) (as-short (length script) (length (map action_of rest)) (length-map rest action_of
    ∙ eqb-true (length rest) 0 (sym c.is_empty.ensures ∙ c.if-is_empty.true))) in
    record {
      says = λ cheap depth may. subst (λ r. Follows a.costs.now calls depth b vars script r after) same
          (c.follow_actions.ensures.says cheap depth may);
      means = λ cheap depth may. subst (λ r. Means a.costs.now calls b vars script r after) same (c.follow_actions.ensures.means cheap depth may);
    }

pub returns-else-is_empty : goal.returns-else-is_empty
returns-else-is_empty c =
    let a = c.args in
    let calls = calls_in a.calls.now in
    let b = block_of a.block.now in
    let vars = a.env.now.slots.items in
    let after = c.follow_actions.new.env.slots.items in
    let script = map action_of a.script.now in
    let rest = c.in-Stopped.rest.now in
    let same : answered (λ s. map action_of s.now) (length script) c.follow_actions.result
    ≡ Ok (followed.Off (length a.script.now - length rest))
    = ap (answered (λ s. map action_of s.now) (length script)) c.in_ok-low.was ∙ ap (λ x. Ok (followed_as (λ s. map action_of s.now)
    (length script) x)) c.in-Stopped.is
    ∙ ap (λ x. Ok x) (as-off (length script) (length (map action_of rest)) (length a.script.now) (length rest) (length-map a.script.now action_of)
    (length-map rest action_of) (λ h. false≢true (sym c.if-is_empty.false ∙ c.is_empty.ensures ∙ eq-eqb (length rest) 0 h))) in
    record {
      says = λ cheap depth may. subst (λ r. Follows a.costs.now calls depth b vars script r after) same
          (c.follow_actions.ensures.says cheap depth may);
      means = λ cheap depth may. subst (λ r. Means a.costs.now calls b vars script r after) same (c.follow_actions.ensures.means cheap depth may);
    }

pub returns-in_err-low-clause-means : goal.returns-in_err-low-clause-means
returns-in_err-low-clause-means c cheap depth may =
    let a = c.args in
    means-failed a.costs.now (calls_in a.calls.now) (block_of a.block.now) a.env.now.slots.items (map action_of a.script.now) c.from_residual.result
    c.follow_actions.new.env.slots.items c.from_residual.ensures.0 (c.in_err-low.ensures.means cheap depth may)

pub overflow_sub-result : goal.overflow_sub-result
overflow_sub-result c =
    let script = c.args.script.now in
    let rest = c.in-Stopped.rest.now in
    let within : length (map action_of rest) ≤ length (map action_of script)
    = subst (IsWithin (λ s. map action_of s.now) (length (map action_of script))) c.in-Stopped.is c.in_ok-low.ensures.within in
    let e = length-map script action_of in let f = length-map rest action_of in omega (arith, within, e, f)
