use Rattle.std.proofs.Common.{◌≡◌, ◌≤◌, ℕ, map, subst, sym}
use Rattle.seq_tree.specs.Limits.{tick_limit}
use Rattle.seq_tree.specs.Names.{Name}
use Rattle.seq_tree.specs.Runs.{Callee}
use Rattle.seq_tree.specs.Trees.{block_of, offer_of, operation_of}
use Rattle.law_walks.specs.Fit.{MayRun}
use Rattle.seq_eval.specs.Actions.{action_of}
use Rattle.seq_eval.specs.Bounds.{most_ticks}
use Rattle.seq_eval.specs.Calls.{calls_in}
use Rattle.seq_eval.specs.Following.{Follows, Means, callees}
use Rattle.seq_eval.proofs.along.follow.Goals as goal

pub returns : goal.returns
returns c =
    let a = c.args in
    let b = block_of a.block.now in
    let vars = a.env.now.slots.items in
    let script = map action_of a.script.now in
    let after = c.follow_in.new.env.slots.items in
    let C : Name → Name → Callee = callees a.owners.now (map operation_of a.passive.now) (map offer_of a.shared.now) (map offer_of a.requests.now) in
    let same : calls_in c.in_ok-calls.calls ≡ C = c.in_ok-calls.ensures in
    let cheap : ((d : ℕ) → most_ticks a.costs.now C d b ≤ tick_limit) → (d : ℕ)
    → most_ticks a.costs.now (calls_in c.in_ok-calls.calls) d b ≤ tick_limit
    = λ few d. subst (λ z. most_ticks a.costs.now z d b ≤ tick_limit) (sym same) (few d) in
    record {
      says = λ few depth may. subst (λ z. Follows a.costs.now z depth b vars script c.follow_in.result after) same
          (c.follow_in.ensures.says (cheap few) depth (subst (λ z. MayRun z depth b) (sym same) may));
      means = λ few depth may. subst (λ z. Means a.costs.now z b vars script c.follow_in.result after) same
          (c.follow_in.ensures.means (cheap few) depth (subst (λ z. MayRun z depth b) (sym same) may));
    }
