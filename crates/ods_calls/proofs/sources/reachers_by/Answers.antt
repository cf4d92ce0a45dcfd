use Rattle.std.proofs.Common.{◌≤◌, [], ◌∷◌, Bool, Bor, List, length, map, filter, rules, refl}
use Rattle.seq_tree.proofs.Shared.LoopSteps.{added_step, filter_first}
use Rattle.ods_tree.specs.Designs.{Object}
use Rattle.ods_tree.specs.Trees.{design_of}
use Rattle.ods_tree.specs.declared.design.Node.{Node}
use Rattle.ods_calls.specs.Reaching.{reacher_of, thread_of}
use Rattle.ods_calls.specs.Sourced.{reaches_by}
use Rattle.ods_calls.specs.Spotted.{marked, spot_in}
use Rattle.ods_calls.specs.Starting.{Op}
use Rattle.ods_calls.proofs.LoopEnds.{added_all}
use Rattle.ods_calls.proofs.sources.reachers_by.Goals as goal

pub threads-preserved : goal.threads-preserved
threads-preserved c =
    let p : Object → Bool = reaches_by (design_of c.args.starts.now.links.now.design.now) c.args.target.now
    (λ m. marked c.args.leading.now (spot_in c.args.starts.now.spots (Op m))) in
    added_step (λ (ts : List (Bor Node)). filter p (map thread_of ts)) (filter p (thread_of c.thread-item.result ∷ [])) c.args.threads.now
    c.threads.thread-index c.thread-item.result (map reacher_of c.threads.reachers.items) _ _
    (λ ys. filter_first p (thread_of c.thread-item.result) (map thread_of ys)) c.threads-test.true c.thread-item.is
    c.in_ok-add_reacher.ensures c.threads.invariant

pub returns : goal.returns
returns c =
    let p : Object → Bool = reaches_by (design_of c.args.starts.now.links.now.design.now) c.args.target.now
    (λ m. marked c.args.leading.now (spot_in c.args.starts.now.spots (Op m))) in
    let ended : length c.args.threads.now ≤ c.threads.thread-index = search rules in
    added_all (λ (ts : List (Bor Node)). filter p (map thread_of ts)) c.args.threads.now c.threads.thread-index
    (map reacher_of c.threads.reachers.items) _ ended refl c.threads.invariant
