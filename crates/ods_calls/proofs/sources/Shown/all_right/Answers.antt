use Rattle.std.proofs.Common.{rules, ◌≡◌, ◌∙◌, [], true, Bor, List, map, drop, ap, sym}
use Rattle.std.proofs.lemmas.List.{drop_all}
use Rattle.std.specs.Prelude.{filter_map}
use Rattle.ods_tree.specs.Trees.{design_of}
use Rattle.ods_tree.specs.declared.design.Node.{Node}
use Rattle.ods_calls.specs.Reaching.{thread_of}
use Rattle.ods_calls.specs.Requested.{source_fault}
use Rattle.ods_calls.proofs.LoopSteps.{quiet_step}
use Rattle.ods_calls.proofs.sources.Shown.all_right.Goals as goal

pub threads-preserved : goal.threads-preserved
threads-preserved c =
    let x = design_of c.args.self.now.starts.links.now.design.now in
    let yes : c.is_right.result ≡ true = search rules in
    quiet_step (source_fault x) thread_of c.args.self.now.threads.items c.threads.thread-index c.thread-item.result _
    (rw c.deref-thread-items.ensures.value at c.threads-test.true)
    (rw c.deref-thread-items.ensures.value at c.thread-item.is) (c.is_right.ensures yes) c.threads.invariant

pub returns : goal.returns
returns c = λ shown.
    let x = design_of c.args.self.now.starts.links.now.design.now in
    let threads = c.args.self.now.threads.items in
    let left : drop c.threads.thread-index threads ≡ [] = drop_all c.threads.thread-index threads
    (rw c.deref-thread-items.ensures.value at c.threads-test.false) in
    sym c.threads.invariant ∙ ap (λ (ts : List (Bor Node)). filter_map (source_fault x) (map thread_of ts)) left
