use Rattle.std.proofs.Common.{◌≡◌, ◌∙◌, [], Bor, List, map, drop, arith, ap, sym, ℕ}
use Rattle.std.proofs.lemmas.List.{drop_all}
use Rattle.std.specs.Prelude.{max}
use Rattle.ods_tree.specs.declared.design.Node.{Node}
use Rattle.ods_calls.specs.Spacings.{greatest_separation}
use Rattle.ods_index.specs.Walking.{object_of}
use Rattle.ods_calls.proofs.SpacingLaws.{greatest_step}
use Rattle.ods_calls.proofs.separations.greatest_separation.Goals as goal

pub threads-preserved : goal.threads-preserved
threads-preserved c =
    greatest_step (λ (t : Bor Node). object_of t.now) c.args.threads.now c.threads.node-index c.node-item.result c.threads.greatest
    c.separation_in.result c.max-greatest.result _ c.threads-test.true c.node-item.is c.separation_in.ensures c.max-greatest.ensures
    c.threads.invariant

pub returns : goal.returns
returns c =
    let max-none : (n : ℕ) → n ≡ max n 0 = λ n. grind arith in
    let left : drop c.threads.node-index c.args.threads.now ≡ [] = drop_all c.threads.node-index c.args.threads.now c.threads-test.false in
    max-none c.threads.greatest ∙ ap (λ (ts : List (Bor Node)). max c.threads.greatest (greatest_separation (map (λ t. object_of t.now) ts)))
    (sym left)
    ∙ c.threads.invariant
