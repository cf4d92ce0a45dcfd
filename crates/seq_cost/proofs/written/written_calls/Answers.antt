use Rattle.std.proofs.Common.{◌≡◌, List, map, ◌∙◌}
use Rattle.std.proofs.lemmas.Result.{IfOk-weaker}
use Rattle.seq_tree.specs.Calls.{block_calls}
use Rattle.seq_tree.specs.Trees.{block_of}
use Rattle.seq_cost.specs.Different.{call_of}
use Rattle.seq_cost.specs.Gathered.{block_gathered}
use Rattle.seq_cost.specs.declared.written.Gathered.TheVariants.{Written}
use Rattle.seq_cost.proofs.Gathering.{written-block}
use Rattle.seq_cost.proofs.written.written_calls.Goals as goal

pub returns : goal.returns
returns c =
    let b = block_of c.args.block.now in
    IfOk-weaker c.gathered_calls.result (λ v. map call_of v.items ≡ block_gathered Written b) (λ v. map call_of v.items ≡ block_calls b)
    (λ v is. is ∙ written-block b) c.gathered_calls.ensures
