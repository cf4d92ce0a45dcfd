use Rattle.std.proofs.Common.{◌≡◌, map, ◌∙◌}
use Rattle.std.proofs.lemmas.Result.{IfOk-weaker}
use Rattle.seq_tree.specs.Trees.{block_of}
use Rattle.analysis.specs.Sections.{live_calls}
use Rattle.seq_cost.specs.Different.{call_of}
use Rattle.seq_cost.specs.Gathered.{block_gathered}
use Rattle.seq_cost.specs.declared.written.Gathered.TheVariants.{Live}
use Rattle.rt_block.proofs.LiveLaws.{gathered-block}
use Rattle.rt_block.proofs.calls.calls_made.Goals as goal

pub returns : goal.returns
returns c =
    let b = block_of c.args.block.now in
    IfOk-weaker c.gathered_calls.result (λ v. map call_of v.items ≡ block_gathered Live b) (λ v. map call_of v.items ≡ live_calls b)
    (λ v is. is ∙ gathered-block b) c.gathered_calls.ensures
