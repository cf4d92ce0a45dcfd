use Rattle.std.proofs.Common.{min, ap, ◌∙◌}
use Rattle.seq_tree.specs.Dearest.{cost}
use Rattle.seq_tree.specs.Trees.{block_of}
use Rattle.name_sets.specs.Tables.{at}
use Rattle.rt_block.specs.Known.{design}
use Rattle.call_graph.specs.Places.{known_by}
use Rattle.call_graph.specs.Prices.{cap}
use Rattle.call_graph.proofs.Shared.PriceLaws.{block-priced}
use Rattle.rt_block.proofs.bases.block_ticks.Goals as goal

pub returns : goal.returns
returns c =
    let k = c.args.operations.now in
    let f = design k in
    let b = block_of c.args.block.now in
    let place = at k.places in
    c.ticks_of.ensures.ticks ∙ ap (λ vs. min cap (cost f.costs (known_by place vs) b)) (c.as_slice.ensures.value ∙ c.requires.priced)
    ∙ block-priced f place c.requires.placed b
