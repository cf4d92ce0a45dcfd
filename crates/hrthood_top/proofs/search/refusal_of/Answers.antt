use Rattle.std.proofs.Common.{arith}
use Rattle.std.proofs.lemmas.List.{length-map}
use Rattle.ods_tree.specs.Trees.{flat_of, thread_of}
use Rattle.law_orders.specs.Orders.{is_internal}
use Rattle.hrthood_top.proofs.SearchSteps.{found-within}
use Rattle.hrthood_top.proofs.search.refusal_of.Goals as goal

pub name_of-requires : goal.name_of-requires
name_of-requires c =
    let within = found-within (λ t. is_internal t.timing) 0 c.in-Started.thread (flat_of c.args.flat.now).threads (rw c.in-Started.is at c.requires) in
    let same = length-map c.args.flat.now.threads.items thread_of in
    omega (arith, within, same)
