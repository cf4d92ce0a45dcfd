use Rattle.std.proofs.Common.{arith}
use Rattle.std.proofs.lemmas.List.{length-map}
use Rattle.ada_tree.specs.Trees.{unit_of}
use Rattle.trace_read.proofs.chains.count_units.Goals as goal

pub returns : goal.returns
returns c = omega (arith, c.len.ensures, c.args.table.now.program.now.units.ok.0, length-map c.args.table.now.program.now.units.items unit_of)
