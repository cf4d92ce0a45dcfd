use Rattle.std.proofs.Common.{◌≡◌, ◌++◌, map, drop, length}
use Rattle.call_graph.specs.Entries.{entry_at}
use Rattle.rt_block.specs.Longest.{section_prices}
use Rattle.rt_block.proofs.sections.section_prices.Given as goal

-- the numbers so far, and those of the operations that are left
abbrev pub invariant-services : goal.invariant-services
invariant-services l = record {
  numbers : l.sections.items ++ section_prices (map entry_at (drop l.i l.services)) (drop l.i l.prices)
      ≡ section_prices (map entry_at l.services) l.prices;
  many : length l.sections.items ≡ l.i;
}
