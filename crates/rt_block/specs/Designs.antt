-- The flat design that facts are of.
-- All that is made of the facts speaks of it.
use Rattle.ods_tree.specs.Flats.{Flat}
use Rattle.rt_block.specs.Known.{design}
use Rattle.rt_block.specs.declared.facts.Facts.{Facts}

-- the flat design of facts
abbrev pub design_of : Facts → Flat
design_of k = design k.operations
