-- The design whose blocks were priced.
use Rattle.ods_tree.specs.Designs.{Design}
use Rattle.ods_tree.specs.Trees.{design_of}
use Rattle.ods_calls.specs.declared.costs.Priced.{Priced}

-- the design that prices are of
abbrev pub priced_design : Priced → Design
priced_design p = design_of p.links.now.design.now
