use Rattle.std.proofs.Common.{map, ap, ◌∙◌}
use Rattle.ods_tree.specs.Trees.{flat_of}
use Rattle.rt_block.specs.PartCosts.{part_costs}
use Rattle.scaling.specs.Views.{view_of}
use Rattle.scaling.proofs.PartLaws.{none-dear, named-dear, read-names}
use Rattle.scaling.proofs.failing.too_dear.Goals as goal

pub returns-in-None : goal.returns-in-None
returns-in-None c =
    let g = flat_of c.args.flat.now in
    none-dear g (read-names g (map view_of c.as_slice.result.now) c.as_slice-2.result.now
    (ap (map view_of) c.as_slice.ensures.value ∙ c.in_ok-names.ensures) (c.as_slice-2.ensures.value ∙ c.in_ok-costs.ensures ∙ ap part_costs c.requires)
    ∙ c.in-None.ensures)

pub returns : goal.returns
returns c =
    let g = flat_of c.args.flat.now in
    named-dear g (view_of c.in-Some.part) c.in_ok-cost_of-in-Some.field-0
    (read-names g (map view_of c.as_slice.result.now) c.as_slice-2.result.now
    (ap (map view_of) c.as_slice.ensures.value ∙ c.in_ok-names.ensures) (c.as_slice-2.ensures.value ∙ c.in_ok-costs.ensures ∙ ap part_costs c.requires)
    ∙ c.in-Some.ensures)
    c.in_ok-cost_of-in-Some.ensures
