use Rattle.std.proofs.Common.{◌∙◌, None, ap, slice_index_or, slice_set}
use Rattle.ods_tree.specs.declared.design.Attr.{Attr}
use Rattle.ods_tree.specs.declared.design.AttrKey.TheVariants.{Period}
use Rattle.ods_forms.specs.Whole.{attribute_set}
use Rattle.ods_forms.proofs.Shared.SetSteps.{written}
use Rattle.ods_forms.proofs.ticks.set_attrs.Goals as goal

pub attrs-preserved : goal.attrs-preserved
attrs-preserved c =
    let other : Attr = record { key = Period; value = 0; unit = None } in
    ap (λ v. slice_set c.attrs.attrs c.attrs.place (record { key = (slice_index_or c.attrs.attrs c.attrs.place other).key; value = v; unit = None }))
    c.count_set.ensures
    ∙ written (attribute_set c.args.tick) c.args.attrs.now c.attrs.attrs c.attrs.place other c.attrs-test.true c.attrs.invariant
