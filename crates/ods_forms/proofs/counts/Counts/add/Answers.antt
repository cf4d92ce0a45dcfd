use Rattle.std.proofs.Common.{◌∙◌, ◌+◌, Some, cond, ap}
use Rattle.seq_tree.specs.Names.{same_name}
use Rattle.name_sets.specs.Places.{place_in}
use Rattle.name_sets.specs.Tables.{or_0}
use Rattle.ods_forms.specs.Counts.{count_in}
use Rattle.ods_forms.proofs.CountSteps.{counted_name}
use Rattle.ods_forms.proofs.counts.Counts.add.Goals as goal

pub returns : goal.returns
unfolding count_in
returns c = λ n.
    let old = place_in c.args.self.now.places in
    ap or_0 (c.in_ok-put.ensures.put n)
    ∙ ap (λ count. or_0 (cond (same_name c.args.name.now n) (Some (count + 1)) (old n))) c.get-count.ensures
    ∙ counted_name c.args.name.now n old
