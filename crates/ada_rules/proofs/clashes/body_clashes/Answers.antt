use Rattle.std.proofs.Common.{map, sym, ap, ◌∙◌}
use Rattle.ada_rules.specs.Lists.{names_of}
use Rattle.ada_rules.specs.Parts.{body_of, part_of}
use Rattle.name_sets.specs.Sets.{has}
use Rattle.ada_rules.proofs.ClashSteps.{same_answer, block_clash}
use Rattle.ada_rules.proofs.clashes.body_clashes.Goals as goal

pub returns : goal.returns
returns c =
    same_answer c.loops_clash.result _ _
    (block_clash (has c.args.taken.now) (has c.new-inside.result) (has c.add_new.new.inside) (body_of c.args.body.now)
    (names_of c.as_slice.result.now) (map part_of c.as_slice-2.result.now)
    c.new-inside.ensures (ap names_of c.as_slice.ensures.value ∙ c.in_ok-names.ensures) (sym c.if-not-branch.false ∙ c.in_ok-add_new.ensures.new)
    c.in_ok-add_new.ensures.added
    (ap (map part_of) c.as_slice-2.ensures.value ∙ c.in_ok-parts.ensures))
    c.loops_clash.ensures
