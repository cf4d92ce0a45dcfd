use Rattle.ada_tree.specs.Trees.{program_of}
use Rattle.seq_print.proofs.Shared.Chains.{writes-same, writes-then}
use Rattle.ada_print.proofs.Layouts.{program-text}
use Rattle.ada_print.proofs.program.add_program.Goals as goal

pub returns : goal.returns
returns c =
    writes-same _ c.args.into.now.items _ _ _ (program-text (program_of c.args.program.now))
    (writes-then _ c.args.into.now.items c.add_opening.new.into.items _ _ _ c.in_ok-add_opening.ensures
    (writes-then _ c.add_opening.new.into.items c.add_hrt.new.into.items _ _ _ c.in_ok-add_hrt.ensures
    (writes-then _ c.add_hrt.new.into.items c.add_package.new.into.items _ _ _ c.in_ok-add_package.ensures
    (writes-then _ c.add_package.new.into.items c.add_specifications.new.into.items _ _ _
    (rw c.deref.ensures.value at c.in_ok-add_specifications.ensures)
    (writes-then _ c.add_specifications.new.into.items c.add_package_body.new.into.items _ _ _ c.in_ok-add_package_body.ensures
    (writes-then _ c.add_package_body.new.into.items c.add_unit_bodies.new.into.items _ _ _
    (rw c.deref-2.ensures.value at c.in_ok-add_unit_bodies.ensures)
    c.add_closing.ensures))))))
