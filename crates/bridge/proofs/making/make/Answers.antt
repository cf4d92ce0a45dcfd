use Rattle.std.proofs.Common.{refl, arith}
use Rattle.ods_tree.specs.Trees.{design_of, flat_of}
use Rattle.ods_rules.specs.Checks.{checked_design}
use Rattle.bridge.proofs.Shared.MadeDesigns.{sound-of, small-of, some-of, room-of, made-of, long-of}
use Rattle.bridge.proofs.making.make.Goals as goal

pub analyse-requires-clause-sound : goal.analyse-requires-clause-sound
analyse-requires-clause-sound c =
    sound-of (checked_design c.args.checked) (design_of c.design.result.now) c.design.ensures.same c.design.ensures.ticked
    c.first_priority-first.result c.first_priority-first.ensures
    (flat_of c.in_ok-flat.flat) c.in_ok-flat.ensures

pub analyse-requires-clause-first : goal.analyse-requires-clause-first
analyse-requires-clause-first c =
    small-of (checked_design c.args.checked) (design_of c.design.result.now) c.design.ensures.same c.design.ensures.ticked
    c.first_priority-first.result c.first_priority-first.ensures
    (flat_of c.in_ok-flat.flat) c.in_ok-flat.ensures

pub text_of-requires-clause-first : goal.text_of-requires-clause-first
text_of-requires-clause-first c =
    some-of (checked_design c.args.checked) (design_of c.design.result.now) c.design.ensures.same c.design.ensures.ticked
    c.first_priority-first.result c.first_priority-first.ensures
    (flat_of c.in_ok-flat.flat) c.in_ok-flat.ensures

pub text_of-requires-clause-room : goal.text_of-requires-clause-room
text_of-requires-clause-room c =
    room-of (checked_design c.args.checked) (design_of c.design.result.now) c.design.ensures.same c.design.ensures.ticked
    c.first_priority-first.result c.first_priority-first.ensures
    (flat_of c.in_ok-flat.flat) c.in_ok-flat.ensures

pub returns-then-len-gt-MOST_BYTES : goal.returns-then-len-gt-MOST_BYTES
returns-then-len-gt-MOST_BYTES c =
    long-of (checked_design c.args.checked) (design_of c.design.result.now) c.design.ensures.same c.design.ensures.ticked
    c.first_priority-first.result c.first_priority-first.ensures
    (flat_of c.in_ok-flat.flat) c.in_ok-flat.ensures c.in-Ok.analysis c.in-Ok.ensures c.in_ok-text.text.items c.in_ok-text.ensures
    (omega (arith, c.len.ensures, c.if-len-gt-MOST_BYTES.true))

pub returns : goal.returns
returns c =
    made-of (checked_design c.args.checked) (design_of c.design.result.now) c.design.ensures.same c.design.ensures.ticked
    c.first_priority-first.result c.first_priority-first.ensures
    (flat_of c.in_ok-flat.flat) c.in_ok-flat.ensures c.in-Ok.analysis c.in-Ok.ensures _ c.in_ok-text.ensures
    (omega (arith, c.len.ensures, c.if-len-gt-MOST_BYTES.false)) refl refl
