use Rattle.std.proofs.Common.{◌<◌, length, arith, subst, ◌∙◌}
use Rattle.linker.specs.Nodes.{Links, IsBelow, reach}
use Rattle.linker.specs.declared.nodes.Node.TheVariants as node
use Rattle.linker.proofs.Shared.NodeValues.{number_value, slot_value_is, not_value, binary_value}
use Rattle.linker.proofs.Reaches.{below_more, has_below, node_at, place_below, reach_falls}
use Rattle.linker.proofs.values.+value_at.Goals as goal

pub value_at-value-requires : goal.value_at-value-requires
value_at-value-requires t c =
    let n = length c.args.nodes.now in
    let k = c.in-Node.place in
    let within : k < n = place_below c.args.operand n k c.in-Node.is c.requires.below in
    let below : IsBelow k c.in-Not.inner = has_below c.args.nodes.now k _
    (node.Not c.in-Not.is_boolean c.in-Not.inner) c.requires.ordered within c.in-Not.is in
    let r : reach c.in-Not.inner < reach c.args.operand = reach_falls c.args.operand c.in-Not.inner k c.in-Node.is below in
    let d = c.decreases in
    (omega (arith, r, d), (c.requires.ordered, below_more c.in-Not.inner k n below (omega (arith, within))))

pub value_at-first-requires : goal.value_at-first-requires
value_at-first-requires t c =
    let n = length c.args.nodes.now in
    let k = c.in-Node.place in
    let within : k < n = place_below c.args.operand n k c.in-Node.is c.requires.below in
    let below = has_below c.args.nodes.now k _
    (node.Binary c.in-Binary.op c.in-Binary.left c.in-Binary.right) c.requires.ordered within c.in-Binary.is in
    let r : reach c.in-Binary.left < reach c.args.operand = reach_falls c.args.operand c.in-Binary.left k c.in-Node.is below.0 in
    let d = c.decreases in
    (omega (arith, r, d), (c.requires.ordered, below_more c.in-Binary.left k n below.0 (omega (arith, within))))

pub value_at-second-requires : goal.value_at-second-requires
value_at-second-requires t c =
    let n = length c.args.nodes.now in
    let k = c.in-Node.place in
    let within : k < n = place_below c.args.operand n k c.in-Node.is c.requires.below in
    let below = has_below c.args.nodes.now k _
    (node.Binary c.in-Binary.op c.in-Binary.left c.in-Binary.right) c.requires.ordered within c.in-Binary.is in
    let r : reach c.in-Binary.right < reach c.args.operand = reach_falls c.args.operand c.in-Binary.right k c.in-Node.is below.1 in
    let d = c.decreases in
    (omega (arith, r, d), (c.requires.ordered, below_more c.in-Binary.right k n below.1 (omega (arith, within))))

pub returns-in-Number : goal.returns-in-Number
returns-in-Number t c = λ e scope i. number_value c.args.nodes.now c.args.slots.now c.in-Number.value e scope
    (subst (λ z. Links c.args.nodes.now scope z e) c.in-Number.is i)

pub returns-in-Slot : goal.returns-in-Slot
returns-in-Slot t c = λ e scope i. c.slot_value.ensures ∙ slot_value_is c.args.nodes.now c.args.slots.now c.in-Slot.slot e scope
    (subst (λ z. Links c.args.nodes.now scope z e) c.in-Slot.is i)

pub returns-in-Not : goal.returns-in-Not
returns-in-Not t c =
    let n = length c.args.nodes.now in
    let k = c.in-Node.place in
    let within : k < n = place_below c.args.operand n k c.in-Node.is c.requires.below in
    let here = node_at c.args.nodes.now k _ (node.Not c.in-Not.is_boolean c.in-Not.inner) within c.in-Not.is in
    λ e scope i. c.invert.ensures ∙ not_value c.args.nodes.now c.args.slots.now k c.in-Not.is_boolean c.in-Not.inner c.value_at-value.result here
    c.value_at-value.ensures e scope (subst (λ z. Links c.args.nodes.now scope z e) c.in-Node.is i)

pub returns-in-Binary : goal.returns-in-Binary
returns-in-Binary t c =
    let n = length c.args.nodes.now in
    let k = c.in-Node.place in
    let within : k < n = place_below c.args.operand n k c.in-Node.is c.requires.below in
    let here = node_at c.args.nodes.now k _ (node.Binary c.in-Binary.op c.in-Binary.left c.in-Binary.right) within c.in-Binary.is in
    λ e scope i. c.combine.ensures ∙ binary_value c.args.nodes.now c.args.slots.now k c.in-Binary.op c.in-Binary.left c.in-Binary.right
    c.value_at-first.result c.value_at-second.result here c.value_at-first.ensures c.value_at-second.ensures e scope
    (subst (λ z. Links c.args.nodes.now scope z e) c.in-Node.is i)
