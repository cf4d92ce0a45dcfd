use Rattle.std.proofs.Common.{◌≡◌, ◌+◌, ◌<◌, ◌≤◌, [], ◌∷◌, ◌++◌, length, set, ap, ◌∙◌, arith}
use Rattle.task_runtime.specs.Slotted.{with_zeros}
use Rattle.task_runtime.proofs.Zeros.{put_away, put_here, set_reached, set_written, slot_fits, zeros_long}
use Rattle.task_runtime.proofs.slots.Slots.put.Goals as goal

pub overflow_add-at : goal.overflow_add-at
overflow_add-at c =
    let t = c.self.inside in
    let i = c.self.invariant in
    let lt = slot_fits t.base t.count t.values.items c.args.self.now c.self.view_is i.0 i.1 c.args.slot c.requires in
    omega (arith, lt, i.2, t.values.ok)

pub fill-requires : goal.fill-requires
fill-requires c =
    let t = c.self.inside in
    let i = c.self.invariant in
    let lt = slot_fits t.base t.count t.values.items c.args.self.now c.self.view_is i.0 i.1 c.args.slot c.requires in
    omega (arith, lt, i.2)

pub push_reserved-requires : goal.push_reserved-requires
push_reserved-requires c =
    let t = c.self.inside in
    let i = c.self.invariant in
    let lt = slot_fits t.base t.count t.values.items c.args.self.now c.self.view_is i.0 i.1 c.args.slot c.requires in
    let filled = ap length c.fill.ensures.items in
    let long = zeros_long (t.base + c.args.slot) t.values.items in
    omega (
      arith,
      lt,
      i.2,
      filled,
      long,
      c.if-at-len.false,
      c.len.ensures,
      t.values.ok.0,
      c.fill.new.written.ok.0,
      c.fill.ensures.room,
    )

pub invariant_of-self-else-at-len : goal.invariant_of-self-else-at-len
invariant_of-self-else-at-len c =
    let t = c.self.inside in
    let i = c.self.invariant in
    let lt = slot_fits t.base t.count t.values.items c.args.self.now c.self.view_is i.0 i.1 c.args.slot c.requires in
    let filled = ap length c.fill.ensures.items in
    let long = zeros_long (t.base + c.args.slot) t.values.items in
    let more = c.push_reserved.ensures.len in
    let before : length t.values.items ≤ t.base + c.args.slot = omega (arith, c.if-at-len.false, c.len.ensures, t.values.ok.0) in
    let all : length c.push_reserved.new.self.items ≡ t.base + c.args.slot + 1 =
    omega (arith, filled, long, more, before, c.fill.new.written.ok.0, c.push_reserved.new.self.ok.0) in
    (omega (arith, all), omega (arith, all, lt), omega (arith, i.2, c.fill.ensures.room, c.push_reserved.ensures.capacity))

pub returns-then-at-len-clause-here : goal.returns-then-at-len-clause-here
returns-then-at-len-clause-here c =
    let t = c.self.inside in
    let i = c.self.invariant in
    let there : t.base + c.args.slot < length t.values.items = omega (arith, c.if-at-len.true, c.len.ensures, t.values.ok.0) in
    put_here t.base t.count t.values.items c.args.self.now c.self.view_is i.0 i.1 c.args.slot c.args.value _
    (set_written t.count (t.base + c.args.slot) c.args.value t.values.items there)

pub returns-then-at-len-clause-away : goal.returns-then-at-len-clause-away
returns-then-at-len-clause-away c =
    let t = c.self.inside in
    let i = c.self.invariant in
    let there : t.base + c.args.slot < length t.values.items = omega (arith, c.if-at-len.true, c.len.ensures, t.values.ok.0) in
    put_away t.base t.count t.values.items c.args.self.now c.self.view_is i.0 i.1 c.args.slot c.args.value _
    (set_written t.count (t.base + c.args.slot) c.args.value t.values.items there)

reached : (c : goal.After-push_reserved) → with_zeros c.self.inside.count c.push_reserved.new.self.items
    ≡ set (with_zeros c.self.inside.count c.self.inside.values.items) (c.self.inside.base + c.args.slot) c.args.value
reached c =
    let t = c.self.inside in
    let i = c.self.invariant in
    let lt = slot_fits t.base t.count t.values.items c.args.self.now c.self.view_is i.0 i.1 c.args.slot c.requires in
    set_reached t.count (t.base + c.args.slot) c.args.value t.values.items c.push_reserved.new.self.items
    (omega (arith, c.if-at-len.false, c.len.ensures, t.values.ok.0)) lt
    (c.push_reserved.ensures.items ∙ ap (λ zs. zs ++ c.args.value ∷ []) c.fill.ensures.items)

pub returns-else-at-len-clause-here : goal.returns-else-at-len-clause-here
returns-else-at-len-clause-here c =
    let t = c.self.inside in
    let i = c.self.invariant in
    put_here t.base t.count t.values.items c.args.self.now c.self.view_is i.0 i.1 c.args.slot c.args.value c.push_reserved.new.self.items
    (reached c)

pub returns-else-at-len-clause-away : goal.returns-else-at-len-clause-away
returns-else-at-len-clause-away c =
    let t = c.self.inside in
    let i = c.self.invariant in
    put_away t.base t.count t.values.items c.args.self.now c.self.view_is i.0 i.1 c.args.slot c.args.value c.push_reserved.new.self.items
    (reached c)
