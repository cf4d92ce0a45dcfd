use Rattle.std.proofs.Common.{◌≡◌, List, [], ◌∷◌, length, ap, refl, sym, ◌∙◌, subst, rules, arith}
use Rattle.std.proofs.lemmas.List.{length-append}
use Rattle.std.proofs.lemmas.Option.{slice_get_read}
use Rattle.seq_tree.specs.Values.{value}
use Rattle.linker.specs.Nodes.{IsBelow, Links}
use Rattle.linker.specs.declared.nodes.Node.{Node}
use Rattle.linker.specs.Standing.{lists_of}
use Rattle.task_runtime.proofs.Passing.{hand_step, values_here, values_next}
use Rattle.task_runtime.proofs.Skips.{hand_none, past_step, value_below, values_past}
use Rattle.task_runtime.proofs.hands.+hand_in.Goals as goal

pub index-requires : goal.index-requires
index-requires t c =
    let here : c.args.params.now ≡ c.in-Some.param.now ∷ c.in-Some.params.now = search rules in
    let lt = values_here (lists_of c.args.code.now) c.args.first c.args.params.now c.in-Some.param.now c.in-Some.params.now here c.in-In.is
    c.requires.there in
    let long = c.args.code.now.actuals.ok.0 in
    omega (arith, lt, long)

pub value_at-requires-clause-below : goal.value_at-requires-clause-below
value_at-requires-clause-below t c =
    let here : c.args.params.now ≡ c.in-Some.param.now ∷ c.in-Some.params.now = search rules in
    let lt = values_here (lists_of c.args.code.now) c.args.first c.args.params.now c.in-Some.param.now c.in-Some.params.now here c.in-In.is
    c.requires.there in
    let items = c.args.code.now.actuals.items in
    subst (λ (ns : List Node). IsBelow (length ns) c.index.result.now) (sym c.deref.ensures.value)
    (value_below (lists_of c.args.code.now) c.args.first c.args.params.now c.in-Some.param.now c.in-Some.params.now here c.in-In.is c.requires.there
    c.index.result.now (slice_get_read items (length items) c.args.first c.index.result.now refl lt c.index.ensures))

pub hand_in-requires : goal.hand_in-requires
hand_in-requires t c =
    let ps = c.in-Some.params.now in
    let here : c.args.params.now ≡ c.in-Some.param.now ∷ ps = search rules in
    let d = c.decreases in
    let e = ap length here in
    let a = ap length c.push.ensures in
    let b = length-append c.args.values.now (c.value_at.result ∷ []) in (
      omega (arith, d, e),
      (
        c.requires.ordered,
        (
          omega (arith, a, b, e, c.requires.room),
          values_next (lists_of c.args.code.now) c.args.first c.args.params.now c.in-Some.param.now ps here c.in-In.is c.requires.there,
        ),
      ),
    )

pub hand_in-requires-in-Out : goal.hand_in-requires-in-Out
hand_in-requires-in-Out t c =
    let ps = c.in-Some.params.now in
    let here : c.args.params.now ≡ c.in-Some.param.now ∷ ps = search rules in
    let d = c.decreases in
    let e = ap length here in (
      omega (arith, d, e),
      (
        c.requires.ordered,
        (
          omega (arith, e, c.requires.room),
          values_past (lists_of c.args.code.now) c.args.first c.args.params.now c.in-Some.param.now ps here c.in-Out.is c.requires.there,
        ),
      ),
    )

pub returns-in_default : goal.returns-in_default
returns-in_default t c = λ scope es st. hand_none c.args.params.now c.in_default.ensures.cases c.args.values.now _ es

pub returns-in-In : goal.returns-in-In
returns-in-In t c =
    let here : c.args.params.now ≡ c.in-Some.param.now ∷ c.in-Some.params.now = search rules in
    let lt = values_here (lists_of c.args.code.now) c.args.first c.args.params.now c.in-Some.param.now c.in-Some.params.now here c.in-In.is
    c.requires.there in
    let items = c.args.code.now.actuals.items in
    hand_step (lists_of c.args.code.now) c.args.first c.args.params.now c.in-Some.param.now c.in-Some.params.now here c.in-In.is c.args.slots.now.here
    c.args.values.now c.push.new.self c.hand_in.new.values c.value_at.result c.index.result.now
    (slice_get_read items (length items) c.args.first c.index.result.now refl lt c.index.ensures) c.push.ensures
    (λ e scope k. c.value_at.ensures e scope (subst (λ (ns : List Node). Links ns scope c.index.result.now e) (sym c.deref.ensures.value) k)
    ∙ ap (value e) (c.here.ensures scope))
    c.hand_in.ensures

pub returns-in-Out : goal.returns-in-Out
returns-in-Out t c =
    let here : c.args.params.now ≡ c.in-Some.param.now ∷ c.in-Some.params.now = search rules in
    past_step (lists_of c.args.code.now) c.args.first c.args.params.now c.in-Some.param.now c.in-Some.params.now here c.in-Out.is
    c.args.slots.now.here c.args.values.now c.hand_in-in-Out.new.values c.hand_in-in-Out.ensures
