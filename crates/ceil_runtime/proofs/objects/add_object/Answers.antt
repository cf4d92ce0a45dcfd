use Rattle.std.proofs.Common.{◌≡◌, ◌∙◌, ap, arith, refl, sym, length, List, ◌++◌, map, take, vec_len}
use Rattle.task_runtime.specs.Fitting.{names_of}
use Rattle.seq_tree.specs.Variables.{written}
use Rattle.task_runtime.specs.Stacked.{vars_of}
use Rattle.task_runtime.specs.declared.values.Var.{Var}
use Rattle.ceil_runtime.proofs.ObjectsFound.{adds-nothing, data-names}
use Rattle.ceil_runtime.proofs.objects.add_object.Goals as goal

pub returns-in-Passive-clause-adds : goal.returns-in-Passive-clause-adds
returns-in-Passive-clause-adds c = adds-nothing c.args.place c.args.unit.now _ c.args.objects.now.items c.in-Passive.is refl

pub returns-in-Cyclic-clause-adds : goal.returns-in-Cyclic-clause-adds
returns-in-Cyclic-clause-adds c = adds-nothing c.args.place c.args.unit.now _ c.args.objects.now.items c.in-Cyclic.is refl

pub returns-in-Sporadic-clause-adds : goal.returns-in-Sporadic-clause-adds
returns-in-Sporadic-clause-adds c = adds-nothing c.args.place c.args.unit.now _ c.args.objects.now.items c.in-Sporadic.is refl

pub invariant_of-push_reserved-clause-names : goal.invariant_of-push_reserved-clause-names
invariant_of-push_reserved-clause-names c =
    let ws = c.as_slice-written.result.now in
    let len : vec_len c.fill_data.new.vars ≡ length ws = omega (arith, c.fill_data.ensures.len, c.in_ok-data-in-Shared.ensures.len) in
    ap names_of (c.fill_data.ensures.vars ∙ ap (λ (vs : List Var). written ws ++ vars_of vs) c.in_ok-data-in-Shared.ensures.items) ∙ data-names ws ∙
    ap (λ n. take n (map (λ d. d.name) ws)) (sym len)

pub invariant_of-push_reserved-clause-room : goal.invariant_of-push_reserved-clause-room
invariant_of-push_reserved-clause-room c
    = omega (arith, c.fill_data.ensures.room, c.in_ok-data-in-Shared.ensures.capacity, c.as_slice-written.ensures.len)
