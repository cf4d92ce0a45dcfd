use Rattle.std.proofs.Common.{◌≡◌, ◌∷◌, [], length, rules, arith, ap}
use Rattle.std.specs.Prelude.{drop}
use Rattle.task_runtime.proofs.Passing.{values_few}
use Rattle.task_runtime.proofs.Skips.{count_in}
use Rattle.task_runtime.proofs.hands.+ins_len.Goals as goal

pub overflow_add-result : goal.overflow_add-result
overflow_add-result t c =
    let here : c.args.params.now ≡ c.in-Some.param.now ∷ c.in-Some.params.now = search rules in
    let e = c.ins_len.ensures [] in
    let few = values_few c.in-Some.params.now [] in
    let k = ap length here in
    omega (arith, e, few, k, c.in-Some.ensures.cases.1)

pub returns-in-In : goal.returns-in-In
returns-in-In t c = λ es.
    let here : c.args.params.now ≡ c.in-Some.param.now ∷ c.in-Some.params.now = search rules in
    let e = count_in c.args.params.now c.in-Some.param.now c.in-Some.params.now here c.in-In.is es in
    let f = c.ins_len.ensures (drop 1 es) in
    omega (arith, e, f)
