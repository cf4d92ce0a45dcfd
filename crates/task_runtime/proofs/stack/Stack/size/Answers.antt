use Rattle.std.proofs.Common.{arith}
use Rattle.task_runtime.proofs.Sizes.{size_called, size_requested}
use Rattle.task_runtime.proofs.Reserves.{few_slots}
use Rattle.task_runtime.proofs.stack.Stack.size.Goals as goal

pub overflow_add-result-in-Some : goal.overflow_add-result-in-Some
overflow_add-result-in-Some c =
    let cases = c.in-Some.ensures in
    let e = size_called c.args.self.now cases.0 c.in-Some.frame cases.1 in
    let le = few_slots c.requires.0 c.args.self.now c.requires.1 in
    omega (arith, e, le)

pub overflow_add-result-in-Some-2 : goal.overflow_add-result-in-Some-2
overflow_add-result-in-Some-2 c =
    let cases = c.in-Some.ensures in
    let e = size_called c.args.self.now cases.0 c.in-Some.frame cases.1 in
    let le = few_slots c.requires.0 c.args.self.now c.requires.1 in
    omega (arith, e, le)

pub returns-in-Some : goal.returns-in-Some
returns-in-Some c =
    let cases = c.in-Some.ensures in
    let e = size_called c.args.self.now cases.0 c.in-Some.frame cases.1 in
    omega (arith, e)

pub returns-in-Requested : goal.returns-in-Requested
returns-in-Requested c =
    let none = c.in-None.ensures in
    let e = size_requested c.args.self.now none c.in-Requested.op _ _ _ _ c.in-Requested.is in
    omega (arith, e)
