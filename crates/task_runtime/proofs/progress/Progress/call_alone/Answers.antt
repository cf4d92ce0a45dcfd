use Rattle.std.proofs.Common.{length, refl, subst, sym, arith, ap, not, is_some, ◌∙◌}
use Rattle.std.proofs.lemmas.Option.{slice_get_read}
use Rattle.task_runtime.specs.Alongs.{has_no_owner}
use Rattle.task_runtime.specs.Doings.{HasNoOwner}
use Rattle.task_runtime.proofs.Alongs.{call_goes}
use Rattle.task_runtime.proofs.Callings.{op_there}
use Rattle.task_runtime.proofs.Reaching.{none_lent, owner_there}
use Rattle.task_runtime.proofs.progress.Progress.call_alone.Goals as goal

pub index-requires : goal.index-requires
index-requires c =
    let p = c.requires.piece in
    let lt = op_there c.args.code.now c.args.self.now c.requires.at_work c.args.op c.args.actuals p.0 p.1 in
    omega (arith, lt, c.args.code.now.ops.ok.0)

pub call-requires-clause-lent : goal.call-requires-clause-lent
call-requires-clause-lent c =
    let p = c.requires.piece in
    let code = c.args.code.now in
    let ops = code.ops.items in
    let lt = op_there code c.args.self.now c.requires.at_work c.args.op c.args.actuals p.0 p.1 in
    none_lent code c.args.self.now c.requires.at_work c.args.op c.args.actuals p.0 p.1
    (subst HasNoOwner (sym (owner_there code c.args.op c.index.result.now
    (slice_get_read ops (length ops) c.args.op c.index.result.now refl lt c.index.ensures))) c.in_default.is)

pub returns-clause-goes : goal.returns-clause-goes
returns-clause-goes c =
    let p = c.requires.piece in
    let code = c.args.code.now in
    let ops = code.ops.items in
    let lt = op_there code c.args.self.now c.requires.at_work c.args.op c.args.actuals p.0 p.1 in
    call_goes code c.args.self.now c.call.new.self c.args.op c.call.result c.call.ensures
    (subst HasNoOwner (sym (owner_there code c.args.op c.index.result.now
    (slice_get_read ops (length ops) c.args.op c.index.result.now refl lt c.index.ensures))) c.in_default.is)

pub returns-clause-alone : goal.returns-clause-alone
returns-clause-alone c =
    let p = c.requires.piece in
    let code = c.args.code.now in
    let ops = code.ops.items in
    let lt = op_there code c.args.self.now c.requires.at_work c.args.op c.args.actuals p.0 p.1 in
    sym (ap has_no_owner (owner_there code c.args.op c.index.result.now
    (slice_get_read ops (length ops) c.args.op c.index.result.now refl lt c.index.ensures)) ∙ ap (λ o. not (is_some o)) c.in_default.is)

pub returns-in-Some-clause-alone : goal.returns-in-Some-clause-alone
returns-in-Some-clause-alone c =
    let p = c.requires.piece in
    let code = c.args.code.now in
    let ops = code.ops.items in
    let lt = op_there code c.args.self.now c.requires.at_work c.args.op c.args.actuals p.0 p.1 in
    sym (ap has_no_owner (owner_there code c.args.op c.index.result.now
    (slice_get_read ops (length ops) c.args.op c.index.result.now refl lt c.index.ensures)) ∙ ap (λ o. not (is_some o)) c.in-Some.is)
