use Rattle.std.proofs.Common.{ℕ, ap, ◌∙◌, arith, length}
use Rattle.seq_tree.specs.Variables.{kept}
use Rattle.linker.specs.Programs.{datum_names}
use Rattle.task_runtime.specs.Stacked.{vars_of}
use Rattle.task_runtime.specs.Lefts.{vars_left}
use Rattle.task_runtime.proofs.Dones.{returned_inside}
use Rattle.task_runtime.proofs.Endings.{data_kept, data_named, end_data, end_object, ended_data, out_fits}
use Rattle.task_runtime.proofs.Reaching.{close_ends}
use Rattle.task_runtime.proofs.progress.Progress.leave.Goals as goal

pub keep_data-requires-clause-room : goal.keep_data-requires-clause-room
keep_data-requires-clause-room c =
    let s = c.args.self.now.stack in
    let cases = c.in-Some.ensures in
    let g = end_object c.args.code.now s c.requires.at_work.stacked cases.0 c.in-Some.frame cases.1 c.args.entry.object
    c.args.entry.place c.requires.entry in
    let le = c.requires.room g.0 g.1 in
    let same = ap length g.2 in
    omega (arith, le, same)

pub keep_data-requires-clause-there : goal.keep_data-requires-clause-there
keep_data-requires-clause-there c =
    let s = c.args.self.now.stack in
    let cases = c.in-Some.ensures in
    let le = out_fits c.args.code.now s c.requires.at_work.stacked cases.0 c.in-Some.frame cases.1 in
    omega (arith, le)

pub returns-clause-does : goal.returns-clause-does
returns-clause-does c =
    let code = c.args.code.now in
    let p = c.args.self.now in
    let h = c.requires.at_work in
    let ends = close_ends p.piece c.requires.piece in
    let o : ℕ × ℕ = (c.args.entry.object, c.args.entry.place) in
    let fs = c.in-Some.ensures.0 in
    let f = c.in-Some.frame in
    let cases = c.in-Some.ensures in
    let vars = f.body.vars.now in
    let data' = vars_of c.keep_data.new.into.items in
    let same = ended_data code p h ends fs f cases.1 c.end_call.result c.end_call.new.self c.end_call.ensures o c.requires.entry in
    returned_inside code p c.end_call.new.self c.end_call.result c.end_call.ensures c.args.entry.object c.args.entry.place data' c.requires.entry
    (data_kept code p h ends fs f cases.1 data' c.keep_data.ensures.kept ∙ ap (λ ds. kept ds (vars_left p)) same)

pub returns-clause-names : goal.returns-clause-names
returns-clause-names c = λ g there.
    let code = c.args.code.now in
    let p = c.args.self.now in
    let h = c.requires.at_work in
    let ends = close_ends p.piece c.requires.piece in
    let fs = c.in-Some.ensures.0 in
    let f = c.in-Some.frame in
    let cases = c.in-Some.ensures in
    let vars = f.body.vars.now in
    let data' = vars_of c.keep_data.new.into.items in
    data_named code p h ends fs f cases.1 data' (data_kept code p h ends fs f cases.1 data' c.keep_data.ensures.kept)
    ∙ ap datum_names (end_data code p.stack h.stacked fs f cases.1 c.args.entry.object c.args.entry.place c.requires.entry g there)
