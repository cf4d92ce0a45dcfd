use Rattle.std.proofs.Common.{◌≡◌, rules, Some, ap, subst, ◌∙◌}
use Rattle.linker.specs.declared.code.Ins.TheVariants as ins
use Rattle.task_runtime.specs.Fitting.{names_of}
use Rattle.task_runtime.specs.Stacked.{vars_of}
use Rattle.task_runtime.specs.Written.{system_of}
use Rattle.task_runtime.specs.Doings.{EntersFirst}
use Rattle.task_runtime.specs.Lefts.{pieces_left, vars_left}
use Rattle.task_runtime.specs.declared.piece.Piece.TheVariants as is
use Rattle.task_runtime.proofs.Callings.{is_full}
use Rattle.task_runtime.proofs.Dones.{called_inside}
use Rattle.task_runtime.proofs.Reaching.{all_lent, entry_of}
use Rattle.task_runtime.proofs.progress.Progress.enter.Goals as goal

pub call-values-requires-clause-lent : goal.call-values-requires-clause-lent
call-values-requires-clause-lent c =
    let k = c.in-Some-Here-Call in
    let outs = k.field-0-0-2 in
    let is' : c.args.self.now.piece ≡ Some (is.Here (ins.Call k.op k.actuals outs)) = search rules in
    let s = entry_of c.args.code.now c.args.self.now.piece c.args.entry.object c.args.entry.place k.op k.actuals outs c.requires.entry is' in
    all_lent c.args.code.now c.args.self.now c.requires.at_work k.op k.actuals outs is' c.args.entry.object c.args.entry.place s.0 s.1 s.2
    (names_of (vars_of c.as_slice.result.now))
    (λ g there. ap (λ vs. names_of (vars_of vs)) c.as_slice.ensures.value ∙ c.requires.names g there)

pub returns-clause-does : goal.returns-clause-does
returns-clause-does c =
    let k = c.in-Some-Here-Call in
    let outs = k.field-0-0-2 in
    let is' : c.args.self.now.piece ≡ Some (is.Here (ins.Call k.op k.actuals outs)) = search rules in
    let p = c.args.self.now in
    let q = c.call-values.new.self in
    let s = entry_of c.args.code.now p.piece c.args.entry.object c.args.entry.place k.op k.actuals outs c.requires.entry is' in
    let d = c.call-values.ensures in
    subst (λ vs. EntersFirst (system_of p.stack.thread) (pieces_left p) (vars_left p) c.args.entry.object c.args.entry.place c.call-values.result
    (vars_of vs) (vars_left q) (pieces_left q)) c.as_slice.ensures.value
    (called_inside c.args.code.now p q k.op c.call-values.result (vars_of c.as_slice.result.now) d c.args.entry.object c.args.entry.place s.0 s.1 s.2
    (is_full c.args.code.now p c.requires.at_work k.op k.actuals outs is' d.unit d.op d.actuals d.rest d.first))
