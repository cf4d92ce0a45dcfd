use Rattle.std.proofs.Common.{◌≡◌, ℕ, ◌+◌, [], add-zero, ap, arith, refl, subst, sym, ◌∙◌}
use Rattle.seq_tree.specs.Variables.{kept}
use Rattle.machine.specs.States.{Readiness, Task}
use Rattle.machine.specs.Effects.{resting}
use Rattle.task_runtime.specs.Doing.{Does, act_of, given}
use Rattle.task_runtime.specs.Effort.{first_ticks, first_works}
use Rattle.task_runtime.specs.Works.{done_by}
use Rattle.task_runtime.specs.Written.{system_of, thread_of, timing_of}
use Rattle.task_runtime.specs.declared.thread.Thread.{Thread}
use Rattle.task_runtime.specs.Lefts.{pieces_left, vars_left}
use Rattle.task_runtime.specs.Tasks.{task_of}
use Rattle.task_runtime.proofs.After.{goes_done, goes_given, goes_on, stands_as}
use Rattle.task_runtime.proofs.Doing.{falls_on, is_among, stays_inside}
use Rattle.task_runtime.proofs.task.Task.act.Goals as goal

pub returns-in_default : goal.returns-in_default
returns-in_default c =
    let code = c.args.code.now in
    let m = c.args.self.now in
    let s = m.progress.stack in
    let q = c.act-act.new.self in
    let d = c.act-act.ensures.does in
    let st = stands_as code m.progress c.requires.at_work c.args.piece c.requires.piece d.piece d.rest d.first in
    let other = c.in_default.not-Finish in
    let does = subst (λ vs. Does (system_of s.thread) d.piece (vars_left m.progress) d.rest (act_of c.act-act.result) vs (pieces_left q))
    (goes_given c.act-act.result (vars_left m.progress) (vars_left q) other) d.does in
    record {
      at_work = c.act-act.ensures.at_work;
      acts = record {
        piece = d.piece;
        rest = d.rest;
        vars = vars_left q;
        pieces = pieces_left q;
        first = d.first;
        does = does;
        after = goes_on m q c.args.costs.now c.duration-duration.result (vars_left q) c.start-start.result.ticks c.start-start.result.works
            c.act-act.ensures.thread c.duration-duration.ensures.next refl c.start-start.ensures.ticks c.start-start.ensures.works
            ∙ sym (goes_done c.act-act.result c.args.costs.now (vars_left q) (pieces_left q) (task_of m) other);
      };
      thread = c.act-act.ensures.thread;
      works = omega (arith, c.start-start.ensures.some);
      falls = falls_on code m.progress q c.act-act.ensures.at_work c.act-act.ensures.thread c.args.costs.now c.duration-duration.result
          c.requires.ticking c.duration-duration.ensures.long d.piece (vars_left m.progress) (vars_left q) d.rest (act_of c.act-act.result) d.first
          does c.start-start.result.ticks c.start-start.ensures.ticks;
      among = is_among code s (vars_left m.progress) c.args.piece d.piece d.rest (act_of c.act-act.result) (vars_left q) (pieces_left q) st does;
      inside = stays_inside code s (vars_left m.progress) c.args.piece d.piece d.rest (pieces_left m.progress) (act_of c.act-act.result) (vars_left q)
          (pieces_left q) st d.first does;
    }

pub returns-in-Finish-clause-acts : goal.returns-in-Finish-clause-acts
returns-in-Finish-clause-acts c =
    let m = c.args.self.now in
    let s = m.progress.stack in
    let q = c.act-act.new.self in
    let d = c.act-act.ensures.does in
    let none : pieces_left q ≡ [] = c.in-Finish.ensures.ends in
    let ticks = c.start-start.ensures.ticks ∙ ap (first_ticks c.args.costs.now c.duration-duration.result) none in
    let works = ap (λ w. m.works + w) (c.start-start.ensures.works ∙ ap first_works none) ∙ add-zero m.works in
    let view : Thread → Readiness → _ → _ → ℕ → ℕ → Task = λ th r vs ps l w. record (task_of m) {
      thread = thread_of th;
      readiness = r;
      vars = vs;
      pieces = ps;
      left = l;
      works = w;
    } in
    let rests = c.resting-self.ensures.readiness ∙ ap (λ th. resting (timing_of th.timing) m.next) c.act-act.ensures.thread in
    record {
      piece = d.piece;
      rest = d.rest;
      vars = vars_left m.progress;
      pieces = pieces_left q;
      first = d.first;
      does = subst (λ vs. Does (system_of s.thread) d.piece (vars_left m.progress) d.rest (act_of c.act-act.result) vs (pieces_left q)) (ap
          (λ a. given a (vars_left m.progress) (vars_left q)) c.in-Finish.is) d.does;
      after = ap (λ r. view q.stack.thread r (vars_left q) (pieces_left q) c.start-start.result.ticks (m.works + c.start-start.result.works)) rests
          ∙ ap (λ th. view th (resting (timing_of s.thread.timing) m.next) (vars_left q) (pieces_left q) c.start-start.result.ticks
          (m.works + c.start-start.result.works)) c.act-act.ensures.thread
          ∙ ap (λ vs. view s.thread (resting (timing_of s.thread.timing) m.next) vs (pieces_left q) c.start-start.result.ticks
          (m.works + c.start-start.result.works)) c.in-Finish.ensures.keeps
          ∙ ap (λ ps. view s.thread (resting (timing_of s.thread.timing) m.next) (kept s.thread.«data».now (vars_left m.progress)) ps
          c.start-start.result.ticks (m.works + c.start-start.result.works)) none
          ∙ ap (λ l. view s.thread (resting (timing_of s.thread.timing) m.next) (kept s.thread.«data».now (vars_left m.progress)) [] l
          (m.works + c.start-start.result.works)) ticks
          ∙ ap (λ w. view s.thread (resting (timing_of s.thread.timing) m.next) (kept s.thread.«data».now (vars_left m.progress)) [] 0 w) works
          ∙ ap (λ a. done_by a c.args.costs.now (vars_left m.progress) (pieces_left q) (task_of m)) (sym c.in-Finish.is);
    }

pub returns-in-Finish-clause-falls : goal.returns-in-Finish-clause-falls
returns-in-Finish-clause-falls c =
    let code = c.args.code.now in
    let m = c.args.self.now in
    let q = c.act-act.new.self in
    let d = c.act-act.ensures.does in
    falls_on code m.progress q c.act-act.ensures.at_work c.act-act.ensures.thread c.args.costs.now c.duration-duration.result c.requires.ticking
    c.duration-duration.ensures.long d.piece (vars_left m.progress) (given c.act-act.result (vars_left m.progress) (vars_left q)) d.rest
    (act_of c.act-act.result) d.first d.does c.start-start.result.ticks c.start-start.ensures.ticks

pub returns-in-Finish-clause-inside : goal.returns-in-Finish-clause-inside
returns-in-Finish-clause-inside c =
    let code = c.args.code.now in
    let m = c.args.self.now in
    let s = m.progress.stack in
    let q = c.act-act.new.self in
    let d = c.act-act.ensures.does in
    let st = stands_as code m.progress c.requires.at_work c.args.piece c.requires.piece d.piece d.rest d.first in
    stays_inside code s (vars_left m.progress) c.args.piece d.piece d.rest (pieces_left m.progress) (act_of c.act-act.result)
    (given c.act-act.result (vars_left m.progress) (vars_left q)) (pieces_left q) st d.first d.does

pub returns-in-Finish-clause-among : goal.returns-in-Finish-clause-among
returns-in-Finish-clause-among c =
    let code = c.args.code.now in
    let m = c.args.self.now in
    let s = m.progress.stack in
    let q = c.act-act.new.self in
    let d = c.act-act.ensures.does in
    let st = stands_as code m.progress c.requires.at_work c.args.piece c.requires.piece d.piece d.rest d.first in
    is_among code s (vars_left m.progress) c.args.piece d.piece d.rest (act_of c.act-act.result)
    (given c.act-act.result (vars_left m.progress) (vars_left q)) (pieces_left q) st d.does
