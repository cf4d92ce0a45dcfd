use Rattle.std.proofs.Common.{ap, sym, ◌∙◌, refl}
use Rattle.arrivals_tree.specs.Acceptance.{has_nothing}
use Rattle.task_runtime.specs.Readies.{rests_as}
use Rattle.task_runtime.specs.Written.{durations_of}
use Rattle.task_runtime.specs.declared.thread.Thread.{Thread}
use Rattle.task_runtime.proofs.task.Task.new.Goals as goal

pub invariant_of-result-clause-handed : goal.invariant_of-result-clause-handed
invariant_of-result-clause-handed c = c.in_ok-durations.ensures ∙ ap durations_of (sym c.in_ok-progress.ensures.thread)

pub invariant_of-result-clause-long : goal.invariant_of-result-clause-long
invariant_of-result-clause-long c = ap has_nothing c.in_ok-durations.ensures ∙ c.requires.long

pub invariant_of-result-clause-rests : goal.invariant_of-result-clause-rests
invariant_of-result-clause-rests c = ap (λ (h : Thread). rests_as c.opening_rest.result h.timing) c.in_ok-progress.ensures.thread ∙
    c.opening_rest.ensures.fits

pub returns-clause-fresh : goal.returns-clause-fresh
returns-clause-fresh c = record {
  thread = c.in_ok-progress.ensures.thread;
  vars = c.in_ok-progress.ensures.vars;
  pieces = c.in_ok-progress.ensures.pieces;
  rests = c.opening_rest.ensures.readiness;
  next = c.opening_time.ensures;
  left = refl;
  used = refl;
  works = refl;
  gate = c.shut.ensures;
  active = refl;
  inside = c.in_ok-inside.ensures.items;
}

pub returns-clause-at_work : goal.returns-clause-at_work
returns-clause-at_work c = c.in_ok-progress.ensures.at_work
