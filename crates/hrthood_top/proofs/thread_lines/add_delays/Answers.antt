use Rattle.std.proofs.Common.{rules, ◌≡◌, ◌∷◌, ap, subst}
use Rattle.seq_tree.specs.Lists.{Each}
use Rattle.explanation.specs.declared.reasons.Reasons.{Reasons}
use Rattle.explanation.specs.Delays.{delay_by}
use Rattle.explanation.specs.Threads.{HasPeriod}
use Rattle.hrthood_top.specs.Explanations.{delayed_line}
use Rattle.hrthood_top.proofs.ExplainSteps.{next-line}
use Rattle.hrthood_top.proofs.thread_lines.add_delays.Goals as goal

pub threads-preserved : goal.threads-preserved
threads-preserved c =
    let is : c.threads.left.now ≡ c.in-Some.other.now ∷ c.in-Some.more.now = search rules in
    let some : Each HasPeriod (c.in-Some.other.now ∷ c.in-Some.more.now) = subst (Each HasPeriod) is c.threads.invariant.some in
    record {
      some = some.1;
      same = next-line
          (λ (o : Reasons). delayed_line c.args.thread.now c.args.window o.name (delay_by c.args.threads.now c.args.window o.row))
          c.in-Some.other.now c.threads.left.now c.in-Some.more.now _ _ _ _ is
          (ap (delayed_line c.args.thread.now c.args.window c.in-Some.other.now.name) c.delay_of-delay.ensures) (search rules) c.threads.invariant.same;
    }
