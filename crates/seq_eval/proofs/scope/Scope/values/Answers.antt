use Rattle.std.proofs.Common.{arith}
use Rattle.seq_eval.proofs.Scoping.{values-on}
use Rattle.seq_eval.proofs.scope.Scope.values.Goals as goal

pub vars-preserved : goal.vars-preserved
vars-preserved c =
    let i = c.vars.invariant in
    record {
      within = omega (arith, i.within);
      values = values-on c.self.inside.vars.items c.vars.at c.index.result.now c.vars.values.items c.push.new.self.items c.vars-test.true i.within
          c.index.ensures i.values c.in_ok-push.ensures.items;
    }
