use Rattle.std.proofs.Common.{◌≡◌, drop}
use Rattle.seq_cost.specs.Callees.{callee_cost}
use Rattle.seq_cost.proofs.accounts.ListedAccount.count.Given as goal

-- the cost is that of the callees that are left
abbrev pub invariant-callees : goal.invariant-callees
invariant-callees l = callee_cost (drop l.callee-index l.self.callees.now) l.object l.op ≡ callee_cost l.self.callees.now l.object l.op
