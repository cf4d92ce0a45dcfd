use Rattle.std.proofs.Common.{◌≡◌, drop}
use Rattle.seq_cost.specs.Callees.{callee_starts}
use Rattle.seq_cost.proofs.accounts.ListedStartsAccount.count.Given as goal

-- the number is that of the callees that are left
abbrev pub invariant-callees : goal.invariant-callees
invariant-callees l = callee_starts (drop l.callee-index l.self.callees.now) l.object l.op ≡ callee_starts l.self.callees.now l.object l.op
