use Rattle.std.proofs.Common.{◌≡◌, ◌++◌, drop}
use Rattle.seq_print.specs.Printing.{params_more}
use Rattle.seq_print.proofs.params.add_more.Given as goal

-- with the parameters that are left, all have been added
abbrev pub invariant-params : goal.invariant-params
invariant-params l = l.into.items ++ params_more (drop l.param-index l.params) ≡ l.initial.into.items ++ params_more l.params
