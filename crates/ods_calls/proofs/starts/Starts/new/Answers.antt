use Rattle.std.proofs.Common.{sym, subst}
use Rattle.ods_tree.specs.Trees.{design_of}
use Rattle.ods_tree.specs.declared.design.Design as code
use Rattle.design_rules.specs.Rules.{Fitting}
use Rattle.ods_index.specs.Judging.{Passes}
use Rattle.ods_calls.proofs.starts.Starts.new.Goals as goal

pub invariant_of-result-clause-fits : goal.invariant_of-result-clause-fits
invariant_of-result-clause-fits c = subst (λ (d : code.Design). Passes (design_of d) Fitting) (sym c.requires.indexed.linked) c.requires.fits
