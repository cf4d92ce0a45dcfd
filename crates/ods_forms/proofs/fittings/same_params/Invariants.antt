use Rattle.std.proofs.Common.{◌≡◌, length}
use Rattle.design_rules.specs.Fittings.{same_params}
use Rattle.ods_forms.proofs.fittings.same_params.Given as goal

-- it is up to the parameters that are left
abbrev pub invariant-params : goal.invariant-params
invariant-params l = same_params l.left l.right ≡ same_params l.ps l.qs

-- the parameters that are left
abbrev pub decreases-params : goal.decreases-params
decreases-params l = length l.left
