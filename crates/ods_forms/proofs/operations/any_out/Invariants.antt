use Rattle.std.proofs.Common.{◌≡◌, drop}
use Rattle.std.specs.List.{list_any}
use Rattle.seq_tree.specs.Operations.{is_out}
use Rattle.ods_forms.proofs.operations.any_out.Given as goal

-- it is up to those that are left
abbrev pub invariant-params : goal.invariant-params
invariant-params l = list_any (λ q. is_out q.mode) (drop l.param-index l.params) ≡ list_any (λ q. is_out q.mode) l.params
