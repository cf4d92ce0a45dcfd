-- A task that takes no requests from outside gets no arrivals.
use Rattle.std.specs.Prelude.{◌≡◌, ℕ, slice_get, Some}
use Rattle.std.proofs.Common.{sym, ◌∙◌, ap}
use Rattle.seq_tree.specs.Lists.{Each}
use Rattle.ada_tree.specs.Programs.{Program}
use Rattle.arrivals_tree.specs.Arriving.{Arrivals}
use Rattle.arrivals_tree.specs.Acceptance.{IsAccepted}
use Rattle.machine.specs.Systems.{TaskUnit, system}
use Rattle.law_ceilings.specs.Premises.{IsElsewhere}
use Rattle.std.proofs.lemmas.Option.{same_Some}
use Rattle.law_lists.proofs.Shared.Lists.{each-to}
use Rattle.law_calls.proofs.Shared.Accepted.{IsInside, elsewhere}

-- no arrival is at the place of such a task
pub all_elsewhere : (limit : ℕ) (p : Program) (r : Arrivals) (k : ℕ) (th : TaskUnit) → IsAccepted limit p r
    → slice_get (system p r).threads k ≡ Some th → IsInside th.timing → Each (IsElsewhere (system p r) k) r.items
all_elsewhere limit p r k th accepted at inside =
    each-to (λ a. th.unit ≡ a.task → ⊥) (IsElsewhere (system p r) k) r.items
    (λ a none t stands same. none (ap (λ z. z.unit) (same_Some th t (sym at ∙ stands)) ∙ same))
    (elsewhere limit p r accepted k th at inside)
