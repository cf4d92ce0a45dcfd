-- The order of a trace as one test, so that a worked trace is in order by evaluation.
use Rattle.std.specs.Prelude.{◌≡◌, ℕ, nat_eq, nat_le, Bool, true, false, not, ◌&&◌, List, [], ◌∷◌}
use Rattle.std.proofs.Common.{refl}
use Rattle.std.proofs.lemmas.Bool.{eqb-true, leb-true, and_parts, not-true}
use Rattle.ods_tree.specs.Walk.{is_empty}
use Rattle.guarantee.specs.Events.{Event, By, Horizon}
use Rattle.guarantee.specs.Order.{is_stop, is_task_name, IsInOrder}
use Rattle.guarantee.specs.Software.{Task}

-- whether a trace is in order
abbrev pub is_in_order : List Task → ℕ → ℕ → List Event → Bool
is_in_order ts until now [] = false
is_in_order ts until now (By time task deed ∷ told) =
    nat_le now time && (is_task_name ts task && (not (is_stop deed) && is_in_order ts until time told))
is_in_order ts until now (Horizon time ∷ told) = nat_le now time && (nat_eq time until && is_empty told)

none_told : (told : List Event) → is_empty told ≡ true → told ≡ []
none_told [] h = refl
none_told (e ∷ told) h = cc

pub in_order : (ts : List Task) (until now : ℕ) (told : List Event) → is_in_order ts until now told ≡ true → IsInOrder ts until now told
in_order ts until now [] h = cc
in_order ts until now (By time task deed ∷ told) h =
    let a = and_parts (nat_le now time) _ h in
    let b = and_parts (is_task_name ts task) _ a.1 in
    let c = and_parts (not (is_stop deed)) _ b.1 in
    (leb-true now time a.0, b.0, not-true (is_stop deed) c.0, in_order ts until time told c.1)
in_order ts until now (Horizon time ∷ told) h =
    let a = and_parts (nat_le now time) _ h in
    let b = and_parts (nat_eq time until) _ a.1 in
    (leb-true now time a.0, eqb-true time until b.0, none_told told b.1)
