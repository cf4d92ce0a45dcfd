-- A flat design has one answer: the threads that show that no order passes, and the order that is found.
-- Both are what filling from the lowest place comes to (Audsley 1991), where each place goes to one thread.
use Rattle.std.specs.Prelude.{◌≡◌, ℕ, List, length, take}
use Rattle.std.proofs.Common.{sym, ◌∙◌, arith}
use Rattle.ods_tree.specs.Flats.{Flat}
use Rattle.analysis.specs.Sound.{IsSound}
use Rattle.law_orders.specs.Orders.{IsOrder, IsFilled, has_place, places_of}
use Rattle.law_orders.proofs.Shared.FilledOrders.{filled-agree, left-same}
use Rattle.law_orders.proofs.Shared.OrderPlaces.{order-long}
use Rattle.law_orders.proofs.Shared.DeadlineFound.{lists-same}
use Rattle.priority_search.specs.Searches.{IsRefuted}
use Rattle.priority_search.proofs.SearchSteps.{filter-same}

-- the threads of which none can be last
pub one-refuted : (f : Flat) (a b : List ℕ) → IsSound f → IsRefuted f a → IsRefuted f b → a ≡ b
one-refuted f a b sound x y =
    x.listed
    ∙ filter-same (has_place (take x.left x.order)) (has_place (take y.left y.order)) (places_of f)
    (λ k h. left-same f x.order y.order x.left y.left sound x.stuck y.stuck k)
    ∙ sym y.listed

-- the order that is filled from its lowest place upwards
pub one-filled : (f : Flat) (a b : List ℕ) → IsSound f → IsOrder f a → IsOrder f b → IsFilled f a → IsFilled f b → a ≡ b
one-filled f a b sound order-a order-b filled-a filled-b =
    lists-same a b (let x = order-long (length f.threads) a order-a in let y = order-long (length f.threads) b order-b in omega (arith, x, y))
    (λ i x y e g. filled-agree f sound a b order-a order-b 0 (length f.threads) 0 (omega arith) (omega arith) (λ j own low h. filled-a j own h)
    (λ j own low h. filled-b j own h) i x y (omega arith) e g)
