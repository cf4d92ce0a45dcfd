-- Laws of priority orders: the lowest places can be filled one by one, and where no thread of some can be last, no order passes.
-- Optimal priority assignment is Audsley's (Audsley 1991), here with release jitter and with blocking by ceilings of the order itself.
use Rattle.std.specs.Prelude.{◌≡◌, ℕ, suc, true, List, take, slice_get, Some}
use Rattle.ods_tree.specs.Flats.{Flat}
use Rattle.analysis.specs.Sound.{IsSound}
use Rattle.analysis.specs.Priorities.{priorities_of}
use Rattle.analysis.specs.Tables.{table}
use Rattle.law_designs.specs.Rankings.{IsRanking}
use Rattle.law_orders.specs.Orders.{AllExternal, IsOrder, Passes, priorities_by, has_place, CanBeLast, IsFilled, IsStuck, IsObstacle}

-- a thread that can be last of some threads can be last of any of these
abbrev pub FewerAboveIsNoWorse : Type 0
FewerAboveIsNoWorse =
    (f : Flat) (these fewer : List ℕ) (own : ℕ) → IsSound f → has_place fewer own ≡ true
    → ((place : ℕ) → has_place fewer place ≡ true → has_place these place ≡ true)
    → CanBeLast f these own → CanBeLast f fewer own

-- where none of some threads can be last of them, no order passes
abbrev pub ObstaclesRefuse : Type 0
ObstaclesRefuse = (f : Flat) (these order : List ℕ) → IsSound f → AllExternal f → IsObstacle f these → IsOrder f order → Passes f order → ⊥

-- an order passes exactly where each thread can be last of those that aren't below it
abbrev pub OrdersPassByLasts : Type 0
OrdersPassByLasts =
    (f : Flat) (order : List ℕ) → IsSound f → AllExternal f → IsOrder f order
    → ((i own : ℕ) → slice_get order i ≡ Some own → CanBeLast f (take (suc i) order) own) → Passes f order

-- and only then
abbrev pub PassingOrdersHaveLasts : Type 0
PassingOrdersHaveLasts =
    (f : Flat) (order : List ℕ) (i own : ℕ) → IsSound f → AllExternal f → IsOrder f order → Passes f order → slice_get order i ≡ Some own
    → CanBeLast f (take (suc i) order) own

-- where the deadline-monotonic order passes, it is the one that is filled from its lowest place upwards, and its priorities are those of deadlines
abbrev pub DeadlineOrdersAreFound : Type 0
DeadlineOrdersAreFound =
    (f : Flat) (order : List ℕ) → IsSound f → AllExternal f → Passes f (table f).places → IsOrder f order → IsFilled f order
    → (order ≡ (table f).places) × (priorities_by f order ≡ priorities_of f)

-- orders that are filled as far as they can be have the same threads left
abbrev pub LeftThreadsAreOne : Type 0
LeftThreadsAreOne =
    (f : Flat) (a b : List ℕ) (i j : ℕ) → IsSound f → IsStuck f a i → IsStuck f b j → (k : ℕ) → has_place (take i a) k ≡ has_place (take j b) k

-- the priorities by an order are a ranking
abbrev pub OrdersAreRankings : Type 0
OrdersAreRankings = (f : Flat) (order : List ℕ) → IsOrder f order → IsRanking f (priorities_by f order)
