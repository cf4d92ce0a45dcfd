-- What the search for a priority order answers, by cases.
-- An order that passes is found exactly where there is one (Audsley 1991); its bounds are the least that fit its table.
use Rattle.std.specs.Prelude.{◌≡◌, ℕ, List, take, Some, Result, Ok, Err, ⊤}
use Rattle.std.specs.List.{position_from}
use Rattle.ods_tree.specs.Flats.{Flat}
use Rattle.rt_response.specs.Response.{IsLeastVector}
use Rattle.law_orders.specs.Orders.{is_internal, AllExternal, IsOrder, ranks_by, rows_by, Passes, IsFilled, IsStuck, IsObstacle}
use Rattle.priority_search.specs.Steps.{listed}
use Rattle.priority_search.specs.declared.found.Found.{Found}
use Rattle.priority_search.specs.declared.found.NotFound.{NotFound}
use Rattle.priority_search.specs.declared.found.NotFound.TheVariants.{Started, NoMemory}
use Rattle.priority_search.specs.declared.found.NotFound.TheVariants as cause

-- an order that passes, filled from its lowest place upwards, with its ceilings, rows and least bounds
pub record IsFound (f : Flat) (found : Found) : Type 0 where
  pub external : AllExternal f
  pub order : IsOrder f found.order.items
  pub filled : IsFilled f found.order.items
  pub passes : Passes f found.order.items
  pub shared : found.shared.items ≡ (ranks_by f found.order.items).shared
  pub obcs : found.obcs.items ≡ (ranks_by f found.order.items).obcs
  pub rows : found.rows.items ≡ rows_by f found.order.items
  pub least : IsLeastVector (rows_by f found.order.items) found.bounds.items

-- no order passes: an order is filled from its lowest place as far as it can be, and none of the threads left can be last of them
pub record IsRefuted (f : Flat) (threads : List ℕ) : Type 0 where
  pub external : AllExternal f
  pub order : List ℕ
  pub left : ℕ
  pub stuck : IsStuck f order left
  pub listed : threads ≡ listed f (take left order)
  pub obstacle : IsObstacle f threads
  pub none : (other : List ℕ) → IsOrder f other → Passes f other → ⊥

-- why no order is found; want of memory says nothing
abbrev pub IsNotFound : Flat → NotFound → Type 0
IsNotFound f (Started thread) = position_from (λ t. is_internal t.timing) 0 f.threads ≡ Some thread
IsNotFound f (cause.None threads) = IsRefuted f threads.items
IsNotFound f NoMemory = ⊤

-- what an answer says
abbrev pub Searches : Flat → Result Found NotFound → Type 0
Searches f (Ok found) = IsFound f found
Searches f (Err e) = IsNotFound f e
