-- What a call leads to, by places.
-- Operations are counted through all units, tasks among themselves.
use Rattle.std.specs.Prelude.{ℕ, List}
use Rattle.seq_tree.specs.declared.tree.Param.{Param}

pub data Leads : Type 0 where
  -- an operation with a body, by its place among all of them
  Body : (place : ℕ) (params : List Param) → Leads
  -- the request of a task
  Request : (task : ℕ) → Leads
  Nowhere : Leads
