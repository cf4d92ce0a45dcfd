-- The text of a flat design by the priority order that is found for it, by cases.
-- The order is filled from its lowest place upwards (Audsley 1991); priorities and ceilings are those of ISO/IEC 8652:2012, D.1 and D.3.
use Rattle.std.specs.Prelude.{◌≡◌, ℕ, ◌+◌, ◌-◌, ◌≤◌, ◌<◌, ◌++◌, max, List, length, Result, Ok, Err}
use Rattle.seq_tree.specs.Limits.{ada_limit}
use Rattle.seq_tree.specs.Layout.{layout}
use Rattle.ods_tree.specs.Flats.{Flat}
use Rattle.ada_tree.specs.Spelling.{program_lines}
use Rattle.rt_response.specs.Response.{IsLeastVector}
use Rattle.rt_response.specs.declared.rows.Bound.{Bound}
use Rattle.analysis.specs.Ceilings.{ranks_for, written_ranks}
use Rattle.analysis.specs.Tables.{table_for}
use Rattle.guarantee.specs.Programs.{head, program_for}
use Rattle.law_orders.specs.Orders.{AllExternal, IsOrder, IsFilled, priorities_by, rows_by}
use Rattle.priority_search.specs.Searches.{IsNotFound}
use Rattle.arranging.specs.declared.arranged.NotArranged.{NotArranged}
use Rattle.arranging.specs.declared.arranged.NotArranged.TheVariants.{NotFound, Long}

-- the text of a flat design by these priorities, the least of them written as this number, with these bounds in its head
abbrev pub flat_text_by : ℕ → Flat → List ℕ → List Bound → List ℕ
flat_text_by first f ps v =
    head f (written_ranks first (ranks_for f ps)) (table_for f ps).places v
    ++ layout (program_lines (program_for f (written_ranks first (ranks_for f ps))))

-- any priorities of the threads, and the ceilings by them, are at most 60 as they are written
abbrev pub HasRoomFor : ℕ → Flat → Type 0
HasRoomFor first f = max 1 (length f.threads) + (first - 1) ≤ 60

-- an order under which a flat design passes, filled from its lowest place upwards, with the least bounds by it
pub record IsArranged (f : Flat) (order : List ℕ) (bounds : List Bound) : Type 0 where
  pub external : AllExternal f
  pub is_order : IsOrder f order
  pub filled : IsFilled f order
  pub least : IsLeastVector (rows_by f order) bounds

-- the text by it, within its limit
pub record IsArrangedText (first : ℕ) (f : Flat) (text : List ℕ) : Type 0 where
  pub order : List ℕ
  pub bounds : List Bound
  pub arranged : IsArranged f order bounds
  pub made : text ≡ flat_text_by first f (priorities_by f order) bounds
  pub short : length text ≤ ada_limit

-- the text by it is too long
pub record IsLongText (first : ℕ) (f : Flat) : Type 0 where
  pub order : List ℕ
  pub bounds : List Bound
  pub arranged : IsArranged f order bounds
  pub long : ada_limit < length (flat_text_by first f (priorities_by f order) bounds)

-- why there is no text; of a failed allocation `IsNotFound` says nothing
abbrev pub IsNotArranged : ℕ → Flat → NotArranged → Type 0
IsNotArranged first f (NotFound why) = IsNotFound f why
IsNotArranged first f Long = IsLongText first f

-- what an answer says
abbrev pub Arranges : {X : Type 0} → (X → List ℕ) → ℕ → Flat → Result X NotArranged → Type 0
Arranges view first f (Ok text) = IsArrangedText first f (view text)
Arranges view first f (Err why) = IsNotArranged first f why
