-- What is made of the flat design of a hard part, by cases: a text, or the first cause for which there is none.
-- The order of the causes is: requests by slow threads, the bounds, the length.
use Rattle.std.specs.Prelude.{◌≡◌, ℕ, ◌+◌, ◌-◌, ◌≤◌, ◌<◌, List, [], ◌++◌, filter_map, length, zip, Some, Result, Ok, Err, ⊤}
use Rattle.seq_tree.specs.Limits.{ada_limit}
use Rattle.seq_tree.specs.Layout.{layout}
use Rattle.seq_tree.specs.Lists.{Each}
use Rattle.seq_tree.specs.Names.{Name}
use Rattle.ada_tree.specs.Spelling.{program_lines}
use Rattle.rt_response.specs.declared.rows.ThreadRow.{ThreadRow}
use Rattle.analysis.specs.Ceilings.{Ranks, numbered, written_ranks}
use Rattle.trace_text.specs.declared.bound.NamedBound.{NamedBound}
use Rattle.design_bounds.specs.Rows.{named_at}
use Rattle.guarantee.specs.Programs.{head, program_for}
use Rattle.ods_tree.specs.Flats.{Flat}
use Rattle.rt_response.specs.Response.{Fits, IsLeastVector}
use Rattle.rt_response.specs.Rounds.{IsMiss}
use Rattle.rt_response.specs.declared.rows.Bound.{Bound}
use Rattle.rt_response.specs.declared.rows.Miss as rows
use Rattle.ods_index.specs.Judging.{head_of}
use Rattle.background.specs.Fronts.{front_name, front_rows, restless_bounds, restless_ranks, restless_text, slow_requests}
use Rattle.background.specs.Told.{misfit_of}
use Rattle.background.specs.declared.delivery.Background.{Background}
use Rattle.background.specs.declared.delivery.BackgroundRefusal.{BackgroundRefusal}
use Rattle.background.specs.declared.delivery.BackgroundRefusal.TheVariants.{Rule, Broken, Miss, Long, NoMemory}

-- whether each of these priorities and ceilings is at most 60 as it is written, where the least is written as this number
abbrev pub AreInRange : ℕ → List ℕ → Type 0
AreInRange first ns = Each (λ n. n + (first - 1) ≤ 60) ns

pub record HasRoom (first : ℕ) (r : Ranks) : Type 0 where
  pub threads : AreInRange first r.threads
  pub shared : AreInRange first r.shared
  pub obcs : AreInRange first r.obcs

-- the text of a flat design with these numbers, and with these bounds in its head
abbrev pub text_for : ℕ → Flat → Ranks → List ℕ → List Bound → List ℕ
text_for first f r places v =
    head f (written_ranks first r) places v ++ layout (program_lines (program_for f (written_ranks first r)))

-- the bounds of these rows, with their names and with the priorities as they are written
abbrev pub bounds_for : ℕ → Flat → Ranks → List ℕ → List ThreadRow → List Bound → List NamedBound
bounds_for first f r places rows v = filter_map (named_at f (numbered first r.threads)) (zip places (zip rows v))

-- a text for any numbers and rows, and what goes with it
pub record IsFinished (first : ℕ) (f : Flat) (r : Ranks) (places : List ℕ) (rows : List ThreadRow) (v : List Bound) (d : Background) : Type 0 where
  pub made : d.text.items ≡ text_for first f r places v
  pub short : length d.text.items ≤ ada_limit
  pub named : d.bounds.items ≡ bounds_for first f r places rows v
  pub ceilings : d.ceilings.items ≡ numbered first r.shared

-- what an answer says where the bounds are at hand
abbrev pub Finishes : ℕ → Flat → Ranks → List ℕ → List ThreadRow → List Bound → Result Background BackgroundRefusal → Type 0
Finishes first f r places rows v (Ok d) = IsFinished first f r places rows v d
Finishes first f r places rows v (Err (Rule rule)) = ⊥
Finishes first f r places rows v (Err (Broken broken)) = ⊥
Finishes first f r places rows v (Err (Miss thread miss)) = ⊥
Finishes first f r places rows v (Err Long) = ada_limit < length (text_for first f r places v)
Finishes first f r places rows v (Err NoMemory) = ⊤

-- the text with the least bounds, and what goes with it; the least priority is written as this number
pub record IsMade (first : ℕ) (f : Flat) (d : Background) : Type 0 where
  pub bounds : List Bound
  pub least : IsLeastVector (front_rows f) bounds
  pub made : d.text.items ≡ restless_text first f bounds
  pub short : length d.text.items ≤ ada_limit
  pub named : d.bounds.items ≡ restless_bounds first f bounds
  pub ceilings : d.ceilings.items ≡ (restless_ranks first f).shared

-- a value of a thread that isn't slow is over its limit
pub record IsMissOf (f : Flat) (miss : rows.Miss) : Type 0 where
  pub first : IsMiss (front_rows f) miss
  pub none : (v : List Bound) → Fits (front_rows f) v → ⊥

-- no bounds, with the thread of such a value
pub record IsMissed (f : Flat) (thread : Name) (miss : rows.Miss) : Type 0 where
  pub missed : IsMissOf f miss
  pub called : front_name f miss.index ≡ Some thread

-- a text that is too long
pub record IsLong (first : ℕ) (f : Flat) : Type 0 where
  pub bounds : List Bound
  pub least : IsLeastVector (front_rows f) bounds
  pub long : ada_limit < length (restless_text first f bounds)

-- why there are no bounds
abbrev pub IsUnbounded : Flat → BackgroundRefusal → Type 0
IsUnbounded f (Rule rule) = ⊥
IsUnbounded f (Broken broken) = ⊥
IsUnbounded f (Miss thread miss) = IsMissed f thread miss
IsUnbounded f Long = ⊥
IsUnbounded f NoMemory = ⊤

-- why no text is made where slow threads request no others
abbrev pub IsStopped : ℕ → Flat → BackgroundRefusal → Type 0
IsStopped first f (Rule rule) = ⊥
IsStopped first f (Broken broken) = ⊥
IsStopped first f (Miss thread miss) = IsMissed f thread miss
IsStopped first f Long = IsLong first f
IsStopped first f NoMemory = ⊤

-- what an answer says where slow threads request no others
abbrev pub MakesCalm : ℕ → Flat → Result Background BackgroundRefusal → Type 0
MakesCalm first f (Ok d) = IsMade first f d
MakesCalm first f (Err refusal) = IsStopped first f refusal

-- why no text is made
abbrev pub IsRefused : ℕ → Flat → BackgroundRefusal → Type 0
IsRefused first f (Rule rule) = head_of (slow_requests f) ≡ Some (misfit_of rule)
IsRefused first f (Broken broken) = ⊥
IsRefused first f (Miss thread miss) = (slow_requests f ≡ []) × IsMissed f thread miss
IsRefused first f Long = (slow_requests f ≡ []) × IsLong first f
IsRefused first f NoMemory = ⊤

-- what an answer says
abbrev pub Makes : ℕ → Flat → Result Background BackgroundRefusal → Type 0
Makes first f (Ok d) = (slow_requests f ≡ []) × IsMade first f d
Makes first f (Err refusal) = IsRefused first f refusal
