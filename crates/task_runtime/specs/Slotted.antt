-- The slots of a task: those of the body that runs, and those of its callers, the outermost first.
-- They are one list, of which the first so many are the callers'. Only the first slots are written: the others hold 0.
use Rattle.std.specs.Prelude.{ℕ, List, ◌-◌, ◌++◌, length, replicate, drop, take}

pub record Slotted : Type 0 where
  pub here : List ℕ
  pub away : List ℕ

-- so many slots, where these are written
unfoldable pub with_zeros : ℕ → List ℕ → List ℕ
with_zeros count written = written ++ replicate (count - length written) 0

abbrev pub slotted : ℕ → List ℕ → Slotted
slotted base values = record { here = drop base values; away = take base values }
