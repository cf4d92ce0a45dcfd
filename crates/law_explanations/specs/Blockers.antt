-- What is reported to block a thread: the longest section of a thread of lower priority that keeps it waiting, and nothing if none does.
-- Under ceilings a thread waits for at most one such section (Sha, Rajkumar and Lehoczky 1990).
use Rattle.std.specs.Prelude.{◌≡◌, ℕ, ◌+◌, ◌-◌, ◌≤◌, ◌<◌, true, List, slice_get, Option, Some, None}
use Rattle.std.specs.List.{list_any}
use Rattle.seq_tree.specs.Calls.{same_op}
use Rattle.seq_tree.specs.declared.tree.OpName.{OpName}
use Rattle.ods_tree.specs.Flats.{Thread, Flat}
use Rattle.ods_tree.specs.Services.{flat_services}
use Rattle.analysis.specs.Ceilings.{ceiling}
use Rattle.analysis.specs.Execution.{called_cost}
use Rattle.analysis.specs.Priorities.{priorities_of}
use Rattle.analysis.specs.Sound.{IsSound}
use Rattle.block_causes.specs.Entered.{entered}
use Rattle.late_response.specs.declared.reach.Reach.{Reach}
use Rattle.explanation.specs.declared.reasons.Blocker.{Blocker}
use Rattle.explanation.specs.declared.reasons.Late.{Late}
use Rattle.explanation.specs.declared.reasons.Reasons.{Reasons}
use Rattle.explanation.specs.Findings.{IsFound}
use Rattle.explanation.specs.Threads.{reasons_of}

-- the ticks of the section of an operation
abbrev pub section_ticks : Flat → OpName → ℕ
section_ticks f c = called_cost f.costs (flat_services f) c.object c.op

-- a thread whose section of an operation keeps threads of this priority waiting: its priority is lower, its block enters the operation, and the
-- ceiling of the object reaches the priority
pub record KeepsWaiting (f : Flat) (level : ℕ) (u : Thread) (c : OpName) : Type 0 where
  pub place : ℕ
  pub priority : ℕ
  pub stands : slice_get f.threads place ≡ Some u
  pub has : slice_get (priorities_of f) place ≡ Some priority
  pub lower : priority < level
  pub enters : list_any (same_op c) (entered (flat_services f) u.block) ≡ true
  pub reaches : level ≤ ceiling f (priorities_of f) c.object

-- the operation of a blocker
abbrev pub op_of : Blocker → OpName
op_of b = record { object = b.object; op = b.op }

-- a blocker is such a section of the thread that is named, with so many ticks; without a blocker there are none
abbrev pub IsBlocked : Flat → ℕ → ℕ → Option Blocker → Type 0
IsBlocked f level ticks None = ticks ≡ 0
IsBlocked f level ticks (Some b) =
    (u : Thread) × (u.name ≡ b.thread) × KeepsWaiting f level u (op_of b) × (section_ticks f (op_of b) ≡ ticks)

-- a thread of a flat design, its priority, and what is reported to block it
pub record IsLongest (first : ℕ) (f : Flat) (t : Reasons) : Type 0 where
  pub thread : Thread
  pub place : ℕ
  pub level : ℕ
  pub stands : slice_get f.threads place ≡ Some thread
  pub has : slice_get (priorities_of f) place ≡ Some level
  pub named : t.name ≡ thread.name
  pub written : t.priority ≡ level + (first - 1)
  pub blocked : IsBlocked f level t.row.block t.blocker
  -- no section that keeps it waiting is longer
  pub longest : (u : Thread) (c : OpName) → KeepsWaiting f level u c → section_ticks f c ≤ t.row.block

-- so it is of each thread that is reported of a sound flat design
abbrev pub BlockersAreLongest : Type 0
BlockersAreLongest =
    (first : ℕ) (f : Flat) (found : List Reach) (late : Option Late) (i : ℕ) (t : Reasons) → IsSound f → IsFound f found late
    → slice_get (reasons_of first f found) i ≡ Some t → IsLongest first f t
