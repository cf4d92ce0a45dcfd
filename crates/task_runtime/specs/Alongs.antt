-- A task that goes on alone: it uses the ticks of its pieces, up to a time, and does those that are nothing to others.
use Rattle.std.specs.Prelude.{◌≡◌, ◌==◌, ◌&&◌, ◌⊎◌, ℕ, zero, suc, ◌+◌, ◌<◌, ◌≤◌, min, not, is_some, Bool, true, false, Option, None, Some}
use Rattle.seq_tree.specs.declared.tree.Costs.{Costs}
use Rattle.machine.specs.Deeds as deeds
use Rattle.task_runtime.specs.Doing.{IsAmong, act_of}
use Rattle.task_runtime.specs.Effort.{sections_among}
use Rattle.task_runtime.specs.Works.{Acts, EffortFalls, StaysInside, used_ticks}
use Rattle.task_runtime.specs.Written.{system_of}
use Rattle.task_runtime.specs.declared.effects.Act.{Act}
use Rattle.task_runtime.specs.declared.effects.Act.TheVariants.{Silent}
use Rattle.linker.specs.Callees.{OpBody}
use Rattle.linker.specs.declared.code.Ins.{Ins}
use Rattle.linker.specs.declared.code.Ins.TheVariants as ins
use Rattle.linker.specs.declared.program.LinkedUnits.{LinkedUnits}
use Rattle.task_runtime.specs.Doings.{owner_at}
use Rattle.task_runtime.specs.Goings.{Goes}
use Rattle.task_runtime.specs.Sounds.{IsAtWork}
use Rattle.task_runtime.specs.Tasks.{task_of}
use Rattle.task_runtime.specs.declared.piece.Piece as piece
use Rattle.task_runtime.specs.declared.piece.Piece.TheVariants as is
use Rattle.task_runtime.specs.declared.progress.Progress.{Progress}
use Rattle.task_runtime.specs.declared.task.Task.{Task}

-- whether no protected object has an operation, by what stands at its place
abbrev pub has_no_owner : Option OpBody → Bool
has_no_owner None = true
has_no_owner (Some b) = not (is_some b.owner)

-- whether an instruction is nothing to others: it tells nothing, reaches no protected object and no task, and ends no activation
abbrev pub is_alone : LinkedUnits → Ins → Bool
is_alone c (ins.Put value) = false
is_alone c (ins.Call op actuals outs) = has_no_owner (owner_at c op)
is_alone c (ins.Request task value) = false
is_alone c ins.Finish = false
is_alone c _ = true

-- whether a first piece is nothing to others
abbrev pub goes_alone : LinkedUnits → Option piece.Piece → Bool
goes_alone c None = false
goes_alone c (Some (is.Here i)) = is_alone c i
goes_alone c (Some (is.Turn counter start)) = true
goes_alone c (Some _) = false

-- whether a task can go on alone now: the ticks of such a piece are used
abbrev pub can_go : LinkedUnits → Task → Bool
can_go c t = (t.left == 0) && goes_alone c t.progress.piece

-- a task of whose piece no tick is left, or more than there are up to this limit
abbrev pub IsSpent : ℕ → ℕ → Task → Type 0
IsSpent limit time t = (t.left ≡ 0) ⊎ (limit < time + t.left)

-- a task whose first piece was nothing to others, where that is so; else nothing has changed
abbrev pub MayGo : Bool → LinkedUnits → Progress → Progress → Type 0
MayGo true code p p' = Goes code p deeds.Silent p'
MayGo false code p p' = p' ≡ p

-- a task that has done a piece of this act
pub record HasDone (code : LinkedUnits) (costs : Costs) (act : Act) (t t' : Task) : Type 0 where
  pub at_work : IsAtWork code t'.progress
  pub acts : Acts (system_of t.progress.stack.thread) costs (task_of t) act (task_of t')
  pub thread : t'.progress.stack.thread ≡ t.progress.stack.thread
  pub works : t'.works ≤ t.works + min t'.left 1
  pub falls : EffortFalls t.progress.stack.thread (task_of t) (task_of t')
  pub among : IsAmong (system_of t.progress.stack.thread) (act_of act)
  pub inside : StaysInside (act_of act) (sections_among (task_of t).pieces) (sections_among (task_of t').pieces)

-- a task that has used all ticks that were left of its piece, by this time
pub record HasUsed (limit time : ℕ) (t : Task) (time' : ℕ) (t' : Task) : Type 0 where
  pub some : 0 < t.left
  pub after : time' ≡ time + t.left
  pub fits : time' ≤ limit
  pub task : task_of t' ≡ used_ticks t.left (task_of t)
  pub thread : t'.progress.stack.thread ≡ t.progress.stack.thread
  pub ready : t'.readiness ≡ t.readiness
  pub progress : t'.progress ≡ t.progress

-- the same, or nothing
abbrev pub MayUse : ℕ → ℕ → Task → ℕ → Task → Type 0
MayUse limit time t time' t' = ((time' ≡ time) × (t' ≡ t)) ⊎ HasUsed limit time t time' t'

-- a task that has done its piece, where that is nothing to others and its ticks are used; else nothing has changed
abbrev pub MayAct : Bool → LinkedUnits → Costs → Task → Task → Type 0
MayAct true code costs t t' = (t.left ≡ 0) × HasDone code costs Silent t t'
MayAct false code costs t t' = t' ≡ t

-- ticks that are used, or a piece that is nothing to others, and whose ticks are used, that is done
abbrev pub OneAlong : LinkedUnits → Costs → ℕ → ℕ → Task → ℕ → Task → Type 0
OneAlong code costs limit time t time' t' = HasUsed limit time t time' t' ⊎ ((time' ≡ time) × (t.left ≡ 0) × HasDone code costs Silent t t')

-- so many of these, one after another
abbrev pub SoMany : LinkedUnits → Costs → ℕ → ℕ → ℕ → Task → ℕ → Task → Type 0
SoMany code costs limit zero time t time' t' = (time' ≡ time) × (t' ≡ t)
SoMany code costs limit (suc n) time t time' t' =
    (before : ℕ) × (u : Task) × SoMany code costs limit n time t before u × OneAlong code costs limit before u time' t'

-- some of these
abbrev pub GoesAlong : LinkedUnits → Costs → ℕ → ℕ → Task → ℕ → Task → Type 0
GoesAlong code costs limit time t time' t' = (n : ℕ) × SoMany code costs limit n time t time' t'
