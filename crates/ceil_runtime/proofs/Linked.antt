-- Where the block of each task stands in the code of what is opened.
use Rattle.std.specs.Prelude.{◌≡◌, ℕ, ◌<◌, List, length, map, option_map, Some, slice_get}
use Rattle.std.proofs.Common.{sym, ◌∙◌, ap, subst, arith}
use Rattle.std.proofs.lemmas.Option.{slice_get-map, slice_get_within}
use Rattle.ada_tree.specs.Trees.{unit_of}
use Rattle.ada_tree.specs.declared.program.Unit as units
use Rattle.linker.specs.Programs.{AreLinked}
use Rattle.linker.specs.declared.program.LinkedUnits.{LinkedUnits}
use Rattle.task_runtime.specs.Libraries.{no_costs}
use Rattle.task_runtime.specs.Written.{system_of, thread_of}
use Rattle.task_runtime.specs.declared.thread.Thread.{Thread}
use Rattle.task_runtime.specs.Sounds.{IsTaskStart}
use Rattle.task_runtime.proofs.Shared.TaskStarts.{starts-count}
use Rattle.ceil_runtime.specs.Gathering.{AllThreads}
use Rattle.ceil_runtime.specs.Starts.{CanStart, system_for}

module _ (us : List units.Unit) (threads : List Thread) (code : LinkedUnits) (linked : AreLinked (map unit_of us) code)
    (alike : AllThreads (λ t. system_of t ≡ system_for 0 no_costs us threads) threads) (start : AllThreads (CanStart us) threads)
    (k : ℕ) (t : Thread) (at : slice_get threads k ≡ Some t) where
  pub linked-here : AreLinked (map unit_of t.units.now) code
  linked-here = subst (λ vs. AreLinked (map unit_of vs) code) (sym (start k t at).units) linked

  task-at : slice_get (system_of t).threads k ≡ Some (thread_of t)
  task-at = ap (λ y. slice_get y.threads k) (alike k t at) ∙ slice_get-map thread_of threads k ∙ ap (option_map thread_of) at

  pub start-known : k < length code.tasks.items
  start-known = let h = slice_get_within (system_of t).threads k (thread_of t) task-at in omega (arith, h, starts-count code t linked-here)

  pub start-at : (n : ℕ) → slice_get code.tasks.items k ≡ Some n → IsTaskStart code t n
  start-at n there = record { place = k; task = task-at; starts = there }
