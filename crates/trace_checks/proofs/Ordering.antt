-- How times stand behind an event is what the check of times asks of the events that follow.
use Rattle.std.proofs.Common.{◌≡◌, ℕ, Bool, true, false, List, [], ◌∷◌, ◌&&◌, not, refl, sym, ap, ◌∙◌}
use Rattle.std.specs.Prelude.{nat_le, ◌==◌, is_some, if◌then◌else◌}
use Rattle.ada_tree.specs.Programs.{Program}
use Rattle.ada_tree.specs.Rules.{MeetsRules}
use Rattle.trace_tree.specs.Lines.{unit_name}
use Rattle.trace_tree.specs.Placed.{IsPlaced, IsUnit}
use Rattle.trace_tree.specs.declared.event.Event as machine
use Rattle.trace_tree.specs.declared.event.Event.TheVariants as event
use Rattle.guarantee.specs.Software.{Task, program_software}
use Rattle.guarantee.specs.Events.{Deed, Event, By, Horizon, op_at, named_event}
use Rattle.guarantee.specs.Events as deed
use Rattle.guarantee.specs.Order.{is_task_name, is_stop}
use Rattle.law_traces.specs.Checks.{in_order}
use Rattle.law_trace_places.specs.Places.{task_at}
use Rattle.law_trace_places.proofs.Shared.Units.{what-it-is}
use Rattle.trace_checks.specs.Timing.{in_order_by, acts, ends, running_after, times_after}
use Rattle.trace_checks.specs.declared.times.Times.{Times}
use Rattle.trace_checks.specs.declared.times.Times.TheVariants.{Running, Ended, Broken}

module _ (p : Program) (meets : MeetsRules p) (until : ℕ) where
  abbrev ts : List Task
  ts = (program_software p).tasks

  after-act : (now time task : ℕ) (deed : Deed) (told : List Event) → IsUnit p task → is_stop deed ≡ false
      → in_order_by ts until (acts p now time task) told ≡ in_order ts until now (By time (unit_name p task) deed ∷ told)
  after-act now time task deed told h calm =
      by (nat_le now time) (is_some (task_at p task))
      ∙ ap (λ b. nat_le now time && b && true && in_order ts until time told) (sym ((what-it-is p meets task h).task))
      ∙ ap (λ b. nat_le now time && is_task_name ts (unit_name p task) && not b && in_order ts until time told) (sym calm)
    where
      by : (a b : Bool) → in_order_by ts until (if a && b then Running time else Broken) told ≡ (a && b && true && in_order ts until time told)
      by true true = refl
      by true false = refl
      by false b = refl

  after-end : (now time : ℕ) (told : List Event) → in_order_by ts until (ends until now time) told ≡ in_order ts until now (Horizon time ∷ told)
  after-end now time [] = by (nat_le now time && (time == until))
    where
      by : (b : Bool) → in_order_by ts until (if b then Ended else Broken) [] ≡ b
      by true = refl
      by false = refl
  after-end now time (e ∷ told) = by (nat_le now time && (time == until))
    where
      by : (b : Bool) → in_order_by ts until (if b then Ended else Broken) (e ∷ told) ≡ false
      by true = refl
      by false = refl

  stopped : (now time : ℕ) (a b c : Bool) → (a && b && false && c) ≡ false
  stopped now time true true c = refl
  stopped now time true false c = refl
  stopped now time false b c = refl

  running : (now : ℕ) (e : machine.Event) (told : List Event) → IsPlaced p e
      → in_order_by ts until (running_after p until now e) told ≡ in_order ts until now (named_event p e ∷ told)
  running now (event.Release time task value) told h = after-act now time task (deed.Release value) told h refl
  running now (event.Arrive time task value) told h = after-act now time task (deed.Arrive value) told h refl
  running now (event.Enter time task unit op values) told h = after-act now time task (deed.Enter (op_at p unit op) values) told h.0 refl
  running now (event.Leave time task unit op values) told h = after-act now time task (deed.Leave (op_at p unit op) values) told h.0 refl
  running now (event.Request time task target value) told h = after-act now time task (deed.Request (unit_name p target) value) told h.0 refl
  running now (event.Print time task value) told h = after-act now time task (deed.Print value) told h refl
  running now (event.End time task used) told h = after-act now time task (deed.End used) told h refl
  running now (event.Stop time task unit priority ceiling) told h =
      sym (stopped now time (nat_le now time) (is_task_name ts (unit_name p task)) (in_order ts until time told))
  running now (event.Horizon time) told h = after-end now time told

  pub times-go-on : (times : Times) (e : machine.Event) (told : List Event) → IsPlaced p e
      → in_order_by ts until (times_after p until times e) told ≡ in_order_by ts until times (named_event p e ∷ told)
  times-go-on (Running now) e told h = running now e told h
  times-go-on Ended e told h = refl
  times-go-on Broken e told h = refl
