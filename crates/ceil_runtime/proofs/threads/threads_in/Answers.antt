use Rattle.std.proofs.Common.{◌≡◌, ℕ, ◌+◌, List, ap, arith, refl, subst, sym, ◌++◌, length, map}
use Rattle.std.specs.Prelude.{None, Some}
use Rattle.ada_tree.specs.Trees.{unit_of}
use Rattle.ceil_runtime.specs.Gathering.{Adds, AllThreads, IsThreadOf}
use Rattle.task_runtime.specs.Libraries.{handed_threads}
use Rattle.task_runtime.specs.Written.{thread_of}
use Rattle.task_runtime.specs.declared.thread.Thread.{Thread}
use Rattle.ceil_runtime.proofs.Gathered.{gathered-all, gathered-more, is-here}
use Rattle.ceil_runtime.proofs.threads.threads_in.Goals as goal

pub units-init : goal.units-init
units-init c =
    let none = c.in_ok-threads.ensures.items in
    record {
      place = refl;
      gathered = ap (λ (ts : List Thread). map thread_of ts ++ handed_threads c.args.work.now 0 (map unit_of c.args.units.now)) none;
      each = subst (AllThreads (IsThreadOf c.args.work.now c.args.units.now)) (sym none) (λ i t at. absurd (nothing t at));
      few = let empty = ap length none in omega (arith, empty);
      room = c.in_ok-threads.ensures.capacity;
    }
  where
    nothing : (t : Thread) → None ≡ Some t → ⊥
    nothing t k = cc

pub units-preserved : goal.units-preserved
units-preserved c =
    let i = c.units.invariant in
    let us = c.args.units.now in
    let u = c.unit-item.result in
    let adds : Adds c.args.work.now us c.units.unit-index u c.units.threads.items c.add_thread.new.threads.items =
    subst (λ (n : ℕ). Adds c.args.work.now us n u c.units.threads.items c.add_thread.new.threads.items) i.place c.add_thread.ensures.adds in
    record {
      place = ap (λ n. n + 1) i.place;
      gathered = gathered-more c.args.work.now us c.units.unit-index u c.units-test.true c.unit-item.is c.units.threads.items
          c.add_thread.new.threads.items adds i.gathered;
      each = adds.each (is-here c.args.work.now us c.units.unit-index u c.units-test.true c.unit-item.is) i.each;
      few = omega (arith, adds.few, i.few);
      room = omega (arith, i.room, c.add_thread.ensures.capacity);
    }

pub returns-clause-all : goal.returns-clause-all
returns-clause-all c = gathered-all c.args.work.now c.args.units.now c.units.unit-index c.units.threads.items
    (omega (arith, c.units-test.false)) c.units.invariant.gathered
