-- What is known of a program that meets the rules: its costs are of a tick at least, and the blocks of its tasks are fit.
use Rattle.std.specs.Prelude.{◌≡◌, ℕ, ◌≤◌, false, nat_lt, slice_get, Some, refl}
use Rattle.std.proofs.Common.{ap, subst, arith}
use Rattle.seq_tree.specs.declared.tree.Costs.{Costs}
use Rattle.ada_tree.specs.Programs.{Form, Program}
use Rattle.ada_tree.specs.Bodies.{Body, bodies}
use Rattle.ada_tree.specs.Ranges.{is_outside, costs_break, whole_breaks}
use Rattle.ada_tree.specs.Rules.{Ranges, Whole, MeetsRules}
use Rattle.arrivals_tree.specs.Arriving.{Arrivals}
use Rattle.machine.specs.Systems.{system, TaskUnit, ReleasePattern, Periodic, Requested}
use Rattle.law_tasks.proofs.Shared.Courses.{FitBlock}
use Rattle.law_tasks.proofs.Shared.Programs.{Leads}
use Rattle.law_tasks.proofs.Shared.AptPrograms.{fit_body}
use Rattle.std.proofs.lemmas.Bool.{false_from_ne_true, or_parts}
use Rattle.law_tasks.proofs.Shared.Fresh.{AreSome}
use Rattle.law_calls.proofs.Shared.Systems.{thread_form, thread-at}

some_within : (n : ℕ) → is_outside 1 1000 n ≡ false → 1 ≤ n
some_within n e = let h : nat_lt n 1 ≡ false = (or_parts (nat_lt n 1) (nat_lt 1000 n) e).0 in grind arith

costs_some_by : (c : Costs) → costs_break c ≡ false → AreSome c
costs_some_by c e =
    let e1 = or_parts (is_outside 1 1000 c.assign) _ e in
    let e2 = or_parts (is_outside 1 1000 c.test) _ e1.1 in
    let e3 = or_parts (is_outside 1 1000 c.turn) _ e2.1 in
    let e4 = or_parts (is_outside 1 1000 c.call) _ e3.1 in
    let e5 = or_parts (is_outside 1 1000 c.nothing) _ e4.1 in
    let e6 = or_parts (is_outside 1 1000 c.put) _ e5.1 in
    let e7 = or_parts (is_outside 1 1000 c.finish) _ e6.1 in
    record {
      assign = some_within c.assign e1.0;
      test = some_within c.test e2.0;
      turn = some_within c.turn e3.0;
      call = some_within c.call e4.0;
      nothing = some_within c.nothing e5.0;
      put = some_within c.put e6.0;
      finish = some_within c.finish e7.0;
    }

pub costs_some : (p : Program) → MeetsRules p → AreSome p.costs
costs_some p meets = costs_some_by p.costs
    (or_parts _ _ (or_parts _ _ (false_from_ne_true (whole_breaks p) (λ breaks. meets Ranges Whole breaks))).0).0

-- the block of a task is one of its unit's bodies
block_at : (th : TaskUnit) (timing : ReleasePattern) (f : Form) → thread_form th timing f
    → (b : Body) × (slice_get (bodies f) 0 ≡ Some b) × (b.block ≡ th.block)
block_at th (Periodic offset period) f e = (_, ap (λ g. slice_get (bodies g) 0) e, refl)
block_at th (Requested op ceiling separation jitter external) f e = (_, ap (λ g. slice_get (bodies g) 0) e, refl)

pub fit_thread : (p : Program) (a : Arrivals) → MeetsRules p → (k : ℕ) (th : TaskUnit) → slice_get (system p a).threads k ≡ Some th
    → FitBlock (Leads (system p a)) false th.block
fit_thread p a meets k th at =
    let found = thread-at p a k th at in
    let b = block_at th th.timing found.1.form (found.2).form in
    subst (FitBlock (Leads (system p a)) false) b.2 (fit_body p a meets found.0 found.1 0 b.0 (found.2).stands b.1)
