-- Examples: when a run runs out, and when what is told of it ends at a violated ceiling. Each that doesn't breaks one part alone.
use Rattle.std.specs.Prelude.{◌≡◌, ℕ, List, [], ◌∷◌, ◌++◌, get_or, None, codes, refl}
use Rattle.std.proofs.Common.{arith, ap, sym, ◌∙◌}
use Rattle.seq_tree.specs.Names.{Name}
use Rattle.seq_tree.specs.Statements.{End}
use Rattle.ods_tree.proofs.Shared.Short.{row_costs}
use Rattle.ada_tree.specs.Programs.{Program, Shared, Cyclic}
use Rattle.trace_tree.specs.declared.event.Event.{Event}
use Rattle.trace_tree.specs.declared.event.Event.TheVariants as event
use Rattle.trace_tree.specs.Lines.{unit_name}
use Rattle.law_ceilings.specs.Ceilings.{GoesOn}
use Rattle.hrthood_top.specs.Violations.{EndsAt, RunsOut, Violation}

-- a task and a protected object
abbrev units : Program
units = record {
  name = codes "main";
  costs = row_costs;
  units = record { name = codes "a"; form = Cyclic 2 0 10 [] End } ∷ record { name = codes "q"; form = Shared 1 [] [] } ∷ [];
}

abbrev violation : Name → Name → Violation
violation task object = record { time = 5; task = task; object = object; priority = 2; ceiling = 1 }

-- a stop is the only event behind which a run doesn't go on
going : GoesOn (event.Horizon 9)
going = tt

not_going : GoesOn (event.Stop 5 0 1 2 1) → ⊥
not_going h = h

runs_out : RunsOut (event.Release 0 0 None ∷ event.Horizon 9 ∷ [])
runs_out = (tt, (tt, tt))

stops : RunsOut (event.Release 0 0 None ∷ event.Stop 5 0 1 2 1 ∷ []) → ⊥
stops h = h.1.0

ends : EndsAt units (event.Release 0 0 None ∷ event.Stop 5 0 1 2 1 ∷ []) (violation (codes "a") (codes "q"))
unfolding unit_name
ends = record { front = event.Release 0 0 None ∷ []; task = 0; object = 1; last = refl; task_name = refl; object_name = refl }

-- the task and the object of a stop
abbrev stop_task : Event → ℕ
stop_task (event.Stop time task object priority ceiling) = task
stop_task e = 9

abbrev stop_object : Event → ℕ
stop_object (event.Stop time task object priority ceiling) = object
stop_object e = 9

abbrev first : List Event → Event
first [] = event.Horizon 0
first (e ∷ es) = e

only : (front : List Event) (e : Event) → event.Stop 5 0 1 2 1 ∷ [] ≡ front ++ e ∷ [] → event.Stop 5 0 1 2 1 ≡ e
only [] e same = ap first same
only (f ∷ []) e same = cc
only (f ∷ g ∷ front) e same = cc

-- another task, and another object
other_task : EndsAt units (event.Stop 5 0 1 2 1 ∷ []) (violation (codes "q") (codes "q")) → ⊥
unfolding unit_name
other_task h =
    let stop : event.Stop 5 0 1 2 1 ≡ event.Stop 5 h.task h.object 2 1 = only h.front (event.Stop 5 h.task h.object 2 1) h.last in
    let name : codes "q" ≡ unit_name units 0 = h.task_name ∙ sym (ap (λ e. unit_name units (stop_task e)) stop) in
    omega (arith, ap (λ (n : Name). get_or n 0 0) name)

other_object : EndsAt units (event.Stop 5 0 1 2 1 ∷ []) (violation (codes "a") (codes "a")) → ⊥
unfolding unit_name
other_object h =
    let stop : event.Stop 5 0 1 2 1 ≡ event.Stop 5 h.task h.object 2 1 = only h.front (event.Stop 5 h.task h.object 2 1) h.last in
    let name : codes "a" ≡ unit_name units 1 = h.object_name ∙ sym (ap (λ e. unit_name units (stop_object e)) stop) in
    omega (arith, ap (λ (n : Name). get_or n 0 0) name)

-- the stop is not the last
goes_on : (v : Violation) → EndsAt units (event.Stop 5 0 1 2 1 ∷ event.Horizon 9 ∷ []) v → ⊥
goes_on v h = by h.front h.last
  where
    by : (front : List Event) → event.Stop 5 0 1 2 1 ∷ event.Horizon 9 ∷ [] ≡ front ++ event.Stop v.time h.task h.object v.priority v.ceiling ∷ [] → ⊥
    by [] e = cc
    by (f ∷ []) e = cc
    by (f ∷ g ∷ []) e = cc
    by (f ∷ g ∷ k ∷ front) e = cc
