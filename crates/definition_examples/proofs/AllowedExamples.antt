-- Examples: what a design does not allow. Each breaks one condition alone, and beside most of them stands what keeps it.
use Rattle.std.specs.Prelude.{◌≡◌, ℕ, ◌≤◌, List, [], ◌∷◌, ◌++◌, map, Option, Some, None, codes, refl}
use Rattle.std.proofs.Common.{lit≤, arith, sym, ap, subst, inl, inr, ◌∙◌}
use Rattle.seq_tree.specs.Names.{Name}
use Rattle.seq_tree.specs.Expressions.{Number}
use Rattle.seq_tree.specs.Statements.{Put, Then, End}
use Rattle.seq_tree.specs.Operations.{Operation}
use Rattle.seq_tree.specs.Variables.{Variables}
use Rattle.seq_tree.specs.Runs.{Action, Path, Setting, Followed, RunBlock, RunBody, silent}
use Rattle.seq_tree.specs.Runs as runs
use Rattle.ods_tree.specs.Designs.{Design}
use Rattle.ods_tree.specs.Flats.{Guarded, Cyclic, Sporadic}
use Rattle.rt_response.specs.declared.rows.Bound.{Bound}
use Rattle.ods_tree.proofs.Shared.Short.{row_costs}
use Rattle.guarantee.specs.Software.{Task, Software, software, program_software, leads_to}
use Rattle.guarantee.specs.Events.{Deed, Arrive, Release, Print, By, Horizon}
use Rattle.guarantee.specs.Events as events
use Rattle.guarantee.specs.Arrivals.{Arrivals}
use Rattle.guarantee.specs.Order.{IsInOrder}
use Rattle.guarantee.specs.Releases.{AreOnTime}
use Rattle.guarantee.specs.Steps.{Step, Placed, moments, shown}
use Rattle.guarantee.specs.Scripts.{AreRuns, FollowsBlock}
use Rattle.guarantee.specs.Passages.{Into, Out, AreOneByOne}
use Rattle.guarantee.specs.Allowed.{Permits}
use Rattle.guarantee.specs.Guaranteed.{Guaranteed}

abbrev a : Name
a = codes "a"

abbrev task : Task
task = record { name = a; timing = Cyclic 10 0; vars = []; block = End }

abbrev nothing : Software
nothing = record { costs = row_costs; passive = []; shared = []; tasks = task ∷ [] }

-- a deed at the horizon, and one behind its time
at_horizon : IsInOrder (task ∷ []) 10 0 (By 10 a (Release None) ∷ Horizon 10 ∷ [])
at_horizon = (lit≤ tt, refl, refl, (lit≤ tt, refl, refl))

past_horizon : IsInOrder (task ∷ []) 10 0 (By 11 a (Release None) ∷ Horizon 10 ∷ []) → ⊥
past_horizon h = (let e : 11 ≤ 10 = h.3.0 in omega (arith, e))

-- the release of a cyclic thread with a value
with_value : AreOnTime 10 5 0 (record { time = 0; value = Some 7 } ∷ []) → ⊥
with_value h = (let e : ◌≡◌ {A = Option ℕ} (Some 7) None = h.2 in cc)

-- a thread that does something before its first release
before_release : FollowsBlock nothing (moments (By 0 a (Print 1) ∷ []) []) task → ⊥
before_release h = (let e = h.0 in cc)

-- the ways through a block that puts 1 put 1, and nothing else
one_print : (g : Setting) (vars : Variables) (p : Path) → RunBlock g (Then (Put (Number 1)) End) vars p → p.script ≡ runs.Print 1 ∷ []
one_print g vars p (q, e, f) = go q e f
  where
    go : (q : Path) → q ≡ record (silent g.costs.put vars) { script = runs.Print 1 ∷ [] } → Followed q.left q (RunBlock g End q.vars) p
        → p.script ≡ runs.Print 1 ∷ []
    go q e = subst (λ (z : Path). Followed z.left z (RunBlock g End z.vars) p → p.script ≡ runs.Print 1 ∷ []) (sym e)
        (λ f. ap (λ (z : Path). z.script) f.2 ∙ ap (λ (z : Path). runs.Print 1 ∷ z.script) f.1)

-- of two steps the first is before the last
first_step : (x y end : Step) (script : List Step) → x ∷ y ∷ [] ≡ script ++ end ∷ [] → map (λ (s : Step). s.deed) script ≡ x.deed ∷ []
first_step x y end [] e = absurd cc
first_step x y end (s ∷ []) e = (let same : x ≡ s = cc in ap (λ (z : Step). z.deed ∷ []) (sym same))
first_step x y end (s ∷ t ∷ ss) e = absurd (none ss (let q : [] ≡ ss ++ end ∷ [] = cc in q))
  where
    none : (ss : List Step) → [] ≡ ss ++ end ∷ [] → ⊥
    none [] q = cc
    none (z ∷ zs) q = cc

-- two actions are no front of one
too_many : (x y : Deed) (one : Action) (script more : List Action) → x ∷ y ∷ [] ≡ map shown script → one ∷ [] ≡ script ++ more → ⊥
too_many x y one [] more d e = cc
too_many x y one (s ∷ []) more d e = cc
too_many x y one (s ∷ t ∷ ss) more d e = cc

abbrev printer : Task
printer = record task { block = Then (Put (Number 1)) End }

abbrev at : ℕ → Deed → Placed
at time deed = record { depth = 0; step = record { time = time; deed = deed; body = silent 0 [] } }

-- where the thread's block is run
abbrev setting : ℕ → Setting
setting depth = record { costs = nothing.costs; callee = leads_to nothing; Body = RunBody nothing.costs (leads_to nothing) depth }

-- a thread that puts another number than its block does
other_run : AreRuns nothing printer [] (record { time = 0; value = None; steps = at 2 (Print 2) ∷ at 3 (events.End 3) ∷ [] } ∷ []) → ⊥
other_run (inl (p, w, c, more)) =
    let told = first_step (at 2 (Print 2)).step (at 3 (events.End 3)).step w.end w.script w.steps in
    let same : Print 2 ∷ [] ≡ map shown p.script = sym told ∙ w.shows in
    let other : map shown p.script ≡ Print 1 ∷ [] = ap (λ s. map shown s) (one_print (setting w.run.0) [] p w.run.1) in
    let e : ◌≡◌ {A = List Deed} (Print 2 ∷ []) (Print 1 ∷ []) = same ∙ other in
    cc
other_run (inr h) =
    let b = h.0.begins in
    let s = b.1 in
    let one : s.0.script ≡ runs.Print 1 ∷ [] = one_print (setting s.1.0) [] s.0 s.1.1 in
    too_many (Print 2) (events.End 3) (runs.Print 1) h.0.script b.0 h.0.shows (sym one ∙ s.2)

other_deed : FollowsBlock nothing (moments (By 0 a (Release None) ∷ By 2 a (Print 2) ∷ By 3 a (events.End 3) ∷ []) []) printer → ⊥
other_deed h = other_run h.1

-- an object with one operation, which does nothing
abbrev put_only : Operation
put_only = record { sig = record { name = codes "put"; params = [] }; locals = []; block = End }

abbrev guard : Guarded
guard = record { name = codes "q"; vars = []; ops = put_only ∷ [] }

-- it is entered at the last
known_at_last : AreOneByOne nothing guard [] (Into a (codes "put") [] [] (silent 0 []) ∷ [])
known_at_last = (put_only, refl, record { script = []; begins = ([], (silent 0 [], (0, refl, refl), refl)); shows = refl })

-- another operation is not the object's, at the last and before it
unknown_at_last : AreOneByOne nothing guard [] (Into a (codes "next") [] [] (silent 0 []) ∷ []) → ⊥
unknown_at_last h = (let e = h.1 in cc)

unknown_operation : AreOneByOne nothing guard [] (Into a (codes "next") [] [] (silent 0 []) ∷ Out a (codes "next") [] ∷ []) → ⊥
unknown_operation h = (let e = h.2.stands in cc)

-- arrivals under which a request comes at 5
abbrev asked : Arrivals
asked = record { until = 10; work = []; items = record { time = 5; task = a; value = None } ∷ [] }

-- a request from outside that isn't told
untold : Permits nothing asked (Horizon 10 ∷ []) → ⊥
untold h = (let e = h.arrivals in cc)

-- a cyclic thread that isn't released
unreleased : Permits nothing (record { until = 10; work = []; items = [] }) (Horizon 10 ∷ []) → ⊥
unreleased h = (let e = h.periodic.0 in omega (arith, e))

-- a sporadic thread whose request isn't served
abbrev waiting : Software
waiting = record {
  costs = row_costs;
  passive = [];
  shared = [];
  tasks = record { name = a; timing = Sporadic (record { name = codes "go"; params = [] }) 10 (Some 0); vars = []; block = End } ∷ [];
}

unserved : Permits waiting asked (By 5 a (Arrive None) ∷ Horizon 10 ∷ []) → ⊥
unserved h = h.requested.0

-- a text whose program has no task is guaranteed for no design that has one
without_tasks : (limit : ℕ) (x : Design) (text : List ℕ) (v : List Bound) (g : Guaranteed limit x text v) (t : Task) (ts : List Task)
    → (program_software g.program).tasks ≡ [] → (software x).tasks ≡ t ∷ ts → ⊥
without_tasks limit x text v g t ts none some =
    let names : map (λ (u : Task). u.name) [] ≡ map (λ (u : Task). u.name) (t ∷ ts) =
    sym (ap (λ us. map (λ (u : Task). u.name) us) none) ∙ (g.tasks ∙ ap (λ us. map (λ (u : Task). u.name) us) some) in
    cc
