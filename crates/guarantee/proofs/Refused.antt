-- What a design does not allow, clause by clause: each of these breaks one clause alone, and beside it stands what keeps it.
use Rattle.std.specs.Prelude.{◌≡◌, ℕ, ◌≤◌, ◌<◌, ◌+◌, true, false, List, [], ◌∷◌, ◌++◌, map, Some, None, codes, refl}
use Rattle.std.proofs.Common.{lit≤, lit<, inl, inr, arith, sym, ap, ◌∙◌}
use Rattle.seq_tree.specs.Names.{Name}
use Rattle.seq_tree.specs.Expressions.{Number, Variable, Binary}
use Rattle.seq_tree.specs.Statements.{Statement, Assign, Work, Put, End}
use Rattle.seq_tree.specs.Variables.{reads}
use Rattle.seq_tree.specs.Runs.{Path, silent}
use Rattle.seq_tree.specs.Runs as runs
use Rattle.seq_tree.specs.Operations.{Signature, Operation, out_names}
use Rattle.seq_tree.specs.declared.tree.BinOp.TheVariants as op
use Rattle.seq_tree.specs.declared.tree.Datum.{Datum}
use Rattle.seq_tree.specs.declared.tree.Mode.TheVariants.{Out}
use Rattle.seq_tree.specs.declared.tree.OpName.{OpName}
use Rattle.ada_tree.specs.Programs as form
use Rattle.ods_tree.specs.Flats.{Guarded, Cyclic, Sporadic, Thread}
use Rattle.ods_tree.proofs.Shared.Short.{row_costs, block, cyc, cyc_at, pro, several, call}
use Rattle.guarantee.specs.Software.{Task, Software}
use Rattle.guarantee.specs.Events.{Deed, Arrive, Release, Enter, Leave, Print, Stop, By, Horizon}
use Rattle.guarantee.specs.Events as events
use Rattle.guarantee.specs.Arrivals.{KeepTime, KeepsSeparation, Takes, AreDurations, DontFall, IsExternal}
use Rattle.guarantee.specs.Bounded.{EndsBy, Responds}
use Rattle.guarantee.specs.Order.{IsInOrder}
use Rattle.guarantee.specs.Releases.{Released, AreOnTime}
use Rattle.guarantee.specs.Requests.{Notice, Asked, Taken, Done, AreServed, AreTold}
use Rattle.guarantee.specs.Steps.{Step, Placed, moments, steps_of, inside}
use Rattle.guarantee.specs.Scripts.{Activation, IsCharged, AreRuns}
use Rattle.guarantee.specs.Passages.{Passage, Into, Out, AreOneByOne}
use Rattle.guarantee.specs.Programs.{program, thread_form}
use Rattle.guarantee.specs.ResponseLaw.{Ranked, AreTabled}
use Rattle.guarantee.specs.Guaranteed.{external_by}

abbrev a : Name
a = codes "a"

abbrev b : Name
b = codes "b"

abbrev task : Task
task = record { name = a; timing = Cyclic 10 0; vars = []; block = End }

-- times that fall
times_fall : IsInOrder (task ∷ []) 10 0 (By 5 a (Release None) ∷ By 4 a (events.End 1) ∷ Horizon 10 ∷ []) → ⊥
times_fall h = (let e : 5 ≤ 4 = h.3.0 in omega (arith, e))

-- a deed of no thread
of_nobody : IsInOrder (task ∷ []) 10 0 (By 5 b (Release None) ∷ Horizon 10 ∷ []) → ⊥
of_nobody h = (let e : false ≡ true = h.1 in cc)

-- a stop
stopped : IsInOrder (task ∷ []) 10 0 (By 5 a (Stop b 2 1) ∷ Horizon 10 ∷ []) → ⊥
stopped h = (let e : true ≡ false = h.2 in cc)

-- no horizon, one that is early, and something after it
without_horizon : IsInOrder (task ∷ []) 10 0 [] → ⊥
without_horizon h = h

early_horizon : IsInOrder (task ∷ []) 10 0 (Horizon 9 ∷ []) → ⊥
early_horizon h = (let e : ◌≡◌ {A = ℕ} 9 10 = h.1 in cc)

after_horizon : IsInOrder (task ∷ []) 10 0 (Horizon 10 ∷ By 10 a (Release None) ∷ []) → ⊥
after_horizon h = (let e : ◌≡◌ {A = List events.Event} (By 10 a (Release None) ∷ []) [] = h.2 in cc)

abbrev released : ℕ → Released
released time = record { time = time; value = None }

-- releases with a period of 10 until 20: one is missing, one is late, one is past the horizon
missing_release : AreOnTime 10 20 0 (released 0 ∷ released 10 ∷ []) → ⊥
missing_release h = (let e : 20 < 20 = h.3.3 in omega (arith, e))

late_release : AreOnTime 10 20 0 (released 1 ∷ released 10 ∷ released 20 ∷ []) → ⊥
late_release h = (let e : ◌≡◌ {A = ℕ} 1 0 = h.1 in cc)

far_release : AreOnTime 10 20 0 (released 0 ∷ released 10 ∷ released 20 ∷ released 30 ∷ []) → ⊥
far_release h = (let e : 30 ≤ 20 = h.3.3.3.0 in omega (arith, e))

-- an end after the bound, the end of another thread, and no end up to the horizon
late_end : EndsBy a 5 (By 6 a (events.End 1) ∷ []) → ⊥
late_end h = (let e : 6 ≤ 5 = h in omega (arith, e))

end_of_another : EndsBy a 5 (By 4 b (events.End 1) ∷ []) → ⊥
end_of_another h = h

without_end : Responds 5 (By 0 a (Release None) ∷ Horizon 5 ∷ []) (record { thread = a; ticks = 5 }) → ⊥
without_end h = h.0 (lit≤ tt)

-- where the bound is past the horizon an end may be missing
end_past_horizon : Responds 5 (By 0 a (Release None) ∷ Horizon 5 ∷ []) (record { thread = a; ticks = 6 })
end_past_horizon = ((λ h. omega (arith, h)), tt)

abbrev Served : List Notice → Type 0
Served told = AreServed [] (Some 0) told

-- a request that comes while the activation before goes on is served at its end
served_at_the_end : Served (Asked 4 (Some 7) ∷ Taken 4 (Some 7) ∷ Asked 6 (Some 8) ∷ Done 9 ∷ Taken 9 (Some 8) ∷ [])
served_at_the_end = (refl, refl, (refl, refl, tt))

-- two requests that wait are served in their order
served_in_order : Served (Asked 1 (Some 1) ∷ Taken 1 (Some 1) ∷ Asked 2 (Some 2) ∷ Asked 3 (Some 3) ∷ Done 5 ∷ Taken 5 (Some 2) ∷ Done 6
    ∷ Taken 6 (Some 3) ∷ [])
served_in_order = (refl, refl, (refl, refl, (refl, refl, tt)))

-- a request of an idle thread isn't left unserved
left_unserved : Served (Asked 4 (Some 7) ∷ []) → ⊥
left_unserved h = h

-- no release during an activation
released_while_active : Served (Asked 1 (Some 1) ∷ Taken 1 (Some 1) ∷ Asked 2 (Some 2) ∷ Taken 2 (Some 2) ∷ []) → ⊥
released_while_active h = h.2

-- no release without a request
released_unasked : Served (Taken 1 (Some 1) ∷ []) → ⊥
released_unasked h = h

-- no release later than it is due
released_late : Served (Asked 4 (Some 7) ∷ Taken 5 (Some 7) ∷ []) → ⊥
released_late h =
    let same : ◌≡◌ {A = ℕ} 5 4 = h.0 in
    cc

-- an arrival past the horizon isn't told
told_to_the_horizon : AreTold 10 (record { time = 12; task = codes "s"; value = None } ∷ []) (Horizon 10 ∷ [])
told_to_the_horizon = refl

-- an arrival up to the horizon is told
untold : AreTold 10 (record { time = 10; task = codes "s"; value = None } ∷ []) (Horizon 10 ∷ []) → ⊥
untold h = cc

abbrev nothing : Software
nothing = record { costs = row_costs; passive = []; shared = []; tasks = [] }

abbrev way : ℕ → ℕ → Path
way low high = record { script = []; left = false; vars = []; low = low; high = high }

-- an activation that enters an operation of 3 to 5 ticks
abbrev entering : Activation
entering = record {
  time = 0;
  value = None;
  steps = record { depth = 0; step = record { time = 1; deed = Enter (record { object = codes "q"; op = codes "set" }) []; body = way 3 5 } } ∷ [];
}

-- with 2 ticks of its own and 1 of its end it uses 6 to 8
least_charge : IsCharged nothing entering (way 2 2) 6
least_charge = record { at_least = lit≤ tt; at_most = lit≤ tt }

most_charge : IsCharged nothing entering (way 2 2) 8
most_charge = record { at_least = lit≤ tt; at_most = lit≤ tt }

too_little : IsCharged nothing entering (way 2 2) 5 → ⊥
too_little h =
    let least : 6 ≤ 5 = h.at_least in
    omega arith

too_much : IsCharged nothing entering (way 2 2) 9 → ⊥
too_much h =
    let most : 9 ≤ 8 = h.at_most in
    omega arith

abbrev x : Name
x = codes "x"

abbrev datum : Datum
datum = record { name = x; value = 0 }

abbrev count : Statement
count = Assign x (Binary op.Add (Variable x) (Number 1))

-- a thread that prints how often it has been released
abbrev counter : Task
counter = record { name = a; timing = Cyclic 10 0; vars = datum ∷ []; block = block (count ∷ Put (Variable x) ∷ []) }

abbrev at : ℕ → Deed → Placed
at time deed = record { depth = 0; step = record { time = time; deed = deed; body = silent 0 [] } }

abbrev printed : ℕ → ℕ → Activation
printed time n = record { time = time; value = None; steps = at (time + 2) (Print n) ∷ at (time + 3) (events.End 3) ∷ [] }

abbrev printing : ℕ → Path
printing n = record { script = runs.Print n ∷ []; left = false; vars = (x, n) ∷ []; low = 2; high = 2 }

-- an activation goes on from the data that the one before left
data_kept : AreRuns nothing counter ((x, 0) ∷ []) (printed 0 1 ∷ printed 10 2 ∷ [])
data_kept = inl (
  printing 1,
  record {
    run = (0, (_, refl, (_, (_, refl, (_, refl, refl)), refl)), refl);
    script = (at 2 (Print 1)).step ∷ [];
    end = (at 3 (events.End 3)).step;
    used = 3;
    steps = refl;
    shows = refl;
    ends = refl;
    since = lit≤ tt;
  },
  record { at_least = lit≤ tt; at_most = lit≤ tt },
  inl (
    printing 2,
    record {
      run = (0, (_, refl, (_, (_, refl, (_, refl, refl)), refl)), refl);
      script = (at 12 (Print 2)).step ∷ [];
      end = (at 13 (events.End 3)).step;
      used = 3;
      steps = refl;
      shows = refl;
      ends = refl;
      since = lit≤ tt;
    },
    record { at_least = lit≤ tt; at_most = lit≤ tt },
    tt,
  ),
)

no_last : (e : Step) (ss : List Step) → [] ≡ ss ++ e ∷ [] → ⊥
no_last e [] q = cc
no_last e (y ∷ ys) q = cc

-- an activation that is begun only, and one after it
begun_before_another : AreRuns nothing counter ((x, 0) ∷ []) (record { time = 0; value = None; steps = [] } ∷ printed 10 1 ∷ []) → ⊥
begun_before_another (inl h) = no_last h.1.end h.1.script h.1.steps
begun_before_another (inr h) = (let e : ◌≡◌ {A = List Activation} (printed 10 1 ∷ []) [] = h.1 in cc)

-- an arrival is nothing that the thread does
arrival_is_no_step : map (λ s. s.deed) (steps_of a (moments (By 1 a (Arrive None) ∷ By 1 a (Release None) ∷ By 2 b (Release None) ∷ []) []))
    ≡ Release None ∷ []
arrival_is_no_step = refl

-- what belongs to an operation ends at its leave, and isn't what belongs to an operation inside it
abbrev q : OpName
q = record { object = codes "q"; op = codes "next" }

abbrev e : OpName
e = record { object = codes "e"; op = codes "next" }

of_the_operation : inside
    (map (λ d. (at 0 d).step) (Print 1 ∷ Enter e [] ∷ Print 2 ∷ Leave e [] ∷ Print 3 ∷ Leave q [] ∷ Print 4 ∷ Enter e [] ∷ Leave e [] ∷ []))
    ≡ Print 1 ∷ Enter e [] ∷ Leave e [] ∷ Print 3 ∷ []
of_the_operation = refl

-- an object that hands out how often it has been entered
abbrev next : Operation
next =
    record {
      sig = record { name = codes "next"; params = record { name = codes "n"; mode = Out } ∷ [] };
      locals = [];
      block = block
          (count ∷ Assign (codes "n") (Variable x) ∷ []);
    }

abbrev guard : Guarded
guard = record { name = codes "q"; vars = datum ∷ []; ops = next ∷ [] }

abbrev counted : ℕ → Path
counted n = record { script = []; left = false; vars = (codes "n", n) ∷ (x, n) ∷ []; low = 2; high = 2 }

abbrev Serves : List Passage → Type 0
Serves = AreOneByOne nothing guard ((x, 0) ∷ [])

-- an operation goes on from the data that the one before left
object_data_kept : Serves
    (Into a (codes "next") [] [] (counted 1) ∷ Out a (codes "next") (1 ∷ []) ∷ Into b (codes "next") [] [] (counted 2)
    ∷ Out b (codes "next") (2 ∷ []) ∷ [])
object_data_kept = (
  refl,
  refl,
  record {
    operation = _;
    stands = refl;
    runs = record
        { run = (0, (_, refl, (_, (_, refl, (_, refl, refl)), refl)), refl); shows = refl };
    gives = refl;
  },
  (
    refl,
    refl,
    record {
      operation = _;
      stands = refl;
      runs = record
          { run = (0, (_, refl, (_, (_, refl, (_, refl, refl)), refl)), refl); shows = refl };
      gives = refl;
    },
    tt,
  ),
)

-- one thread inside while another enters
two_inside : Serves (Into a (codes "next") [] [] (counted 1) ∷ Into b (codes "next") [] [] (counted 2) ∷ []) → ⊥
two_inside h = h

-- a thread leaves that isn't inside
left_by_nobody : Serves (Out a (codes "next") (1 ∷ []) ∷ []) → ⊥
left_by_nobody h = h

left_by_another : Serves (Into a (codes "next") [] [] (counted 1) ∷ Out b (codes "next") (1 ∷ []) ∷ []) → ⊥
left_by_another h = (let e' : false ≡ true = h.0 in cc)

other_operation_left : Serves (Into a (codes "next") [] [] (counted 1) ∷ Out a (codes "reset") (1 ∷ []) ∷ []) → ⊥
other_operation_left h = (let e' : false ≡ true = h.1 in cc)

-- another result than that of the body, and something done inside that the body doesn't do
wrong_result : Serves (Into a (codes "next") [] [] (counted 1) ∷ Out a (codes "next") (5 ∷ []) ∷ []) → ⊥
wrong_result h =
    let found : Some next ≡ Some h.2.operation = h.2.stands in
    let it : next ≡ h.2.operation = cc in
    other (h.2.gives ∙ ap (λ o. reads (out_names o.sig.params) (counted 1).vars) (sym it))
  where
    other : ◌≡◌ {A = List ℕ} (5 ∷ []) (1 ∷ []) → ⊥
    other e' = cc

wrong_deed : Serves (Into a (codes "next") [] (Print 1 ∷ []) (counted 1) ∷ Out a (codes "next") (1 ∷ []) ∷ []) → ⊥
wrong_deed h = (let e' : ◌≡◌ {A = List Deed} [] (Print 1 ∷ []) = h.2.runs.shows in cc)

-- separation 10 and jitter 5: what came early pushes the next nominal times on
kept_times : KeepTime 10 5 0 (0 ∷ 6 ∷ 15 ∷ [])
kept_times = (lit≤ tt, (lit≤ tt, (lit≤ tt, tt)))

broken_times : KeepTime 10 5 0 (0 ∷ 6 ∷ 12 ∷ []) → ⊥
broken_times h =
    let third : 20 ≤ 17 = h.1.1.0 in
    omega arith

abbrev go : Signature
go = record { name = codes "go"; params = [] }

-- the first arrival may come at once
first_at_once : KeepsSeparation (record { time = 0; task = codes "s"; value = None } ∷ []) (codes "s") (Sporadic go 10 (Some 0))
first_at_once = (lit≤ tt, tt)

-- a duration of nothing, and a request of a cyclic thread
no_duration : AreDurations [] (record { task = codes "a"; ticks = 0 ∷ [] }) → ⊥
no_duration h =
    let some : 1 ≤ 0 = h.1.0 in
    omega arith

-- times that fall, and a request of no thread
falling : DontFall 0 (record { time = 5; task = a; value = None } ∷ record { time = 4; task = a; value = None } ∷ []) → ⊥
falling h = (let e' : 5 ≤ 4 = h.1.0 in omega (arith, e'))

of_no_thread : IsExternal (task ∷ []) (record { time = 0; task = b; value = None }) → ⊥
of_no_thread h = h

not_cyclic : Takes (Cyclic 10 0) None → ⊥
not_cyclic h = h

abbrev thread : Thread
thread = record { name = codes "s"; timing = Sporadic go 10 None; deadline = 5; vars = []; block = End }

-- the unit of a thread that another one starts has no jitter, and isn't external
started_form : thread_form 2 3 (Sporadic go 10 None) thread ≡ form.Sporadic 2 3 go 10 0 false [] End
started_form = refl

-- what is requested from outside is listed
listed : external_by (codes "s") (Sporadic go 10 (Some 4)) ≡ Some (record { name = codes "s"; op = go; separation = 10; jitter = 4 })
listed = refl

-- the table of the response law: a section at a ceiling that equals a thread's priority blocks that thread
abbrev sectioned : form.Program
sectioned =
    program (several (cyc (codes "l") 20 20 (call (codes "q") (codes "set") ∷ [])
    ∷ cyc_at (codes "h") 10 9 3 (call (codes "q") (codes "set") ∷ []) ∷ pro (codes "q") (codes "set") (Work 3 ∷ []) ∷ []))

abbrev higher : Ranked
higher =
    record { task = record { name = codes "h"; timing = Cyclic 10 3; vars = []; block = block (call (codes "q") (codes "set") ∷ []) }; priority = 2 }

short_block : AreTabled sectioned (higher ∷ []) (record { period = 10; deadline = 9; jitter = 0; cost = 6; block = 2; starter = None } ∷ []) → ⊥
short_block w =
    let sections_of_l = w.blocks.0.0 (lit< tt) in
    let e' : 3 ≤ 2 = sections_of_l.0 (lit≤ tt) in
    omega (arith, e')
