-- What runs of a program of every kind of unit, what its calls lead to, and a call of a passive operation in a run.
use Rattle.std.specs.Prelude.{◌≡◌, true, List, [], ◌∷◌, None, codes}
use Rattle.std.proofs.Common.{refl}
use Rattle.seq_tree.specs.Names.{Name}
use Rattle.seq_tree.specs.Statements.{Statement, Statements, Null, Call, Work, End, Then}
use Rattle.seq_tree.specs.Operations.{Operation, Signature}
use Rattle.seq_tree.specs.declared.tree.Costs.{Costs}
use Rattle.seq_tree.specs.declared.tree.Datum.{Datum}
use Rattle.seq_tree.specs.declared.tree.Mode.TheVariants.{In}
use Rattle.ada_tree.specs.Programs.{Unit, Program, Passive, Shared, Cyclic, Sporadic}
use Rattle.arrivals_tree.specs.Arriving.{Arrivals}
use Rattle.trace_tree.specs.declared.event.Event.TheVariants as event
use Rattle.machine.specs.Meanings.{Meaning}
use Rattle.machine.specs.Systems.{System, Plain, Protected, Request, Unknown, Periodic, Requested, callee, system}

abbrev costs : Costs
costs = record { assign = 1; test = 1; turn = 1; call = 2; nothing = 1; put = 1; finish = 1 }

abbrev one : Statement → Statements
one x = Then x End

abbrev op : Name → Statements → Operation
op n b = record { sig = record { name = n; params = [] }; locals = []; block = b }

abbrev datum : Name → Datum
datum n = record { name = n; value = 1 }

abbrev start : Signature
start = record { name = codes "start"; params = record { name = codes "v"; mode = In } ∷ [] }

-- two units of each kind, of which the second ones have two operations where they have any
abbrev passive_ops : List Operation
passive_ops = op (codes "set") (one Null) ∷ op (codes "get") (one (Work 2)) ∷ []

abbrev shared_ops : List Operation
shared_ops = op (codes "set") (one (Work 3)) ∷ op (codes "get") (one (Work 4)) ∷ []

abbrev units : List Unit
units =
    record { name = codes "a"; form = Cyclic 7 2 30 (datum (codes "x") ∷ []) (one (Work 5)) }
    ∷ record { name = codes "o"; form = Passive (op (codes "add") End ∷ []) }
    ∷ record { name = codes "k"; form = Shared 9 [] [] }
    ∷ record { name = codes "s"; form = Sporadic 8 6 start 40 3 true (datum (codes "y") ∷ []) (one (Work 6)) }
    ∷ record { name = codes "p"; form = Passive passive_ops }
    ∷ record { name = codes "q"; form = Shared 4 (datum (codes "z") ∷ []) shared_ops }
    ∷ []

abbrev arrivals : Arrivals
arrivals = record { until = 50; work = record { task = 3; ticks = 2 ∷ 1 ∷ [] } ∷ []; items = [] }

abbrev running : System
running = system (record { name = codes "d"; costs = costs; units = units }) arrivals

passive_units : running.libraries
    ≡ record { unit = 1; name = codes "o"; ops = op (codes "add") End ∷ [] } ∷ record { unit = 4; name = codes "p"; ops = passive_ops } ∷ []
passive_units = refl

protected_objects : running.objects
    ≡ record { unit = 2; name = codes "k"; ceiling = 9; vars = []; ops = [] }
    ∷ record { unit = 5; name = codes "q"; ceiling = 4; vars = datum (codes "z") ∷ []; ops = shared_ops } ∷ []
protected_objects = refl

tasks : running.threads
    ≡ record {
      unit = 0;
      name = codes "a";
      priority = 7;
      timing = Periodic 2 30;
      vars = datum (codes "x") ∷ [];
      block = one (Work 5);
      durations = [];
    }
    ∷ record {
      unit = 3;
      name = codes "s";
      priority = 8;
      timing = Requested start 6 40 3 true;
      vars = datum (codes "y") ∷ [];
      block = one (Work 6);
      durations = 2 ∷ 1 ∷ [];
    } ∷ []
tasks = refl

horizon : running.until ≡ 50
horizon = refl

prices : running.costs ≡ costs
prices = refl

-- a call leads to the operation of its name, of the unit of its name
first_op : callee running (codes "p") (codes "set") ≡ Plain (op (codes "set") (one Null))
first_op = refl

second_op : callee running (codes "p") (codes "get") ≡ Plain (op (codes "get") (one (Work 2)))
second_op = refl

no_op : callee running (codes "p") (codes "add") ≡ Unknown
no_op = refl

protected_op : callee running (codes "q") (codes "get")
    ≡ Protected 1 1 (record { unit = 5; name = codes "q"; ceiling = 4; vars = datum (codes "z") ∷ []; ops = shared_ops })
    (op (codes "get") (one (Work 4)))
protected_op = refl

first_protected : callee running (codes "q") (codes "set")
    ≡ Protected 1 0 (record { unit = 5; name = codes "q"; ceiling = 4; vars = datum (codes "z") ∷ []; ops = shared_ops })
    (op (codes "set") (one (Work 3)))
first_protected = refl

no_protected : callee running (codes "k") (codes "set") ≡ Unknown
no_protected = refl

request : callee running (codes "s") (codes "start") ≡ Request 1
request = refl

no_request : callee running (codes "s") (codes "set") ≡ Unknown
no_request = refl

cyclic_task : callee running (codes "a") (codes "start") ≡ Unknown
cyclic_task = refl

no_unit : callee running (codes "n") (codes "set") ≡ Unknown
no_unit = refl

-- a passive operation takes the ticks of its call and of its body, and nothing is told of it
passive_call : Meaning
    (record {
      name = codes "d";
      costs = costs;
      units = record { name = codes "p"; form = Passive passive_ops }
          ∷ record { name = codes "a"; form = Cyclic 1 0 40 [] (one (Call (codes "p") (codes "get") [])) } ∷ [];
    })
    (record { until = 12; work = []; items = [] })
    (event.Release 0 1 None ∷ event.End 5 1 5 ∷ event.Horizon 12 ∷ [])
passive_call = record { steps = 80; stops = refl; tells = refl }
