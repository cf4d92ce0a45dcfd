-- Examples: what the walks of small blocks come to, and blocks that may not be walked.
use Rattle.std.specs.Prelude.{◌≡◌, false, true, [], ◌∷◌, Some, Ok, Err, codes, refl, if◌then◌else◌}
use Rattle.grammar.specs.Reading.{whole_at}
use Rattle.seq_tree.specs.Names.{Name, same_name}
use Rattle.seq_tree.specs.Expressions.{Number, Variable, Binary}
use Rattle.seq_tree.specs.Operations.{Operation}
use Rattle.seq_tree.specs.Statements.{Statement, Statements, Assign, For, ExitWhen, Call, Work, Put, End, Then}
use Rattle.seq_tree.specs.Variables.{Variables}
use Rattle.seq_tree.specs.Runs.{Callee, Plain, Protected, Asked, Unknown, Enter, Leave, Request, Print}
use Rattle.seq_tree.specs.declared.tree.BinOp.TheVariants as op
use Rattle.seq_tree.specs.declared.tree.Costs.{Costs}
use Rattle.seq_tree.specs.declared.tree.Mode.TheVariants.{In, Out}
use Rattle.seq_tree.specs.declared.tree.OpName.{OpName}
use Rattle.law_walks.specs.Fit.{MayRun}
use Rattle.law_walks.specs.Walks.{walk_at}
use Rattle.seq_eval.specs.Bounds.{most_ticks}
use Rattle.seq_eval.specs.Ends.{comes_to}

abbrev costs : Costs
costs = record { assign = 1; test = 1; turn = 1; call = 2; nothing = 1; put = 1; finish = 1 }

abbrev x : Name
x = codes "x"

abbrev y : Name
y = codes "y"

abbrev n : Name
n = codes "n"

-- procedure twice (n : in Word; m : out Word): m := n + n;
abbrev twice : Operation
twice = record {
  sig = record { name = codes "twice"; params = record { name = n; mode = In } ∷ record { name = codes "m"; mode = Out } ∷ [] };
  locals = [];
  block = Then (Assign (codes "m") (Binary op.Add (Variable n) (Variable n))) End;
}

-- a procedure that calls itself
abbrev again : Operation
again = record {
  sig = record { name = codes "again"; params = [] };
  locals = [];
  block = Then (Call (codes "p") (codes "again") []) End;
}

abbrev calls : Name → Name → Callee
calls object op' =
    if same_name op' (codes "twice") then Plain twice
    else if same_name op' (codes "get") then Protected (record { name = n; mode = Out } ∷ [])
    else if same_name op' (codes "start") then Asked
    else if same_name op' (codes "again") then Plain again
    else Unknown

abbrev vars : Variables
vars = (x, 3) ∷ (y, 0) ∷ []

abbrev one : Statement → Statements
one s = Then s End

-- the body of a passive operation, whose value comes back
returns : comes_to (whole_at (walk_at costs calls 1 (one (Call (codes "p") (codes "twice") (Variable x ∷ Variable y ∷ []))) vars) [])
    ≡ Ok (record { vars = (x, 3) ∷ (y, 6) ∷ []; low = 3; high = 3 })
returns = refl

abbrev get : OpName
get = record { object = codes "q"; op = codes "get" }

-- a protected operation hands out what the script says
hands_out : comes_to (whole_at (walk_at costs calls 0 (one (Call (codes "q") (codes "get") (Variable y ∷ []))) vars)
    (Enter get [] ∷ Leave get (9 ∷ []) ∷ []))
    ≡ Ok (record { vars = (x, 3) ∷ (y, 9) ∷ []; low = 2; high = 2 })
hands_out = refl

-- it may not hand out two values
hands_one : comes_to (whole_at (walk_at costs calls 0 (one (Call (codes "q") (codes "get") (Variable y ∷ []))) vars)
    (Enter get [] ∷ Leave get (9 ∷ 9 ∷ []) ∷ []))
    ≡ Err 1
hands_one = refl

-- a request has its value
asks : comes_to (whole_at (walk_at costs calls 0 (one (Call (codes "s") (codes "start") (Variable x ∷ []))) vars)
    (Request (record { object = codes "s"; op = codes "start" }) (Some 3) ∷ []))
    ≡ Ok (record { vars = vars; low = 4; high = 4 })
asks = refl

-- an exit leaves the loop, whose name goes
leaves_loop : comes_to (whole_at (walk_at costs calls 0
    (Then (For (codes "i") 1 9 (Then (Put (Variable (codes "i"))) (one (ExitWhen (Binary op.Eq (Variable (codes "i")) (Number 2))))))
    (one (Work 7))) vars) (Print 1 ∷ Print 2 ∷ []))
    ≡ Ok (record { vars = vars; low = 7; high = 13 })
leaves_loop = refl

-- a call that leads nowhere, an exit outside a loop and a ring of calls are no blocks that may be walked
unknown : MayRun calls 5 (one (Call (codes "z") (codes "none") [])) → ⊥
unknown may = may.0

outside : MayRun calls 5 (one (ExitWhen (Number 1))) → ⊥
outside may = let e : false ≡ true = may.0 in cc

ring : MayRun calls 2 (one (Call (codes "p") (codes "again") [])) → ⊥
ring may = may.0.0.0

-- and this one may
walked : MayRun calls 1 (one (Call (codes "p") (codes "twice") (Variable x ∷ Variable y ∷ [])))
walked = ((tt, tt), tt)

-- the ticks of a call are those of its body, and nothing for that of a protected operation
ticks : most_ticks costs calls 2 (Then (Call (codes "p") (codes "twice") []) (one (Call (codes "q") (codes "get") []))) ≡ 5
ticks = refl

-- a `work` counts a tick at least
idle : most_ticks costs calls 0 (one (Work 0)) ≡ 1
idle = refl
