-- Examples: a block that prints 4294967295 + 1, along three scripts.
use Rattle.std.specs.Prelude.{◌≡◌, false, [], ◌∷◌, Ok, Err, refl}
use Rattle.grammar.specs.Reading.{Syntax, whole_at}
use Rattle.seq_tree.specs.Names.{Name}
use Rattle.seq_tree.specs.Expressions.{Number, Binary}
use Rattle.seq_tree.specs.Statements.{Statements, Put, End, Then}
use Rattle.seq_tree.specs.Runs.{Callee, Unknown, Path, Print}
use Rattle.seq_tree.specs.declared.tree.BinOp.TheVariants.{Add}
use Rattle.seq_tree.specs.declared.tree.Costs.{Costs}
use Rattle.law_walks.specs.Walks.{walk_at}

abbrev costs : Costs
costs = record { assign = 1; test = 1; turn = 1; call = 2; nothing = 1; put = 1; finish = 1 }

abbrev calls : Name → Name → Callee
calls object op = Unknown

abbrev block : Statements
block = Then (Put (Binary Add (Number 4294967295) (Number 1))) End

-- it prints 0, which takes a tick
abbrev printed : Path
printed = record { script = Print 0 ∷ []; left = false; vars = []; low = 1; high = 1 }

prints_zero : whole_at (walk_at costs calls 0 block []) (Print 0 ∷ []) ≡ Ok printed
prints_zero = refl

-- the script ends inside the run
is_short : whole_at (walk_at costs calls 0 block []) [] ≡ Err (Syntax 0)
is_short = refl

-- the first action, which is the last but none, can't stand there
strays : whole_at (walk_at costs calls 0 block []) (Print 1 ∷ []) ≡ Err (Syntax 1)
strays = refl

-- and neither can an action behind the run
goes_on : whole_at (walk_at costs calls 0 block []) (Print 0 ∷ Print 0 ∷ []) ≡ Err (Syntax 1)
goes_on = refl
