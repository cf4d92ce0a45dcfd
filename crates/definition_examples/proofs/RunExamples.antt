-- Examples: the values of expressions, the variables of a run, and what the runs of a block are. Most differ in one thing from another.
use Rattle.std.specs.Prelude.{◌≡◌, ℕ, true, false, List, [], ◌∷◌, map, length, Some, None, codes, refl, if◌then◌else◌}
use Rattle.std.proofs.Common.{sym, ◌∙◌}
use Rattle.seq_tree.specs.Names.{Name, same_name}
use Rattle.seq_tree.specs.Expressions.{Expression, Number, Variable, Paren, Not, Binary}
use Rattle.seq_tree.specs.Statements.{Statement, Statements, Null, Assign, If, For, ExitWhen, Call, Work, Put, End, Then, Nothing, Else, When}
use Rattle.seq_tree.specs.Operations.{Operation}
use Rattle.seq_tree.specs.Values.{value, holds, handed}
use Rattle.seq_tree.specs.Variables.{Variables, read, write, kept, entered, opened, targets, stored}
use Rattle.seq_tree.specs.Calls.{block_calls, block_works}
use Rattle.seq_tree.specs.Dearest.{cost, starts, starts_through, turn_count}
use Rattle.seq_tree.specs.Runs.{Action, Callee, Path, Run, RunStatement, BeginsScript}
use Rattle.seq_tree.specs.Runs as runs
use Rattle.seq_tree.specs.declared.tree.Costs.{Costs}
use Rattle.seq_tree.specs.declared.tree.OpName.{OpName}
use Rattle.seq_tree.specs.declared.tree.Datum.{Datum}
use Rattle.seq_tree.specs.declared.tree.Param.{Param}
use Rattle.seq_tree.specs.declared.tree.Mode.TheVariants.{In, Out}
use Rattle.seq_tree.specs.declared.tree.BinOp.{BinOp}
use Rattle.seq_tree.specs.declared.tree.BinOp.TheVariants as bin

abbrev x : Name
x = codes "x"

abbrev y : Name
y = codes "y"

abbrev i : Name
i = codes "i"

-- costs that differ from each other
abbrev costs : Costs
costs = record { assign = 2; test = 3; turn = 5; call = 7; nothing = 11; put = 13; finish = 17 }

abbrev body : List Statement → Statements
body [] = End
body (s ∷ ss) = Then s (body ss)

abbrev result : BinOp → ℕ → ℕ → ℕ
result o a b = value (Binary o (Number a) (Number b)) []

-- words are added, subtracted and multiplied modulo 2 ** 32
words : result bin.Add 7 3 ∷ result bin.Sub 7 3 ∷ result bin.Mul 7 3 ∷ result bin.Div 7 3 ∷ result bin.Mod 7 3 ∷ [] ≡ 10 ∷ 4 ∷ 21 ∷ 2 ∷ 1 ∷ []
words = refl

wrapped : result bin.Add 4294967295 2 ∷ result bin.Sub 3 5 ∷ result bin.Mul 65536 65537 ∷ [] ≡ 1 ∷ 4294967294 ∷ 65536 ∷ []
wrapped = refl

abbrev compared : ℕ → ℕ → List ℕ
compared a b = result bin.Eq a b ∷ result bin.Ne a b ∷ result bin.Lt a b ∷ result bin.Le a b ∷ result bin.Gt a b ∷ result bin.Ge a b ∷ []

comparisons : compared 3 5 ∷ compared 4 4 ∷ compared 5 3 ∷ []
    ≡ (0 ∷ 1 ∷ 1 ∷ 1 ∷ 0 ∷ 0 ∷ []) ∷ (1 ∷ 0 ∷ 0 ∷ 1 ∷ 0 ∷ 1 ∷ []) ∷ (0 ∷ 1 ∷ 0 ∷ 0 ∷ 1 ∷ 1 ∷ []) ∷ []
comparisons = refl

-- `not` of a comparison, of one in parentheses, and of a word
inverted : value (Not (Binary bin.Eq (Number 1) (Number 1))) [] ∷ value (Not (Paren (Binary bin.Ne (Number 1) (Number 1)))) []
    ∷ value (Not (Number 1)) [] ∷ []
    ≡ 0 ∷ 1 ∷ 4294967294 ∷ []
inverted = refl

-- a condition holds where its value is 1
held : holds (Binary bin.Lt (Number 1) (Number 2)) [] ∷ holds (Binary bin.Lt (Number 2) (Number 2)) [] ∷ holds (Number 2) [] ∷ [] ≡ true ∷ false
    ∷ false ∷ []
held = refl

-- of two variables of one name the first is read and written, and of none 0 is read
abbrev vars : Variables
vars = (x, 1) ∷ (y, 2) ∷ (x, 3) ∷ []

first_read : read x vars ∷ read y vars ∷ read i vars ∷ [] ≡ 1 ∷ 2 ∷ 0 ∷ []
first_read = refl

first_written : write x 9 vars ≡ (x, 9) ∷ (y, 2) ∷ (x, 3) ∷ []
first_written = refl

none_written : write i 9 vars ≡ vars
none_written = refl

abbrev datum : Name → ℕ → Datum
datum n v = record { name = n; value = v }

-- data keep the values that they have, and not those that are written
data_kept : kept (datum y 7 ∷ datum i 8 ∷ []) vars ≡ (y, 2) ∷ (i, 0) ∷ []
data_kept = refl

-- an operation with a parameter of each mode and a local
abbrev head : List Param
head = record { name = codes "a"; mode = In } ∷ record { name = codes "r"; mode = Out } ∷ record { name = codes "b"; mode = In } ∷ []

abbrev twice : Operation
twice = record {
  sig = record { name = codes "f"; params = head };
  locals = datum (codes "t") 4 ∷ [];
  block = body (Assign (codes "r") (Binary bin.Add (Variable (codes "a")) (Variable (codes "t"))) ∷ []);
}

abbrev actuals : List Expression
actuals = Number 5 ∷ Variable y ∷ Variable x ∷ []

handed_in : handed head actuals vars ≡ 5 ∷ 1 ∷ []
handed_in = refl

handed_out : targets head actuals ≡ y ∷ []
handed_out = refl

at_entry : entered head (5 ∷ 1 ∷ []) ≡ (codes "a", 5) ∷ (codes "r", 0) ∷ (codes "b", 1) ∷ []
at_entry = refl

with_locals : opened twice (5 ∷ 1 ∷ []) ≡ (codes "a", 5) ∷ (codes "r", 0) ∷ (codes "b", 1) ∷ (codes "t", 4) ∷ []
with_locals = refl

stored_in_order : stored (x ∷ x ∷ []) (8 ∷ 9 ∷ []) vars ≡ (x, 9) ∷ (y, 2) ∷ (x, 3) ∷ []
stored_in_order = refl

-- a loop has a turn for each value from the first to the last
turns : turn_count 1 3 ∷ turn_count 3 3 ∷ turn_count 4 3 ∷ [] ≡ 3 ∷ 1 ∷ 0 ∷ []
turns = refl

-- the dearest path: each test up to the branch, the dearest branch, and all turns
abbrev branching : Statements
branching =
    body (If (When (Variable x) (body (Null ∷ [])) (When (Variable y) (body (Put (Number 1) ∷ [])) (Else (body (Work 40 ∷ [])))))
    ∷ For i 1 2 (body (ExitWhen (Variable x) ∷ [])) ∷ Call x y [] ∷ [])

dearest_path : cost costs (λ object op. 100) branching ≡ 169
dearest_path = refl

abbrev target : OpName
target = record { object = codes "s"; op = codes "start" }

abbrev request : Statement
request = Call (codes "s") (codes "start") (Number 1 ∷ [])

-- requests in both branches count once, and those in a loop once a turn; another call counts what it leads to
on_a_path : starts target
    (body (If (When (Variable x) (body (request ∷ [])) (Else (body (request ∷ [])))) ∷ For i 1 3 (body (request ∷ [])) ∷ Call x y [] ∷ [])) ≡ 4
on_a_path = refl

through_others : starts_through target (λ object op. 5) (body (request ∷ Call x y [] ∷ [])) ≡ 6
through_others = refl

-- what calls lead to: a passive operation, a protected one and a request
abbrev q : OpName
q = record { object = codes "q"; op = codes "get" }

abbrev callee : Name → Name → Callee
callee object op =
    if same_name object (codes "p") then runs.Plain twice else if same_name object (codes "q") then runs.Protected head
    else if same_name object (codes "s") then runs.Asked else runs.Unknown

abbrev Runs : Statements → Variables → Path → Type 0
Runs = Run costs callee

abbrev path : List Action → Variables → ℕ → ℕ → Path
path script vs low high = record { script = script; left = false; vars = vs; low = low; high = high }

-- each statement takes its ticks, and `work` 1 to its number
assigned : Runs (body (Assign x (Number 9) ∷ [])) vars (path [] ((x, 9) ∷ (y, 2) ∷ (x, 3) ∷ []) 2 2)
assigned = (0, (_, refl, (_, refl, refl)), refl)

nothing_done : Runs (body (Null ∷ [])) [] (path [] [] 11 11)
nothing_done = (0, (_, refl, (_, refl, refl)), refl)

printed : Runs (body (Put (Variable y) ∷ [])) vars (path (runs.Print 2 ∷ []) vars 13 13)
printed = (0, (_, refl, (_, refl, refl)), refl)

worked : Runs (body (Work 40 ∷ [])) [] (path [] [] 1 40)
worked = (0, (_, refl, (_, refl, refl)), refl)

-- one after another
in_sequence : Runs (body (Put (Number 1) ∷ Put (Number 2) ∷ [])) [] (path (runs.Print 1 ∷ runs.Print 2 ∷ []) [] 26 26)
in_sequence = (0, (_, refl, (_, (_, refl, (_, refl, refl)), refl)), refl)

-- each condition up to the one that holds is tested
second_branch : Runs (body
    (If (When (Binary bin.Eq (Variable x) (Number 2)) (body (Put (Number 1) ∷ []))
    (When (Binary bin.Eq (Variable x) (Number 1)) (body (Put (Number 2) ∷ [])) (Else (body (Put (Number 3) ∷ []))))) ∷ [])) vars
    (path (runs.Print 2 ∷ []) vars 19 19)
second_branch = (0, (_, (_, (_, (_, refl, (_, refl, refl)), refl), refl), (_, refl, refl)), refl)

other_branch : Runs (body
    (If (When (Binary bin.Eq (Variable x) (Number 2)) (body (Put (Number 1) ∷ [])) (Else (body (Put (Number 3) ∷ [])))) ∷ [])) vars
    (path (runs.Print 3 ∷ []) vars 16 16)
other_branch = (0, (_, (_, (_, refl, (_, refl, refl)), refl), (_, refl, refl)), refl)

no_branch : Runs (body (If (When (Binary bin.Eq (Variable x) (Number 2)) (body (Put (Number 1) ∷ [])) Nothing) ∷ [])) vars (path [] vars 3 3)
no_branch = (0, (_, (_, refl, refl), (_, refl, refl)), refl)

-- two turns, with the loop's name in each and not behind the loop
two_turns : Runs (body (For x 4 5 (body (Put (Variable x) ∷ [])) ∷ Put (Variable x) ∷ [])) vars
    (path (runs.Print 4 ∷ runs.Print 5 ∷ runs.Print 1 ∷ []) vars 49 49)
two_turns = (
  0,
  (_, (_, (_, refl, (_, refl, refl)), (_, (_, (_, refl, (_, refl, refl)), (_, refl, refl)), refl)), (_, (_, refl, (_, refl, refl)), refl)),
  refl,
)

no_turn : Runs (body (For x 5 4 (body (Put (Variable x) ∷ [])) ∷ [])) vars (path [] vars 0 0)
no_turn = (0, (_, refl, (_, refl, refl)), refl)

-- an exit ends its turn and the loop, and not the block
left_early : Runs (body (For i 1 3 (body (ExitWhen (Binary bin.Eq (Variable i) (Number 2)) ∷ Put (Variable i) ∷ [])) ∷ Put (Number 7) ∷ [])) []
    (path (runs.Print 1 ∷ runs.Print 7 ∷ []) [] 42 42)
left_early = (
  0,
  (_, (_, (_, refl, (_, (_, refl, (_, refl, refl)), refl)), (_, (_, (_, refl, refl), refl), refl)), (_, (_, refl, (_, refl, refl)), refl)),
  refl,
)

exit_outside : (p : Path) → p.left ≡ true → Runs (body (ExitWhen (Number 1) ∷ [])) [] p → ⊥
exit_outside p e r = (let z : true ≡ false = sym e ∙ r.2 in cc)

-- a passive call: the ticks of its body, and its result where it is to stand
passive_call : Runs (body (Call (codes "p") (codes "f") actuals ∷ [])) vars (path [] ((x, 1) ∷ (y, 9) ∷ (x, 3) ∷ []) 9 9)
passive_call = (1, (_, (_, (_, refl, (_, refl, refl)), refl), (_, refl, refl)), refl)

no_depth : (p : Path) → RunStatement (record { costs = costs; callee = callee; Body = runs.RunBody costs callee 0 })
    (Call (codes "p") (codes "f") actuals) vars p → ⊥
no_depth p r = r.1

-- a protected call: what is handed in is shown, any results are, and they are stored; its ticks are CALL alone
protected_call : Runs (body (Call (codes "q") (codes "get") actuals ∷ [])) vars
    (path (runs.Enter q (5 ∷ 1 ∷ []) ∷ runs.Leave q (6 ∷ []) ∷ []) ((x, 1) ∷ (y, 6) ∷ (x, 3) ∷ []) 7 7)
protected_call = (0, (_, (6 ∷ [], refl, refl), (_, refl, refl)), refl)

one_result : (p : Path) → RunStatement (record { costs = costs; callee = callee; Body = runs.RunBody costs callee 0 })
    (Call (codes "q") (codes "get") actuals) vars p
    → (results : List ℕ) × (length results ≡ 1)
one_result p r = (r.0, r.1)

-- a request: its value, CALL and two assignments
asked : Runs (body (request ∷ [])) [] (path (runs.Request target (Some 1) ∷ []) [] 11 11)
asked = (0, (_, refl, (_, refl, refl)), refl)

asked_plainly : Runs (body (Call (codes "s") (codes "start") [] ∷ [])) [] (path (runs.Request target None ∷ []) [] 11 11)
asked_plainly = (0, (_, refl, (_, refl, refl)), refl)

unknown_call : (p : Path)
    → RunStatement (record { costs = costs; callee = callee; Body = runs.RunBody costs callee 0 }) (Call (codes "z") (codes "f") []) [] p → ⊥
unknown_call p r = r

-- a script that has begun, one that is short, and one whose second action can't stand
abbrev both : Statements
both = body (Put (Number 1) ∷ Put (Number 2) ∷ [])

begun : BeginsScript costs callee both [] (runs.Print 1 ∷ [])
begun = (runs.Print 2 ∷ [], (_, in_sequence, refl))

-- calls and work wherever they stand
abbrev everywhere : Statements
everywhere = body (If (When (Variable x) (body (Call (codes "a") (codes "f") [] ∷ Work 1 ∷ []))
    (When (Variable x) (body (Call (codes "b") (codes "f") [] ∷ Work 2 ∷ [])) (Else (body (Call (codes "c") (codes "f") [] ∷ Work 3 ∷ [])))))
    ∷ For i 1 2 (body (Call (codes "e") (codes "f") [] ∷ Work 4 ∷ [])) ∷ [])

all_calls : map (λ (c : OpName). c.object) (block_calls everywhere) ≡ codes "a" ∷ codes "b" ∷ codes "c" ∷ codes "e" ∷ []
all_calls = refl

all_works : block_works everywhere ≡ 1 ∷ 2 ∷ 3 ∷ 4 ∷ []
all_works = refl
