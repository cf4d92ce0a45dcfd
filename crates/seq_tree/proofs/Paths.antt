-- Examples: calls counted along the dearest path, with those inside the operations called.
use Rattle.std.specs.Prelude.{◌≡◌, ℕ, [], codes, refl, if◌then◌else◌}
use Rattle.seq_tree.specs.Names.{Name, same_name}
use Rattle.seq_tree.specs.Expressions.{Variable}
use Rattle.seq_tree.specs.Statements.{Statements, If, For, Call, End, Then, Else, When}
use Rattle.seq_tree.specs.Dearest.{starts, starts_through}
use Rattle.seq_tree.specs.declared.tree.OpName.{OpName}

abbrev target : OpName
target = record { object = codes "s"; op = codes "start" }

-- a call of q counts 3
abbrev inside : Name → Name → ℕ
inside object op = if same_name object (codes "q") then 3 else 0

abbrev calls : Name → Name → Statements
calls object op = Then (Call object op []) End

-- a call of the target; four turns with a call of q; a call of the target or of q; a call that isn't listed
abbrev path : Statements
path = Then (Call (codes "s") (codes "start") []) (Then (For (codes "i") 1 4 (calls (codes "q") (codes "set")))
    (Then (If (When (Variable (codes "x")) (calls (codes "s") (codes "start")) (Else (calls (codes "q") (codes "set")))))
    (calls (codes "e") (codes "set"))))

counted_through : starts_through target inside path ≡ 16
counted_through = refl

counted_in_block : starts target path ≡ 2
counted_in_block = refl
