-- What the answer of following a block along a script means: a run and its ticks, a script that ends inside a run, or the first action
-- that no run has at its place. Runs are those of the sequential language, and walks those of `law_walks`.
use Rattle.std.specs.Prelude.{◌≡◌, ℕ, suc, ◌+◌, ◌≤◌, ◌<◌, ◌&&◌, Bool, List, length, take, find, zip, Option, Some, None, Result, Ok, Err}
use Rattle.grammar.specs.Reading.{left_of, Halt, whole_at}
use Rattle.seq_tree.specs.Names.{Name, same_name}
use Rattle.seq_tree.specs.Operations.{Operation, Offer}
use Rattle.seq_tree.specs.Statements.{Statements}
use Rattle.seq_tree.specs.Variables.{Variables}
use Rattle.seq_tree.specs.Runs.{Action, Path, Callee, Plain, Protected, Asked, Unknown, Run, IsScript, BeginsScript}
use Rattle.seq_tree.specs.declared.tree.Costs.{Costs}
use Rattle.seq_tree.specs.declared.memory.NoMemory.{NoMemory}
use Rattle.law_walks.specs.Walks.{walk_at}
use Rattle.seq_eval.specs.declared.action.Followed.{Followed}
use Rattle.seq_eval.specs.declared.action.Followed.TheVariants.{Done, Short, Off}

-- whether a passive operation has these names
abbrev pub is_plain : Name → Name → Name × Operation → Bool
is_plain object op o = same_name o.0 object && same_name o.1.sig.name op

-- whether an offer has these names
abbrev pub is_offered : Name → Name → Offer → Bool
is_offered object op o = same_name o.object object && same_name o.sig.name op

-- what a call leads to, by the first list that has its operation
abbrev pub callee_by : Option (Name × Operation) → Option Offer → Option Offer → Callee
callee_by (Some o) shared request = Plain o.1
callee_by None (Some o) request = Protected o.sig.params
callee_by None None (Some o) = Asked
callee_by None None None = Unknown

-- what a call leads to: a passive operation of an owner, a protected operation or a request
abbrev pub callees : List Name → List Operation → List Offer → List Offer → Name → Name → Callee
callees owners passive shared requests object op =
    callee_by (find (is_plain object op) (zip owners passive)) (find (is_offered object op) shared) (find (is_offered object op) requests)

-- the answer by what the walk tells, with the variables before it and after it
abbrev pub Answers : Result Path Halt → ℕ → Variables → Followed → Variables → Type 0
Answers (Ok p) count before (Done low high) after = (after ≡ p.vars) × (low ≡ p.low) × (high ≡ p.high)
Answers (Err halt) count before Short after = (left_of halt ≡ 0) × (after ≡ before)
Answers (Err halt) count before (Off k) after = (k + left_of halt ≡ count) × (1 ≤ left_of halt) × (after ≡ before)
Answers _ count before answer after = ⊥

-- the answer of following a block along a script; after want of memory the variables are as before
abbrev pub Follows : Costs → (Name → Name → Callee) → ℕ → Statements → Variables → List Action → Result Followed NoMemory → Variables → Type 0
Follows costs calls depth b before script (Ok answer) after =
    Answers (whole_at (walk_at costs calls depth b before) script) (length script) before answer after
Follows costs calls depth b before script (Err e) after = after ≡ before

-- what an answer says of the runs of the block: the script is that of one run, and of no other; it ends inside a run; or the actions before
-- one of it begin a run, and with that one they begin none
abbrev pub Means : Costs → (Name → Name → Callee) → Statements → Variables → List Action → Result Followed NoMemory → Variables → Type 0
Means costs calls b before script (Ok (Done low high)) after =
    (p : Path) × Run costs calls b before p × (p.script ≡ script) × (p.vars ≡ after) × (p.low ≡ low) × (p.high ≡ high)
    × ((q : Path) → Run costs calls b before q → q.script ≡ script → q ≡ p)
Means costs calls b before script (Ok Short) after =
    BeginsScript costs calls b before script × (IsScript costs calls b before script → ⊥) × (after ≡ before)
Means costs calls b before script (Ok (Off k)) after =
    (k < length script) × BeginsScript costs calls b before (take k script) × (BeginsScript costs calls b before (take (suc k) script) → ⊥)
    × (after ≡ before)
Means costs calls b before script (Err e) after = after ≡ before
