-- Following a block step by step: what is left to do stands on a stack, the innermost first. No call makes the steps recur.
-- Statements run in sequence (ISO/IEC 8652:2012, 5.1); an exit leaves the innermost loop (5.7); `out` values come back at the end (6.4.1).
use Rattle.std.specs.Prelude.{ℕ, suc, ◌+◌, ◌*◌, ◌≤◌, Bool, true, false, List, [], ◌∷◌, length, drop, nat_le, nat_lt, Option, Some, None, Result}
use Rattle.std.specs.Prelude.{Ok, Err}
use Rattle.std.specs.Prelude.{if◌then◌else◌, is_some}
use Rattle.seq_tree.specs.Limits.{tick_limit}
use Rattle.seq_tree.specs.Names.{Name}
use Rattle.seq_tree.specs.Expressions.{Expression}
use Rattle.seq_tree.specs.Statements.{Statement, Statements, Branches, Null, Assign, If, For, ExitWhen, Call, Work, Put, End, Then, Nothing}
use Rattle.seq_tree.specs.Statements.{Else, When}
use Rattle.seq_tree.specs.Operations.{Operation, out_names}
use Rattle.seq_tree.specs.Variables.{Variables, write, reads, opened, targets, stored}
use Rattle.seq_tree.specs.Values.{value, holds, handed}
use Rattle.seq_tree.specs.Runs.{Action, Callee, Plain, Protected, Asked, Unknown, request_value}
use Rattle.seq_tree.specs.declared.tree.Costs.{Costs}
use Rattle.seq_tree.specs.declared.tree.OpName.{OpName}
use Rattle.seq_tree.specs.declared.tree.Param.{Param}
use Rattle.law_walks.specs.Walks.{sees_entry, sees_leave, sees_print, sees_request}

-- what is left to do
pub data Doing : Type 0 where
  -- the rest of a block
  Rest : (block : Statements) → Doing
  -- the branches of an `if`
  Arms : (branches : Branches) → Doing
  -- the end of a turn of a loop, and the turns after it
  Turned : (name : Name) (at last : ℕ) (body : Statements) → Doing
  -- the end of the body of a passive operation, with its actuals and the variables of the caller
  Returned : (op : Operation) (actuals : List Expression) (vars : Variables) → Doing

-- how far the following is: what is left to do, whether a loop is being left, the variables, the ticks so far and the actions left
pub record State : Type 0 where
  pub doings : List Doing
  pub leaving : Bool
  pub vars : Variables
  pub low : ℕ
  pub high : ℕ
  pub script : List Action

-- what stands after a step, or how many actions are left where it stops
abbrev pub Step : Type 0
Step = Result State ℕ

-- with so many ticks more
abbrev pub spent : ℕ → ℕ → State → State
spent low high s = record s { low = s.low + low; high = s.high + high }

-- with more to do
abbrev pub to_do : Doing → State → State
to_do d s = record s { doings = d ∷ s.doings }

-- with these actions left
abbrev pub at_script : List Action → State → State
at_script script s = record s { script = script }

-- the beginning of a turn
abbrev pub turning : Name → ℕ → ℕ → Statements → State → State
turning name at last body s = record s { doings = Rest body ∷ Turned name at last body ∷ s.doings; vars = (name, at) ∷ s.vars }

-- the end of a turn: the loop's name goes
abbrev pub turned_over : Costs → State → State
turned_over costs s = spent costs.turn costs.turn (record s { leaving = false; vars = drop 1 s.vars })

-- the end of the body of an operation
abbrev pub given_back : Operation → List Expression → Variables → State → State
given_back o actuals vars s =
    record s { leaving = false; vars = stored (targets o.sig.params actuals) (reads (out_names o.sig.params) s.vars) vars }

-- the next action, which has to be one of these, and what follows it
abbrev pub told_by : (Action → Bool) → List Action → State → (State → Step) → Step
told_by sees [] s next = Err 0
told_by sees (a ∷ rest) s next = if sees a then next (at_script rest s) else Err (suc (length rest))

abbrev pub told : (Action → Bool) → State → (State → Step) → Step
told sees s next = told_by sees s.script s next

-- what an exit hands out is stored
abbrev pub stored_by : Costs → List Name → Option (List ℕ) → List Action → State → Step
stored_by costs names None rest s = Err (suc (length rest))
stored_by costs names (Some results) rest s =
    Ok (spent costs.call costs.call (at_script rest (record s { vars = stored names results s.vars })))

-- the exit from a protected operation
abbrev pub left_by : Costs → OpName → ℕ → List Name → List Action → State → Step
left_by costs name count names [] s = Err 0
left_by costs name count names (a ∷ rest) s = stored_by costs names (sees_leave name count a) rest s

-- a call of a protected operation
abbrev pub passed : Costs → OpName → List Param → List Expression → State → Step
passed costs name params actuals s =
    told (λ a. is_some (sees_entry name (handed params actuals s.vars) a)) s
    (λ t. left_by costs name (length (out_names params)) (targets params actuals) t.script t)

-- a request
abbrev pub requested : Costs → OpName → List Expression → State → Step
requested costs name actuals s =
    let ticks : ℕ = costs.call + 2 * costs.assign in
    told (λ a. is_some (sees_request name (request_value actuals s.vars) a)) s (λ t. Ok (spent ticks ticks t))

-- a call of a passive operation
abbrev pub entered_op : Costs → Operation → List Expression → State → State
entered_op costs o actuals s =
    spent costs.call costs.call
    (record s { doings = Rest o.block ∷ Returned o actuals s.vars ∷ s.doings; vars = opened o (handed o.sig.params actuals s.vars) })

-- a call
abbrev pub called : Costs → OpName → Callee → List Expression → State → Step
called costs name (Plain o) actuals s = Ok (entered_op costs o actuals s)
called costs name (Protected params) actuals s = passed costs name params actuals s
called costs name Asked actuals s = requested costs name actuals s
called costs name Unknown actuals s = Err (length s.script)

-- a value that is printed
abbrev pub printed : Costs → ℕ → State → Step
printed costs v s = told (λ a. is_some (sees_print v a)) s (λ t. Ok (spent costs.put costs.put t))

-- the beginning of a statement
abbrev pub begun : Costs → (Name → Name → Callee) → Statement → State → Step
begun costs calls Null s = Ok (spent costs.nothing costs.nothing s)
begun costs calls (Assign target e) s = Ok (spent costs.assign costs.assign (record s { vars = write target (value e s.vars) s.vars }))
begun costs calls (If branches) s = Ok (to_do (Arms branches) s)
begun costs calls (For name low high body) s = Ok (if nat_le low high then turning name low high body s else s)
begun costs calls (ExitWhen condition) s = Ok (spent costs.test costs.test (record s { leaving = holds condition s.vars }))
begun costs calls (Call object op actuals) s = called costs (record { object = object; op = op }) (calls object op) actuals s
begun costs calls (Work ticks) s = Ok (spent 1 ticks s)
begun costs calls (Put e) s = printed costs (value e s.vars) s

-- branches
abbrev pub branched : Costs → Branches → State → State
branched costs Nothing s = s
branched costs (Else block) s = to_do (Rest block) s
branched costs (When condition block others) s =
    spent costs.test costs.test (to_do (if holds condition s.vars then Rest block else Arms others) s)

-- what follows a turn
abbrev pub turned_on : Costs → Name → ℕ → ℕ → Statements → State → State
turned_on costs name at last body s = if nat_lt at last then turning name (at + 1) last body (turned_over costs s) else turned_over costs s

-- what is to do, where no loop is being left
abbrev pub done : Costs → (Name → Name → Callee) → Doing → State → Step
done costs calls (Rest End) s = Ok s
done costs calls (Rest (Then first rest)) s = begun costs calls first (to_do (Rest rest) s)
done costs calls (Arms branches) s = Ok (branched costs branches s)
done costs calls (Turned name at last body) s = Ok (turned_on costs name at last body s)
done costs calls (Returned o actuals vars) s = Ok (given_back o actuals vars s)

-- and where one is: it ends at the end of its turn, or of the body of an operation
abbrev pub passed_over : Costs → Doing → State → State
passed_over costs (Rest block) s = s
passed_over costs (Arms branches) s = s
passed_over costs (Turned name at last body) s = turned_over costs s
passed_over costs (Returned o actuals vars) s = given_back o actuals vars s

-- a step: the innermost of what is to do, which is taken off
abbrev pub step_by : Bool → Costs → (Name → Name → Callee) → Doing → State → Step
step_by true costs calls d s = Ok (passed_over costs d s)
step_by false costs calls d s = done costs calls d s

abbrev pub step : Costs → (Name → Name → Callee) → Doing → State → Step
step costs calls d s = step_by s.leaving costs calls d s

-- a step that was made or not, by what stands after it
abbrev pub moved : Bool → State → Step
moved true s = Ok s
moved false s = Err (length s.script)

-- ticks so far that are far from the greatest number of a program
abbrev pub HasFew : State → Type 0
HasFew s = (s.low ≤ tick_limit) × (s.high ≤ tick_limit)
