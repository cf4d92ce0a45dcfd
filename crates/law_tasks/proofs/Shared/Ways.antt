-- The ways through pieces up to the end of the innermost protected body or of the activation, and what a task does from its pieces on.
-- What it does is said of all its own steps that are still to come, so that it is shown from the end of a trace backwards.
use Rattle.std.specs.Prelude.{◌≡◌, ◌⊎◌, ℕ, suc, ◌+◌, ◌≤◌, Bool, true, false, List, [], ◌∷◌, ◌++◌, map, drop}
use Rattle.seq_tree.specs.Statements.{Null, Assign, ExitWhen, Call, Work, Put, When}
use Rattle.seq_tree.specs.Operations.{Operation, out_names}
use Rattle.seq_tree.specs.Variables.{Variables, reads, stored, opened}
use Rattle.seq_tree.specs.Dearest.{turn_count}
use Rattle.seq_tree.specs.Runs.{Action, Path, silent, joined, Turns, RunStatement, RunBlock, RunBranch, Chosen, Run, BeginsScript}
use Rattle.seq_tree.specs.Runs as runs
use Rattle.seq_tree.specs.declared.tree.OpName.{OpName}
use Rattle.machine.specs.Pieces.{Piece, Idle, Store, Leaving, Calling, Working, Printing, Testing, Turning, Turned, Returning, Closing, Keeping}
use Rattle.machine.specs.Pieces.{Opening, Requested, Finishing}
use Rattle.guarantee.specs.Events.{Deed, Leave}
use Rattle.guarantee.specs.Steps.{Step, closes, depth_after, placed, outermost, inside, shown}
use Rattle.guarantee.specs.Scripts.{least_by, most_by}
use Rattle.law_tasks.proofs.Shared.Courses.{Course, setting}
use Rattle.law_calls.proofs.Shared.Pieces as kinds
use Rattle.law_calls.proofs.Shared.Pieces.{Kind, TurnEnd, BodyEnd, kind}

-- the ways through a piece
abbrev pub WayPiece : Course → Piece → Variables → Path → Type 0
WayPiece c Idle vars p = RunStatement (setting c) Null vars p
WayPiece c (Store target e) vars p = RunStatement (setting c) (Assign target e) vars p
WayPiece c (Leaving condition) vars p = RunStatement (setting c) (ExitWhen condition) vars p
WayPiece c (Calling unit op actuals) vars p = RunStatement (setting c) (Call unit op actuals) vars p
WayPiece c (Working ticks) vars p = RunStatement (setting c) (Work ticks) vars p
WayPiece c (Printing e) vars p = RunStatement (setting c) (Put e) vars p
WayPiece c (Testing condition block others) vars p = RunBranch (setting c) (When condition block others) vars p
WayPiece c (Turning name at last body) vars p = Turns (suc (turn_count (suc at) last)) at c.system.costs.turn name (RunBlock (setting c) body) vars p
WayPiece c (Turned name at last body) vars p = Turns (turn_count (suc at) last) (suc at) c.system.costs.turn name (RunBlock (setting c) body)
    (drop 1 vars) p
WayPiece c (Returning outs stores caller) vars p = p ≡ silent 0 (stored stores (reads outs vars) caller)
WayPiece c (Keeping task v) vars p = p ≡ silent c.system.costs.assign vars
WayPiece c (Opening task) vars p = p ≡ silent c.system.costs.assign vars
WayPiece c (Requested task v) vars p = p ≡ record (silent 0 vars) { script = runs.Request (c.request_name task) v ∷ [] }
WayPiece c (Closing object op vars' outs stores caller) vars p = ⊥
WayPiece c Finishing vars p = ⊥

-- whether a way ends before a piece
abbrev pub is_last : Piece → Bool
is_last (Closing object op vars outs stores caller) = true
is_last Finishing = true
is_last _ = false

-- a loop that is left goes on behind the end of its turn, and leaves no body
abbrev pub Passing : Kind → (Variables → Path → Type 0) → (Variables → Path → Type 0) → Variables → Path → Type 0
Passing kinds.Step On Over vars p = Over vars p
Passing kinds.TurnEnd On Over vars p = On (drop 1 vars) p
Passing kinds.BodyEnd On Over vars p = ⊥

-- a way through a piece, and then one through others
abbrev pub Onwards : Course → Piece → (Bool → Variables → Path → Type 0) → Variables → Path → Type 0
Onwards c x Next vars p = (q : Path) × WayPiece c x vars q × (r : Path) × Next q.left q.vars r × (p ≡ joined q r)

-- the ways through pieces; the truth value says whether a loop is being left
abbrev pub Ways : Course → Bool → List Piece → Variables → Path → Type 0
Ways c false [] vars p = p ≡ silent 0 vars
Ways c true [] vars p = ⊥
Ways c false (x ∷ xs) vars p = Chosen (is_last x) (λ r. r ≡ silent 0 vars) (λ r. Onwards c x (λ b w. Ways c b xs w) vars r) p
Ways c true (x ∷ xs) vars p = Passing (kind x) (Ways c false xs) (Ways c true xs) vars p

-- steps that stay within the operation that the task is inside, from one depth to another
abbrev pub Within : ℕ → ℕ → List Step → Type 0
Within from to [] = from ≡ to
Within from to (s ∷ ss) = (closes from s.deed ≡ false) × Within (depth_after from s.deed) to ss

-- the deeds outside all operations
abbrev pub outer : ℕ → List Step → List Deed
outer depth ss = map (λ s. s.deed) (outermost (placed depth ss))

-- the fewest and the most ticks of the operations that are entered
abbrev pub least : List Step → ℕ
least [] = 0
least (s ∷ ss) = least_by s.deed s.body + least ss

abbrev pub most : List Step → ℕ
most [] = 0
most (s ∷ ss) = most_by s.deed s.body + most ss

-- what holds of variables, of the steps to come and of the ticks to come
abbrev pub Claim : Type 1
Claim = Variables → List Step → ℕ → Type 0

-- pieces that are gone through, and what is under them
pub record Closes (c : Course) (Under : Claim) (vars : Variables) (ps : List Piece) (ss : List Step) (ticks : ℕ) : Type 0 where
  pub way : Path
  pub goes : Ways c false ps vars way
  pub inner : List Step
  pub later : List Step
  pub parts : ss ≡ inner ++ later
  pub within : Within 0 0 inner
  pub shows : outer 0 inner ≡ map shown way.script
  pub rest : ℕ
  pub at_least : way.low + least inner + rest ≤ ticks
  pub at_most : ticks ≤ way.high + most inner + rest
  pub under : Under way.vars later rest

-- pieces that the trace cuts off
pub record Cut (c : Course) (vars : Variables) (ps : List Piece) (ss : List Step) : Type 0 where
  pub may : c.MayCut
  pub way : Path
  pub goes : Ways c false ps vars way
  pub script : List Action
  pub more : List Action
  pub begins : way.script ≡ script ++ more
  pub depth : ℕ
  pub within : Within 0 depth ss
  pub shows : outer 0 ss ≡ map shown script

abbrev pub Either : Course → Claim → Variables → List Piece → List Step → ℕ → Type 0
Either c Under vars ps ss ticks = Closes c Under vars ps ss ticks ⊎ Cut c vars ps ss

-- what is under the pieces of a body, by its last piece
abbrev pub UnderPiece : Course → Claim → Claim → List Piece → Piece → Claim
UnderPiece c Over Under xs (Closing object op data' outs stores caller) vars ss ticks =
    (s : Step) × (later : List Step) × (ss ≡ s ∷ later) × (s.deed ≡ Leave (c.op_name object op) (reads outs vars)) × (s.body.vars ≡ vars)
    × Either c Under (stored stores (reads outs vars) caller) xs later ticks
UnderPiece c Over Under xs Finishing vars ss ticks = Over vars ss ticks
UnderPiece c Over Under xs _ vars ss ticks = Under vars ss ticks

abbrev pub Beneath : Course → Claim → List Piece → Claim
Beneath c Over [] vars ss ticks = ⊥
Beneath c Over (x ∷ xs) vars ss ticks = UnderPiece c Over (Beneath c Over xs) xs x vars ss ticks

-- what a task does from these variables and pieces on
abbrev pub Ahead : Course → Claim → Variables → List Piece → List Step → ℕ → Type 0
Ahead c Over vars ps ss ticks = Either c (Beneath c Over ps) vars ps ss ticks

-- an operation that is entered and left, from the steps behind its entry
pub record Passed (c : Course) (o : Operation) (data' : Variables) (values : List ℕ) (name : OpName) (ss : List Step) (body : Path) : Type 0 where
  pub run : Run c.system.costs c.calls o.block (opened o values ++ data') body
  pub shows : map shown body.script ≡ inside ss
  pub inner : List Step
  pub leave : Step
  pub later : List Step
  pub parts : ss ≡ inner ++ leave ∷ later
  pub within : Within 0 0 inner
  pub deed : leave.deed ≡ Leave name (reads (out_names o.sig.params) body.vars)
  pub leaves : leave.body.vars ≡ body.vars

-- an operation that is entered, and cut off by the end of the trace
pub record Entered (c : Course) (o : Operation) (data' : Variables) (values : List ℕ) (ss : List Step) : Type 0 where
  pub may : c.MayCut
  pub script : List Action
  pub begins : BeginsScript c.system.costs c.calls o.block (opened o values ++ data') script
  pub shows : map shown script ≡ inside ss
  pub depth : ℕ
  pub within : Within 0 depth ss

abbrev pub Passes : Course → Operation → Variables → List ℕ → OpName → List Step → Path → Type 0
Passes c o data' values name ss body = Passed c o data' values name ss body ⊎ Entered c o data' values ss
