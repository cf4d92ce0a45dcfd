-- The pieces of a fit block are fit, and a task's pieces stay fit, whatever it does.
use Rattle.std.specs.Prelude.{ℕ, zero, suc, ◌≤◌, Bool, true, false, List, [], ◌∷◌, ◌++◌, nat_le, slice_get, if◌then◌else◌, refl}
use Rattle.std.proofs.Common.{sym, subst, arith}
use Rattle.seq_tree.specs.Lists.{Each}
use Rattle.seq_tree.specs.Names.{Name}
use Rattle.seq_tree.specs.Expressions.{Expression}
use Rattle.seq_tree.specs.Statements.{Statement, Statements, Branches, Null, Assign, If, For, ExitWhen, Call, Work, Put, End, Then, Nothing}
use Rattle.seq_tree.specs.Statements.{Else, When}
use Rattle.seq_tree.specs.Variables.{Variables}
use Rattle.seq_tree.specs.Values.{holds}
use Rattle.seq_tree.specs.Calls.{statement_calls, block_calls, branch_calls}
use Rattle.seq_tree.specs.declared.tree.Costs.{Costs}
use Rattle.seq_tree.specs.declared.tree.OpName.{OpName}
use Rattle.machine.specs.Systems.{CallTarget, Plain, Protected, Request, Unknown, callee}
use Rattle.machine.specs.Pieces.{Piece, Idle, Store, Leaving, Calling, Working, Printing, Testing, Turning, Turned, Returning, Closing, Keeping}
use Rattle.machine.specs.Pieces.{Opening, Requested, Finishing, pieces_of, pieces, branch_pieces, after_loop, ticks_of, work_ticks}
use Rattle.machine.specs.Deeds.{PieceOutcome, done, called}
use Rattle.law_tasks.proofs.Shared.Courses.{Course, IsApt, IsFitCallee, FitStatement, FitBlock, FitBranches, FitPieces, IsTicks}
use Rattle.law_calls.proofs.Shared.Pieces.{in_loop-block, in_loop}

-- the pieces of what is fit are fit
mutual
  pub fit_statement : (Good : Name → Name → Type 0) (s : Statement) (rest : List Piece) → FitStatement Good (in_loop rest) s → FitPieces Good rest
      → FitPieces Good (pieces_of s rest)
  fit_statement Good Null rest f more = (tt, more)
  fit_statement Good (Assign target e) rest f more = (tt, more)
  fit_statement Good (If branches) rest f more = fit_branches Good branches rest f more
  fit_statement Good (For name low high body) rest f more = by (nat_le low high)
    where
      by : (b : Bool) → FitPieces Good (if b then Turning name low high body ∷ rest else rest)
      by true = (f, more)
      by false = more
  fit_statement Good (ExitWhen condition) rest f more = (f, more)
  fit_statement Good (Call unit op actuals) rest f more = (f, more)
  fit_statement Good (Work ticks) rest f more = (f, more)
  fit_statement Good (Put e) rest f more = (tt, more)

  pub fit_block : (Good : Name → Name → Type 0) (b : Statements) (rest : List Piece) → FitBlock Good (in_loop rest) b → FitPieces Good rest
      → FitPieces Good (pieces b rest)
  fit_block Good End rest f more = more
  fit_block Good (Then first others) rest f more =
      fit_statement Good first (pieces others rest) (subst (λ b. FitStatement Good b first) (sym (in_loop-block others rest)) f.0)
      (fit_block Good others rest f.1 more)

  pub fit_branches : (Good : Name → Name → Type 0) (b : Branches) (rest : List Piece) → FitBranches Good (in_loop rest) b → FitPieces Good rest
      → FitPieces Good (branch_pieces b rest)
  fit_branches Good Nothing rest f more = more
  fit_branches Good (Else block) rest f more = fit_block Good block rest f more
  fit_branches Good (When condition block others) rest f more = (f, more)

-- what is behind a loop
pub fit_after : (Good : Name → Name → Type 0) (rest : List Piece) → FitPieces Good rest → FitPieces Good (after_loop rest)
fit_after Good [] f = f
fit_after Good (Turned name at last body ∷ rest) f = f.1
fit_after Good (_ ∷ rest) f = fit_after Good rest f.1

-- a task's pieces stay fit
fit_called : (Good : Name → Name → Type 0) (k : CallTarget) (actuals : List Expression) (vars : Variables) (rest : List Piece)
    → IsFitCallee Good k → FitPieces Good rest → FitPieces Good ((called k actuals vars rest).pieces)
fit_called Good (Plain o) actuals vars rest f more = fit_block Good o.block _ f (tt, more)
fit_called Good (Protected object op g o) actuals vars rest f more = fit_block Good o.block _ f (tt, more)
fit_called Good (Request task) actuals vars rest f more = (tt, (tt, (tt, more)))
fit_called Good Unknown actuals vars rest f more = absurd f

fit_if : (Good : Name → Name → Type 0) (b : Bool) (ps qs : List Piece) → FitPieces Good ps → FitPieces Good qs → FitPieces Good (if b then ps else qs)
fit_if Good true ps qs f g = f
fit_if Good false ps qs f g = g

fit_left : (Good : Name → Name → Type 0) (b : Bool) (d e : PieceOutcome) → FitPieces Good d.pieces → FitPieces Good e.pieces
    → FitPieces Good ((if b then d else e).pieces)
fit_left Good true d e f g = f
fit_left Good false d e f g = g

pub fit_done : (c : Course) → IsApt c → (x : Piece) (vars : Variables) (rest : List Piece) → FitPieces c.Good (x ∷ rest)
    → FitPieces c.Good ((done c.system x vars rest).pieces)
fit_done c apt Idle vars rest f = f.1
fit_done c apt (Store target e) vars rest f = f.1
fit_done c apt (Leaving condition) vars rest f = fit_left c.Good (holds condition vars) _ _ (fit_after c.Good rest f.1) f.1
fit_done c apt (Calling unit op actuals) vars rest f = fit_called c.Good (callee c.system unit op) actuals vars rest (apt.closed unit op f.0) f.1
fit_done c apt (Working ticks) vars rest f = f.1
fit_done c apt (Printing e) vars rest f = f.1
fit_done c apt (Testing condition block others) vars rest f =
    fit_if c.Good (holds condition vars) _ _ (fit_block c.Good block rest f.0.0 f.1) (fit_branches c.Good others rest f.0.1 f.1)
fit_done c apt (Turning name at last body) vars rest f = fit_block c.Good body (Turned name at last body ∷ rest) f.0 f
fit_done c apt (Turned name at last body) vars rest f = fit_if c.Good (nat_le (suc at) last) _ _ f f.1
fit_done c apt (Returning outs stores caller) vars rest f = f.1
fit_done c apt (Closing object op data' outs stores caller) vars rest f = f.1
fit_done c apt (Keeping task v) vars rest f = f.1
fit_done c apt (Opening task) vars rest f = f.1
fit_done c apt (Requested task v) vars rest f = f.1
fit_done c apt Finishing vars rest f = tt

-- the pieces of an activation
pub fit_activation : (Good : Name → Name → Type 0) (b : Statements) → FitBlock Good false b → FitPieces Good (pieces b (Finishing ∷ []))
fit_activation Good b f = fit_block Good b (Finishing ∷ []) f (tt, tt)

-- the ticks of a piece that starts
some_ticks : (ticks works : ℕ) (durations : List ℕ) → 1 ≤ ticks → Each (λ d. 1 ≤ d) durations
    → (1 ≤ work_ticks ticks (slice_get durations works)) × (work_ticks ticks (slice_get durations works) ≤ ticks)
some_ticks ticks works [] some all = (some, omega arith)
some_ticks ticks zero (d ∷ ds) some all = (omega (arith, some, all.0), omega arith)
some_ticks ticks (suc n) (d ∷ ds) some all = some_ticks ticks n ds some all.1

pub ticks_are : (Good : Name → Name → Type 0) (costs : Costs) (durations : List ℕ) (works : ℕ) (x : Piece) (rest : List Piece)
    → FitPieces Good (x ∷ rest) → Each (λ d. 1 ≤ d) durations → IsTicks costs x (ticks_of costs (slice_get durations works) x)
ticks_are Good costs durations works (Working ticks) rest f all = some_ticks ticks works durations f.0 all
ticks_are Good costs durations works _ rest f all = refl

-- a fact of each of two lists
each_parts : (Fact : OpName → Type 0) (xs ys : List OpName) → Each Fact (xs ++ ys) → Each Fact xs × Each Fact ys
each_parts Fact [] ys all = (tt, all)
each_parts Fact (x ∷ xs) ys all = let more = each_parts Fact xs ys all.1 in ((all.0, more.0), more.1)

-- two facts of each call
mutual
  both_statement : (Good Fact : Name → Name → Type 0) (within : Bool) (s : Statement) → FitStatement Good within s
      → Each (λ c. Fact c.object c.op) (statement_calls s)
      → FitStatement (λ unit op. Good unit op × Fact unit op) within s
  both_statement Good Fact within Null f all = tt
  both_statement Good Fact within (Assign target e) f all = tt
  both_statement Good Fact within (If branches) f all = both_branches Good Fact within branches f all
  both_statement Good Fact within (For name low high body) f all = both_block Good Fact true body f all
  both_statement Good Fact within (ExitWhen condition) f all = f
  both_statement Good Fact within (Call unit op actuals) f all = (f, all.0)
  both_statement Good Fact within (Work ticks) f all = f
  both_statement Good Fact within (Put e) f all = tt

  pub both_block : (Good Fact : Name → Name → Type 0) (within : Bool) (b : Statements) → FitBlock Good within b
      → Each (λ c. Fact c.object c.op) (block_calls b)
      → FitBlock (λ unit op. Good unit op × Fact unit op) within b
  both_block Good Fact within End f all = tt
  both_block Good Fact within (Then first rest) f all =
      let parts = each_parts (λ c. Fact c.object c.op) (statement_calls first) (block_calls rest) all in
      (both_statement Good Fact within first f.0 parts.0, both_block Good Fact within rest f.1 parts.1)

  both_branches : (Good Fact : Name → Name → Type 0) (within : Bool) (b : Branches) → FitBranches Good within b
      → Each (λ c. Fact c.object c.op) (branch_calls b)
      → FitBranches (λ unit op. Good unit op × Fact unit op) within b
  both_branches Good Fact within Nothing f all = tt
  both_branches Good Fact within (Else block) f all = both_block Good Fact within block f all
  both_branches Good Fact within (When condition block others) f all =
      let parts = each_parts (λ c. Fact c.object c.op) (block_calls block) (branch_calls others) all in
      (both_block Good Fact within block f.0 parts.0, both_branches Good Fact within others f.1 parts.1)
