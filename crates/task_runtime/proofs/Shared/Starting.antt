-- What starts after an effect: how many ticks, and how many effects and events may follow.
use Rattle.std.proofs.Common.{◌≡◌, ℕ, ◌≤◌, ◌<◌, Bool, true, false, List, [], ◌∷◌, refl, arith, nat_lt, Option, Some, None}
use Rattle.std.specs.Prelude.{nat_le}
use Rattle.std.proofs.lemmas.Bool.{or_parts}
use Rattle.seq_tree.specs.Names.{Name}
use Rattle.seq_tree.specs.Statements.{Statement, Statements, Null, Assign, If, For, ExitWhen, Call, Work, Put, End, Then, Nothing, Else, When}
use Rattle.seq_tree.specs.declared.tree.Costs.{Costs}
use Rattle.ada_tree.specs.Ranges.{costs_break, is_outside}
use Rattle.machine.specs.Pieces.{Piece, Idle, Store, Leaving, Calling, Working, Printing, Testing, Turning, Turned, Returning, Closing, Keeping}
use Rattle.machine.specs.Pieces.{Opening, Requested, Finishing, pieces, pieces_of, turns, work_ticks}
use Rattle.task_runtime.specs.Effort.{IsLong, ends_among, effort, first_ticks}
use Rattle.task_runtime.specs.Fitting.{FitsBlock, FitsStatement, Spot}

-- each statement takes a tick
pub record AreTicking (c : Costs) : Type 0 where
  pub assign : 0 < c.assign
  pub test : 0 < c.test
  pub turn : 0 < c.turn
  pub call : 0 < c.call
  pub nothing : 0 < c.«nothing»
  pub put : 0 < c.put
  pub finish : 0 < c.finish

some_tick : (n : ℕ) → is_outside 1 1000 n ≡ false → 0 < n
some_tick n h = let low : nat_lt n 1 ≡ false = (or_parts _ _ h).0 in grind arith

pub ticking : (c : Costs) → costs_break c ≡ false → AreTicking c
ticking c h =
    let a = or_parts (is_outside 1 1000 c.assign) _ h in
    let b = or_parts (is_outside 1 1000 c.test) _ a.1 in
    let d = or_parts (is_outside 1 1000 c.turn) _ b.1 in
    let e = or_parts (is_outside 1 1000 c.call) _ d.1 in
    let f = or_parts (is_outside 1 1000 c.«nothing») _ e.1 in
    let g = or_parts (is_outside 1 1000 c.put) _ f.1 in
    let i = or_parts (is_outside 1 1000 c.finish) _ g.1 in
    record {
      assign = some_tick c.assign a.0;
      test = some_tick c.test b.0;
      turn = some_tick c.turn d.0;
      call = some_tick c.call e.0;
      nothing = some_tick c.«nothing» f.0;
      put = some_tick c.put g.0;
      finish = some_tick c.finish i.0;
    }

-- no more effects than this follow each other
pub effort-most : (most : ℕ) (ps : List Piece) → ends_among ps ≤ most → effort most ps ≤ most
effort-most most [] h = omega arith
effort-most most (Idle ∷ ps) h = omega (arith, h)
effort-most most (Store target e ∷ ps) h = omega (arith, h)
effort-most most (Leaving condition ∷ ps) h = omega (arith, h)
effort-most most (Calling unit op actuals ∷ ps) h = omega (arith, h)
effort-most most (Working ticks ∷ ps) h = omega (arith, h)
effort-most most (Printing e ∷ ps) h = omega (arith, h)
effort-most most (Testing condition block others ∷ ps) h = omega (arith, h)
effort-most most (Turning name at last body ∷ ps) h = omega (arith, h)
effort-most most (Turned name at last body ∷ ps) h = omega (arith, h)
effort-most most (Returning outs stores caller ∷ ps) h = omega (arith, h)
effort-most most (Closing object op vars outs stores caller ∷ ps) h = omega (arith, h)
effort-most most (Keeping task v ∷ ps) h = omega (arith, h)
effort-most most (Opening task ∷ ps) h = omega (arith, h)
effort-most most (Requested task v ∷ ps) h = omega (arith, h)
effort-most most (Finishing ∷ ps) h = omega (arith, h)

-- a `work` takes a tick, whatever is handed to it
work-long : (n : ℕ) (d : Option ℕ) → 0 < n → IsLong d → 0 < work_ticks n d
work-long n None h long = h
work-long n (Some k) h long = omega (arith, h, long)

-- each piece counts
pub some-effort : (most : ℕ) (p : Piece) (ps : List Piece) → 0 < most → 0 < effort most (p ∷ ps)
some-effort most Idle ps h = omega (arith, h)
some-effort most (Store target e) ps h = omega (arith, h)
some-effort most (Leaving condition) ps h = omega (arith, h)
some-effort most (Calling unit op actuals) ps h = omega (arith, h)
some-effort most (Working ticks) ps h = omega (arith, h)
some-effort most (Printing e) ps h = omega (arith, h)
some-effort most (Testing condition block others) ps h = omega (arith, h)
some-effort most (Turning name at last body) ps h = omega (arith, h)
some-effort most (Turned name at last body) ps h = omega (arith, h)
some-effort most (Returning outs stores caller) ps h = omega (arith, h)
some-effort most (Closing object op vars outs stores caller) ps h = omega (arith, h)
some-effort most (Keeping task v) ps h = omega (arith, h)
some-effort most (Opening task) ps h = omega (arith, h)
some-effort most (Requested task v) ps h = omega (arith, h)
some-effort most Finishing ps h = omega (arith, h)

-- the first piece of an activation takes ticks
module _ (c : Costs) (d : Option ℕ) (ticks : AreTicking c) (long : IsLong d) where
  turns_ticks : (b : Bool) (name : Name) (at last : ℕ) (body : Statements) (rest : List Piece) → nat_le at last ≡ b → 0 < first_ticks c d rest
      → 0 < first_ticks c d (turns name at last body rest)
  turns_ticks true name at last body rest e h = rw e ticks.turn
  turns_ticks false name at last body rest e h = rw e h

  statement_ticks : (s : Spot) (t : Statement) (rest : List Piece) → FitsStatement s t → 0 < first_ticks c d rest
      → 0 < first_ticks c d (pieces_of t rest)
  statement_ticks s Null rest f h = ticks.«nothing»
  statement_ticks s (Assign target e) rest f h = ticks.assign
  statement_ticks s (If Nothing) rest f h = absurd f
  statement_ticks s (If (Else block)) rest f h = absurd f
  statement_ticks s (If (When condition block others)) rest f h = ticks.test
  statement_ticks s (For name low high body) rest f h = turns_ticks (nat_le low high) name low high body rest refl h
  statement_ticks s (ExitWhen condition) rest f h = ticks.test
  statement_ticks s (Call object op actuals) rest f h = ticks.call
  statement_ticks s (Work n) rest f h = work-long n d f long
  statement_ticks s (Put e) rest f h = ticks.put

  block_ticks : (s : Spot) (ss : Statements) (rest : List Piece) → FitsBlock s ss → 0 < first_ticks c d rest → 0 < first_ticks c d (pieces ss rest)
  block_ticks s End rest f h = h
  block_ticks s (Then first others) rest f h = statement_ticks s first (pieces others rest) f.0 (block_ticks s others rest f.1 h)

pub activation-ticks : (c : Costs) (d : Option ℕ) (s : Spot) (ss : Statements) → costs_break c ≡ false → IsLong d → FitsBlock s ss
    → 0 < first_ticks c d (pieces ss (Finishing ∷ []))
activation-ticks c d s ss ticks long f = block_ticks c d (ticking c ticks) long s ss (Finishing ∷ []) f (ticking c ticks).finish
