-- What the pieces left to a task may still take, by any weights: the dearest way through them, the bodies of calls among them.
-- It falls with each effect of a piece by at least what the piece itself takes.
use Rattle.std.specs.Prelude.{◌≡◌, ℕ, suc, ◌+◌, ◌*◌, ◌≤◌, ◌<◌, Bool, true, false, List, [], ◌∷◌, drop, nat_le, max, if◌then◌else◌, ⊤, refl}
use Rattle.std.proofs.Common.{◌∙◌, ap, arith, zero-le}
use Rattle.seq_tree.specs.Names.{Name}
use Rattle.seq_tree.specs.Statements.{Statement, Statements, Branches, Null, Assign, If, For, ExitWhen, Call, Work, Put, End, Then, Nothing}
use Rattle.seq_tree.specs.Statements.{Else, When}
use Rattle.seq_tree.specs.Variables.{Variables, targets}
use Rattle.seq_tree.specs.Operations.{out_names}
use Rattle.seq_tree.specs.Values.{holds}
use Rattle.seq_tree.specs.Expressions.{Expression}
use Rattle.seq_tree.specs.Dearest.{Weights, turn_count, dearest_statement, dearest, dearest_branch}
use Rattle.machine.specs.Systems.{System, CallTarget, Plain, Protected, Request, Unknown, callee}
use Rattle.machine.specs.Pieces.{Piece, Idle, Store, Leaving, Calling, Working, Printing, Testing, Turning, Turned, Returning, Closing, Keeping}
use Rattle.machine.specs.Pieces.{Opening, Requested, Finishing, turns, pieces_of, pieces, branch_pieces, after_loop}
use Rattle.machine.specs.Deeds.{done, called, deed, Silent}

-- what is weighed along pieces: the parts of statements, calls by what they lead to, and the parts of a request, the last being its end
pub record Measure : Type 0 where
  pub weights : Weights
  pub keeping : ℕ
  pub opening : ℕ → ℕ
  pub requesting : ℕ → ℕ

-- the weight of a piece by itself
abbrev pub own : Measure → Piece → ℕ
own g Idle = g.weights.costs.nothing
own g (Store target value) = g.weights.costs.assign
own g (Leaving condition) = g.weights.costs.test
own g (Calling unit op actuals) = g.weights.costs.call
own g (Working ticks) = g.weights.work ticks
own g (Printing value) = g.weights.costs.put
own g (Testing condition block others) = g.weights.costs.test
own g (Turning name at last body) = g.weights.costs.turn
own g (Turned name at last body) = 0
own g (Returning outs stores caller) = 0
own g (Closing object op vars outs stores caller) = 0
own g (Keeping task value) = g.keeping
own g (Opening task) = g.opening task
own g (Requested task value) = g.requesting task
own g Finishing = g.weights.costs.finish

-- the weight of the turns of a loop after this value
abbrev pub later_turns : Measure → ℕ → ℕ → Statements → ℕ
later_turns g at last body = turn_count (suc at) last * (g.weights.costs.turn + dearest g.weights body)

-- the weight of what a piece puts before those behind it
abbrev pub behind : Measure → Piece → ℕ
behind g (Calling unit op actuals) = g.weights.called unit op
behind g (Testing condition block others) = max (dearest g.weights block) (dearest_branch g.weights others)
behind g (Turning name at last body) = dearest g.weights body + later_turns g at last body
behind g (Turned name at last body) = later_turns g at last body
behind g _ = 0

-- the weight of pieces
abbrev pub rest : Measure → List Piece → ℕ
rest g [] = 0
rest g (p ∷ ps) = own g p + behind g p + rest g ps

-- a weight of a call that covers what the call leads to
abbrev pub Covers : Measure → CallTarget → ℕ → Type 0
Covers g (Plain o) n = dearest g.weights o.block ≤ n
Covers g (Protected object op guarded o) n = dearest g.weights o.block ≤ n
Covers g (Request task) n = g.keeping + g.opening task + g.requesting task ≤ n
Covers g Unknown n = ⊤

abbrev pub CoversCalls : System → Measure → Type 0
CoversCalls y g = (unit op : Name) → Covers g (callee y unit op) (g.weights.called unit op)

times-suc : (k x : ℕ) → suc k * x ≡ x + k * x
times-suc k x = grind arith

-- the pieces of a loop weigh what its turns do
rest-turns : (g : Measure) (name : Name) (at last : ℕ) (body : Statements) (ps : List Piece)
    → rest g (turns name at last body ps) ≡ turn_count at last * (g.weights.costs.turn + dearest g.weights body) + rest g ps
rest-turns g name at last body ps = by (nat_le at last) refl
  where
    x : ℕ
    x = g.weights.costs.turn + dearest g.weights body

    by : (b : Bool) → nat_le at last ≡ b → rest g (if b then Turning name at last body ∷ ps else ps)
        ≡ turn_count at last * (g.weights.costs.turn + dearest g.weights body) + rest g ps
    by true e =
        let low : at ≤ last = grind arith in
        let count : turn_count at last ≡ suc (turn_count (suc at) last) = omega arith in
        let product : turn_count at last * (g.weights.costs.turn + dearest g.weights body)
        ≡ (g.weights.costs.turn + dearest g.weights body) + turn_count (suc at) last * (g.weights.costs.turn + dearest g.weights body) =
        ap (λ n. n * (g.weights.costs.turn + dearest g.weights body)) count ∙ times-suc (turn_count (suc at) last)
        (g.weights.costs.turn + dearest g.weights body) in
        omega (arith, product)
    by false e =
        let high : last < at = grind arith in
        let count : turn_count at last ≡ 0 = omega arith in
        let product : turn_count at last * (g.weights.costs.turn + dearest g.weights body) ≡ 0 * (g.weights.costs.turn + dearest g.weights body) =
        ap (λ n. n * (g.weights.costs.turn + dearest g.weights body)) count in
        omega (arith, product)

-- the pieces of statements weigh what the dearest way through the statements does
mutual
  pub rest-statement : (g : Measure) (s : Statement) (ps : List Piece) → rest g (pieces_of s ps) ≡ dearest_statement g.weights s + rest g ps
  rest-statement g Null ps = omega arith
  rest-statement g (Assign target value) ps = omega arith
  rest-statement g (If branches) ps = rest-branches g branches ps
  rest-statement g (For name low high body) ps = rest-turns g name low high body ps
  rest-statement g (ExitWhen condition) ps = omega arith
  rest-statement g (Call unit op actuals) ps = omega arith
  rest-statement g (Work ticks) ps = omega arith
  rest-statement g (Put value) ps = omega arith

  pub rest-block : (g : Measure) (b : Statements) (ps : List Piece) → rest g (pieces b ps) ≡ dearest g.weights b + rest g ps
  rest-block g End ps = omega arith
  rest-block g (Then first others) ps = omega (arith, rest-statement g first (pieces others ps), rest-block g others ps)

  pub rest-branches : (g : Measure) (b : Branches) (ps : List Piece) → rest g (branch_pieces b ps) ≡ dearest_branch g.weights b + rest g ps
  rest-branches g Nothing ps = omega arith
  rest-branches g (Else block) ps = rest-block g block ps
  rest-branches g (When condition block others) ps = omega arith

-- leaving a loop drops pieces
rest-after_loop : (g : Measure) (ps : List Piece) → rest g (after_loop ps) ≤ rest g ps
rest-after_loop g [] = zero-le
rest-after_loop g (Turned name at last body ∷ ps) = omega arith
rest-after_loop g (Idle ∷ ps) = omega (arith, rest-after_loop g ps)
rest-after_loop g (Store target value ∷ ps) = omega (arith, rest-after_loop g ps)
rest-after_loop g (Leaving condition ∷ ps) = omega (arith, rest-after_loop g ps)
rest-after_loop g (Calling unit op actuals ∷ ps) = omega (arith, rest-after_loop g ps)
rest-after_loop g (Working ticks ∷ ps) = omega (arith, rest-after_loop g ps)
rest-after_loop g (Printing value ∷ ps) = omega (arith, rest-after_loop g ps)
rest-after_loop g (Testing condition block others ∷ ps) = omega (arith, rest-after_loop g ps)
rest-after_loop g (Turning name at last body ∷ ps) = omega (arith, rest-after_loop g ps)
rest-after_loop g (Returning outs stores caller ∷ ps) = omega (arith, rest-after_loop g ps)
rest-after_loop g (Closing object op vars outs stores caller ∷ ps) = omega (arith, rest-after_loop g ps)
rest-after_loop g (Keeping task value ∷ ps) = omega (arith, rest-after_loop g ps)
rest-after_loop g (Opening task ∷ ps) = omega (arith, rest-after_loop g ps)
rest-after_loop g (Requested task value ∷ ps) = omega (arith, rest-after_loop g ps)
rest-after_loop g (Finishing ∷ ps) = omega (arith, rest-after_loop g ps)

rest-called : (g : Measure) (c : CallTarget) (actuals : List Expression) (vars : Variables) (ps : List Piece) (n : ℕ) → Covers g c n
    → rest g ((called c actuals vars ps).pieces) ≤ n + rest g ps
rest-called g (Plain o) actuals vars ps n deep
    = omega (arith, deep, rest-block g o.block (Returning (out_names o.sig.params) (targets o.sig.params actuals) vars ∷ ps))
rest-called g (Protected object op guarded o) actuals vars ps n deep
    = omega (arith, deep, rest-block g o.block (Closing object op guarded.vars (out_names o.sig.params) (targets o.sig.params actuals) vars ∷ ps))
rest-called g (Request task) actuals vars ps n deep = omega (arith, deep)
rest-called g Unknown actuals vars ps n deep = omega arith

-- after the effect of a piece at most what it put there and what was behind it is left
pub rest-done : (y : System) (g : Measure) → CoversCalls y g → (p : Piece) (vars : Variables) (ps : List Piece)
    → rest g ((done y p vars ps).pieces) ≤ behind g p + rest g ps
rest-done y g deep Idle vars ps = omega arith
rest-done y g deep (Store target value) vars ps = omega arith
rest-done y g deep (Leaving condition) vars ps = by (holds condition vars)
  where
    by : (b : Bool) → rest g ((if b then deed Silent (drop 1 vars) (after_loop ps) else deed Silent vars ps).pieces) ≤ 0 + rest g ps
    by true = omega (arith, rest-after_loop g ps)
    by false = omega arith
rest-done y g deep (Calling unit op actuals) vars ps = rest-called g (callee y unit op) actuals vars ps (g.weights.called unit op) (deep unit op)
rest-done y g deep (Working ticks) vars ps = omega arith
rest-done y g deep (Printing value) vars ps = omega arith
rest-done y g deep (Testing condition block others) vars ps = by (holds condition vars)
  where
    by : (b : Bool) → rest g (if b then pieces block ps else branch_pieces others ps)
        ≤ max (dearest g.weights block) (dearest_branch g.weights others) + rest g ps
    by true = omega (arith, rest-block g block ps)
    by false = omega (arith, rest-branches g others ps)
rest-done y g deep (Turning name at last body) vars ps = omega (arith, rest-block g body (Turned name at last body ∷ ps))
rest-done y g deep (Turned name at last body) vars ps = omega (arith, rest-turns g name (suc at) last body ps)
rest-done y g deep (Returning outs stores caller) vars ps = omega arith
rest-done y g deep (Closing object op data' outs stores caller) vars ps = omega arith
rest-done y g deep (Keeping task value) vars ps = omega arith
rest-done y g deep (Opening task) vars ps = omega arith
rest-done y g deep (Requested task value) vars ps = omega arith
rest-done y g deep Finishing vars ps = zero-le
