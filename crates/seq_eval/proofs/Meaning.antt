-- What is left of a walk, as a function of the stack: each step keeps it. The body of an operation is walked one call deeper than its caller,
-- and no stack is as deep as the walk.
use Rattle.std.proofs.Common.{◌≡◌, ℕ, suc, ◌+◌, ◌-◌, ◌*◌, ◌≤◌, ◌<◌, Bool, true, false, List, [], ◌∷◌, length, drop, Option, Some, None, Result}
use Rattle.std.proofs.Common.{Ok, Err}
use Rattle.std.proofs.Common.{refl, sym, ap, ◌∙◌, arith, cond}
use Rattle.std.specs.Prelude.{is_some, nat_le, nat_lt}
use Rattle.std.proofs.lemmas.Bool.{leb-false, leb-true, ltb-false, ltb-true}
use Rattle.grammar.specs.Reading.{Halt, Read, left_of, then_at, pure_at, token_at, taken, whole_at, all_taken, ◌>>=◌}
use Rattle.seq_tree.specs.Names.{Name}
use Rattle.seq_tree.specs.Expressions.{Expression}
use Rattle.seq_tree.specs.Statements.{Statement, Statements, Branches, Null, Assign, If, For, ExitWhen, Call, Work, Put, End, Then, Nothing}
use Rattle.seq_tree.specs.Statements.{Else, When}
use Rattle.seq_tree.specs.Operations.{Operation, out_names}
use Rattle.seq_tree.specs.Variables.{Variables, reads, opened, targets, stored}
use Rattle.seq_tree.specs.Values.{value, holds, handed}
use Rattle.seq_tree.specs.Dearest.{turn_count}
use Rattle.seq_tree.specs.Runs.{Action, Path, Callee, Plain, Protected, Asked, Unknown, silent, joined, turned, request_value}
use Rattle.seq_tree.specs.declared.tree.Costs.{Costs}
use Rattle.seq_tree.specs.declared.tree.OpName.{OpName}
use Rattle.seq_tree.specs.declared.tree.Param.{Param}
use Rattle.law_walks.specs.Walks.{Walk, Guide, after_at, turns_at, sees_entry, sees_leave, sees_print, sees_request, called_at, chosen_at}
use Rattle.law_walks.specs.Walks as walks
use Rattle.seq_tree.specs.Runs as runs
use Rattle.grammar.specs.Reading as reading
use Rattle.law_walks.specs.Walks.{statement_at, block_at, branches_at, body_at, walk_at, returned}
use Rattle.seq_eval.specs.Ends.{comes_to}
use Rattle.seq_eval.specs.Ends as ends
use Rattle.seq_eval.specs.Stepping.{Doing, Rest, Arms, Turned, Returned, State, Step, spent, to_do, turning, told_by}
use Rattle.seq_eval.specs.Stepping.{left_by, stored_by, passed, entered_op, called, begun, branched, done, passed_over}
use Rattle.seq_eval.specs.Stepping.{step_by, step}

-- how many bodies of operations are under way
abbrev pub backs : List Doing → ℕ
backs [] = 0
backs (Rest block ∷ ds) = backs ds
backs (Arms branches ∷ ds) = backs ds
backs (Turned name at last body ∷ ds) = backs ds
backs (Returned o actuals vars ∷ ds) = suc (backs ds)

-- a way, and what follows it
abbrev pub behind : Read Action Path → (Path → List Action → Result ends.End ℕ) → Result ends.End ℕ
behind (Ok x) k = k x.0 x.1
behind (Err halt) k = Err (left_of halt)

-- the end of all that is to do
abbrev pub at_end : Variables → ℕ → ℕ → List Action → Result ends.End ℕ
at_end vars low high [] = Ok (record { vars = vars; low = low; high = high })
at_end vars low high (a ∷ rest) = Err (suc (length rest))

zero_more : (n : ℕ) → n + 0 ≡ n
zero_more n = omega arith

more-two : (a b c : ℕ) → a + (b + c) ≡ (a + b) + c
more-two a b c = omega arith

more-turn : (a b c : ℕ) → a + (b + c) ≡ (a + c) + b
more-turn a b c = omega arith

module _ (costs : Costs) (calls : Name → Name → Callee) (deepest : ℕ) where
  -- the walks of blocks where these bodies are under way
  abbrev pub guide_at : ℕ → Guide
  guide_at n = record { costs = costs; callee = calls; body = body_at costs calls (deepest - n) }

  -- what is left of a walk
  abbrev pub rest_from : List Doing → Bool → Variables → ℕ → ℕ → List Action → Result ends.End ℕ
  rest_from [] leaving vars low high script = at_end vars low high script
  rest_from (Returned o actuals saved ∷ ds) leaving vars low high script =
      rest_from ds false (stored (targets o.sig.params actuals) (reads (out_names o.sig.params) vars) saved) low high script
  rest_from (Rest block ∷ ds) true vars low high script = rest_from ds true vars low high script
  rest_from (Rest block ∷ ds) false vars low high script =
      behind (block_at (guide_at (backs ds)) block vars script) (λ p us. rest_from ds p.left p.vars (low + p.low) (high + p.high) us)
  rest_from (Arms branches ∷ ds) true vars low high script = rest_from ds true vars low high script
  rest_from (Arms branches ∷ ds) false vars low high script =
      behind (branches_at (guide_at (backs ds)) branches vars script) (λ p us. rest_from ds p.left p.vars (low + p.low) (high + p.high) us)
  rest_from (Turned name at last body ∷ ds) true vars low high script =
      rest_from ds false (drop 1 vars) (low + costs.turn) (high + costs.turn) script
  rest_from (Turned name at last body ∷ ds) false vars low high script =
      behind (turns_at (last - at) (at + 1) costs.turn name (block_at (guide_at (backs ds)) body) (drop 1 vars) script)
      (λ p us. rest_from ds p.left p.vars (low + costs.turn + p.low) (high + costs.turn + p.high) us)

  abbrev pub rest_of : State → Result ends.End ℕ
  rest_of s = rest_from s.doings s.leaving s.vars s.low s.high s.script

  -- what is left behind a way
  abbrev pub onwards : List Doing → ℕ → ℕ → Path → List Action → Result ends.End ℕ
  onwards ds low high p us = rest_from ds p.left p.vars (low + p.low) (high + p.high) us

  -- what is left behind a step
  abbrev pub rest_after : Step → Result ends.End ℕ
  rest_after (Ok s) = rest_of s
  rest_after (Err left) = Err left

  -- the same with other ticks
  onwards-same : (ds : List Doing) (leaving : Bool) (vars : Variables) (low low' high high' : ℕ) (script : List Action) → low ≡ low' → high ≡ high'
      → rest_from ds leaving vars low high script ≡ rest_from ds leaving vars low' high' script
  onwards-same ds leaving vars low low' high high' script e f =
      ap (λ n. rest_from ds leaving vars n high script) e ∙ ap (λ n. rest_from ds leaving vars low' n script) f

  -- a way before another
  joined-on : (ds : List Doing) (low high : ℕ) (q : Path) (r : Read Action Path)
      → behind (r >>= λ x. Ok (joined q x.0, x.1)) (onwards ds low high) ≡ behind r (onwards ds (low + q.low) (high + q.high))
  joined-on ds low high q (Ok x) =
      onwards-same ds x.0.left x.0.vars _ _ _ _ x.1 (more-two low q.low x.0.low) (more-two high q.high x.0.high)
  joined-on ds low high q (Err halt) = refl

  -- a statement, and the rest of its block
  way-on : (ds : List Doing) (low high : ℕ) (more : Statements) (left : Bool) (told : List Action) (vars : Variables) (l h : ℕ) (us : List Action)
      → behind (after_at left (record { script = told; left = left; vars = vars; low = l; high = h }) (block_at (guide_at (backs ds)) more vars) us)
      (onwards ds low high)
      ≡ rest_from (Rest more ∷ ds) left vars (low + l) (high + h) us
  way-on ds low high more true told vars l h us = refl
  way-on ds low high more false told vars l h us =
      joined-on ds low high (record { script = told; left = false; vars = vars; low = l; high = h }) (block_at (guide_at (backs ds)) more vars us)

  sequence : (ds : List Doing) (low high : ℕ) (more : Statements) (r : Read Action Path)
      → behind (r >>= λ x. after_at x.0.left x.0 (block_at (guide_at (backs ds)) more x.0.vars) x.1) (onwards ds low high)
      ≡ behind r (onwards (Rest more ∷ ds) low high)
  sequence ds low high more (Ok x) = way-on ds low high more x.0.left x.0.script x.0.vars x.0.low x.0.high x.1
  sequence ds low high more (Err halt) = refl

  -- a turn, and those after it
  turn-way : (ds : List Doing) (low high : ℕ) (name : Name) (at last : ℕ) (body : Statements) (left : Bool) (told : List Action) (vars : Variables)
      (l h : ℕ) (us : List Action)
      → rest_from (Turned name at last body ∷ ds) left vars (low + l) (high + h) us
      ≡ behind (after_at left (turned costs.turn (record { script = told; left = left; vars = vars; low = l; high = h }))
      (turns_at (last - at) (suc at) costs.turn name (block_at (guide_at (backs ds)) body) (drop 1 vars)) us) (onwards ds low high)
  turn-way ds low high name at last body true told vars l h us =
      sym (onwards-same ds false (drop 1 vars) _ _ _ _ us (more-turn low costs.turn l) (more-turn high costs.turn h))
  turn-way ds low high name at last body false told vars l h us =
      let next : ℕ → Read Action Path = λ k. turns_at (last - at) k costs.turn name (block_at (guide_at (backs ds)) body) (drop 1 vars) us in
      let one : at + 1 ≡ suc at = omega arith in
      ap (λ k. behind (next k) (onwards ds (low + l + costs.turn) (high + h + costs.turn))) one
      ∙ ap (λ n. behind (next (suc at)) (onwards ds n (high + h + costs.turn))) (sym (more-turn low costs.turn l))
      ∙ ap (λ n. behind (next (suc at)) (onwards ds (low + (costs.turn + l)) n)) (sym (more-turn high costs.turn h))
      ∙ sym (joined-on ds low high (turned costs.turn (record { script = told; left = false; vars = vars; low = l; high = h })) (next (suc at)))

  turn-begins : (ds : List Doing) (low high : ℕ) (name : Name) (at last : ℕ) (body : Statements) (r : Read Action Path)
      → behind r (onwards (Turned name at last body ∷ ds) low high)
      ≡ behind (r >>= λ x. after_at x.0.left (turned costs.turn x.0)
      (turns_at (last - at) (suc at) costs.turn name (block_at (guide_at (backs ds)) body) (drop 1 x.0.vars)) x.1) (onwards ds low high)
  turn-begins ds low high name at last body (Ok x) =
      turn-way ds low high name at last body x.0.left x.0.script x.0.vars x.0.low x.0.high x.1
  turn-begins ds low high name at last body (Err halt) = refl

  -- some turns
  turns : (ds : List Doing) (low high : ℕ) (vars : Variables) (script : List Action) (name : Name) (at last n : ℕ) (body : Statements)
      → n ≡ suc (last - at)
      → rest_of (turning name at last body (record { doings = ds; leaving = false; vars = vars; low = low; high = high; script = script }))
      ≡ behind (turns_at n at costs.turn name (block_at (guide_at (backs ds)) body) vars script) (onwards ds low high)
  turns ds low high vars script name at last n body e =
      turn-begins ds low high name at last body (block_at (guide_at (backs ds)) body ((name, at) ∷ vars) script)
      ∙ ap (λ k. behind (turns_at k at costs.turn name (block_at (guide_at (backs ds)) body) vars script) (onwards ds low high)) (sym e)

  -- no turn
  no-turns : (ds : List Doing) (low high : ℕ) (vars : Variables) (script : List Action) (name : Name) (at n : ℕ) (body : Statements) → n ≡ 0
      → rest_from ds false vars low high script
      ≡ behind (turns_at n at costs.turn name (block_at (guide_at (backs ds)) body) vars script) (onwards ds low high)
  no-turns ds low high vars script name at n body e =
      onwards-same ds false vars _ _ _ _ script (sym (zero_more low)) (sym (zero_more high))
      ∙ ap (λ k. behind (turns_at k at costs.turn name (block_at (guide_at (backs ds)) body) vars script) (onwards ds low high)) (sym e)

  -- an action that has to be next
  told-on : (ds : List Doing) (vars : Variables) (low high : ℕ) (script : List Action) (sees : Action → Option Action) (l h : ℕ) (p : Path)
      → p.left ≡ false → p.vars ≡ vars → p.low ≡ l → p.high ≡ h
      → rest_after (told_by (λ a. is_some (sees a)) script (record {
        doings = ds;
        leaving = false;
        vars = vars;
        low = low;
        high = high;
        script
            = script;
      })
      (λ t. Ok (spent l h t)))
      ≡ behind (then_at (token_at sees) (λ a. pure_at p) script) (onwards ds low high)
  told-on ds vars low high [] sees l h p e f g i = refl
  told-on ds vars low high (a ∷ us) sees l h p e f g i = by (sees a)
    where
      by : (o : Option Action)
          → rest_after (cond (is_some o) (Ok (record { doings = ds; leaving = false; vars = vars; low = low + l; high = high + h; script = us }))
          (Err (suc (length us))))
          ≡ behind (taken o us >>= λ x. Ok (p, x.1)) (onwards ds low high)
      by None = refl
      by (Some b) = sym (ap (λ b. rest_from ds b p.vars (low + p.low) (high + p.high) us) e
          ∙ ap (λ w. rest_from ds false w (low + p.low) (high + p.high) us) f
          ∙ ap (λ n. rest_from ds false vars (low + n) (high + p.high) us) g
          ∙ ap (λ n. rest_from ds false vars (low + l) (high + n) us) i)

  -- the exit from a protected operation
  left-on : (ds : List Doing) (vars : Variables) (low high : ℕ) (us : List Action) (name : OpName) (values : List ℕ) (count : ℕ) (stores : List Name)
      → rest_after (left_by costs name count stores us (record { doings = ds; leaving = false; vars = vars; low = low; high = high; script = us }))
      ≡ behind (then_at (token_at (sees_leave name count)) (λ results. pure_at (walks.passed costs name values stores vars results)) us)
      (onwards ds low high)
  left-on ds vars low high [] name values count stores = refl
  left-on ds vars low high (a ∷ us) name values count stores = by (sees_leave name count a)
    where
      by : (o : Option (List ℕ))
          → rest_after (stored_by costs stores o us (record { doings = ds; leaving = false; vars = vars; low = low; high = high; script = a ∷ us }))
          ≡ behind (taken o us >>= λ x. Ok (walks.passed costs name values stores vars x.0, x.1)) (onwards ds low high)
      by None = refl
      by (Some results) = refl

  -- a call of a protected operation
  passed-on : (ds : List Doing) (vars : Variables) (low high : ℕ) (script : List Action) (name : OpName) (params : List Param)
      (actuals : List Expression)
      → rest_after (passed costs name params actuals
      (record { doings = ds; leaving = false; vars = vars; low = low; high = high; script = script }))
      ≡ behind (then_at (token_at (sees_entry name (handed params actuals vars)))
      (λ e. then_at (token_at (sees_leave name (length (out_names params))))
      (λ results. pure_at (walks.passed costs name (handed params actuals vars) (targets params actuals) vars results))) script)
      (onwards ds low high)
  passed-on ds vars low high [] name params actuals = refl
  passed-on ds vars low high (a ∷ us) name params actuals = by (sees_entry name (handed params actuals vars) a)
    where
      by : (o : Option Action)
          → rest_after (cond (is_some o) (left_by costs name (length (out_names params)) (targets params actuals) us
          (record { doings = ds; leaving = false; vars = vars; low = low; high = high; script = us })) (Err (suc (length us))))
          ≡ behind (taken o us >>= λ x. then_at (token_at (sees_leave name (length (out_names params))))
          (λ results. pure_at (walks.passed costs name (handed params actuals vars) (targets params actuals) vars results)) x.1)
          (onwards ds low high)
      by None = refl
      by (Some b) = left-on ds vars low high us name (handed params actuals vars) (length (out_names params)) (targets params actuals)

  -- a call of a passive operation
  returned-on : (ds : List Doing) (vars : Variables) (low high : ℕ) (o : Operation) (actuals : List Expression) (r : Read Action Path)
      → behind r (onwards (Returned o actuals vars ∷ ds) (low + costs.call) (high + costs.call))
      ≡ behind (r >>= λ x. Ok (returned costs o actuals vars x.0, x.1)) (onwards ds low high)
  returned-on ds vars low high o actuals (Ok x) =
      sym (onwards-same ds false (stored (targets o.sig.params actuals) (reads (out_names o.sig.params) x.0.vars) vars) _ _ _ _ x.1
      (more-two low costs.call x.0.low) (more-two high costs.call x.0.high))
  returned-on ds vars low high o actuals (Err halt) = refl

  entered-on : (ds : List Doing) (vars : Variables) (low high : ℕ) (script : List Action) (o : Operation) (actuals : List Expression) (n : ℕ)
      → n ≡ suc (deepest - suc (backs ds))
      → rest_of (entered_op costs o actuals (record { doings = ds; leaving = false; vars = vars; low = low; high = high; script = script }))
      ≡ behind (then_at (body_at costs calls n o (opened o (handed o.sig.params actuals vars)))
      (λ b. pure_at (returned costs o actuals vars b)) script)
      (onwards ds low high)
  entered-on ds vars low high script o actuals n e =
      returned-on ds vars low high o actuals (block_at (guide_at (suc (backs ds))) o.block (opened o (handed o.sig.params actuals vars)) script)
      ∙ ap (λ k. behind (then_at (body_at costs calls k o (opened o (handed o.sig.params actuals vars)))
      (λ b. pure_at (returned costs o actuals vars b))
      script) (onwards ds low high)) (sym e)

  deeper : (n : ℕ) → n < deepest → deepest - n ≡ suc (deepest - suc n)
  deeper n within = omega (arith, within)

  -- a call
  called-on : (ds : List Doing) (vars : Variables) (low high : ℕ) (script : List Action) (name : OpName) (c : Callee) (actuals : List Expression)
      → backs ds < deepest
      → rest_after (called costs name c actuals (record { doings = ds; leaving = false; vars = vars; low = low; high = high; script = script }))
      ≡ behind (called_at (guide_at (backs ds)) name c actuals vars script) (onwards ds low high)
  called-on ds vars low high script name (Plain o) actuals within =
      entered-on ds vars low high script o actuals (deepest - backs ds) (deeper (backs ds) within)
  called-on ds vars low high script name (Protected params) actuals within = passed-on ds vars low high script name params actuals
  called-on ds vars low high script name Asked actuals within =
      told-on ds vars low high script (sees_request name (request_value actuals vars)) _ _
      (walks.telling (costs.call + 2 * costs.assign) vars (runs.Request name (request_value actuals vars))) refl refl refl refl
  called-on ds vars low high script name Unknown actuals within = refl

  -- the turns of a loop, where it has some
  loop-on : (ds : List Doing) (vars : Variables) (low high : ℕ) (script : List Action) (name : Name) (at last : ℕ) (body : Statements) (b : Bool)
      → nat_le at last ≡ b
      → rest_of (cond b (turning name at last body (record { doings = ds; leaving = false; vars = vars; low = low; high = high; script = script }))
      (record { doings = ds; leaving = false; vars = vars; low = low; high = high; script = script }))
      ≡ behind (turns_at (turn_count at last) at costs.turn name (block_at (guide_at (backs ds)) body) vars script) (onwards ds low high)
  loop-on ds vars low high script name at last body true e =
      let some : at ≤ last = leb-true at last e in
      turns ds low high vars script name at last (turn_count at last) body (omega (arith, some))
  loop-on ds vars low high script name at last body false e =
      let none : last < at = leb-false at last e in
      no-turns ds low high vars script name at (turn_count at last) body (omega (arith, none))

  -- a statement
  begun-on : (ds : List Doing) (vars : Variables) (low high : ℕ) (script : List Action) (st : Statement) → backs ds < deepest
      → rest_after (begun costs calls st (record { doings = ds; leaving = false; vars = vars; low = low; high = high; script = script }))
      ≡ behind (statement_at (guide_at (backs ds)) st vars script) (onwards ds low high)
  begun-on ds vars low high script Null within = refl
  begun-on ds vars low high script (Assign target e) within = refl
  begun-on ds vars low high script (If branches) within = refl
  begun-on ds vars low high script (For name at last body) within = loop-on ds vars low high script name at last body (nat_le at last) refl
  begun-on ds vars low high script (ExitWhen condition) within = refl
  begun-on ds vars low high script (Call object op actuals) within =
      called-on ds vars low high script (record { object = object; op = op }) (calls object op) actuals within
  begun-on ds vars low high script (Work ticks) within = refl
  begun-on ds vars low high script (Put e) within =
      told-on ds vars low high script (sees_print (value e vars)) _ _ (walks.telling costs.put vars (runs.Print (value e vars))) refl refl refl refl

  -- branches
  chosen-on : (ds : List Doing) (vars : Variables) (low high : ℕ) (script : List Action) (block : Statements) (others : Branches) (b : Bool)
      → rest_from (cond b (Rest block) (Arms others) ∷ ds) false vars low high script
      ≡ behind (chosen_at b (block_at (guide_at (backs ds)) block vars) (branches_at (guide_at (backs ds)) others vars) script) (onwards ds low high)
  chosen-on ds vars low high script block others true = refl
  chosen-on ds vars low high script block others false = refl

  branched-on : (ds : List Doing) (vars : Variables) (low high : ℕ) (script : List Action) (branches : Branches)
      → rest_of (branched costs branches (record { doings = ds; leaving = false; vars = vars; low = low; high = high; script = script }))
      ≡ behind (branches_at (guide_at (backs ds)) branches vars script) (onwards ds low high)
  branched-on ds vars low high script Nothing =
      onwards-same ds false vars _ _ _ _ script (sym (zero_more low)) (sym (zero_more high))
  branched-on ds vars low high script (Else block) = refl
  branched-on ds vars low high script (When condition block others) =
      chosen-on ds vars (low + costs.test) (high + costs.test) script block others (holds condition vars)
      ∙ sym (joined-on ds low high (silent costs.test vars)
      (chosen_at (holds condition vars) (block_at (guide_at (backs ds)) block vars) (branches_at (guide_at (backs ds)) others vars) script))

  -- the end of a turn
  turned-on : (ds : List Doing) (vars : Variables) (low high : ℕ) (script : List Action) (name : Name) (at last : ℕ) (body : Statements) (b : Bool)
      → nat_lt at last ≡ b
      → rest_of (cond b (turning name (at + 1) last body
      (record { doings = ds; leaving = false; vars = vars; low = low; high = high; script = script }))
      (record { doings = ds; leaving = false; vars = vars; low = low; high = high; script = script }))
      ≡ behind (turns_at (last - at) (at + 1) costs.turn name (block_at (guide_at (backs ds)) body) vars script) (onwards ds low high)
  turned-on ds vars low high script name at last body true e =
      let some : at < last = ltb-true at last e in
      turns ds low high vars script name (at + 1) last (last - at) body (omega (arith, some))
  turned-on ds vars low high script name at last body false e =
      let none : last ≤ at = ltb-false at last e in
      no-turns ds low high vars script name (at + 1) (last - at) body (omega (arith, none))

  done-on : (d : Doing) (ds : List Doing) (vars : Variables) (low high : ℕ) (script : List Action) → backs ds < deepest
      → rest_after (done costs calls d (record { doings = ds; leaving = false; vars = vars; low = low; high = high; script = script }))
      ≡ rest_from (d ∷ ds) false vars low high script
  done-on (Rest End) ds vars low high script within =
      onwards-same ds false vars _ _ _ _ script (sym (zero_more low)) (sym (zero_more high))
  done-on (Rest (Then first more)) ds vars low high script within =
      begun-on (Rest more ∷ ds) vars low high script first within
      ∙ sym (sequence ds low high more (statement_at (guide_at (backs ds)) first vars script))
  done-on (Arms branches) ds vars low high script within = branched-on ds vars low high script branches
  done-on (Turned name at last body) ds vars low high script within =
      turned-on ds (drop 1 vars) (low + costs.turn) (high + costs.turn) script name at last body (nat_lt at last) refl
  done-on (Returned o actuals saved) ds vars low high script within = refl

  passed-over-on : (d : Doing) (ds : List Doing) (vars : Variables) (low high : ℕ) (script : List Action)
      → rest_of (passed_over costs d (record { doings = ds; leaving = true; vars = vars; low = low; high = high; script = script }))
      ≡ rest_from (d ∷ ds) true vars low high script
  passed-over-on (Rest block) ds vars low high script = refl
  passed-over-on (Arms branches) ds vars low high script = refl
  passed-over-on (Turned name at last body) ds vars low high script = refl
  passed-over-on (Returned o actuals saved) ds vars low high script = refl

  step-by : (leaving : Bool) (d : Doing) (ds : List Doing) (vars : Variables) (low high : ℕ) (script : List Action) → backs ds < deepest
      → rest_after (step_by leaving costs calls d (record { doings = ds; leaving = leaving; vars = vars; low = low; high = high; script = script }))
      ≡ rest_from (d ∷ ds) leaving vars low high script
  step-by true d ds vars low high script within = passed-over-on d ds vars low high script
  step-by false d ds vars low high script within = done-on d ds vars low high script within

  -- a step keeps what is left of the walk
  pub step-keeps : (d : Doing) (s : State) → backs s.doings < deepest → rest_after (step costs calls d s) ≡ rest_of (to_do d s)
  step-keeps d s within = step-by s.leaving d s.doings s.vars s.low s.high s.script within

  -- what is left at first is the walk
  all-left : (p : Path) (us : List Action) → at_end p.vars (0 + p.low) (0 + p.high) us ≡ comes_to (all_taken p us)
  all-left p [] =
      let low : 0 + p.low ≡ p.low = omega arith in let high : 0 + p.high ≡ p.high = omega arith in
      ap (λ n. Ok (record { vars = p.vars; low = n; high = 0 + p.high })) low ∙ ap (λ n. Ok (record { vars = p.vars; low = p.low; high = n })) high
  all-left p (a ∷ us) = refl

  walk-left : (r : Read Action Path) → behind r (onwards [] 0 0) ≡ comes_to (reading.all_of r)
  walk-left (Ok x) = all-left x.0 x.1
  walk-left (Err halt) = refl

  pub begins-left : (b : Statements) (vars : Variables) (script : List Action)
      → rest_from (Rest b ∷ []) false vars 0 0 script ≡ comes_to (whole_at (walk_at costs calls deepest b vars) script)
  begins-left b vars script =
      let none : deepest - 0 ≡ deepest = omega arith in
      walk-left (block_at (guide_at 0) b vars script) ∙ ap (λ n. comes_to (whole_at (walk_at costs calls n b vars) script)) none
