-- How many ticks a task may still use before the sections that it is inside end, those whose ceilings reach a level.
use Rattle.std.specs.Prelude.{◌≡◌, ◌≤◌, ◌+◌, ◌-◌, ◌*◌, ℕ, suc, Bool, true, false, nat_le, max, List, [], ◌∷◌, drop, None, if◌then◌else◌, ⊤, refl}
use Rattle.std.proofs.Common.{sym, ◌∙◌, ap, subst, arith, le_trans, suc-mul}
use Rattle.seq_tree.specs.Names.{Name}
use Rattle.seq_tree.specs.Expressions.{Expression}
use Rattle.seq_tree.specs.Statements.{Statement, Statements, Branches, Null, Assign, If, For, ExitWhen, Call, Work, Put, End, Then, Nothing}
use Rattle.seq_tree.specs.Statements.{Else, When}
use Rattle.seq_tree.specs.Values.{holds}
use Rattle.seq_tree.specs.Variables.{Variables}
use Rattle.seq_tree.specs.Dearest.{Weights, turn_count, dearest_statement, dearest, dearest_branch}
use Rattle.machine.specs.Systems.{System, CallTarget, Plain, Protected, Request, Unknown, callee}
use Rattle.machine.specs.Pieces.{Piece, Idle, Store, Leaving, Calling, Working, Printing, Testing, Turning, Turned, Returning, Closing, Keeping}
use Rattle.machine.specs.Pieces.{Opening, Requested, Finishing, turns, pieces_of, pieces, branch_pieces, after_loop, ticks_of}
use Rattle.machine.specs.Deeds.{Silent, PieceOutcome, deed, called, done}
use Rattle.machine.specs.States.{Resource, Object, Control}
use Rattle.machine.specs.Effects.{ceiling_of}
use Rattle.law_ceilings.proofs.Shared.Pieces.{closers}
use Rattle.law_ceilings.proofs.Shared.Fitting.{either-way}

-- the weights of a system, where calls cost this much besides CALL
abbrev pub weights : System → (Name → Name → ℕ) → Weights
weights y called' = record { costs = y.costs; work = λ ticks. ticks; called = called' }

-- the most ticks that come of a piece after its own ones
abbrev pub later : Weights → Piece → ℕ
later w (Calling unit op actuals) = w.called unit op
later w (Testing condition block others) = max (dearest w block) (dearest_branch w others)
later w (Turning name at last body) = dearest w body + turn_count (suc at) last * (w.costs.turn + dearest w body)
later w (Turned name at last body) = turn_count (suc at) last * (w.costs.turn + dearest w body)
later w _ = 0

-- the most ticks that come of a piece
abbrev pub weight : Weights → Piece → ℕ
weight w p = ticks_of w.costs None p + later w p

turns-weight : (a b x : ℕ) → a ≤ b → turn_count a b * x ≡ turn_count (suc a) b * x + x
turns-weight a b x h = let is : turn_count a b ≡ suc (turn_count (suc a) b) = omega arith in ap (λ k. k * x) is ∙ suc-mul (turn_count (suc a) b) x

module _ (y : System) (level : ℕ) (called' : Name → Name → ℕ) where
  abbrev w : Weights
  w = weights y called'

  -- the end of a section whose ceiling reaches the level comes after at most so many ticks
  abbrev pub IsDue : ℕ → ℕ → Piece → Type 0
  IsDue bound n (Closing object op vars outs stores caller) = level ≤ ceiling_of y (Object object) → n ≤ bound
  IsDue bound n (Requested task value) = level ≤ ceiling_of y (Control task) → n ≤ bound
  IsDue bound n _ = ⊤

  -- each such end among these pieces, after so many ticks before them
  abbrev pub Owes : ℕ → ℕ → List Piece → Type 0
  Owes bound n [] = ⊤
  Owes bound n (p ∷ ps) = IsDue bound n p × Owes bound (n + weight w p) ps

  -- the same where so many ticks are left of the first piece
  abbrev pub Owing : ℕ → ℕ → List Piece → Type 0
  Owing bound n [] = ⊤
  Owing bound n (p ∷ ps) = Owes bound (n + later w p) ps

  due-mono : (bound n m : ℕ) (p : Piece) → m ≤ n → IsDue bound n p → IsDue bound m p
  due-mono bound n m Idle less h = tt
  due-mono bound n m (Store target value) less h = tt
  due-mono bound n m (Leaving condition) less h = tt
  due-mono bound n m (Calling unit op actuals) less h = tt
  due-mono bound n m (Working ticks) less h = tt
  due-mono bound n m (Printing value) less h = tt
  due-mono bound n m (Testing condition block others) less h = tt
  due-mono bound n m (Turning name at last body) less h = tt
  due-mono bound n m (Turned name at last body) less h = tt
  due-mono bound n m (Returning outs stores caller) less h = tt
  due-mono bound n m (Closing object op vars outs stores caller) less h = λ high. le_trans less (h high)
  due-mono bound n m (Keeping task value) less h = tt
  due-mono bound n m (Opening task) less h = tt
  due-mono bound n m (Requested task value) less h = λ high. le_trans less (h high)
  due-mono bound n m Finishing less h = tt

  pub owes-mono : (bound n m : ℕ) (ps : List Piece) → m ≤ n → Owes bound n ps → Owes bound m ps
  owes-mono bound n m [] less h = tt
  owes-mono bound n m (p ∷ ps) less h = (due-mono bound n m p less h.0, owes-mono bound (n + weight w p) (m + weight w p) ps (omega arith) h.1)

  due-tick : (bound n : ℕ) (p : Piece) → IsDue bound (suc n) p → IsDue (bound - 1) n p
  due-tick bound n Idle h = tt
  due-tick bound n (Store target value) h = tt
  due-tick bound n (Leaving condition) h = tt
  due-tick bound n (Calling unit op actuals) h = tt
  due-tick bound n (Working ticks) h = tt
  due-tick bound n (Printing value) h = tt
  due-tick bound n (Testing condition block others) h = tt
  due-tick bound n (Turning name at last body) h = tt
  due-tick bound n (Turned name at last body) h = tt
  due-tick bound n (Returning outs stores caller) h = tt
  due-tick bound n (Closing object op vars outs stores caller) h = λ high. let most : suc n ≤ bound = h high in omega arith
  due-tick bound n (Keeping task value) h = tt
  due-tick bound n (Opening task) h = tt
  due-tick bound n (Requested task value) h = λ high. let most : suc n ≤ bound = h high in omega arith
  due-tick bound n Finishing h = tt

  -- after a tick a tick less is owed
  pub owes-tick : (bound n : ℕ) (ps : List Piece) → Owes bound (suc n) ps → Owes (bound - 1) n ps
  owes-tick bound n [] h = tt
  owes-tick bound n (p ∷ ps) h =
      let is : suc n + weight w p ≡ suc (n + weight w p) = omega arith in
      (due-tick bound n p h.0, owes-tick bound (n + weight w p) ps (subst (λ m. Owes bound m ps) is h.1))

  -- pieces before which nothing more comes
  skip : (bound n : ℕ) (p : Piece) (ps : List Piece) → Owes bound n (p ∷ ps) → Owes bound n ps
  skip bound n p ps h = owes-mono bound (n + weight w p) n ps (omega arith) h.1

  turns-owes : (bound n : ℕ) (name : Name) (at last : ℕ) (body : Statements) (rest : List Piece)
      → Owes bound (n + turn_count at last * (y.costs.turn + dearest w body)) rest → Owes bound n (turns name at last body rest)
  turns-owes bound n name at last body rest h = by (nat_le at last) refl
    where
      by : (b : Bool) → nat_le at last ≡ b → Owes bound n (if b then Turning name at last body ∷ rest else rest)
      by true e =
          let more : at ≤ last = grind arith in
          let is = turns-weight at last (y.costs.turn + dearest w body) more in (
            tt,
            owes-mono bound (n + turn_count at last * (y.costs.turn + dearest w body)) (n + weight w (Turning name at last body)) rest (omega
                (arith, is)) h,
          )
      by false e = owes-mono bound (n + turn_count at last * (y.costs.turn + dearest w body)) n rest (omega arith) h

  -- the pieces of statements cost at most their dearest path
  mutual
    statement-owes : (s : Statement) (bound n : ℕ) (rest : List Piece) → Owes bound (n + dearest_statement w s) rest → Owes bound n (pieces_of s rest)
    statement-owes Null bound n rest h = (tt, owes-mono bound (n + y.costs.nothing) (n + (y.costs.nothing + 0)) rest (omega arith) h)
    statement-owes (Assign target e) bound n rest h = (tt, owes-mono bound (n + y.costs.assign) (n + (y.costs.assign + 0)) rest (omega arith) h)
    statement-owes (If branches) bound n rest h = branches-owes branches bound n rest h
    statement-owes (For name low high body) bound n rest h = turns-owes bound n name low high body rest h
    statement-owes (ExitWhen condition) bound n rest h = (tt, owes-mono bound (n + y.costs.test) (n + (y.costs.test + 0)) rest (omega arith) h)
    statement-owes (Call object op actuals) bound n rest h = (tt, h)
    statement-owes (Work ticks) bound n rest h = (tt, owes-mono bound (n + ticks) (n + (ticks + 0)) rest (omega arith) h)
    statement-owes (Put e) bound n rest h = (tt, owes-mono bound (n + y.costs.put) (n + (y.costs.put + 0)) rest (omega arith) h)

    pub block-owes : (b : Statements) (bound n : ℕ) (rest : List Piece) → Owes bound (n + dearest w b) rest → Owes bound n (pieces b rest)
    block-owes End bound n rest h = owes-mono bound (n + 0) n rest (omega arith) h
    block-owes (Then first others) bound n rest h =
        statement-owes first bound n (pieces others rest)
        (block-owes others bound (n + dearest_statement w first) rest
        (owes-mono bound (n + (dearest_statement w first + dearest w others)) (n + dearest_statement w first + dearest w others) rest
        (omega arith) h))

    pub branches-owes : (b : Branches) (bound n : ℕ) (rest : List Piece) → Owes bound (n + dearest_branch w b) rest
        → Owes bound n (branch_pieces b rest)
    branches-owes Nothing bound n rest h = owes-mono bound (n + 0) n rest (omega arith) h
    branches-owes (Else block) bound n rest h = block-owes block bound n rest h
    branches-owes (When condition block others) bound n rest h = (tt, h)

  pub after-owes : (bound n : ℕ) (ps : List Piece) → Owes bound n ps → Owes bound n (after_loop ps)
  after-owes bound n [] h = tt
  after-owes bound n (Idle ∷ ps) h = after-owes bound n ps (skip bound n Idle ps h)
  after-owes bound n (Store target value ∷ ps) h = after-owes bound n ps (skip bound n (Store target value) ps h)
  after-owes bound n (Leaving condition ∷ ps) h = after-owes bound n ps (skip bound n (Leaving condition) ps h)
  after-owes bound n (Calling unit op actuals ∷ ps) h = after-owes bound n ps (skip bound n (Calling unit op actuals) ps h)
  after-owes bound n (Working ticks ∷ ps) h = after-owes bound n ps (skip bound n (Working ticks) ps h)
  after-owes bound n (Printing value ∷ ps) h = after-owes bound n ps (skip bound n (Printing value) ps h)
  after-owes bound n (Testing condition block others ∷ ps) h = after-owes bound n ps (skip bound n (Testing condition block others) ps h)
  after-owes bound n (Turning name at last body ∷ ps) h = after-owes bound n ps (skip bound n (Turning name at last body) ps h)
  after-owes bound n (Turned name at last body ∷ ps) h = skip bound n (Turned name at last body) ps h
  after-owes bound n (Returning outs stores caller ∷ ps) h = after-owes bound n ps (skip bound n (Returning outs stores caller) ps h)
  after-owes bound n (Closing object op vars outs stores caller ∷ ps) h
      = after-owes bound n ps (skip bound n (Closing object op vars outs stores caller) ps h)
  after-owes bound n (Keeping task value ∷ ps) h = after-owes bound n ps (skip bound n (Keeping task value) ps h)
  after-owes bound n (Opening task ∷ ps) h = after-owes bound n ps (skip bound n (Opening task) ps h)
  after-owes bound n (Requested task value ∷ ps) h = after-owes bound n ps (skip bound n (Requested task value) ps h)
  after-owes bound n (Finishing ∷ ps) h = after-owes bound n ps (skip bound n Finishing ps h)

  -- the first end of a section comes after at most the bound, where its ceiling reaches the level
  pub owes-first : (bound n : ℕ) (ps : List Piece) (section : Resource) (ss : List Resource) → closers ps ≡ section ∷ ss
      → level ≤ ceiling_of y section → Owes bound n ps → n ≤ bound
  owes-first bound n [] section ss e high h = absurd (no e)
    where
      no : [] ≡ section ∷ ss → ⊥
      no e' = cc
  owes-first bound n (Idle ∷ ps) section ss e high h = owes-first bound n ps section ss e high (skip bound n Idle ps h)
  owes-first bound n (Store target value ∷ ps) section ss e high h = owes-first bound n ps section ss e high (skip bound n (Store target value) ps h)
  owes-first bound n (Leaving condition ∷ ps) section ss e high h = owes-first bound n ps section ss e high (skip bound n (Leaving condition) ps h)
  owes-first bound n (Calling unit op actuals ∷ ps) section ss e high h
      = owes-first bound n ps section ss e high (skip bound n (Calling unit op actuals) ps h)
  owes-first bound n (Working ticks ∷ ps) section ss e high h = owes-first bound n ps section ss e high (skip bound n (Working ticks) ps h)
  owes-first bound n (Printing value ∷ ps) section ss e high h = owes-first bound n ps section ss e high (skip bound n (Printing value) ps h)
  owes-first bound n (Testing condition block others ∷ ps) section ss e high h
      = owes-first bound n ps section ss e high (skip bound n (Testing condition block others) ps h)
  owes-first bound n (Turning name at last body ∷ ps) section ss e high h
      = owes-first bound n ps section ss e high (skip bound n (Turning name at last body) ps h)
  owes-first bound n (Turned name at last body ∷ ps) section ss e high h
      = owes-first bound n ps section ss e high (skip bound n (Turned name at last body) ps h)
  owes-first bound n (Returning outs stores caller ∷ ps) section ss e high h
      = owes-first bound n ps section ss e high (skip bound n (Returning outs stores caller) ps h)
  owes-first bound n (Closing object op vars outs stores caller ∷ ps) section ss e high h =
      let is : Object object ≡ section = cc in h.0 (subst (λ x. level ≤ ceiling_of y x) (sym is) high)
  owes-first bound n (Keeping task value ∷ ps) section ss e high h = owes-first bound n ps section ss e high (skip bound n (Keeping task value) ps h)
  owes-first bound n (Opening task ∷ ps) section ss e high h = owes-first bound n ps section ss e high (skip bound n (Opening task) ps h)
  owes-first bound n (Requested task value ∷ ps) section ss e high h =
      let is : Control task ≡ section = cc in h.0 (subst (λ x. level ≤ ceiling_of y x) (sym is) high)
  owes-first bound n (Finishing ∷ ps) section ss e high h = owes-first bound n ps section ss e high (skip bound n Finishing ps h)

  -- a call that costs at most so much, and at most the bound where it enters a section whose ceiling reaches the level
  abbrev pub IsCallPaid : ℕ → ℕ → CallTarget → Type 0
  IsCallPaid bound n (Plain o) = dearest w o.block ≤ n
  IsCallPaid bound n (Protected object op g o) = (dearest w o.block ≤ n) × (level ≤ ceiling_of y (Object object) → n ≤ bound)
  IsCallPaid bound n (Request task) = (2 * y.costs.assign ≤ n) × (level ≤ ceiling_of y (Control task) → n ≤ bound)
  IsCallPaid bound n Unknown = ⊤

  -- a piece that is such a call, where it is a call
  abbrev pub IsPaidPiece : ℕ → Piece → Type 0
  IsPaidPiece bound (Calling unit op actuals) = IsCallPaid bound (called' unit op) (callee y unit op)
  IsPaidPiece bound _ = ⊤

  called-owes : (bound n : ℕ) (actuals : List Expression) (vars : Variables) (ps : List Piece) (c : CallTarget) → IsCallPaid bound n c
      → Owes bound n ps → Owes bound 0 (called c actuals vars ps).pieces
  called-owes bound n actuals vars ps (Plain o) paid h =
      block-owes o.block bound 0 _ (tt, owes-mono bound n (0 + dearest w o.block + 0) ps (omega arith) h)
  called-owes bound n actuals vars ps (Protected object j g o) paid h =
      block-owes o.block bound 0 _ (
        (λ high. let most : n ≤ bound = paid.1 high in let body : dearest w o.block ≤ n = paid.0 in omega arith),
        owes-mono bound n (0 + dearest w o.block + 0) ps (let body : dearest w o.block ≤ n = paid.0 in omega arith) h,
      )
  called-owes bound n actuals vars ps (Request task) paid h =
      let body : 2 * y.costs.assign ≤ n = paid.0 in (
        tt,
        (
          tt,
          (
            (λ high. let most : n ≤ bound = paid.1 high in omega arith),
            owes-mono bound n (0 + (y.costs.assign + 0) + (y.costs.assign + 0) + 0) ps (omega arith) h,
          ),
        ),
      )
  called-owes bound n actuals vars ps Unknown paid h = owes-mono bound n 0 ps (omega arith) h

  -- what a deed leaves owed
  pub done-owes : (bound : ℕ) (p : Piece) (vars : Variables) (ps : List Piece) → IsPaidPiece bound p → Owes bound (later w p) ps
      → Owes bound 0 (done y p vars ps).pieces
  done-owes bound Idle vars ps paid h = h
  done-owes bound (Store target e) vars ps paid h = h
  done-owes bound (Leaving condition) vars ps paid h =
      either-way (λ (d : PieceOutcome). Owes bound 0 d.pieces) (holds condition vars) (deed Silent (drop 1 vars) (after_loop ps))
      (deed Silent vars ps) (after-owes bound 0 ps h) h
  done-owes bound (Calling unit op actuals) vars ps paid h = called-owes bound (called' unit op) actuals vars ps (callee y unit op) paid h
  done-owes bound (Working ticks) vars ps paid h = h
  done-owes bound (Printing e) vars ps paid h = h
  done-owes bound (Testing condition block others) vars ps paid h =
      either-way (λ xs. Owes bound 0 xs) (holds condition vars) (pieces block ps) (branch_pieces others ps)
      (block-owes block bound 0 ps (owes-mono bound (later w (Testing condition block others)) (0 + dearest w block) ps (omega arith) h))
      (branches-owes others bound 0 ps (owes-mono bound (later w (Testing condition block others)) (0 + dearest_branch w others) ps (omega arith) h))
  done-owes bound (Turning name at last body) vars ps paid h =
      block-owes body bound 0 (Turned name at last body ∷ ps)
      (tt, owes-mono bound (later w (Turning name at last body)) (0 + dearest w body + (0 + later w (Turned name at last body))) ps (omega arith) h)
  done-owes bound (Turned name at last body) vars ps paid h =
      turns-owes bound 0 name (suc at) last body ps
      (owes-mono bound (later w (Turned name at last body)) (0 + turn_count (suc at) last * (y.costs.turn + dearest w body)) ps (omega arith) h)
  done-owes bound (Returning outs stores caller) vars ps paid h = h
  done-owes bound (Closing object op data' outs stores caller) vars ps paid h = h
  done-owes bound (Keeping task v) vars ps paid h = h
  done-owes bound (Opening task) vars ps paid h = h
  done-owes bound (Requested task v) vars ps paid h = h
  done-owes bound Finishing vars ps paid h = tt
