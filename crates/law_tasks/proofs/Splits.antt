-- A way through the pieces of a statement, of a block or of branches is a way through these, and then one through the pieces behind them.
use Rattle.std.specs.Prelude.{◌≡◌, ℕ, Bool, true, false, List, ◌∷◌, nat_le, if◌then◌else◌, refl}
use Rattle.std.proofs.Common.{sym, ◌∙◌, ap, subst}
use Rattle.seq_tree.specs.Statements.{Statement, Statements, Branches, Null, Assign, If, For, ExitWhen, Call, Work, Put, End, Then, Nothing}
use Rattle.seq_tree.specs.Statements.{Else, When}
use Rattle.seq_tree.specs.Variables.{Variables}
use Rattle.seq_tree.specs.Runs.{Path, silent, joined, Followed, Turns, RunStatement, RunBlock, RunBranch}
use Rattle.machine.specs.Pieces.{Piece, Turning, pieces_of, pieces, branch_pieces}
use Rattle.law_tasks.proofs.Shared.Courses.{Course, setting}
use Rattle.law_tasks.proofs.Shared.Ways.{Ways, Passing}
use Rattle.law_tasks.proofs.Joins.{joined-silent, joined-assoc, no_turns, some_turns}
use Rattle.law_calls.proofs.Shared.Pieces.{Kind, Step, kind, past_block}

-- a loop that is left passes over the pieces of a block
past_piece : (c : Course) (x : Piece) (xs : List Piece) → kind x ≡ Step → Ways c true (x ∷ xs) ≡ Ways c true xs
past_piece c x xs e =
    let Goes : Kind → Variables → Path → Type 0 = λ k vars p. Passing k (Ways c false xs) (Ways c true xs) vars p in
    ap Goes e

-- what a block does first, and what its rest does then
abbrev pub Split : Course → (Path → Type 0) → List Piece → Path → Type 0
Split c First rest p = (q : Path) × First q × (r : Path) × Ways c q.left rest q.vars r × (p ≡ joined q r)

-- a statement, a block and branches, and what is behind them
mutual
  pub split_statement : (c : Course) (s : Statement) (rest : List Piece) (vars : Variables) (p : Path) → Ways c false (pieces_of s rest) vars p
      → Split c (RunStatement (setting c) s vars) rest p
  split_statement c Null rest vars p h = h
  split_statement c (Assign target e) rest vars p h = h
  split_statement c (If branches) rest vars p h = split_branches c branches rest vars p h
  split_statement c (For name low high body) rest vars p h = split_turns (nat_le low high) refl h
    where
      split_turns : (b : Bool) → nat_le low high ≡ b → Ways c false (if b then Turning name low high body ∷ rest else rest) vars p
          → Split c (RunStatement (setting c) (For name low high body) vars) rest p
      split_turns true e h' =
          let Goes : ℕ → Type 0 = λ n. Turns n low c.system.costs.turn name (RunBlock (setting c) body) vars h'.0 in
          (h'.0, subst Goes (sym (some_turns low high e)) h'.1, h'.2, h'.3, h'.4)
      split_turns false e h' =
          let Goes : ℕ → Type 0 = λ n. Turns n low c.system.costs.turn name (RunBlock (setting c) body) vars (silent 0 vars) in
          (silent 0 vars, subst Goes (sym (no_turns low high e)) refl, p, h', joined-silent vars p)
  split_statement c (ExitWhen condition) rest vars p h = h
  split_statement c (Call object op actuals) rest vars p h = h
  split_statement c (Work ticks) rest vars p h = h
  split_statement c (Put e) rest vars p h = h

  pub split_block : (c : Course) (b : Statements) (rest : List Piece) (vars : Variables) (p : Path) → Ways c false (pieces b rest) vars p
      → Split c (RunBlock (setting c) b vars) rest p
  split_block c End rest vars p h = (silent 0 vars, refl, p, h, joined-silent vars p)
  split_block c (Then first others) rest vars p h =
      then_others (split_statement c first (pieces others rest) vars p h) (λ w q i. split_block c others rest w q i)
    where
      by_left : (q r : Path) (b : Bool) → q.left ≡ b → RunStatement (setting c) first vars q → Ways c b (pieces others rest) q.vars r → p ≡ joined q r
          → ((w : Variables) (q' : Path) → Ways c false (pieces others rest) w q' → Split c (RunBlock (setting c) others w) rest q')
          → Split c (RunBlock (setting c) (Then first others) vars) rest p
      by_left q r true e runs more whole later =
          let Past : (Variables → Path → Type 0) → Type 0 = λ F. F q.vars r in (
            q,
            (q, runs, subst (λ b. Followed b q (RunBlock (setting c) others q.vars) q) (sym e) refl),
            r,
            subst (λ b. Ways c b rest q.vars r) (sym e) (subst Past (past_block (Ways c true) (past_piece c) others rest) more),
            whole,
          )
      by_left q r false e runs more whole later =
          let found : Split c (RunBlock (setting c) others q.vars) rest r = later q.vars r more in (
            joined q found.0,
            (q, runs, subst (λ b. Followed b q (RunBlock (setting c) others q.vars) (joined q found.0)) (sym e) (found.0, found.1, refl)),
            found.2,
            found.3,
            whole ∙ ap (joined q) found.4 ∙ joined-assoc q found.0 found.2,
          )

      then_others : Split c (RunStatement (setting c) first vars) (pieces others rest) p
          → ((w : Variables) (q' : Path) → Ways c false (pieces others rest) w q' → Split c (RunBlock (setting c) others w) rest q')
          → Split c (RunBlock (setting c) (Then first others) vars) rest p
      then_others found later = by_left found.0 found.2 found.0.left refl found.1 found.3 found.4 later

  pub split_branches : (c : Course) (b : Branches) (rest : List Piece) (vars : Variables) (p : Path) → Ways c false (branch_pieces b rest) vars p
      → Split c (RunBranch (setting c) b vars) rest p
  split_branches c Nothing rest vars p h = (silent 0 vars, refl, p, h, joined-silent vars p)
  split_branches c (Else block) rest vars p h = split_block c block rest vars p h
  split_branches c (When condition block others) rest vars p h = h
