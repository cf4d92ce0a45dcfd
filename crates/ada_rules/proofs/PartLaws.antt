-- The loops and the works of a block are those among its parts.
use Rattle.std.proofs.Common.{◌≡◌, ℕ, Bool, false, ◌||◌, List, [], ◌∷◌, ◌++◌, refl, sym, ap, ◌∙◌, append-nil}
use Rattle.std.proofs.Math.Bool.{or_assoc}
use Rattle.std.specs.List.{list_any}
use Rattle.std.proofs.lemmas.List.Folds.{list_any-append}
use Rattle.seq_tree.specs.Statements.{Statement, Statements, Branches, Null, Assign, If, For, ExitWhen, Call, Work, Put, End, Then, Nothing}
use Rattle.seq_tree.specs.Statements.{Else, When}
use Rattle.seq_tree.specs.Calls.{statement_works, block_works, branch_works}
use Rattle.ada_tree.specs.Naming.{statement_loops, block_loops, branch_loops}
use Rattle.ada_rules.specs.Parts.{Part, LoopStart, LoopEnd, Worked, loops_in, works_in, statement_parts, block_parts, branch_parts}

pub loops-cons : (p : Part) (ps : List Part) → loops_in (p ∷ ps) ≡ loops_in (p ∷ []) ++ loops_in ps
loops-cons (LoopStart name) ps = refl
loops-cons LoopEnd ps = refl
loops-cons (Worked ticks) ps = refl

pub loops-append : (ps qs : List Part) → loops_in (ps ++ qs) ≡ loops_in ps ++ loops_in qs
loops-append [] qs = refl
loops-append (LoopStart name ∷ ps) qs = ap (λ ns. name ∷ ns) (loops-append ps qs)
loops-append (LoopEnd ∷ ps) qs = loops-append ps qs
loops-append (Worked ticks ∷ ps) qs = loops-append ps qs

pub works-append : (ps qs : List Part) → works_in (ps ++ qs) ≡ works_in ps ++ works_in qs
works-append [] qs = refl
works-append (LoopStart name ∷ ps) qs = works-append ps qs
works-append (LoopEnd ∷ ps) qs = works-append ps qs
works-append (Worked ticks ∷ ps) qs = ap (λ ns. ticks ∷ ns) (works-append ps qs)

-- lists that are joined part by part
joined : {A : Type 0} (a b c d : List A) → a ≡ b → c ≡ d → a ++ c ≡ b ++ d
joined a b c d p q = ap (λ xs. xs ++ c) p ∙ ap (λ xs. b ++ xs) q

mutual
  pub statement_loops_in : (s : Statement) → loops_in (statement_parts s) ≡ statement_loops s
  statement_loops_in Null = refl
  statement_loops_in (Assign target value) = refl
  statement_loops_in (If branches) = branch_loops_in branches
  statement_loops_in (For name low high body)
      = ap (λ ns. name ∷ ns) (loops-append (block_parts body) (LoopEnd ∷ []) ∙ append-nil (loops_in (block_parts body)) ∙ block_loops_in body)
  statement_loops_in (ExitWhen condition) = refl
  statement_loops_in (Call object op actuals) = refl
  statement_loops_in (Work ticks) = refl
  statement_loops_in (Put value) = refl

  pub block_loops_in : (b : Statements) → loops_in (block_parts b) ≡ block_loops b
  block_loops_in End = refl
  block_loops_in (Then first rest) =
      loops-append (statement_parts first) (block_parts rest)
      ∙ joined (loops_in (statement_parts first)) (statement_loops first) (loops_in (block_parts rest)) (block_loops rest) (statement_loops_in first)
      (block_loops_in rest)

  pub branch_loops_in : (b : Branches) → loops_in (branch_parts b) ≡ branch_loops b
  branch_loops_in Nothing = refl
  branch_loops_in (Else block) = block_loops_in block
  branch_loops_in (When condition block others) =
      loops-append (block_parts block) (branch_parts others)
      ∙ joined (loops_in (block_parts block)) (block_loops block) (loops_in (branch_parts others)) (branch_loops others) (block_loops_in block)
      (branch_loops_in others)

mutual
  pub statement_works_in : (s : Statement) → works_in (statement_parts s) ≡ statement_works s
  statement_works_in Null = refl
  statement_works_in (Assign target value) = refl
  statement_works_in (If branches) = branch_works_in branches
  statement_works_in (For name low high body) = works-append (block_parts body) (LoopEnd ∷ []) ∙ append-nil
      (works_in (block_parts body)) ∙ block_works_in body
  statement_works_in (ExitWhen condition) = refl
  statement_works_in (Call object op actuals) = refl
  statement_works_in (Work ticks) = refl
  statement_works_in (Put value) = refl

  pub block_works_in : (b : Statements) → works_in (block_parts b) ≡ block_works b
  block_works_in End = refl
  block_works_in (Then first rest) =
      works-append (statement_parts first) (block_parts rest)
      ∙ joined (works_in (statement_parts first)) (statement_works first) (works_in (block_parts rest)) (block_works rest) (statement_works_in first)
      (block_works_in rest)

  pub branch_works_in : (b : Branches) → works_in (branch_parts b) ≡ branch_works b
  branch_works_in Nothing = refl
  branch_works_in (Else block) = block_works_in block
  branch_works_in (When condition block others) =
      works-append (block_parts block) (branch_parts others)
      ∙ joined (works_in (block_parts block)) (block_works block) (works_in (branch_parts others)) (branch_works others) (block_works_in block)
      (branch_works_in others)

pub ruleset part_laws = (loops-cons, block_loops_in, block_works_in)

-- tests of the works of parts and of bodies
pub works-any-cons : (f : ℕ → Bool) (p : Part) (ps : List Part) → list_any f (works_in (p ∷ ps))
    ≡ (list_any f (works_in (p ∷ [])) || list_any f (works_in ps))
works-any-cons f (LoopStart name) ps = refl
works-any-cons f LoopEnd ps = refl
works-any-cons f (Worked ticks) ps = sym (or_assoc (f ticks) false (list_any f (works_in ps)))

pub ruleset work_laws = (works-any-cons, block_works_in, list_any-append)
