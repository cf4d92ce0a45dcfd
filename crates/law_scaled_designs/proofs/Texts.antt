-- What the rules read of a block whose `work` is changed: its names, its loops, its faults and its calls are as they were.
use Rattle.std.proofs.Common.{◌≡◌, ℕ, List, [], ◌∷◌, ◌++◌, map, flat_map, refl, ap, ap₂, ◌∙◌, sym, arith, le_refl, subst, ◌≤◌, Option}
use Rattle.std.proofs.lemmas.List.{map-append}
use Rattle.seq_tree.specs.Names.{Name}
use Rattle.seq_tree.specs.Statements.{Statement, Statements, Branches, Null, Assign, If, For, ExitWhen, Call, Work, Put, End, Then, Nothing}
use Rattle.seq_tree.specs.Statements.{Else, When}
use Rattle.seq_tree.specs.Calls.{statement_works, block_works, branch_works}
use Rattle.seq_tree.specs.Dearest.{counted, free}
use Rattle.seq_tree.specs.Faults.{Scope, within_loop, or_else, expressions_fault, conditions, condition, statement_fault, block_fault, branches_fault}
use Rattle.design_rules.specs.Clashes.{Mention, statement_loops, block_loops, branch_loops}
use Rattle.design_rules.specs.Words.{expression_names, statement_names, block_names, branch_names}
use Rattle.law_scaling.specs.Working.{reworked_statement, reworked_block, reworked_branches}
use Rattle.law_scaling.proofs.Shared.Blocks.{block-weighs, block-grows}

abbrev pub join : {A : Type 0} → List A → List A → List A
join xs ys = xs ++ ys

module _ (c : ℕ → ℕ) where
  mutual
    statement-names : (s : Statement) → statement_names (reworked_statement c s) ≡ statement_names s
    statement-names Null = refl
    statement-names (Assign target v) = refl
    statement-names (If branches) = branches-names branches
    statement-names (For name low high body) = ap (λ ns. name ∷ ns) (block-names body)
    statement-names (ExitWhen v) = refl
    statement-names (Call object op actuals) = refl
    statement-names (Work ticks) = refl
    statement-names (Put v) = refl

    pub block-names : (b : Statements) → block_names (reworked_block c b) ≡ block_names b
    block-names End = refl
    block-names (Then first rest) = ap₂ join (statement-names first) (block-names rest)

    branches-names : (b : Branches) → branch_names (reworked_branches c b) ≡ branch_names b
    branches-names Nothing = refl
    branches-names (Else block) = block-names block
    branches-names (When v block others) =
        ap (λ ns. expression_names v ++ ns) (ap₂ join (block-names block) (branches-names others))

  module _ (mention : Name → List Name → Mention) where
    mutual
      statement-loops : (open' : List Name) (s : Statement) → statement_loops mention open' (reworked_statement c s) ≡ statement_loops mention open' s
      statement-loops open' Null = refl
      statement-loops open' (Assign target v) = refl
      statement-loops open' (If branches) = branches-loops open' branches
      statement-loops open' (For name low high body) = ap (λ ms. mention name open' ∷ ms) (block-loops (name ∷ open') body)
      statement-loops open' (ExitWhen v) = refl
      statement-loops open' (Call object op actuals) = refl
      statement-loops open' (Work ticks) = refl
      statement-loops open' (Put v) = refl

      pub block-loops : (open' : List Name) (b : Statements) → block_loops mention open' (reworked_block c b) ≡ block_loops mention open' b
      block-loops open' End = refl
      block-loops open' (Then first rest) = ap₂ join (statement-loops open' first) (block-loops open' rest)

      branches-loops : (open' : List Name) (b : Branches) → branch_loops mention open' (reworked_branches c b) ≡ branch_loops mention open' b
      branches-loops open' Nothing = refl
      branches-loops open' (Else block) = block-loops open' block
      branches-loops open' (When v block others) = ap₂ join (block-loops open' block) (branches-loops open' others)

  conditions-same : (b : Branches) → conditions (reworked_branches c b) ≡ conditions b
  conditions-same Nothing = refl
  conditions-same (Else block) = refl
  conditions-same (When v block others) = ap (λ es. condition v ∷ es) (conditions-same others)

  mutual
    statement-faults : (s : Scope) (t : Statement) → statement_fault s (reworked_statement c t) ≡ statement_fault s t
    statement-faults s Null = refl
    statement-faults s (Assign target v) = refl
    statement-faults s (If branches) =
        ap₂ or_else (ap (expressions_fault s) (conditions-same branches)) (branches-faults s branches)
    statement-faults s (For name low high body) = block-faults (within_loop s name) body
    statement-faults s (ExitWhen v) = refl
    statement-faults s (Call object op actuals) = refl
    statement-faults s (Work ticks) = refl
    statement-faults s (Put v) = refl

    pub block-faults : (s : Scope) (b : Statements) → block_fault s (reworked_block c b) ≡ block_fault s b
    block-faults s End = refl
    block-faults s (Then first rest) = ap₂ or_else (statement-faults s first) (block-faults s rest)

    branches-faults : (s : Scope) (b : Branches) → branches_fault s (reworked_branches c b) ≡ branches_fault s b
    branches-faults s Nothing = refl
    branches-faults s (Else block) = block-faults s block
    branches-faults s (When v block others) = ap₂ or_else (block-faults s block) (branches-faults s others)

  -- the ticks of its `work` are those that were, changed
  mutual
    statement-works : (s : Statement) → statement_works (reworked_statement c s) ≡ map c (statement_works s)
    statement-works Null = refl
    statement-works (Assign target v) = refl
    statement-works (If branches) = branches-works branches
    statement-works (For name low high body) = block-works body
    statement-works (ExitWhen v) = refl
    statement-works (Call object op actuals) = refl
    statement-works (Work ticks) = refl
    statement-works (Put v) = refl

    pub block-works : (b : Statements) → block_works (reworked_block c b) ≡ map c (block_works b)
    block-works End = refl
    block-works (Then first rest) =
        ap₂ join (statement-works first) (block-works rest) ∙ sym (map-append c (statement_works first) (block_works rest))

    branches-works : (b : Branches) → branch_works (reworked_branches c b) ≡ map c (branch_works b)
    branches-works Nothing = refl
    branches-works (Else block) = block-works block
    branches-works (When v block others) =
        ap₂ join (block-works block) (branches-works others) ∙ sym (map-append c (block_works block) (branch_works others))

  -- what is counted along its paths is what was, where calls count what they did
  pub counted-same : (f g : Name → Name → ℕ) (b : Statements) → ((o p : Name) → f o p ≡ g o p) → counted f (reworked_block c b) ≡ counted g b
  counted-same f g b same =
      let le : (o p : Name) → f o p ≤ g o p = λ o p. subst (λ n. f o p ≤ n) (same o p) (le_refl (f o p)) in
      let ge : (o p : Name) → g o p ≤ f o p = λ o p. subst (λ n. g o p ≤ n) (sym (same o p)) (le_refl (g o p)) in
      let weighs = block-weighs c free (λ ticks. 0) f b in
      let up = block-grows free (λ ticks. 0) (λ ticks. 0) f g (λ n. le_refl 0) le b in
      let down = block-grows free (λ ticks. 0) (λ ticks. 0) g f (λ n. le_refl 0) ge b in
      omega (arith, weighs, up, down)
