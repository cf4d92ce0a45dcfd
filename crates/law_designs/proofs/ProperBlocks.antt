-- A block that is proper in one kind of text is so in another, at a lesser nesting, with its calls read by what they mean:
-- where its names and those of what it calls are names there.
use Rattle.std.proofs.Common.{◌≡◌, ℕ, suc, ◌≤◌, Bool, true, List, [], ◌∷◌, ◌++◌, flat_map, nat_le, refl, arith, inl, inr}
use Rattle.seq_tree.specs.Names.{Name}
use Rattle.seq_tree.specs.Expressions.{Expression, Number, Variable, Paren, Not, Binary}
use Rattle.seq_tree.specs.Statements.{Statement, Statements, Branches, Null, Assign, If, For, ExitWhen, Call, Work, Put, End, Then, Nothing}
use Rattle.seq_tree.specs.Statements.{Else, When}
use Rattle.seq_tree.specs.Calls.{statement_calls, block_calls, branch_calls}
use Rattle.seq_tree.specs.Proper.{IsProperExpression, AreProperActuals, IsProperStatement, IsProperBlock, AreProperStatements, IsProperIf}
use Rattle.seq_tree.specs.Proper.{AreProperBranches, within_limits}
use Rattle.seq_tree.specs.declared.tree.OpName.{OpName}
use Rattle.ods_tree.specs.Links.{renamed_statement, renamed, renamed_branches}
use Rattle.design_rules.specs.Words.{expression_names, statement_names, block_names, branch_names}
use Rattle.law_lists.proofs.Shared.Lists.{in-left, in-right, IsIn}

nests : (d e : ℕ) → e ≤ d → nat_le d 64 ≡ true → nat_le e 64 ≡ true
nests d e h k = grind arith

more : (d e : ℕ) → e ≤ d → suc e ≤ suc d
more d e h = omega (arith, h)

module _ (f g : Name → Bool) where
  abbrev Named : List Name → Type 0
  Named ns = (n : Name) → IsIn n ns → g n ≡ true

  left : (xs ys : List Name) → Named (xs ++ ys) → Named xs
  left xs ys h n k = h n (in-left n xs ys k)

  right : (xs ys : List Name) → Named (xs ++ ys) → Named ys
  right xs ys h n k = h n (in-right n xs ys k)

  pub proper-expression : (d e : ℕ) → e ≤ d → (x : Expression) → IsProperExpression (within_limits f) d x → Named (expression_names x)
      → IsProperExpression (within_limits g) e x
  proper-expression d e h (Number n) p k = tt
  proper-expression d e h (Variable name) p k = k name (inl refl)
  proper-expression d e h (Paren x) p k = (nests (suc d) (suc e) (more d e h) p.0, proper-expression (suc d) (suc e) (more d e h) x p.1 k)
  proper-expression d e h (Not x) p k = (p.0, proper-expression d e h x p.1 k)
  proper-expression d e h (Binary op a b) p k = (
    p.0,
    p.1,
    p.2,
    proper-expression d e h a p.3 (left (expression_names a) (expression_names b) k),
    proper-expression d e h b p.4 (right
        (expression_names a) (expression_names b) k),
  )

  proper-actuals : (d e : ℕ) → e ≤ d → (xs : List Expression) → AreProperActuals (within_limits f) d xs → Named (flat_map expression_names xs)
      → AreProperActuals (within_limits g) e xs
  proper-actuals d e h [] p k = tt
  proper-actuals d e h (x ∷ xs) p k = (
    proper-expression d e h x p.0 (left (expression_names x) (flat_map expression_names xs) k),
    proper-actuals d e h xs p.1 (right
        (expression_names x) (flat_map expression_names xs) k),
  )

  module _ (means : OpName → OpName) where
    abbrev Meant : List OpName → Type 0
    Meant cs = (c : OpName) → IsIn c cs → (g (means c).object ≡ true) × (g (means c).op ≡ true)

    left-calls : (xs ys : List OpName) → Meant (xs ++ ys) → Meant xs
    left-calls xs ys h c k = h c (in-left c xs ys k)

    right-calls : (xs ys : List OpName) → Meant (xs ++ ys) → Meant ys
    right-calls xs ys h c k = h c (in-right c xs ys k)

    mutual
      proper-statement : (d e : ℕ) → e ≤ d → (s : Statement) → IsProperStatement (within_limits f) d s → Named (statement_names s)
          → Meant (statement_calls s)
          → IsProperStatement (within_limits g) e (renamed_statement means s)
      proper-statement d e h Null p k m = tt
      proper-statement d e h (Assign target value) p k m = (k target (inl refl), proper-expression d e h value p.1 (λ n j. k n (inr j)))
      proper-statement d e h (If branches) p k m = (nests (suc d) (suc e) (more d e h) p.0, proper-if (suc d) (suc e) (more d e h) branches p.1 k m)
      proper-statement d e h (For name low high body) p k m =
          (nests (suc d) (suc e) (more d e h) p.0, k name (inl refl), proper-renamed (suc d) (suc e) (more d e h) body p.2 (λ n j. k n (inr j)) m)
      proper-statement d e h (ExitWhen x) p k m = proper-expression d e h x p k
      proper-statement d e h (Call object op actuals) p k m =
          (let c = m (record { object = object; op = op }) (inl refl) in (c.0, c.1, proper-actuals d e h actuals p.2 (λ n j. k n (inr (inr j)))))
      proper-statement d e h (Work n) p k m = tt
      proper-statement d e h (Put x) p k m = proper-expression d e h x p k

      pub proper-renamed : (d e : ℕ) → e ≤ d → (b : Statements) → IsProperBlock (within_limits f) d b → Named (block_names b) → Meant (block_calls b)
          → IsProperBlock (within_limits g) e (renamed means b)
      proper-renamed d e h End p k m = p
      proper-renamed d e h (Then first rest) p k m = (
        proper-statement d e h first p.0 (left (statement_names first) (block_names rest) k) (left-calls (statement_calls first)
            (block_calls rest) m),
        proper-statements d e h rest p.1 (right (statement_names first) (block_names rest) k) (right-calls (statement_calls first)
            (block_calls rest) m),
      )

      proper-statements : (d e : ℕ) → e ≤ d → (b : Statements) → AreProperStatements (within_limits f) d b → Named (block_names b)
          → Meant (block_calls b)
          → AreProperStatements (within_limits g) e (renamed means b)
      proper-statements d e h End p k m = tt
      proper-statements d e h (Then first rest) p k m = (
        proper-statement d e h first p.0 (left (statement_names first) (block_names rest) k) (left-calls (statement_calls first)
            (block_calls rest) m),
        proper-statements d e h rest p.1 (right (statement_names first) (block_names rest) k) (right-calls (statement_calls first)
            (block_calls rest) m),
      )

      proper-if : (d e : ℕ) → e ≤ d → (bs : Branches) → IsProperIf (within_limits f) d bs → Named (branch_names bs) → Meant (branch_calls bs)
          → IsProperIf (within_limits g) e (renamed_branches means bs)
      proper-if d e h Nothing p k m = p
      proper-if d e h (Else b) p k m = p
      proper-if d e h (When x b others) p k m =
          let k' = right (expression_names x) (block_names b ++ branch_names others) k in (
            proper-expression d e h x p.0 (left (expression_names x) (block_names b ++ branch_names others) k),
            proper-renamed d e h b p.1 (left (block_names b) (branch_names others) k') (left-calls (block_calls b) (branch_calls others) m),
            proper-branches d e h others p.2 (right (block_names b) (branch_names others) k') (right-calls (block_calls b) (branch_calls others) m),
          )

      proper-branches : (d e : ℕ) → e ≤ d → (bs : Branches) → AreProperBranches (within_limits f) d bs → Named (branch_names bs)
          → Meant (branch_calls bs)
          → AreProperBranches (within_limits g) e (renamed_branches means bs)
      proper-branches d e h Nothing p k m = tt
      proper-branches d e h (Else b) p k m = proper-renamed d e h b p k m
      proper-branches d e h (When x b others) p k m =
          let k' = right (expression_names x) (block_names b ++ branch_names others) k in (
            proper-expression d e h x p.0 (left (expression_names x) (block_names b ++ branch_names others) k),
            proper-renamed d e h b p.1 (left (block_names b) (branch_names others) k') (left-calls (block_calls b) (branch_calls others) m),
            proper-branches d e h others p.2 (right (block_names b) (branch_names others) k') (right-calls (block_calls b) (branch_calls others) m),
          )
