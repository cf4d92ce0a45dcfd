-- Trees without limits keep some limits, and trees that keep limits are trees without them.
use Rattle.std.proofs.Common.{ℕ, suc, ◌+◌, ◌≤◌, Bool, true, false, cond, List, [], ◌∷◌, refl, arith}
use Rattle.std.proofs.lemmas.Bool.{le-leb}
use Rattle.seq_tree.specs.Names.{Name}
use Rattle.seq_tree.specs.Expressions.{Expression, Number, Variable, Paren, Not, Binary}
use Rattle.seq_tree.specs.Statements.{Statement, Statements, Branches, Null, Assign, If, For, ExitWhen, Call, Work, Put, End, Then, Nothing}
use Rattle.seq_tree.specs.Statements.{Else, When}
use Rattle.seq_tree.specs.Levels.{chain, chains_with}
use Rattle.seq_tree.specs.Proper.{Limits, IsProperExpression, AreProperActuals, IsProperStatement, IsProperBlock, AreProperStatements}
use Rattle.seq_tree.specs.Proper.{AreProperBranches, without_limits}
use Rattle.seq_read.proofs.Shared.ChainLevels.{bounds}

-- how far a tree nests and chains, at most
abbrev pub extent : Expression → ℕ
extent (Number n) = 0
extent (Variable name) = 0
extent (Paren e) = suc (extent e)
extent (Not e) = extent e
extent (Binary o l r) = suc (extent l + extent r)

abbrev pub extent_all : List Expression → ℕ
extent_all [] = 0
extent_all (e ∷ es) = extent e + extent_all es

abbrev mutual
  pub extent_statement : Statement → ℕ
  extent_statement Null = 0
  extent_statement (Assign target value) = extent value
  extent_statement (If branches) = suc (extent_branches branches)
  extent_statement (For name low high body) = suc (extent_block body)
  extent_statement (ExitWhen condition) = extent condition
  extent_statement (Call object op actuals) = extent_all actuals
  extent_statement (Work ticks) = 0
  extent_statement (Put value) = extent value

  pub extent_block : Statements → ℕ
  extent_block End = 0
  extent_block (Then first rest) = extent_statement first + extent_block rest

  pub extent_branches : Branches → ℕ
  extent_branches Nothing = 0
  extent_branches (Else block) = extent_block block
  extent_branches (When condition block others) = extent condition + (extent_block block + extent_branches others)

chain_extent : (e : Expression) → chain e ≤ extent e
chain_extent (Number n) = omega arith
chain_extent (Variable name) = omega arith
chain_extent (Paren e) = omega arith
chain_extent (Not e) = omega arith
chain_extent (Binary o l r) = of (chains_with o l) (chain_extent l) where
  of : (b : Bool) → chain l ≤ extent l → cond b (suc (chain l)) 1 ≤ suc (extent l + extent r)
  of true h = omega (arith, h)
  of false h = omega arith

-- INTO LIMITS
module _ (is_name : Name → Bool) (n : ℕ) where
  abbrev from : Limits
  from = without_limits is_name

  abbrev to : Limits
  to = bounds is_name n n

  pub bound-expression : (d : ℕ) (e : Expression) → d + extent e ≤ n → IsProperExpression from d e → IsProperExpression to d e
  bound-expression d (Number m) h p = p
  bound-expression d (Variable name) h p = p
  bound-expression d (Paren e) h p = (le-leb (suc d) n (omega (arith, h)), bound-expression (suc d) e (omega (arith, h)) p.1)
  bound-expression d (Not e) h p = (p.0, bound-expression d e h p.1)
  bound-expression d (Binary o l r) h p = (
    p.0,
    p.1,
    le-leb (chain (Binary o l r)) n (let c = chain_extent (Binary o l r)
        in omega (arith, c, h)),
    bound-expression d l (omega (arith, h)) p.3,
    bound-expression d r (omega (arith, h)) p.4,
  )

  bound_actuals : (d : ℕ) (es : List Expression) → d + extent_all es ≤ n → AreProperActuals from d es → AreProperActuals to d es
  bound_actuals d [] h p = tt
  bound_actuals d (e ∷ es) h p = (bound-expression d e (omega (arith, h)) p.0, bound_actuals d es (omega (arith, h)) p.1)

  mutual
    bound_statement : (d : ℕ) (s : Statement) → d + extent_statement s ≤ n → IsProperStatement from d s → IsProperStatement to d s
    bound_statement d Null h p = tt
    bound_statement d (Assign target value) h p = (p.0, bound-expression d value h p.1)
    bound_statement d (If Nothing) h p = absurd p.1
    bound_statement d (If (Else b)) h p = absurd p.1
    bound_statement d (If (When c b others)) h p = (
      le-leb (suc d) n (omega (arith, h)),
      (
        bound-expression (suc d) c (omega (arith, h)) p.1.0,
        bound-block (suc d) b (omega
            (arith, h)) p.1.1,
        bound_branches (suc d) others (omega (arith, h)) p.1.2,
      ),
    )
    bound_statement d (For name low high body) h p = (le-leb (suc d) n (omega (arith, h)), p.1, bound-block (suc d) body (omega (arith, h)) p.2)
    bound_statement d (ExitWhen condition) h p = bound-expression d condition h p
    bound_statement d (Call object op actuals) h p = (p.0, p.1, bound_actuals d actuals h p.2)
    bound_statement d (Work ticks) h p = tt
    bound_statement d (Put value) h p = bound-expression d value h p

    pub bound-block : (d : ℕ) (b : Statements) → d + extent_block b ≤ n → IsProperBlock from d b → IsProperBlock to d b
    bound-block d End h p = absurd p
    bound-block d (Then first rest) h p = (bound_statement d first (omega (arith, h)) p.0, bound_rest d rest (omega (arith, h)) p.1)

    bound_rest : (d : ℕ) (b : Statements) → d + extent_block b ≤ n → AreProperStatements from d b → AreProperStatements to d b
    bound_rest d End h p = tt
    bound_rest d (Then first rest) h p = (bound_statement d first (omega (arith, h)) p.0, bound_rest d rest (omega (arith, h)) p.1)

    bound_branches : (d : ℕ) (bs : Branches) → d + extent_branches bs ≤ n → AreProperBranches from d bs → AreProperBranches to d bs
    bound_branches d Nothing h p = tt
    bound_branches d (Else block) h p = bound-block d block h p
    bound_branches d (When condition block others) h p = (
      bound-expression d condition (omega (arith, h)) p.0,
      bound-block d block (omega (arith, h)) p.1,
      bound_branches d others (omega
          (arith, h)) p.2,
    )

-- OUT OF LIMITS
module _ (is_name : Name → Bool) (nests most : ℕ) where
  abbrev these : Limits
  these = bounds is_name nests most

  abbrev none : Limits
  none = without_limits is_name

  pub free-expression : (d : ℕ) (e : Expression) → IsProperExpression these d e → IsProperExpression none d e
  free-expression d (Number m) p = p
  free-expression d (Variable name) p = p
  free-expression d (Paren e) p = (refl, free-expression (suc d) e p.1)
  free-expression d (Not e) p = (p.0, free-expression d e p.1)
  free-expression d (Binary o l r) p = (p.0, p.1, refl, free-expression d l p.3, free-expression d r p.4)

  free_actuals : (d : ℕ) (es : List Expression) → AreProperActuals these d es → AreProperActuals none d es
  free_actuals d [] p = tt
  free_actuals d (e ∷ es) p = (free-expression d e p.0, free_actuals d es p.1)

  mutual
    free_statement : (d : ℕ) (s : Statement) → IsProperStatement these d s → IsProperStatement none d s
    free_statement d Null p = tt
    free_statement d (Assign target value) p = (p.0, free-expression d value p.1)
    free_statement d (If Nothing) p = absurd p.1
    free_statement d (If (Else b)) p = absurd p.1
    free_statement d (If (When c b others)) p
        = (refl, (free-expression (suc d) c p.1.0, free-block (suc d) b p.1.1, free_branches (suc d) others p.1.2))
    free_statement d (For name low high body) p = (refl, p.1, free-block (suc d) body p.2)
    free_statement d (ExitWhen condition) p = free-expression d condition p
    free_statement d (Call object op actuals) p = (p.0, p.1, free_actuals d actuals p.2)
    free_statement d (Work ticks) p = tt
    free_statement d (Put value) p = free-expression d value p

    pub free-block : (d : ℕ) (b : Statements) → IsProperBlock these d b → IsProperBlock none d b
    free-block d End p = absurd p
    free-block d (Then first rest) p = (free_statement d first p.0, free_rest d rest p.1)

    pub free_rest : (d : ℕ) (b : Statements) → AreProperStatements these d b → AreProperStatements none d b
    free_rest d End p = tt
    free_rest d (Then first rest) p = (free_statement d first p.0, free_rest d rest p.1)

    free_branches : (d : ℕ) (bs : Branches) → AreProperBranches these d bs → AreProperBranches none d bs
    free_branches d Nothing p = tt
    free_branches d (Else block) p = free-block d block p
    free_branches d (When condition block others) p = (free-expression d condition p.0, free-block d block p.1, free_branches d others p.2)
