-- No proper block has the word that begins a section of objects, so that a reader of blocks is never told to stop at it by its limits.
use Rattle.std.proofs.Common.{◌≡◌, ℕ, suc, ◌<◌, ◌≤◌, true, false, List, [], ◌∷◌, ◌++◌, length, Ok, Err, codes, refl, sym, ap, subst, ◌∙◌, arith}
use Rattle.std.proofs.Common.{length-append, append_assoc}
use Rattle.grammar.specs.Reading.{TooDeep, left_of, Read, GoesOn, Widens, Reads}
use Rattle.seq_tree.specs.Lists.{Each}
use Rattle.seq_tree.specs.Names.{Name}
use Rattle.seq_tree.specs.Expressions.{Expression, Variable, Paren, Not, Binary}
use Rattle.seq_tree.specs.Expressions as expression
use Rattle.seq_tree.specs.Statements.{Statement, Statements, Branches, Null, Assign, If, For, ExitWhen, Call, Work, Put, End, Then, Nothing}
use Rattle.seq_tree.specs.Statements.{Else, When}
use Rattle.seq_tree.specs.Spelling.{op_token, expression_tokens, more_actuals, actual_tokens}
use Rattle.seq_tree.specs.Proper.{Limits, IsProperExpression, AreProperActuals, IsProperStatement, IsProperBlock, AreProperStatements}
use Rattle.seq_tree.specs.Proper.{AreProperBranches}
use Rattle.seq_tree.specs.declared.tree.BinOp.{BinOp}
use Rattle.seq_tree.specs.declared.tree.BinOp.TheVariants as op
use Rattle.seq_tree.specs.declared.token.Token.{Token}
use Rattle.seq_tree.specs.declared.token.Token.TheVariants.{Word}
use Rattle.ods_tree.specs.Words.{is_design_name}
use Rattle.token_read.specs.Words.{same_token}
use Rattle.seq_read.specs.Statements.{BlockReader}
use Rattle.seq_read.proofs.Shared.ChainLevels.{bounds}
use Rattle.seq_read.proofs.Shared.ExpressionLaws.{not_word}
use Rattle.seq_read.proofs.Shared.StatementTokens.{statement_toks, block_toks, branch_toks}
use Rattle.ods_read.proofs.PartLaws.{EndsBlock, IsBlock}

-- any other token than the word of a section of objects
abbrev pub IsOther : Token → Type 0
IsOther t = same_token t (Word (codes "objects")) ≡ false

abbrev AreOther : List Token → Type 0
AreOther ts = Each IsOther ts

others-append : (one two : List Token) → AreOther one → AreOther two → AreOther (one ++ two)
others-append [] two a b = b
others-append (t ∷ ts) two a b = (a.0, others-append ts two a.1 b)

reserved : is_design_name (codes "objects") ≡ false
unfolding is_design_name
reserved = refl

name_other : (n : Name) → is_design_name n ≡ true → IsOther (Word n)
name_other n h = not_word is_design_name (codes "objects") n reserved h

op_other : (o : BinOp) → IsOther (op_token o)
op_other op.And = refl
op_other op.Or = refl
op_other op.Xor = refl
op_other op.Eq = refl
op_other op.Ne = refl
op_other op.Lt = refl
op_other op.Le = refl
op_other op.Gt = refl
op_other op.Ge = refl
op_other op.Add = refl
op_other op.Sub = refl
op_other op.Mul = refl
op_other op.Div = refl
op_other op.Mod = refl

module _ (nests most : ℕ) where
  abbrev l : Limits
  l = bounds is_design_name nests most

  expression_other : (d : ℕ) (e : Expression) → IsProperExpression l d e → AreOther (expression_tokens e)
  expression_other d (expression.Number n) p = (refl, tt)
  expression_other d (Variable name) p = (name_other name p, tt)
  expression_other d (Paren e) p = (refl, others-append (expression_tokens e) _ (expression_other (suc d) e p.1) (refl, tt))
  expression_other d (Not e) p = (refl, expression_other d e p.1)
  expression_other d (Binary o left right) p = others-append (expression_tokens left) _ (expression_other d left p.3)
      (op_other o, expression_other d right p.4)

  more_other : (d : ℕ) (es : List Expression) → AreProperActuals l d es → AreOther (more_actuals es)
  more_other d [] p = tt
  more_other d (e ∷ es) p = (refl, others-append (expression_tokens e) (more_actuals es) (expression_other d e p.0) (more_other d es p.1))

  actuals_other : (d : ℕ) (es : List Expression) → AreProperActuals l d es → AreOther (actual_tokens es)
  actuals_other d [] p = tt
  actuals_other d (e ∷ es) p = (
    refl,
    others-append (expression_tokens e) _ (expression_other d e p.0) (others-append (more_actuals es) _
        (more_other d es p.1) (refl, tt)),
  )

  mutual
    statement_other : (d : ℕ) (s : Statement) → IsProperStatement l d s → AreOther (statement_toks s)
    statement_other d Null p = (refl, (refl, tt))
    statement_other d (Assign target value) p
        = (name_other target p.0, (refl, others-append (expression_tokens value) _ (expression_other d value p.1) (refl, tt)))
    statement_other d (If Nothing) p = absurd p.1
    statement_other d (If (Else b)) p = absurd p.1
    statement_other d (If (When c b others)) p =
        others-append (branch_toks (codes "if") (When c b others)) _ (
          refl,
          others-append (expression_tokens c) _ (expression_other (suc d) c
              p.1.0) (refl, others-append (block_toks b) _ (block_other (suc d) b p.1.1) (branches_other (suc d) others p.1.2)),
        )
        (refl, (refl, (refl, tt)))
    statement_other d (For name low high body) p = (
      refl,
      (
        name_other name p.1,
        (
          refl,
          (refl, (refl, (refl, (refl, (refl, (refl, others-append (block_toks body) _ (block_other (suc d) body p.2) (refl, (refl, (refl, tt))))))))),
        ),
      ),
    )
    statement_other d (ExitWhen condition) p
        = (refl, (refl, others-append (expression_tokens condition) _ (expression_other d condition p) (refl, tt)))
    statement_other d (Call object op actuals) p
        = (name_other object p.0, (refl, (name_other op p.1, others-append (actual_tokens actuals) _ (actuals_other d actuals p.2) (refl, tt))))
    statement_other d (Work ticks) p = (refl, (refl, (refl, (refl, (refl, tt)))))
    statement_other d (Put value) p = (refl, (refl, others-append (expression_tokens value) _ (expression_other d value p) (refl, (refl, tt))))

    pub block_other : (d : ℕ) (b : Statements) → IsProperBlock l d b → AreOther (block_toks b)
    block_other d End p = absurd p
    block_other d (Then first rest) p = others-append (statement_toks first) (block_toks rest) (statement_other d first p.0) (rest_other d rest p.1)

    rest_other : (d : ℕ) (b : Statements) → AreProperStatements l d b → AreOther (block_toks b)
    rest_other d End p = tt
    rest_other d (Then first rest) p = others-append (statement_toks first) (block_toks rest) (statement_other d first p.0) (rest_other d rest p.1)

    branches_other : (d : ℕ) (bs : Branches) → AreProperBranches l d bs → AreOther (branch_toks (codes "elsif") bs)
    branches_other d Nothing p = tt
    branches_other d (Else block) p = (refl, block_other d block p)
    branches_other d (When condition block others) p = (
      refl,
      others-append (expression_tokens condition) _ (expression_other d condition
          p.0) (refl, others-append (block_toks block) _ (block_other d block p.1) (branches_other d others p.2)),
    )

-- WHERE A READER STOPS
-- a token of a text
inside : (text rest front back : List Token) (u : Token) → text ++ rest ≡ front ++ u ∷ back → length rest ≤ length back
    → (mid : List Token) × (text ≡ front ++ u ∷ mid)
inside [] rest [] back u e h = absurd (omega (arith, ap length e, h))
inside (t ∷ text) rest [] back u e h = (text, ap (λ v. v ∷ text) (let same : t ≡ u = cc in same))
inside [] rest (f ∷ front) back u e h = absurd (omega (arith, ap length e, h, length-append front (u ∷ back)))
inside (t ∷ text) rest (f ∷ front) back u e h =
    let tail : text ++ rest ≡ front ++ u ∷ back = cc in
    let same : t ≡ f = cc in
    let m = inside text rest front back u tail h in
    (m.0, ap (λ v. v ∷ text) same ∙ ap (λ us. f ∷ us) m.1)

each_at : (front mid : List Token) (u : Token) → AreOther (front ++ u ∷ mid) → IsOther u
each_at [] mid u h = h.0
each_at (f ∷ front) mid u h = each_at front mid u h.1

-- so many tokens are left, and the first of them is no word of a section of objects
pub record Right (ts : List Token) (left : ℕ) : Type 0 where
  pub front : List Token
  pub back : List Token
  pub token : Token
  pub split : ts ≡ front ++ token ∷ back
  pub place : left ≡ suc (length back)
  pub other : IsOther token

-- a reader that its limits never stop at that word
abbrev pub Fine : {A : Type 0} → (List Token → Read Token A) → Type 0
Fine p = (ts : List Token) (left : ℕ) → p ts ≡ Err (TooDeep left) → Right ts left

-- a reader without limits
pub fine-free : {A : Type 0} {p : List Token → Read Token A} → Widens 0 p p → Fine p
fine-free {A} {p} w ts left e =
    let on : GoesOn left (p ts) = (w ts).deep left e in
    let P : Read Token A → Type 0 = λ q. GoesOn left q in
    let less : left < left = subst P e on in
    absurd (omega (arith, less))

module _ (nests most wide_nests wide_most d e n : ℕ) (block wider : BlockReader)
    (one : Reads (IsBlock (bounds is_design_name nests most) d) EndsBlock block)
    (two : Reads (IsBlock (bounds is_design_name wide_nests wide_most) e) EndsBlock wider) (widens : Widens n block wider) where
  tokens_other : (b : Statements) (text : List Token) → IsBlock (bounds is_design_name wide_nests wide_most) e b text → AreOther text
  tokens_other b text g = let P : List Token → Type 0 = AreOther in subst P (sym g.1) (block_other wide_nests wide_most e b g.0)

  -- the token with which the wider reader goes on is one of a block
  passed : (ts front back : List Token) (u : Token) → ts ≡ front ++ u ∷ back → (q : Read Token Statements) → wider ts ≡ q
      → GoesOn (suc (length back)) q → IsOther u
  passed ts front back u split (Ok x) h on =
      let f = two.sound ts x.0 x.1 h in
      let m = inside f.text x.1 front back u (sym f.split ∙ split) (omega (arith, on)) in
      let P : List Token → Type 0 = AreOther in
      each_at front m.0 u (subst P m.1 (tokens_other x.0 f.text f.spelled))
  passed ts front back u split (Err halt) h on =
      let f = two.fault ts halt h in
      let m = inside f.front f.back front back u (sym f.split ∙ split) (omega (arith, on, f.place)) in
      let P : List Token → Type 0 = AreOther in
      each_at front (m.0 ++ f.tail) u (subst P (ap (λ us. us ++ f.tail) m.1 ∙ append_assoc front (u ∷ m.0) f.tail)
      (tokens_other f.last (f.front ++ f.tail) f.viable))

  at_back : (ts front back : List Token) (left : ℕ) → ts ≡ front ++ back → length back ≡ left → GoesOn left (wider ts) → Right ts left
  at_back ts front [] left split place on = absurd (nothing (wider ts) refl) where
    nothing : (q : Read Token Statements) → wider ts ≡ q → ⊥
    nothing (Ok x) h = let P : Read Token Statements → Type 0 = λ q. GoesOn left q in let less : length x.1 < left = subst P h on
        in omega (arith, less, place)
    nothing (Err halt) h = let P : Read Token Statements → Type 0 = λ q. GoesOn left q in let less : left_of halt < left = subst P h on
        in omega (arith, less, place)
  at_back ts front (u ∷ us) left split place on =
      let P : ℕ → Type 0 = λ k. GoesOn k (wider ts) in
      record {
        front = front;
        back = us;
        token = u;
        split = split;
        place = sym place;
        other = passed ts front us u split (wider ts) refl (subst P (sym place) on);
      }

  pub fine-block : Fine block
  fine-block ts left h =
      let f = one.fault ts (TooDeep left) h in
      at_back ts f.front f.back left f.split f.place ((widens ts).deep left h)
