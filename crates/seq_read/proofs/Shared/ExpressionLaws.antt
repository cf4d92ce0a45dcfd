-- The reader of expressions reads the levelled expressions within its limits.
use Rattle.std.proofs.Common.{◌≡◌, ℕ, zero, suc, ◌+◌, ◌<◌, ◌≤◌, nat_le, Bool, true, false, List, [], ◌∷◌, ◌++◌, length, codes, Option, Some, ◌⊎◌}
use Rattle.std.proofs.Common.{inl, inr, refl, sym, ap, subst, ◌∙◌, arith, append-nil, length-append}
use Rattle.std.specs.Prelude.{⊤}
use Rattle.std.proofs.lemmas.Bool.{leb-true, leb-false, le-leb, lt-leb}
use Rattle.grammar.specs.Reading.{first, then_at, pure_at, choose_at, token_at, deep_at, Reads, Joined}
use Rattle.grammar.proofs.Shared.Laws.{IsToken, IsOnly, reads-token, reads-pure, reads-same, reads-then, reads-joint, reads-branch, reads-choose}
use Rattle.grammar.proofs.Shared.Laws.{reads-map}
use Rattle.grammar.proofs.Shared.Limits.{reads-limit}
use Rattle.grammar.proofs.Shared.Picks.{reads-pick}
use Rattle.seq_tree.specs.Names.{Name}
use Rattle.seq_tree.specs.Expressions.{Expression, Number, Variable, Paren, Not, Binary}
use Rattle.seq_tree.specs.Spelling.{expression_tokens, op_token}
use Rattle.seq_tree.specs.Levels.{level_of, tightness_of, tightness, chain}
use Rattle.seq_tree.specs.Proper.{IsProperExpression}
use Rattle.seq_tree.specs.declared.tree.BinOp.{BinOp}
use Rattle.seq_tree.specs.declared.tree.BinOp.TheVariants as op
use Rattle.seq_tree.specs.declared.token.Token.{Token}
use Rattle.seq_tree.specs.declared.token.Token.TheVariants as token
use Rattle.seq_tree.specs.declared.token.Mark.TheVariants.{LeftParen, RightParen}
use Rattle.token_read.specs.Words.{same_token}
use Rattle.token_read.specs.Readers.{next_is, next_is_number}
use Rattle.token_read.proofs.Shared.TokenLaws.{Any, andthen, same_is, reads-fixed, reads-number, reads-name, joins-fixed}
use Rattle.seq_read.specs.declared.operators.Class.{Class}
use Rattle.seq_read.specs.declared.operators.Class.TheVariants as class
use Rattle.seq_read.specs.Operators.{sees_operator, begins, logical_class}
use Rattle.seq_read.specs.Expressions.{ExpressionReader, paren_at, literal_at, variable_at, primary_at, inverse_at, factor_at, chain_at, term_at}
use Rattle.seq_read.specs.Expressions.{simple_at, comparison_at, relation_at, logic_at, whole_expression_at, expression_at}
use Rattle.seq_read.proofs.OperatorLaws.{class_of, rank, ranked, seen, sees, same_class_is, chains, tighter_none, logical, picks, picked}
use Rattle.seq_read.proofs.OperatorLaws.{NoneLogical, none_picked, none_any, rank_low, is_relational_class, relational_rank, relational_class}
use Rattle.seq_read.proofs.OperatorLaws.{begins_by, rank_logical, self_logical, rank_tight}
use Rattle.seq_read.proofs.ChainLaws.{right_of, Longer, ExtendsBy, StopsBy, Begun, reads-chain}
use Rattle.seq_read.proofs.Stopping.{is_relational, is_logical, top_class, StopsTerm, StopsSimple, StopsRelation, StopsAs, StopsWhole}
use Rattle.seq_read.proofs.Stopping.{NoOperator, stops_whole}
use Rattle.seq_read.proofs.Shared.ChainLevels.{bounds, IsAt, in_class, Belongs, reads-level, begun_on, steps_in, chain_to, chain_back, belongs_by}
use Rattle.seq_read.proofs.Shared.ChainLevels.{belongs_at, only_multiplying, only_adding, relational_alone}

-- a token of another kind, or another word
abbrev pub Words : (Name → Bool) → Type 0
Words is_name = (is_name (codes "not") ≡ false)

pub not_word : (is_name : Name → Bool) (w name : Name) → is_name w ≡ false → is_name name ≡ true → same_token (token.Word name) (token.Word w) ≡ false
not_word is_name w name excluded passes = of (same_token (token.Word name) (token.Word w)) refl where
  of : (b : Bool) → same_token (token.Word name) (token.Word w) ≡ b → b ≡ false
  of false e = refl
  of true e = absurd (let same : token.Word name ≡ token.Word w = same_is (token.Word name) (token.Word w) e in let n : name ≡ w = cc
      in let k : is_name name ≡ is_name w = ap is_name n in cc)

module _ (is_name : Name → Bool) (words : Words is_name) (some_name : Name) (some_is : is_name some_name
    ≡ true) (nests most : ℕ) (room : 0 < most) where
  abbrev Proper : ℕ → Expression → Type 0
  Proper d e = IsProperExpression (bounds is_name nests most) d e

  -- PRIMARIES
  abbrev pub IsPrimary : ℕ → Expression → List Token → Type 0
  IsPrimary d e text = IsAt (bounds is_name nests most) d 5 e text

  -- numbers and variables
  abbrev IsAtom : Expression → List Token → Type 0
  IsAtom (Number n) text = text ≡ token.Number n ∷ []
  IsAtom (Variable name) text = (is_name name ≡ true) × (text ≡ token.Word name ∷ [])
  IsAtom _ text = ⊥

  abbrev IsLiteral : Expression → List Token → Type 0
  IsLiteral e text = (n : ℕ) × (e ≡ Number n) × (text ≡ token.Number n ∷ [])

  reads-literal : Reads IsLiteral Any literal_at
  unfolding literal_at
  reads-literal = reads-same _ IsLiteral Any literal_at
      (λ e text g. (g.a, g.after.0, rw (g.whole, g.before, g.after.1) refl))
      (λ e text h. record { a = h.0; front = token.Number h.0 ∷ []; back = []; before = refl; after = (h.1, refl); whole = h.2 })
      (andthen reads-number (λ n. reads-pure Any (Number n) (λ _. tt)))

  abbrev IsVariable : Expression → List Token → Type 0
  IsVariable e text = (name : Name) × (is_name name ≡ true) × (e ≡ Variable name) × (text ≡ token.Word name ∷ [])

  reads-variable : Reads IsVariable Any (variable_at is_name)
  unfolding variable_at
  reads-variable = reads-same _ IsVariable Any (variable_at is_name)
      (λ e text g. (g.a, g.before.0, g.after.0, rw (g.whole, g.before.1, g.after.1) refl))
      (λ e text h. record { a = h.0; front = token.Word h.0 ∷ []; back = []; before = (h.1, refl); after = (h.2, refl); whole = h.3 })
      (andthen (reads-name is_name some_name some_is) (λ name. reads-pure Any (Variable name) (λ _. tt)))

  reads-atom : Reads (λ e text. IsLiteral e text ⊎ IsVariable e text) Any (choose_at next_is_number literal_at (variable_at is_name))
  reads-atom = reads-choose next_is_number IsLiteral IsVariable Any literal_at (variable_at is_name) reads-literal reads-variable
      (λ a text rest g stop. rw g.2 refl) (λ a text rest g stop. rw g.3 refl)

  low : (o : BinOp) → tightness_of (level_of o) < 4
  low o = rw (ranked o) (rank_low (class_of o))

  -- where nothing may nest any more
  closed_to : (d : ℕ) (e : Expression) (text : List Token) → IsLiteral e text ⊎ IsVariable e text → IsPrimary d e text
  closed_to d e text (inl h) = rw (h.1, h.2) (omega arith, tt, refl)
  closed_to d e text (inr h) = rw (h.2, h.3) (omega arith, h.1, refl)

  closed_back : (d : ℕ) → nat_le (suc d) nests ≡ false → (e : Expression) (text : List Token) → IsPrimary d e text
      → IsLiteral e text ⊎ IsVariable e text
  closed_back d full (Number n) text h = inl (n, refl, h.2)
  closed_back d full (Variable name) text h = inr (name, h.1, refl, h.2)
  closed_back d full (Paren e) text h = absurd (let opens = h.1.0 in cc)
  closed_back d full (Not e) text h = absurd (let t = h.0 in omega (arith, t))
  closed_back d full (Binary o left right) text h = absurd (let t = h.0 in omega (arith, t, low o))

  atom_first : (a : Expression) (text rest : List Token) → IsLiteral a text ⊎ IsVariable a text
      → next_is (token.Sign LeftParen) (first (text ++ rest)) ≡ false
  atom_first a text rest (inl h) = rw h.2 refl
  atom_first a text rest (inr h) = rw h.3 refl

  pub reads-closed : (d : ℕ) → nat_le (suc d) nests ≡ false → Reads (IsPrimary d) Any (primary_at is_name deep_at)
  unfolding primary_at
  reads-closed d full = reads-same _ (IsPrimary d) Any _ (closed_to d) (closed_back d full)
      (reads-limit (next_is (token.Sign LeftParen)) _ Any Any _ reads-atom refl (λ a text rest g stop. (atom_first a text rest g, tt))
      (λ a text rest g t stop. tt))

  -- where an expression nests
  abbrev IsParen : ℕ → Expression → List Token → Type 0
  IsParen d e text = (x : Expression) × (e ≡ Paren x) × Proper (suc d) x
      × (text ≡ token.Sign LeftParen ∷ (expression_tokens x ++ token.Sign RightParen ∷ []))

  module _ (d : ℕ) (opens : nat_le (suc d) nests ≡ true) (inner : ExpressionReader) (Stops : Expression → Option Token → Type 0)
      (inside : Reads (λ x text. Proper (suc d) x × (text ≡ expression_tokens x)) Stops inner)
      (closes : (x : Expression) → Stops x (Some (token.Sign RightParen))) where
    reads-paren : Reads (IsParen d) Any (paren_at inner)
    unfolding paren_at
    reads-paren = reads-same _ (IsParen d) Any (paren_at inner)
        (λ e text g. let b = g.after in let c = b.after
        in (b.a, c.after.0, b.before.0, rw (g.whole, g.before, b.whole, b.before.1, c.whole, c.before, c.after.1) refl))
        (λ e text h. rw h.3 (joins-fixed _ (token.Sign LeftParen) e _ (record {
          a = h.0;
          front = expression_tokens h.0;
          back = token.Sign RightParen ∷ [];
          before = (h.2, refl);
          after = joins-fixed _ (token.Sign RightParen) e [] (h.1, refl);
          whole = refl;
        })))
        (andthen (reads-fixed (token.Sign LeftParen)) (λ _. reads-then (λ x text. Proper (suc d) x
        × (text ≡ expression_tokens x)) _ Stops Any inner _ inside
        (λ x. andthen (reads-fixed (token.Sign RightParen)) (λ _. reads-pure Any (Paren x) (λ _. tt)))
        (λ x e back rest h stop. rw (h.whole, h.before) (closes x))))

    open_to : (e : Expression) (text : List Token) → IsParen d e text ⊎ (IsLiteral e text ⊎ IsVariable e text) → IsPrimary d e text
    open_to e text (inl h) = rw (h.1, h.3) (omega arith, (opens, h.2), refl)
    open_to e text (inr h) = closed_to d e text h

    open_back : (e : Expression) (text : List Token) → IsPrimary d e text → IsParen d e text ⊎ (IsLiteral e text ⊎ IsVariable e text)
    open_back (Number n) text h = inr (inl (n, refl, h.2))
    open_back (Variable name) text h = inr (inr (name, h.1, refl, h.2))
    open_back (Paren e) text h = inl (e, refl, h.1.1, h.2)
    open_back (Not e) text h = absurd (let t = h.0 in omega (arith, t))
    open_back (Binary o left right) text h = absurd (let t = h.0 in omega (arith, t, low o))

    pub reads-open : Reads (IsPrimary d) Any (primary_at is_name (paren_at inner))
    unfolding primary_at
    reads-open = reads-same _ (IsPrimary d) Any _ open_to open_back
        (reads-choose (next_is (token.Sign LeftParen)) (IsParen d) _ Any (paren_at inner) _ reads-paren reads-atom
        (λ a text rest g stop. rw g.3 refl) (λ a text rest g stop. atom_first a text rest g))

  -- THE LEVELS, over the readers of primaries
  module _ (d : ℕ) (paren : ExpressionReader) (primaries : Reads (IsPrimary d) Any (primary_at is_name paren)) where
    abbrev At : ℕ → Expression → List Token → Type 0
    At k e text = IsAt (bounds is_name nests most) d k e text

    -- `not` and a primary
    abbrev IsInverse : Expression → List Token → Type 0
    IsInverse e text = (x : Expression) × (e ≡ Not x) × (5 ≤ tightness x) × Proper d x × (text ≡ token.Word (codes "not") ∷ expression_tokens x)

    reads-inverse : Reads IsInverse Any (inverse_at is_name paren)
    unfolding inverse_at
    reads-inverse = reads-same _ IsInverse Any (inverse_at is_name paren)
        (λ e text g. let b = g.after in (
          b.a,
          b.after.0,
          b.before.0,
          b.before.1,
          rw (g.whole, g.before, b.whole, b.before.2, b.after.1) (ap (λ us. token.Word (codes "not") ∷ us)
              (append-nil (expression_tokens b.a))),
        ))
        (λ e text h. rw h.4 (joins-fixed _ (token.Word (codes "not")) e _ (record {
          a = h.0;
          front = expression_tokens h.0;
          back = [];
          before = (h.2, h.3, refl);
          after = (h.1, refl);
          whole = sym (append-nil (expression_tokens h.0));
        })))
        (andthen (reads-fixed (token.Word (codes "not"))) (λ _. andthen primaries (λ x. reads-pure Any (Not x) (λ _. tt))))

    binds_five : (x : Expression) → 5 ≤ tightness x → tightness x ≡ 5
    binds_five (Number n) h = refl
    binds_five (Variable name) h = refl
    binds_five (Paren e) h = refl
    binds_five (Not e) h = absurd (omega (arith, h))
    binds_five (Binary o left right) h = absurd (omega (arith, h, low o))

    factor_to : (e : Expression) (text : List Token) → IsInverse e text ⊎ IsPrimary d e text → At 4 e text
    factor_to e text (inl h) = rw (h.1, h.4) (omega arith, (binds_five h.0 h.2, h.3), refl)
    factor_to e text (inr h) = (let t = h.0 in omega (arith, t), h.1, h.2)

    factor_back : (e : Expression) (text : List Token) → At 4 e text → IsInverse e text ⊎ IsPrimary d e text
    factor_back (Number n) text h = inr (omega arith, h.1, h.2)
    factor_back (Variable name) text h = inr (omega arith, h.1, h.2)
    factor_back (Paren e) text h = inr (omega arith, h.1, h.2)
    factor_back (Not e) text h = inl (e, refl, (let t = h.1.0 in omega (arith, t)), h.1.1, h.2)
    factor_back (Binary o left right) text h = absurd (let t = h.0 in omega (arith, t, low o))

    -- a primary doesn't begin with `not`
    primary_first : (e : Expression) (text rest : List Token) → IsPrimary d e text → next_is (token.Word (codes "not")) (first (text ++ rest)) ≡ false
    primary_first (Number n) text rest h = rw h.2 refl
    primary_first (Variable name) text rest h = rw h.2 (not_word is_name (codes "not") name words h.1)
    primary_first (Paren e) text rest h = rw h.2 refl
    primary_first (Not e) text rest h = absurd (let t = h.0 in omega (arith, t))
    primary_first (Binary o left right) text rest h = absurd (let t = h.0 in omega (arith, t, low o))

    reads-factor : Reads (At 4) Any (factor_at is_name paren)
    unfolding factor_at
    reads-factor = reads-same _ (At 4) Any (factor_at is_name paren) factor_to factor_back
        (reads-choose (next_is (token.Word (codes "not"))) IsInverse (IsPrimary d) Any (inverse_at is_name paren)
        (primary_at is_name paren) reads-inverse primaries
        (λ a text rest g stop. rw g.4 refl) (λ a text rest g stop. primary_first a text rest g))

    -- factors
    abbrev StopsFactor : Expression → Option Token → Type 0
    StopsFactor e o = Unit {0}

    reads-term : Reads (At 3) StopsTerm (term_at is_name most paren)
    unfolding term_at
    reads-term = reads-same _ (At 3) StopsTerm (term_at is_name most paren)
        (λ e text h. (belongs_at class.Multiplying e refl h.0, h.1, h.2))
        (λ e text h. (belongs_by class.Multiplying only_multiplying e h.0, h.1, h.2))
        (reads-level class.Multiplying refl is_name nests most d (factor_at is_name paren) StopsFactor reads-factor op.Mul refl (λ g t o s. tt))

    -- terms
    apart_adding : (g : Expression) (t : Token) (o : BinOp) → sees_operator class.Adding t ≡ Some o → StopsTerm g (Some t)
    apart_adding g t o s = let i = sees class.Adding t o s
        in rw i.token_is (tighter_none class.Multiplying o (let r = ap rank i.class_is in omega (arith, r)), tt)

    reads-simple : Reads (At 2) StopsSimple (simple_at is_name most paren)
    unfolding simple_at
    reads-simple = reads-same _ (At 2) StopsSimple (simple_at is_name most paren)
        (λ e text h. (belongs_at class.Adding e refl h.0, h.1, h.2)) (λ e text h. (belongs_by class.Adding only_adding e h.0, h.1, h.2))
        (reads-level class.Adding refl is_name nests most d (term_at is_name most paren) StopsTerm reads-term op.Add refl apart_adding)

    -- COMPARISONS
    abbrev StopsComparison : Expression → Expression → Option Token → Type 0
    StopsComparison e f o = (Longer e f → StopsSimple f o) × (f ≡ e → begins class.Relational o ≡ false)

    abbrev IsCompared : Expression → Expression → List Token → Type 0
    IsCompared e f text = (o : BinOp) × (g : Expression) × (class_of o ≡ class.Relational) × (f ≡ Binary o e g) × (2 ≤ tightness g) × Proper d g
        × (text ≡ op_token o ∷ expression_tokens g)

    compared_longer : (e f : Expression) (text : List Token) → IsCompared e f text → Longer e f
    compared_longer e f text h = rw h.3 (omega (arith, length-append (expression_tokens e) (op_token h.0 ∷ expression_tokens h.1)))

    same_not_longer : (e f : Expression) → f ≡ e → Longer e f → ⊥
    same_not_longer e f same h = omega (arith, ap (λ x. length (expression_tokens x)) same, h)

    reads-compared : (e : Expression)
        → Reads (IsCompared e) (λ f o. StopsSimple f o) (then_at (token_at (sees_operator class.Relational))
        (λ o. then_at (simple_at is_name most paren) (λ g. pure_at (Binary o e g))))
    unfolding sees_operator
    reads-compared e = reads-same _ (IsCompared e) (λ f o. StopsSimple f o) _
        (λ f text j.
        let b = j.after in
        let s = sees class.Relational j.before.token j.a j.before.seen in
        (j.a, b.0, s.class_is, b.1, b.2.0, b.2.1, rw (j.whole, j.before.whole, s.token_is, b.2.2) refl))
        (λ f text h. record {
          a = h.0;
          front = op_token h.0 ∷ [];
          back = expression_tokens h.1;
          before = record {
            token = op_token h.0;
            seen = (let P : Class → Type 0 = λ c. sees_operator c (op_token h.0) ≡ Some h.0
                in subst P h.2 (seen h.0));
            whole = refl;
          };
          after = (h.1, h.3, (h.4, h.5, refl));
          whole = h.6;
        })
        (reads-then (IsToken (sees_operator class.Relational)) (IsRight e) (λ o p. Unit {0}) (λ f o. StopsSimple f o) _ _
        (reads-token (sees_operator class.Relational) op.Eq (op_token op.Eq) refl)
        (λ o. reads-map (At 2) (IsRight e o) StopsSimple (λ f p. StopsSimple f p) (simple_at is_name most paren) (λ g. Binary o e g) reads-simple
        (λ g text h. (g, refl, h)) (λ f text h. (h.0, h.2, sym h.1)) (λ g p h. h) (λ g p h. h))
        (λ o f back rest h stop. tt)) where
          IsRight : Expression → BinOp → Expression → List Token → Type 0
          IsRight x o f text = (g : Expression) × (f ≡ Binary o x g) × At 2 g text

    reads-comparison : (e : Expression)
        → Reads (λ f text. IsCompared e f text ⊎ IsOnly {T = Token} e f text) (StopsComparison e) (comparison_at is_name most paren e)
    unfolding comparison_at
    reads-comparison e =
        reads-branch (begins class.Relational) (IsCompared e) (IsOnly {T = Token} e) (λ f o. StopsSimple f o) (λ f o. ⊤) (StopsComparison e) _
        (pure_at e)
        (reads-compared e) (reads-pure (λ f o. ⊤) e (λ o. tt))
        (λ f text rest h stop. (rw h.6 (begins_by class.Relational h.0 h.2), stop.0 (compared_longer e f text h)))
        (λ f text rest h stop. (rw h.1 (stop.1 h.0), tt))
        (λ f text rest h t stop. (λ long. stop, λ same. absurd (same_not_longer e f same (compared_longer e f text h))))
        (λ f text rest h t stop. (
          λ long. absurd (same_not_longer e f h.0
              long),
          λ same. let P : List Token → Type 0 = λ us. begins class.Relational (first (us ++ rest)) ≡ false in subst P h.1 t,
        ))

    simple_apart : (g : Expression) (o : BinOp) → class_of o ≡ class.Relational → StopsSimple g (Some (op_token o))
    simple_apart g o is = let r = ap rank is
        in (tighter_none class.Adding o (omega (arith, r)), (tighter_none class.Multiplying o (omega (arith, r)), tt))

    not_relational : (e : Expression) → 2 ≤ tightness e → is_relational e ≡ false
    not_relational (Number n) h = refl
    not_relational (Variable name) h = refl
    not_relational (Paren e) h = refl
    not_relational (Not e) h = refl
    not_relational (Binary o left right) h = relational_rank (class_of o) (let r = ranked o in omega (arith, r, h))

    relation_follow : (e f : Expression) (text back rest : List Token) → At 2 e text → (IsCompared e f back ⊎ IsOnly {T = Token} e f back)
        → StopsRelation f (first rest) → StopsSimple e (first (back ++ rest)) × StopsComparison e f (first rest)
    relation_follow e f text back rest h (inl x) stop
        = (rw x.6 (simple_apart e x.0 x.2), (λ long. stop.0, λ same. absurd (same_not_longer e f same (compared_longer e f back x))))
    relation_follow e f text back rest h (inr x) stop =
        (rw x.1 stop.0, (λ long. absurd (same_not_longer e f x.0 long), λ same. stop.1 (ap is_relational x.0 ∙ not_relational e h.0)))

    relation_both : (e f : Expression) (text back rest : List Token) → At 2 e text → (IsCompared e f back ⊎ IsOnly {T = Token} e f back)
        → StopsSimple e (first (back ++ rest)) → StopsComparison e f (first rest) → StopsRelation f (first rest)
    relation_both e f text back rest h (inl x) one stop = (
      stop.0 (compared_longer e f back x),
      λ out. absurd (let yes : is_relational f ≡ true = rw x.3 (ap is_relational_class x.2)
          in let no = out in cc),
    )
    relation_both e f text back rest h (inr x) one stop =
        (let P : List Token → Type 0 = λ us. StopsSimple e (first (us ++ rest)) in subst P x.1 one, λ out. stop.1 x.0)

    relation_to : (f : Expression) (text : List Token) → Joined (At 2) (λ e f text. IsCompared e f text ⊎ IsOnly {T = Token} e f text) f text
        → At 1 f text
    relation_to f text j = of j.after where
      of : (IsCompared j.a f j.back ⊎ IsOnly {T = Token} j.a f j.back) → At 1 f text
      of (inr x) = rw x.0 (
        let t = j.before.0 in omega (arith, t),
        j.before.1,
        j.whole ∙ ap (λ us. j.front
            ++ us) x.1 ∙ append-nil j.front ∙ j.before.2,
      )
      of (inl x) =
          let o = x.0 in
          let r : tightness_of (level_of o) ≡ 1 = ranked o ∙ ap rank x.2 in
          let alone = relational_alone o j.a x.2 in
          let one : chain (Binary o j.a x.1) ≡ 1 = rw alone refl in
          rw x.3 (
            omega (arith, r),
            (
              inr (let t = j.before.0 in omega (arith, t, r)),
              (let t = x.4
                  in omega (arith, t, r)),
              le-leb (chain (Binary o j.a x.1)) most (omega (arith, one, room)),
              j.before.1,
              x.5,
            ),
            j.whole ∙ ap (λ us. us ++ j.back) j.before.2 ∙ ap (λ us. expression_tokens j.a ++ us) x.6,
          )

    relation_back : (f : Expression) (text : List Token) → At 1 f text
        → Joined (At 2) (λ e f text. IsCompared e f text ⊎ IsOnly {T = Token} e f text) f text
    relation_back f text h = of (nat_le 2 (tightness f)) refl where
      alone : 2 ≤ tightness f → Joined (At 2) (λ e f text. IsCompared e f text ⊎ IsOnly {T = Token} e f text) f text
      alone t = record { a = f; front = text; back = []; before = (t, h.1, h.2); after = inr (refl, refl); whole = sym (append-nil text) }

      split : (g : Expression) → At 1 g text → tightness g ≡ 1 → Joined (At 2) (λ e f text. IsCompared e f text ⊎ IsOnly {T = Token} e f text) g text
      split (Number n) k t = absurd (omega (arith, t))
      split (Variable name) k t = absurd (omega (arith, t))
      split (Paren e) k t = absurd (omega (arith, t))
      split (Not e) k t = absurd (omega (arith, t))
      split (Binary o left right) k t =
          let is = relational_class (class_of o) (sym (ranked o) ∙ t) in
          record {
            a = left;
            front = expression_tokens left;
            back = op_token o ∷ expression_tokens right;
            before = (elim k.1.0 [ inl c ↦ absurd (let no = relational_alone o left is in cc) | inr c ↦ omega (arith, c, t) ], k.1.3, refl);
            after = inl (o, right, is, refl, (let c = k.1.1 in omega (arith, c, t)), k.1.4, refl);
            whole = k.2;
          }

      of : (b : Bool) → nat_le 2 (tightness f) ≡ b → Joined (At 2) (λ e f text. IsCompared e f text ⊎ IsOnly {T = Token} e f text) f text
      of true t = alone (leb-true 2 (tightness f) t)
      of false t = split f h (let g = leb-false 2 (tightness f) t in let k = h.0 in omega (arith, g, k))

    reads-relation : Reads (At 1) StopsRelation (relation_at is_name most paren)
    unfolding relation_at
    reads-relation = reads-same _ (At 1) StopsRelation (relation_at is_name most paren) relation_to relation_back
        (reads-joint (At 2) (λ e f text. IsCompared e f text ⊎ IsOnly {T = Token} e f text) StopsSimple StopsComparison StopsRelation
        (simple_at is_name most paren) (λ e. comparison_at is_name most paren e)
        reads-simple reads-comparison
        (λ e f text back rest h x stop. relation_follow e f text back rest h x stop)
        (λ e f text back rest h x one stop. relation_both e f text back rest h x one stop))

    -- THE LOGICAL LEVEL
    abbrev IsTail : Class → Expression → Expression → List Token → Type 0
    IsTail k e f text = (logical k ≡ true) × ExtendsBy k (At (suc (rank k))) most e f text

    abbrev IsLogic : Expression → Expression → List Token → Type 0
    IsLogic e f text = (k : Class) × IsTail k e f text

    abbrev StopsLogic : Expression → Expression → Option Token → Type 0
    StopsLogic e f o = (Longer e f → (begins (top_class f) o ≡ false) × StopsRelation (right_of f) o) × (f ≡ e → NoneLogical o)

    relations_of : (k : Class) → logical k ≡ true → Reads (At (suc (rank k))) StopsRelation (relation_at is_name most paren)
    relations_of class.And h = reads-relation
    relations_of class.Or h = reads-relation
    relations_of class.Xor h = reads-relation
    relations_of class.Relational h = absurd (cc)
    relations_of class.Adding h = absurd (cc)
    relations_of class.Multiplying h = absurd (cc)

    logical_op : Class → BinOp
    logical_op class.And = op.And
    logical_op class.Or = op.Or
    logical_op _ = op.Xor

    logical_op_is : (k : Class) → logical k ≡ true → class_of (logical_op k) ≡ k
    unfolding logical_op
    logical_op_is class.And h = refl
    logical_op_is class.Or h = refl
    logical_op_is class.Xor h = refl
    logical_op_is class.Relational h = absurd (cc)
    logical_op_is class.Adding h = absurd (cc)
    logical_op_is class.Multiplying h = absurd (cc)

    relation_apart : (g : Expression) (o : BinOp) → logical (class_of o) ≡ true → StopsRelation g (Some (op_token o))
    relation_apart g o h =
        let r = rank_logical (class_of o) h in (
          (
            tighter_none class.Adding o (omega (arith, r)),
            (
              tighter_none class.Multiplying o (omega
                  (arith, r)),
              tt,
            ),
          ),
          λ out. tighter_none class.Relational o (omega (arith, r)),
        )

    logical_apart : (k : Class) → logical k ≡ true → (g : Expression) (t : Token) (o : BinOp) → sees_operator k t ≡ Some o → StopsRelation g (Some t)
    logical_apart k h g t o s = let i = sees k t o s in rw i.token_is (relation_apart g o (ap logical i.class_is ∙ h))

    can_chain : (k : Class) → logical k ≡ true → chains k ≡ true
    can_chain class.And h = refl
    can_chain class.Or h = refl
    can_chain class.Xor h = refl
    can_chain class.Relational h = absurd (cc)
    can_chain class.Adding h = absurd (cc)
    can_chain class.Multiplying h = absurd (cc)

    -- a tail that adds something ends with an operator of its class
    tail_class : (k : Class) (h : logical k ≡ true) (e f : Expression) (text : List Token) → ExtendsBy k (At (suc (rank k))) most e f text
        → Longer e f → (top_class f ≡ k) × (is_logical f ≡ true)
    tail_class k h e f text x long =
        elim (steps_in k (can_chain k h) is_name nests most d (relation_at is_name most paren) StopsRelation (relations_of k h) (logical_op k)
        (logical_op_is k h) (logical_apart k h) most e f text x) [
          | inl same ↦ absurd (same_not_longer e f same long)
          | inr b ↦ of f b
        ] where
          of : (g : Expression) → in_class k g ≡ true → (top_class g ≡ k) × (is_logical g ≡ true)
          of (Number n) b = absurd (cc)
          of (Variable name) b = absurd (cc)
          of (Paren y) b = absurd (cc)
          of (Not y) b = absurd (cc)
          of (Binary o left right) b = let s = same_class_is (class_of o) k b in (s, ap logical s ∙ h)

    begun_tail : (k : Class) (h : logical k ≡ true) (e f : Expression) (text : List Token) → ExtendsBy k (At (suc (rank k))) most e f text
        → Begun k e f text ⊎ ((f ≡ e) × (text ≡ []))
    begun_tail k h e f text x = begun_on k (can_chain k h) is_name nests most d (relation_at is_name most paren) StopsRelation (relations_of k h)
        (logical_op k) (logical_op_is k h) (logical_apart k h) most e f text x

    -- nothing added is a tail of each class
    empty_tail : (k : Class) (e f : Expression) (text : List Token) → f ≡ e → text ≡ [] → ExtendsBy k (At (suc (rank k))) most e f text
    empty_tail k e f text same none = of most where
      of : (n : ℕ) → ExtendsBy k (At (suc (rank k))) n e f text
      of zero = (same, none)
      of (suc n) = inr (same, none)

    logic_halts : (e : Expression) (k : Class) (f : Expression) (text rest : List Token) → IsTail k e f text
        → logical_class (first (text ++ rest)) ≡ k → StopsBy k StopsRelation e f (first rest) → StopsLogic e f (first rest)
    logic_halts e k f text rest x at stop =
        elim (begun_tail k x.0 e f text x.1) [
          | inl b ↦ (λ long. (rw (tail_class k x.0 e f text x.1 long).0 stop.0, stop.1 long), λ same. absurd (same_not_longer e f same b.long))
          | inr s ↦
              let here : logical_class (first rest) ≡ k = ap (λ us. logical_class (first (us ++ rest))) (sym s.1) ∙ at in (
                λ long. absurd (same_not_longer e f s.0 long),
                λ same. none_picked (first rest) (let P : Class
                    → Type 0 = λ c. begins c (first rest) ≡ false in subst P (sym here) stop.0),
              )
        ]

    logic_back : (e f : Expression) (text rest : List Token) → IsLogic e f text → StopsLogic e f (first rest) →
        IsTail (logical_class (first (text ++ rest))) e f text × StopsBy (logical_class (first (text ++ rest))) StopsRelation e f (first rest)
    logic_back e f text rest (k, x) stop =
        elim (begun_tail k x.0 e f text x.1) [
          | inl b ↦
              let i = sees k b.token b.op b.seen in
              let here : logical_class (first (text ++ rest)) ≡ k
              = rw (b.whole, i.token_is) (picks b.op (ap logical i.class_is ∙ x.0) ∙ i.class_is) in
              let P : Class → Type 0 = λ c. IsTail c e f text × StopsBy c StopsRelation e f (first rest) in
              let top = (tail_class k x.0 e f text x.1 b.long).0 in
              let Q : Class → Type 0 = λ c. begins c (first rest) ≡ false in
              subst P (sym here) (x, (subst Q top (stop.0 b.long).0, λ long. (stop.0 long).1))
          | inr s ↦
              let c = logical_class (first (text ++ rest)) in (
                (picked (first (text ++ rest)), empty_tail c e f text s.0 s.1),
                (
                  none_any (first rest) (stop.1 s.0) c (picked
                      (first (text ++ rest))),
                  λ long. absurd (same_not_longer e f s.0 long),
                ),
              )
        ]

    reads-tail : (e : Expression) (k : Class) → logical k ≡ true
        → Reads (IsTail k e) (StopsBy k StopsRelation e) (chain_at k (relation_at is_name most paren) most e)
    reads-tail e k h = reads-same (ExtendsBy k (At (suc (rank k))) most e) (IsTail k e) (StopsBy k StopsRelation e) _ (λ f text x. (h, x))
        (λ f text x. x.1)
        (reads-chain k (relation_at is_name most paren) (At (suc (rank k))) StopsRelation (relations_of k h) (logical_op k) (logical_op_is k h)
        (λ g text x. x.2) (logical_apart k h) most e)

    reads-logic : (e : Expression) → Reads (IsLogic e) (StopsLogic e) (logic_at is_name most paren e)
    unfolding logic_at
    reads-logic e = reads-pick logical_class (λ k. IsTail k e) (λ k. StopsBy k StopsRelation e) (IsLogic e) (StopsLogic e) (λ k. logical k
        ≡ true) picked
        (λ k. chain_at k (relation_at is_name most paren) most e) (λ k h. inl (reads-tail e k h)) (λ k f text x. (k, x)) (logic_halts e)
        (logic_back e)
        e [] (class.And, (refl, empty_tail class.And e e [] refl refl))

    -- WHOLE EXPRESSIONS
    abbrev pub IsWhole : Expression → List Token → Type 0
    IsWhole e text = Proper d e × (text ≡ expression_tokens e)

    logical_loose : (e : Expression) → 1 ≤ tightness e → is_logical e ≡ false
    logical_loose (Number n) h = refl
    logical_loose (Variable name) h = refl
    logical_loose (Paren x) h = refl
    logical_loose (Not x) h = refl
    logical_loose (Binary o left right) h = of (logical (class_of o)) refl where
      of : (b : Bool) → logical (class_of o) ≡ b → b ≡ false
      of false s = refl
      of true s = absurd (let r = rank_logical (class_of o) s in omega (arith, h, r, ranked o))

    whole_follow : (e f : Expression) (text back rest : List Token) → At 1 e text → IsLogic e f back → StopsWhole f (first rest)
        → StopsRelation e (first (back ++ rest)) × StopsLogic e f (first rest)
    whole_follow e f text back rest h (k, x) stop =
        elim (begun_tail k x.0 e f back x.1) [
          | inl b ↦
              let i = sees k b.token b.op b.seen in
              let t = tail_class k x.0 e f back x.1 b.long in
              let P : Bool → Type 0 = λ c. StopsAs c f (first rest) in
              let s : StopsAs true f (first rest) = subst P t.1 stop in (
                rw (b.whole, i.token_is) (relation_apart e b.op
                    (ap logical i.class_is ∙ x.0)),
                (λ long. s, λ same. absurd (same_not_longer e f same b.long)),
              )
          | inr q ↦
              let P : Expression → Type 0 = λ g. StopsWhole g (first rest) in
              let Q : Bool → Type 0 = λ c. StopsAs c e (first rest) in
              let s : StopsAs false e (first rest) = subst Q (logical_loose e h.0) (subst P q.0 stop) in
              (rw q.1 s.1, (λ long. absurd (same_not_longer e f q.0 long), λ same. s.0))
        ]

    whole_both : (e f : Expression) (text back rest : List Token) → At 1 e text → IsLogic e f back → StopsRelation e (first (back ++ rest))
        → StopsLogic e f (first rest) → StopsWhole f (first rest)
    whole_both e f text back rest h (k, x) one stop =
        elim (begun_tail k x.0 e f back x.1) [
          | inl b ↦
              let t = tail_class k x.0 e f back x.1 b.long in
              let P : Bool → Type 0 = λ c. StopsAs c f (first rest) in
              subst P (sym t.1) (stop.0 b.long)
          | inr q ↦
              let P : Expression → Type 0 = λ g. StopsWhole g (first rest) in
              let Q : Bool → Type 0 = λ c. StopsAs c e (first rest) in
              let R : List Token → Type 0 = λ us. StopsRelation e (first (us ++ rest)) in
              subst P (sym q.0) (subst Q (sym (logical_loose e h.0)) (stop.1 q.0, subst R q.1 one))
        ]

    tail_to : (k : Class) → logical k ≡ true → (f : Expression) (text : List Token)
        → Joined (At 1) (λ e. ExtendsBy k (At (suc (rank k))) most e) f text → IsWhole f text
    tail_to class.And h f text j = let c = chain_to class.And refl is_name nests most d (relation_at is_name most paren) StopsRelation reads-relation
        op.And refl (logical_apart class.And refl) f text j in (c.1, c.2)
    tail_to class.Or h f text j = let c = chain_to class.Or refl is_name nests most d (relation_at is_name most paren) StopsRelation reads-relation
        op.Or refl (logical_apart class.Or refl) f text j in (c.1, c.2)
    tail_to class.Xor h f text j = let c = chain_to class.Xor refl is_name nests most d (relation_at is_name most paren) StopsRelation reads-relation
        op.Xor refl (logical_apart class.Xor refl) f text j in (c.1, c.2)
    tail_to class.Relational h f text j = absurd (cc)
    tail_to class.Adding h f text j = absurd (cc)
    tail_to class.Multiplying h f text j = absurd (cc)

    whole_to : (f : Expression) (text : List Token) → Joined (At 1) IsLogic f text → IsWhole f text
    whole_to f text j = let x = j.after
        in tail_to x.0 x.1.0 f text (record { a = j.a; front = j.front; back = j.back; before = j.before; after = x.1.1; whole = j.whole })

    tail_back : (k : Class) → logical k ≡ true → (f : Expression) (text : List Token) → Belongs k f → IsWhole f text → Joined (At 1) IsLogic f text
    tail_back class.And h f text b w =
        let j = chain_back class.And refl is_name nests most d (relation_at is_name most paren) StopsRelation reads-relation op.And refl
        (logical_apart class.And refl) f text (b, w.0, w.1) in
        record { a = j.a; front = j.front; back = j.back; before = j.before; after = (class.And, (refl, j.after)); whole = j.whole }
    tail_back class.Or h f text b w =
        let j = chain_back class.Or refl is_name nests most d (relation_at is_name most paren) StopsRelation reads-relation op.Or refl
        (logical_apart class.Or refl) f text (b, w.0, w.1) in
        record { a = j.a; front = j.front; back = j.back; before = j.before; after = (class.Or, (refl, j.after)); whole = j.whole }
    tail_back class.Xor h f text b w =
        let j = chain_back class.Xor refl is_name nests most d (relation_at is_name most paren) StopsRelation reads-relation op.Xor refl
        (logical_apart class.Xor refl) f text (b, w.0, w.1) in
        record { a = j.a; front = j.front; back = j.back; before = j.before; after = (class.Xor, (refl, j.after)); whole = j.whole }
    tail_back class.Relational h f text b w = absurd (cc)
    tail_back class.Adding h f text b w = absurd (cc)
    tail_back class.Multiplying h f text b w = absurd (cc)

    whole_back : (f : Expression) (text : List Token) → IsWhole f text → Joined (At 1) IsLogic f text
    whole_back (Number n) text w = tail_back class.And refl (Number n) text (inr (omega arith)) w
    whole_back (Variable name) text w = tail_back class.And refl (Variable name) text (inr (omega arith)) w
    whole_back (Paren x) text w = tail_back class.And refl (Paren x) text (inr (omega arith)) w
    whole_back (Not x) text w = tail_back class.And refl (Not x) text (inr (omega arith)) w
    whole_back (Binary o left right) text w = of (logical (class_of o)) refl where
      of : (b : Bool) → logical (class_of o) ≡ b → Joined (At 1) IsLogic (Binary o left right) text
      of true s = tail_back (class_of o) s (Binary o left right) text (inl (self_logical (class_of o) s)) w
      of false s = tail_back class.And refl (Binary o left right) text (inr (let r = rank_tight (class_of o) s in omega (arith, r, ranked o))) w

    pub reads-whole : Reads IsWhole StopsWhole (whole_expression_at is_name most paren)
    unfolding whole_expression_at
    reads-whole = reads-same _ IsWhole StopsWhole (whole_expression_at is_name most paren) whole_to whole_back
        (reads-joint (At 1) IsLogic StopsRelation StopsLogic StopsWhole (relation_at is_name most paren)
        (λ e. logic_at is_name most paren e) reads-relation reads-logic
        (λ e f text back rest h x stop. whole_follow e f text back rest h x stop)
        (λ e f text back rest h x one stop. whole_both e f text back rest h x one stop))

  -- EXPRESSIONS, by how much deeper they may nest
  abbrev pub IsExpression : ℕ → Expression → List Token → Type 0
  IsExpression d e text = Proper d e × (text ≡ expression_tokens e)

  right_paren : NoOperator (Some (token.Sign RightParen))
  unfolding sees_operator
  right_paren class.And = refl
  right_paren class.Or = refl
  right_paren class.Xor = refl
  right_paren class.Relational = refl
  right_paren class.Adding = refl
  right_paren class.Multiplying = refl

  pub reads-expression : (deeper d : ℕ) → d + deeper ≡ nests → Reads (IsExpression d) StopsWhole (expression_at is_name most deeper)
  unfolding expression_at
  reads-expression zero d at = reads-whole d deep_at (reads-closed d (lt-leb (suc d) nests (omega (arith, at))))
  reads-expression (suc deeper) d at =
      reads-whole d (paren_at (expression_at is_name most deeper))
      (reads-open d (le-leb (suc d) nests (omega (arith, at))) (expression_at is_name most deeper) StopsWhole
      (reads-expression deeper (suc d) (omega (arith, at)))
      (λ x. stops_whole x (Some (token.Sign RightParen)) right_paren))
