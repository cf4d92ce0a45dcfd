-- A token either stops an expression or a block, or some longer one goes on with it. Here there are no limits.
use Rattle.std.proofs.Common.{◌≡◌, ℕ, suc, ◌<◌, ◌≤◌, Bool, true, false, List, [], ◌∷◌, ◌++◌, Option, Some, None, is_some, ◌⊎◌, inl, inr, refl}
use Rattle.std.proofs.Common.{sym, ap, subst, ◌∙◌, arith, append_assoc}
use Rattle.seq_tree.specs.Names.{Name}
use Rattle.seq_tree.specs.Expressions.{Expression, Number, Variable, Paren, Not, Binary}
use Rattle.seq_tree.specs.Spelling.{expression_tokens, op_token}
use Rattle.seq_tree.specs.Levels.{level_of, tightness_of, tightness, IsLeft}
use Rattle.seq_tree.specs.Proper.{IsProperExpression, without_limits}
use Rattle.seq_tree.specs.declared.tree.BinOp.{BinOp}
use Rattle.seq_tree.specs.declared.token.Token.{Token}
use Rattle.seq_tree.specs.declared.token.Token.TheVariants as token
use Rattle.seq_read.specs.declared.operators.Class.{Class}
use Rattle.seq_read.specs.declared.operators.Class.TheVariants as class
use Rattle.seq_read.specs.Operators.{sees_operator, begins}
use Rattle.seq_read.proofs.OperatorLaws.{class_of, rank, ranked, sees, same_class_is, logical, NoneLogical, is_relational_class, rank_logical}
use Rattle.seq_read.proofs.OperatorLaws.{self_logical, rank_tight, relational_by, rank_not_relational}
use Rattle.seq_read.proofs.Shared.ChainLevels.{Belongs, left_of_belongs, belongs_by, only_multiplying, only_adding, rank_of}
use Rattle.seq_read.proofs.Stopping.{StopsTerm, StopsSimple, StopsRelation, StopsAs, StopsWhole, is_logical}

-- an operator that is next
pub record IsNext (c : Class) (t : Token) : Type 0 where
  pub op : BinOp
  pub class_is : class_of op ≡ c
  pub token_is : t ≡ op_token op

next : (c : Class) (t : Token) → begins c (Some t) ≡ true → IsNext c t
next c t h = of (sees_operator c t) refl h where
  of : (o : Option BinOp) → sees_operator c t ≡ o → is_some o ≡ true → IsNext c t
  of None e k = absurd (cc)
  of (Some op) e k = let s = sees c t op e in record { op = op; class_is = s.class_is; token_is = s.token_is }

module _ (is_name : Name → Bool) (d : ℕ) where
  abbrev Is : Expression → Type 0
  Is e = IsProperExpression (without_limits is_name) d e

  -- a longer expression that goes on with a token
  pub record Further (k : ℕ) (e : Expression) (t : Token) : Type 0 where
    pub longer : Expression
    pub more : List Token
    pub tight : k ≤ tightness longer
    pub proper : Is longer
    pub spelled : expression_tokens longer ≡ expression_tokens e ++ t ∷ more

  -- an operator and a number behind a whole expression
  attach : (k : ℕ) (c : Class) (e : Expression) (t : Token) → k ≤ rank c → (h : IsNext c t) → IsLeft h.op e → Is e → Further k e t
  attach k c e t low h left p = record {
    longer = Binary h.op e (Number 0);
    more = token.Number 0 ∷ [];
    tight = (let r = rank_of c h.op h.class_is in omega (arith, r, low));
    proper = (left, (let r = ranked h.op in let q = small (class_of h.op) in omega (arith, r, q)), refl, p, tt);
    spelled = rw h.token_is refl;
  } where
    small : (x : Class) → rank x < 5
    small class.And = omega arith
    small class.Or = omega arith
    small class.Xor = omega arith
    small class.Relational = omega arith
    small class.Adding = omega arith
    small class.Multiplying = omega arith

  -- behind the right side of one
  inside : (k j : ℕ) (o : BinOp) (l r : Expression) (t : Token) → k ≤ tightness_of (level_of o) → suc (tightness_of (level_of o)) ≤ j
      → Is (Binary o l r) → Further j r t → Further k (Binary o l r) t
  inside k j o l r t low above p f = record {
    longer = Binary o l f.longer;
    more = f.more;
    tight = low;
    proper = (p.0, (let a = f.tight in omega (arith, a, above)), refl, p.3, f.proper);
    spelled = ap (λ us. expression_tokens l ++ op_token o ∷ us) f.spelled ∙ sym (append_assoc (expression_tokens l) (op_token o ∷ expression_tokens r)
        (t ∷ f.more));
  }

  loosened : (k j : ℕ) (e : Expression) (t : Token) → k ≤ j → Further j e t → Further k e t
  loosened k j e t h f = record {
    longer = f.longer;
    more = f.more;
    tight = (let a = f.tight in omega (arith, a, h));
    proper = f.proper;
    spelled = f.spelled;
  }

  -- LEVEL BY LEVEL
  term : (e : Expression) (t : Token) → 3 ≤ tightness e → Is e → StopsTerm e (Some t) ⊎ Further 3 e t
  term e t h p = of (begins class.Multiplying (Some t)) refl where
    of : (b : Bool) → begins class.Multiplying (Some t) ≡ b → StopsTerm e (Some t) ⊎ Further 3 e t
    of false s = inl (s, tt)
    of true s = let n = next class.Multiplying t s
        in inr (attach 3 class.Multiplying e t (omega arith) n (left_of_belongs class.Multiplying n.op e n.class_is
        (belongs_by class.Multiplying only_multiplying e h)) p)

  simple_right : (e : Expression) (t : Token) → 2 ≤ tightness e → Is e → begins class.Adding (Some t) ≡ false → StopsSimple e (Some t) ⊎ Further 2 e t
  simple_right e t h p none = of e h p (belongs_by class.Adding only_adding e h) where
    of : (g : Expression) → 2 ≤ tightness g → Is g → Belongs class.Adding g → StopsSimple e (Some t) ⊎ Further 2 g t
    of g k q (inr tight) = elim (term g t tight q) [ inl s ↦ inl (none, s) | inr f ↦ inr (loosened 2 3 g t (omega arith) f) ]
    of (Number n) k q (inl b) = absurd (cc)
    of (Variable name) k q (inl b) = absurd (cc)
    of (Paren x) k q (inl b) = absurd (cc)
    of (Not x) k q (inl b) = absurd (cc)
    of (Binary o l r) k q (inl b) =
        let is = rank_of class.Adding o (same_class_is (class_of o) class.Adding b) in
        elim (term r t (let a = q.1 in omega (arith, a, is)) q.4) [
          | inl s ↦ inl (none, s)
          | inr f ↦ inr
              (inside 2 3 o l r t (omega (arith, is)) (omega (arith, is)) q f)
        ]

  simple : (e : Expression) (t : Token) → 2 ≤ tightness e → Is e → StopsSimple e (Some t) ⊎ Further 2 e t
  simple e t h p = of (begins class.Adding (Some t)) refl where
    of : (b : Bool) → begins class.Adding (Some t) ≡ b → StopsSimple e (Some t) ⊎ Further 2 e t
    of false s = simple_right e t h p s
    of true s = let n = next class.Adding t s
        in inr (attach 2 class.Adding e t (omega arith) n (left_of_belongs class.Adding n.op e n.class_is
        (belongs_by class.Adding only_adding e h)) p)

  -- a side of a comparison alone
  relation_alone : (e : Expression) (t : Token) → 2 ≤ tightness e → Is e → StopsRelation e (Some t) ⊎ Further 1 e t
  relation_alone e t h p = of (begins class.Relational (Some t)) refl where
    of : (b : Bool) → begins class.Relational (Some t) ≡ b → StopsRelation e (Some t) ⊎ Further 1 e t
    of false s = elim (simple e t h p) [ inl q ↦ inl (q, λ out. s) | inr f ↦ inr (loosened 1 2 e t (omega arith) f) ]
    of true s = let n = next class.Relational t s
        in inr (attach 1 class.Relational e t (omega arith) n (inr (let r = rank_of class.Relational n.op n.class_is in omega (arith, r, h))) p)

  is_compared : (o : BinOp) → class_of o ≡ class.Relational → is_relational_class (class_of o) ≡ true
  is_compared o is = ap is_relational_class is

  relation : (e : Expression) (t : Token) → 1 ≤ tightness e → Is e → StopsRelation e (Some t) ⊎ Further 1 e t
  relation (Number n) t h p = relation_alone (Number n) t (omega arith) p
  relation (Variable name) t h p = relation_alone (Variable name) t (omega arith) p
  relation (Paren x) t h p = relation_alone (Paren x) t (omega arith) p
  relation (Not x) t h p = relation_alone (Not x) t (omega arith) p
  relation (Binary o l r) t h p = of (is_relational_class (class_of o)) refl where
    of : (b : Bool) → is_relational_class (class_of o) ≡ b → StopsRelation (Binary o l r) (Some t) ⊎ Further 1 (Binary o l r) t
    of true s =
        let is = rank_of class.Relational o (relational_by (class_of o) s) in
        elim (simple r t (let a = p.1 in omega (arith, a, is)) p.4) [
          | inl q ↦ inl (q, λ out. absurd (let no : true ≡ false = sym s ∙ out in cc))
          | inr f ↦ inr (inside 1 2 o l r t (omega (arith, is)) (omega (arith, is)) p f)
        ]
    of false s = relation_alone (Binary o l r) t (let r = ranked o in let q = rank_not_relational (class_of o) s (omega (arith, r, h))
        in omega (arith, r, q)) p

  -- the logical level
  none_or : (e : Expression) (t : Token) → 1 ≤ tightness e → Is e → NoneLogical (Some t) ⊎ Further 0 e t
  none_or e t h p = at_and (begins class.And (Some t)) refl where
    behind : (c : Class) → logical c ≡ true → begins c (Some t) ≡ true → Further 0 e t
    behind c is s = let n = next c t s
        in attach 0 c e t (omega arith) n (inr (let r = rank_of c n.op n.class_is in let z = rank_logical c is in omega (arith, r, z, h))) p

    at_xor : (b : Bool) → begins class.And (Some t) ≡ false → begins class.Or (Some t) ≡ false → begins class.Xor (Some t) ≡ b
        → NoneLogical (Some t) ⊎ Further 0 e t
    at_xor true q r s = inr (behind class.Xor refl s)
    at_xor false q r s = inl (q, r, s)

    at_or : (b : Bool) → begins class.And (Some t) ≡ false → begins class.Or (Some t) ≡ b → NoneLogical (Some t) ⊎ Further 0 e t
    at_or true q s = inr (behind class.Or refl s)
    at_or false q s = at_xor (begins class.Xor (Some t)) q s refl

    at_and : (b : Bool) → begins class.And (Some t) ≡ b → NoneLogical (Some t) ⊎ Further 0 e t
    at_and true s = inr (behind class.And refl s)
    at_and false s = at_or (begins class.Or (Some t)) s refl

  whole_alone : (e : Expression) (t : Token) → 1 ≤ tightness e → Is e → is_logical e ≡ false → StopsWhole e (Some t) ⊎ Further 0 e t
  whole_alone e t h p out =
      elim (none_or e t h p) [
        | inr f ↦ inr f
        | inl n ↦ elim (relation e t h p) [
          | inr f ↦ inr (loosened 0 1 e t (omega arith) f)
          | inl s ↦ inl (let P : Bool → Type 0 = λ b. StopsAs b e (Some t) in subst P (sym out) (n, s))
        ]
      ]

  pub goes-on : (e : Expression) (t : Token) → Is e → StopsWhole e (Some t) ⊎ Further 0 e t
  goes-on (Number n) t p = whole_alone (Number n) t (omega arith) p refl
  goes-on (Variable name) t p = whole_alone (Variable name) t (omega arith) p refl
  goes-on (Paren x) t p = whole_alone (Paren x) t (omega arith) p refl
  goes-on (Not x) t p = whole_alone (Not x) t (omega arith) p refl
  goes-on (Binary o l r) t p = of (logical (class_of o)) refl where
    chained : logical (class_of o) ≡ true → begins (class_of o) (Some t) ≡ true → Further 0 (Binary o l r) t
    chained is s = let n = next (class_of o) t s
        in attach 0 (class_of o) (Binary o l r) t (omega arith) n
        (left_of_belongs (class_of o) n.op (Binary o l r) n.class_is (inl (self_logical (class_of o) is))) p

    right : logical (class_of o) ≡ true → begins (class_of o) (Some t) ≡ false → StopsWhole (Binary o l r) (Some t) ⊎ Further 0 (Binary o l r) t
    right is s =
        let z : tightness_of (level_of o) ≡ 0 = ranked o ∙ rank_logical (class_of o) is in
        elim (relation r t (let a = p.1 in omega (arith, a, z)) p.4) [
          | inl q ↦ inl (let P : Bool → Type 0 = λ b. StopsAs b (Binary o l r) (Some t) in subst P (sym is) (s, q))
          | inr f ↦ inr (inside 0 1 o l r t (omega arith) (omega (arith, z)) p f)
        ]

    under : logical (class_of o) ≡ true → (b : Bool) → begins (class_of o) (Some t) ≡ b → StopsWhole (Binary o l r) (Some t)
        ⊎ Further 0 (Binary o l r) t
    under is true s = inr (chained is s)
    under is false s = right is s

    of : (b : Bool) → logical (class_of o) ≡ b → StopsWhole (Binary o l r) (Some t) ⊎ Further 0 (Binary o l r) t
    of true is = under is (begins (class_of o) (Some t)) refl
    of false is = whole_alone (Binary o l r) t (let q = rank_tight (class_of o) is in omega (arith, ranked o, q)) p is
