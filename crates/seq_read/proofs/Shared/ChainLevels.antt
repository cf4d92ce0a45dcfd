-- What a chain of one class reads is a level of expressions: its trees, grouped to the left.
use Rattle.std.proofs.Common.{◌≡◌, ℕ, zero, suc, ◌+◌, ◌≤◌, nat_le, Bool, true, false, cond, List, [], ◌∷◌, ◌++◌, length, Option, Some, ◌⊎◌, inl}
use Rattle.std.proofs.Common.{inr, refl, sym, ap, subst, ◌∙◌, arith, append_assoc, append-nil}
use Rattle.std.specs.Prelude.{if◌then◌else◌}
use Rattle.std.proofs.lemmas.Bool.{leb-true, leb-false, le-leb}
use Rattle.grammar.specs.Reading.{first, then_at, Reads, Joined}
use Rattle.grammar.proofs.Shared.Laws.{IsToken, reads-same, reads-joint}
use Rattle.seq_tree.specs.Names.{Name}
use Rattle.seq_tree.specs.Expressions.{Expression, Number, Variable, Paren, Not, Binary}
use Rattle.seq_tree.specs.Spelling.{expression_tokens, op_token}
use Rattle.seq_tree.specs.Levels.{level_of, tightness_of, tightness, chains_with, chain, IsLeft}
use Rattle.seq_tree.specs.Proper.{Limits, IsProperExpression}
use Rattle.seq_tree.specs.declared.tree.BinOp.{BinOp}
use Rattle.seq_tree.specs.declared.token.Token.{Token}
use Rattle.seq_read.specs.declared.operators.Class.{Class}
use Rattle.seq_read.specs.declared.operators.Class.TheVariants as cls
use Rattle.seq_read.specs.Operators.{sees_operator, begins}
use Rattle.seq_read.specs.Expressions.{ExpressionReader, chain_at}
use Rattle.seq_read.proofs.OperatorLaws.{class_of, rank, ranked, seen, sees, same_class, same_class_is, shares_as, self_class, chains, rank_low}
use Rattle.seq_read.proofs.OperatorLaws.{no_relational}
use Rattle.seq_read.proofs.ChainLaws.{right_of, Longer, ExtendsBy, StopsBy, Begun, begun, tokens_on, reads-chain}

-- limits: this many constructs in one another, this many operators in a chain
abbrev pub bounds : (Name → Bool) → ℕ → ℕ → Limits
bounds is_name nests most = record { is_name = is_name; nests = λ d. nat_le d nests; chains = λ n. nat_le n most }

-- expressions that bind at least so tightly, with their tokens
abbrev pub IsAt : Limits → ℕ → ℕ → Expression → List Token → Type 0
IsAt l d k e text = (k ≤ tightness e) × IsProperExpression l d e × (text ≡ expression_tokens e)

-- whether an expression is a chain of a class
abbrev pub in_class : Class → Expression → Bool
in_class class (Number n) = false
in_class class (Variable name) = false
in_class class (Paren e) = false
in_class class (Not e) = false
in_class class (Binary op left right) = same_class (class_of op) class

-- the operators of its chain
abbrev pub count : Class → Expression → ℕ
count class e = if in_class class e then chain e else 0

-- a chain of a class, or what is tighter
abbrev pub Belongs : Class → Expression → Type 0
Belongs class e = (in_class class e ≡ true) ⊎ (suc (rank class) ≤ tightness e)

-- the operand that stands last
abbrev pub last_of : Class → Expression → Expression
last_of class e = if in_class class e then right_of e else e

-- an operator of a class chains with what is a chain of it
chains_as : (op : BinOp) (class : Class) (e : Expression) → class_of op ≡ class → chains_with op e ≡ in_class class e
chains_as op class (Number n) is = refl
chains_as op class (Variable name) is = refl
chains_as op class (Paren e) is = refl
chains_as op class (Not e) is = refl
chains_as op class (Binary inner left right) is = shares_as inner op ∙ ap (same_class (class_of inner)) is

chain_step : (class : Class) (op : BinOp) (e g : Expression) → class_of op ≡ class → chain (Binary op e g) ≡ suc (count class e)
chain_step class op e g is = rw (chains_as op class e is) (of (in_class class e)) where
  of : (b : Bool) → cond b (suc (chain e)) 1 ≡ suc (cond b (chain e) 0)
  of true = refl
  of false = refl

step_in : (class : Class) (op : BinOp) (e g : Expression) → class_of op ≡ class → chains class ≡ true → in_class class (Binary op e g) ≡ true
step_in class op e g is can = ap (λ k. same_class k class) is ∙ self_class class can

count_step : (class : Class) (op : BinOp) (e g : Expression) → class_of op ≡ class → chains class ≡ true
    → count class (Binary op e g) ≡ suc (count class e)
count_step class op e g is can = rw (step_in class op e g is can) (chain_step class op e g is)

pub rank_of : (class : Class) (op : BinOp) → class_of op ≡ class → tightness_of (level_of op) ≡ rank class
rank_of class op is = ranked op ∙ ap rank is

pub left_of_belongs : (class : Class) (op : BinOp) (e : Expression) → class_of op ≡ class → Belongs class e → IsLeft op e
left_of_belongs class op e is (inl h) = inl (chains_as op class e is ∙ h)
left_of_belongs class op e is (inr h) = inr (rw (rank_of class op is) h)

pub belongs_left : (class : Class) (op : BinOp) (e : Expression) → class_of op ≡ class → IsLeft op e → Belongs class e
belongs_left class op e is (inl h) = inl (sym (chains_as op class e is) ∙ h)
belongs_left class op e is (inr h) = inr (let P : ℕ → Type 0 = λ k. suc k ≤ tightness e in subst P (rank_of class op is) h)

-- an expression of a rank is a chain of its class, or tighter
pub belongs_by : (c : Class) → ((k : Class) → rank k ≡ rank c → same_class k c ≡ true) → (e : Expression) → rank c ≤ tightness e → Belongs c e
belongs_by c only (Number n) h = inr (let r = rank_low c in omega (arith, r))
belongs_by c only (Variable name) h = inr (let r = rank_low c in omega (arith, r))
belongs_by c only (Paren e) h = inr (let r = rank_low c in omega (arith, r))
belongs_by c only (Not e) h = inr (let r = rank_low c in omega (arith, r))
belongs_by c only (Binary o left right) h = of (nat_le (suc (rank c)) (tightness_of (level_of o))) refl where
  of : (b : Bool) → nat_le (suc (rank c)) (tightness_of (level_of o)) ≡ b → Belongs c (Binary o left right)
  of true t = inr (leb-true (suc (rank c)) (tightness_of (level_of o)) t)
  of false t = inl (only (class_of o) (let g = leb-false (suc (rank c)) (tightness_of (level_of o)) t in omega (arith, g, h, ranked o)))

pub belongs_at : (c : Class) (e : Expression) → chains c ≡ true → Belongs c e → rank c ≤ tightness e
belongs_at c e can (inr h) = omega (arith, h)
belongs_at c (Number n) can (inl b) = absurd (cc)
belongs_at c (Variable name) can (inl b) = absurd (cc)
belongs_at c (Paren e) can (inl b) = absurd (cc)
belongs_at c (Not e) can (inl b) = absurd (cc)
belongs_at c (Binary o left right) can (inl b) = let r = ap rank (same_class_is (class_of o) c b) in omega (arith, r, ranked o)

pub only_multiplying : (k : Class) → rank k ≡ rank cls.Multiplying → same_class k cls.Multiplying ≡ true
only_multiplying cls.Multiplying h = refl
only_multiplying _ h = absurd (omega (arith, h))

pub only_adding : (k : Class) → rank k ≡ rank cls.Adding → same_class k cls.Adding ≡ true
only_adding cls.Adding h = refl
only_adding _ h = absurd (omega (arith, h))

-- a comparison makes no chain
pub relational_alone : (o : BinOp) (e : Expression) → class_of o ≡ cls.Relational → chains_with o e ≡ false
relational_alone o (Number n) is = refl
relational_alone o (Variable name) is = refl
relational_alone o (Paren e) is = refl
relational_alone o (Not e) is = refl
relational_alone o (Binary inner left right) is = shares_as inner o ∙ ap (same_class (class_of inner)) is ∙ no_relational (class_of inner)

module _ (class : Class) (can : chains class ≡ true) (is_name : Name → Bool) (nests most d : ℕ)
    (operand : ExpressionReader) (StopsOperand : Expression → Option Token → Type 0)
    (one : Reads (IsAt (bounds is_name nests most) d (suc (rank class))) StopsOperand operand)
    (some_op : BinOp) (some_is : class_of some_op ≡ class)
    (apart : (g : Expression) (t : Token) (op : BinOp) → sees_operator class t ≡ Some op → StopsOperand g (Some t)) where
  abbrev Is : Expression → Type 0
  Is e = IsProperExpression (bounds is_name nests most) d e

  abbrev Operand : Expression → List Token → Type 0
  Operand = IsAt (bounds is_name nests most) d (suc (rank class))

  abbrev Goes : ℕ → Expression → Expression → List Token → Type 0
  Goes = ExtendsBy class Operand

  abbrev Ends : Expression → Expression → Option Token → Type 0
  Ends = StopsBy class StopsOperand

  -- WHAT IS READ IS PROPER
  proper_step : (op : BinOp) (e g : Expression) (n : ℕ) → class_of op ≡ class → Belongs class e → Is e → suc (rank class) ≤ tightness g → Is g
      → count class e + suc n ≤ most → Is (Binary op e g)
  proper_step op e g n is b p tight q room = (
    left_of_belongs class op e is b,
    rw (rank_of class op is) tight,
    le-leb (chain (Binary op e g)) most (omega
        (arith, chain_step class op e g is, room)),
    p,
    q,
  )

  pub proper_on : (n : ℕ) (e f : Expression) (text : List Token) → Belongs class e → Is e → count class e + n ≤ most → Goes n e f text
      → Belongs class f × Is f
  proper_on zero e f text b p room h = rw h.0 (b, p)
  proper_on (suc n) e f text b p room (inr h) = rw h.0 (b, p)
  proper_on (suc n) e f text b p room (inl j) =
      let k = j.after in
      let is = (sees class j.before.token j.a j.before.seen).class_is in
      proper_on n (Binary j.a e k.a) f k.back (inl (step_in class j.a e k.a is can)) (proper_step j.a e k.a n is b p k.before.0 k.before.1 room)
      (omega (arith, count_step class j.a e k.a is can, room)) k.after

  -- WHAT IS PROPER IS READ
  pub wider : (n m : ℕ) (e f : Expression) (text : List Token) → n ≤ m → Goes n e f text → Goes m e f text
  wider zero zero e f text h g = g
  wider zero (suc m) e f text h g = inr g
  wider (suc n) zero e f text h g = absurd (omega arith)
  wider (suc n) (suc m) e f text h (inr g) = inr g
  wider (suc n) (suc m) e f text h (inl j) =
      let k = j.after in
      inl (record {
        a = j.a;
        front = j.front;
        back = j.back;
        before = j.before;
        after = record {
          a = k.a;
          front = k.front;
          back = k.back;
          before = k.before;
          after = wider n m (Binary j.a e k.a) f k.back (omega arith) k.after;
          whole = k.whole;
        };
        whole = j.whole;
      })

  abbrev op_text : BinOp → List Token
  op_text op = op_token op ∷ []

  op_seen : (op : BinOp) → class_of op ≡ class → IsToken (sees_operator class) op (op_text op)
  op_seen op is = record {
    token = op_token op;
    seen = (let P : Class → Type 0 = λ c. sees_operator c (op_token op) ≡ Some op
        in subst P is (seen op));
    whole = refl;
  }

  one_step : (n : ℕ) (op : BinOp) (e g f : Expression) (text : List Token) → class_of op ≡ class → Operand g text → Goes n (Binary op e g) f []
      → Goes (suc n) e f (op_token op ∷ text)
  one_step n op e g f text is h on =
      inl (record {
        a = op;
        front = op_text op;
        back = text;
        before = op_seen op is;
        after = record { a = g; front = text; back = []; before = h; after = on; whole = sym (append-nil text) };
        whole = refl;
      })

  same_left : (op : BinOp) (e l g : Expression) → l ≡ e → Binary op l g ≡ Binary op e g
  same_left op e l g same = ap (λ x. Binary op x g) same

  pub behind : (n : ℕ) (op : BinOp) (e l g : Expression) (text more : List Token) → class_of op ≡ class → Goes n e l text → Operand g more
      → Goes (suc n) e (Binary op l g) (text ++ op_token op ∷ more)
  behind zero op e l g text more is h k =
      let P : List Token → Type 0 = λ us. Goes 1 e (Binary op l g) (us ++ op_token op ∷ more) in
      subst P (sym h.1) (one_step zero op e g (Binary op l g) more is k (same_left op e l g h.0, refl))
  behind (suc n) op e l g text more is (inr h) k =
      let P : List Token → Type 0 = λ us. Goes (suc (suc n)) e (Binary op l g) (us ++ op_token op ∷ more) in
      subst P (sym h.1) (one_step (suc n) op e g (Binary op l g) more is k (inr (same_left op e l g h.0, refl)))
  behind (suc n) op e l g text more is (inl j) k =
      let i = j.after in
      let whole : text ++ op_token op ∷ more ≡ j.front ++ (i.front ++ (i.back ++ op_token op ∷ more)) =
      ap (λ us. us ++ op_token op ∷ more) (j.whole ∙ ap (λ us. j.front ++ us) i.whole) ∙ append_assoc j.front (i.front ++ i.back) (op_token op ∷ more)
      ∙ ap (λ us. j.front ++ us) (append_assoc i.front i.back (op_token op ∷ more)) in
      inl (record {
        a = j.a;
        front = j.front;
        back = i.front ++ (i.back ++ op_token op ∷ more);
        before = j.before;
        after = record {
          a = i.a;
          front = i.front;
          back = i.back ++ op_token op ∷ more;
          before = i.before;
          after = behind n op (Binary j.a e i.a) l g i.back more is i.after k;
          whole = refl;
        };
        whole = whole;
      })

  -- an expression as its first operand and what that goes on to
  pub record Unchained (f : Expression) : Type 0 where
    pub head : Expression
    pub tight : suc (rank class) ≤ tightness head
    pub proper : Is head
    pub more : List Token
    pub on : Goes (count class f) head f more

  alone : (f : Expression) → suc (rank class) ≤ tightness f → Is f → (n : ℕ) → Goes n f f []
  alone f tight p zero = (refl, refl)
  alone f tight p (suc n) = inr (refl, refl)

  unchained_alone : (f : Expression) → Is f → suc (rank class) ≤ tightness f → Unchained f
  unchained_alone f p tight = record { head = f; tight = tight; proper = p; more = []; on = alone f tight p (count class f) }

  unchained_step : (op : BinOp) (left right : Expression) → Unchained left → same_class (class_of op) class ≡ true → class_of op ≡ class
      → Is (Binary op left right) → Unchained (Binary op left right)
  unchained_step op left right u same is p = record {
    head = u.head;
    tight = u.tight;
    proper = u.proper;
    more = u.more ++ op_token op ∷ expression_tokens right;
    on =
        let k : Operand right (expression_tokens right)
        = ((let P : ℕ → Type 0 = λ n. suc n ≤ tightness right in subst P (rank_of class op is) p.1), p.4, refl) in
        let P : ℕ → Type 0 = λ n. Goes n u.head (Binary op left right) (u.more ++ op_token op ∷ expression_tokens right) in
        subst P (sym (count_step class op left right is can)) (behind (count class left) op u.head left right u.more
        (expression_tokens right) is u.on k);
  }

  unchained : (f : Expression) → Belongs class f → Is f → Unchained f
  unchained f (inr tight) p = unchained_alone f p tight
  unchained (Number n) (inl b) p = absurd (cc)
  unchained (Variable name) (inl b) p = absurd (cc)
  unchained (Paren e) (inl b) p = absurd (cc)
  unchained (Not e) (inl b) p = absurd (cc)
  unchained (Binary op left right) (inl b) p =
      let is = same_class_is (class_of op) class b in
      unchained_step op left right (unchained left (belongs_left class op left is p.0) p.3) b is p

  count_fits : (f : Expression) → Is f → count class f ≤ most
  count_fits f p = of f p (in_class class f) refl where
    chain_fits : (g : Expression) → in_class class g ≡ true → Is g → chain g ≤ most
    chain_fits (Number n) b q = absurd (cc)
    chain_fits (Variable name) b q = absurd (cc)
    chain_fits (Paren e) b q = absurd (cc)
    chain_fits (Not e) b q = absurd (cc)
    chain_fits (Binary op left right) b q = leb-true (chain (Binary op left right)) most q.2

    of : (g : Expression) → Is g → (b : Bool) → in_class class g ≡ b → cond b (chain g) 0 ≤ most
    of g q true e = chain_fits g e q
    of g q false e = omega arith

  -- A LEVEL
  abbrev pub IsChain : Expression → List Token → Type 0
  IsChain f text = Belongs class f × Is f × (text ≡ expression_tokens f)

  abbrev pub StopsChain : Expression → Option Token → Type 0
  StopsChain f o = (begins class o ≡ false) × StopsOperand (last_of class f) o

  -- operands are no chains
  tight_out : (e : Expression) → suc (rank class) ≤ tightness e → in_class class e ≡ false
  tight_out (Number n) h = refl
  tight_out (Variable name) h = refl
  tight_out (Paren e) h = refl
  tight_out (Not e) h = refl
  tight_out (Binary op left right) h = of (same_class (class_of op) class) refl where
    of : (b : Bool) → same_class (class_of op) class ≡ b → b ≡ false
    of false s = refl
    of true s = absurd (let same = rank_of class op (same_class_is (class_of op) class s) in omega (arith, same, h))

  pub steps_in : (n : ℕ) (e f : Expression) (text : List Token) → Goes n e f text → (f ≡ e) ⊎ (in_class class f ≡ true)
  steps_in zero e f text h = inl h.0
  steps_in (suc n) e f text (inr h) = inl h.0
  steps_in (suc n) e f text (inl j) =
      let k = j.after in
      elim (steps_in n (Binary j.a e k.a) f k.back k.after) [
        | inl same ↦ inr (rw same (step_in class j.a e k.a (sees class j.before.token j.a j.before.seen).class_is can))
        | inr b ↦ inr b
      ]

  pub last_begun : (n : ℕ) (e f : Expression) (text : List Token) → Goes n e f text → Longer e f → last_of class f ≡ right_of f
  last_begun n e f text h long =
      elim (steps_in n e f text h) [
        | inl same ↦ absurd (let shorter : length (expression_tokens f) ≡ length (expression_tokens e) = ap (λ x. length (expression_tokens x)) same
            in omega (arith, shorter, long))
        | inr b ↦ rw b refl
      ]

  last_alone : (e : Expression) → suc (rank class) ≤ tightness e → last_of class e ≡ e
  last_alone e tight = rw (tight_out e tight) refl

  pub begun_on : (n : ℕ) (e f : Expression) (text : List Token) → Goes n e f text → Begun class e f text ⊎ ((f ≡ e) × (text ≡ []))
  begun_on = begun class operand Operand StopsOperand one some_op some_is (λ g us h. h.2) apart

  pub follow_chain : (e f : Expression) (text back rest : List Token) → Operand e text → Goes most e f back → StopsChain f (first rest)
      → StopsOperand e (first (back ++ rest)) × Ends e f (first rest)
  follow_chain e f text back rest h x stop =
      elim (begun_on most e f back x) [
        | inl b ↦
            let P : Expression → Type 0 = λ y. StopsOperand y (first rest) in
            (rw b.whole (apart e b.token b.op b.seen), (stop.0, λ long. subst P (last_begun most e f back x long) stop.1))
        | inr s ↦
            let P : Expression → Type 0 = λ y. StopsOperand y (first rest) in
            let here : StopsOperand e (first rest) = subst P (ap (last_of class) s.0 ∙ last_alone e h.0) stop.1 in
            (rw s.1 here, (stop.0, λ long. subst P (last_begun most e f back x long) stop.1))
      ]

  pub both_chain : (e f : Expression) (text back rest : List Token) → Operand e text → Goes most e f back → StopsOperand e (first (back ++ rest))
      → Ends e f (first rest) → StopsChain f (first rest)
  both_chain e f text back rest h x one_stops stop =
      elim (begun_on most e f back x) [
        | inl b ↦ let P : Expression → Type 0 = λ y. StopsOperand y (first rest)
            in (stop.0, subst P (sym (last_begun most e f back x b.long)) (stop.1 b.long))
        | inr s ↦
            let Q : List Token → Type 0 = λ us. StopsOperand e (first (us ++ rest)) in
            let P : Expression → Type 0 = λ y. StopsOperand y (first rest) in
            (stop.0, subst P (sym (ap (last_of class) s.0 ∙ last_alone e h.0)) (subst Q s.1 one_stops))
      ]

  pub chain_to : (f : Expression) (text : List Token) → Joined Operand (λ e. Goes most e) f text → IsChain f text
  chain_to f text j =
      let room : count class j.a + most ≤ most = rw (tight_out j.a j.before.0) (omega arith) in
      let p = proper_on most j.a f j.back (inr j.before.0) j.before.1 room j.after in
      let spelled = tokens_on class operand Operand StopsOperand one some_op some_is (λ g us h. h.2) apart most j.a f j.back j.after in
      (p.0, p.1, j.whole ∙ ap (λ us. us ++ j.back) j.before.2 ∙ sym spelled)

  pub chain_back : (f : Expression) (text : List Token) → IsChain f text → Joined Operand (λ e. Goes most e) f text
  chain_back f text h =
      let u = unchained f h.0 h.1 in
      let on = wider (count class f) most u.head f u.more (count_fits f h.1) u.on in
      let spelled = tokens_on class operand Operand StopsOperand one some_op some_is (λ g us k. k.2) apart most u.head f u.more on in
      record { a = u.head; front = expression_tokens u.head; back = u.more; before = (u.tight, u.proper, refl); after = on; whole = h.2 ∙ spelled }

  pub reads-level : Reads IsChain StopsChain (then_at operand (λ e. chain_at class operand most e))
  reads-level = reads-same _ IsChain StopsChain _ chain_to chain_back
      (reads-joint Operand (λ e. Goes most e) StopsOperand (λ e f o. Ends e f o) StopsChain operand (λ e. chain_at class operand most e) one
      (λ e. reads-chain class operand Operand StopsOperand one some_op some_is (λ g us h. h.2) apart most e)
      (λ e f text back rest h x stop. follow_chain e f text back rest h x stop)
      (λ e f text back rest h x p stop. both_chain e f text back rest h x p stop))
