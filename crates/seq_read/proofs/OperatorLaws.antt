-- The classes of operators: what is written, what shares a chain, how tightly a class binds.
use Rattle.std.proofs.Common.{◌≡◌, ℕ, ◌<◌, ◌≤◌, Bool, true, false, cond, Option, Some, None, arith, refl, sym, ap, subst, ◌∙◌}
use Rattle.seq_tree.specs.Spelling.{op_token}
use Rattle.seq_tree.specs.Levels.{level_of, tightness_of, share_chain}
use Rattle.seq_tree.specs.declared.tree.BinOp.{BinOp}
use Rattle.seq_tree.specs.declared.tree.BinOp.TheVariants as op
use Rattle.seq_tree.specs.declared.token.Token.{Token}
use Rattle.token_read.specs.Words.{same_token}
use Rattle.token_read.proofs.Shared.TokenLaws.{same_is}
use Rattle.seq_read.specs.declared.operators.Class.{Class}
use Rattle.seq_read.specs.declared.operators.Class.TheVariants.{Multiplying, Adding, Relational, And, Or, Xor}
use Rattle.seq_read.specs.Operators.{sees_operator, begins, logical_class}

-- the class of an operator
abbrev pub class_of : BinOp → Class
class_of op.And = And
class_of op.Or = Or
class_of op.Xor = Xor
class_of op.Eq = Relational
class_of op.Ne = Relational
class_of op.Lt = Relational
class_of op.Le = Relational
class_of op.Gt = Relational
class_of op.Ge = Relational
class_of op.Add = Adding
class_of op.Sub = Adding
class_of op.Mul = Multiplying
class_of op.Div = Multiplying
class_of op.Mod = Multiplying

-- how tightly the operators of a class bind
abbrev pub rank : Class → ℕ
rank And = 0
rank Or = 0
rank Xor = 0
rank Relational = 1
rank Adding = 2
rank Multiplying = 3

pub ranked : (o : BinOp) → tightness_of (level_of o) ≡ rank (class_of o)
ranked op.And = refl
ranked op.Or = refl
ranked op.Xor = refl
ranked op.Eq = refl
ranked op.Ne = refl
ranked op.Lt = refl
ranked op.Le = refl
ranked op.Gt = refl
ranked op.Ge = refl
ranked op.Add = refl
ranked op.Sub = refl
ranked op.Mul = refl
ranked op.Div = refl
ranked op.Mod = refl

-- an operator is seen where it is written
pub seen : (o : BinOp) → sees_operator (class_of o) (op_token o) ≡ Some o
unfolding sees_operator
seen op.And = refl
seen op.Or = refl
seen op.Xor = refl
seen op.Eq = refl
seen op.Ne = refl
seen op.Lt = refl
seen op.Le = refl
seen op.Gt = refl
seen op.Ge = refl
seen op.Add = refl
seen op.Sub = refl
seen op.Mul = refl
seen op.Div = refl
seen op.Mod = refl

-- what is seen of a class is an operator of it, as it is written
pub record IsSeen (class : Class) (t : Token) (o : BinOp) : Type 0 where
  pub class_is : class_of o ≡ class
  pub token_is : t ≡ op_token o

seen_first : (class : Class) (t : Token) (o p : BinOp) (b : Bool) (later : Option BinOp) → same_token t (op_token p) ≡ b → class_of p ≡ class
    → (later ≡ Some o → IsSeen class t o) → cond b (Some p) later ≡ Some o → IsSeen class t o
seen_first class t o p true later same is next e =
    let here : p ≡ o = (let h : Some p ≡ Some o = e in cc) in
    record { class_is = ap class_of (sym here) ∙ is; token_is = same_is t (op_token p) same ∙ ap op_token here }
seen_first class t o p false later same is next e = next e

none_seen : {A : Type 0} (o : BinOp) → None ≡ Some o → A
none_seen o e = absurd (cc)

pub sees : (class : Class) (t : Token) (o : BinOp) → sees_operator class t ≡ Some o → IsSeen class t o
unfolding sees_operator
sees Multiplying t o e =
    seen_first Multiplying t o op.Mul (same_token t (op_token op.Mul)) _ refl refl
    (seen_first Multiplying t o op.Div (same_token t (op_token op.Div)) _ refl refl
    (seen_first Multiplying t o op.Mod (same_token t (op_token op.Mod)) _ refl refl (none_seen o))) e
sees Adding t o e =
    seen_first Adding t o op.Add (same_token t (op_token op.Add)) _ refl refl
    (seen_first Adding t o op.Sub (same_token t (op_token op.Sub)) _ refl refl (none_seen o)) e
sees Relational t o e =
    seen_first Relational t o op.Eq (same_token t (op_token op.Eq)) _ refl refl
    (seen_first Relational t o op.Ne (same_token t (op_token op.Ne)) _ refl refl
    (seen_first Relational t o op.Lt (same_token t (op_token op.Lt)) _ refl refl
    (seen_first Relational t o op.Le (same_token t (op_token op.Le)) _ refl refl
    (seen_first Relational t o op.Gt (same_token t (op_token op.Gt)) _ refl refl
    (seen_first Relational t o op.Ge (same_token t (op_token op.Ge)) _ refl refl (none_seen o)))))) e
sees And t o e = seen_first And t o op.And (same_token t (op_token op.And)) _ refl refl (none_seen o) e
sees Or t o e = seen_first Or t o op.Or (same_token t (op_token op.Or)) _ refl refl (none_seen o) e
sees Xor t o e = seen_first Xor t o op.Xor (same_token t (op_token op.Xor)) _ refl refl (none_seen o) e

-- classes that share a chain
abbrev pub same_class : Class → Class → Bool
same_class Multiplying Multiplying = true
same_class Adding Adding = true
same_class And And = true
same_class Or Or = true
same_class Xor Xor = true
same_class _ _ = false

pub same_class_is : (a b : Class) → same_class a b ≡ true → a ≡ b
same_class_is Multiplying Multiplying e = refl
same_class_is Adding Adding e = refl
same_class_is And And e = refl
same_class_is Or Or e = refl
same_class_is Xor Xor e = refl
same_class_is _ _ e = absurd (cc)

pub shares_as : (a b : BinOp) → share_chain a b ≡ same_class (class_of a) (class_of b)
shares_as op.And op.And = refl
shares_as op.Or op.Or = refl
shares_as op.Xor op.Xor = refl
shares_as op.Mul op.Mul = refl
shares_as op.Div op.Div = refl
shares_as op.Mod op.Mod = refl
shares_as op.Add op.Add = refl
shares_as op.Sub op.Sub = refl
shares_as _ _ = refl

-- the classes whose operators make chains
abbrev pub chains : Class → Bool
chains Relational = false
chains _ = true

pub self_class : (c : Class) → chains c ≡ true → same_class c c ≡ true
self_class Multiplying e = refl
self_class Adding e = refl
self_class And e = refl
self_class Or e = refl
self_class Xor e = refl
self_class Relational e = absurd (cc)

-- an operator of a looser class is none of a tighter one
pub tighter_none : (c : Class) (o : BinOp) → rank (class_of o) < rank c → begins c (Some (op_token o)) ≡ false
unfolding sees_operator
tighter_none Multiplying op.Add h = refl
tighter_none Multiplying op.Sub h = refl
tighter_none Multiplying op.Eq h = refl
tighter_none Multiplying op.Ne h = refl
tighter_none Multiplying op.Lt h = refl
tighter_none Multiplying op.Le h = refl
tighter_none Multiplying op.Gt h = refl
tighter_none Multiplying op.Ge h = refl
tighter_none Multiplying op.And h = refl
tighter_none Multiplying op.Or h = refl
tighter_none Multiplying op.Xor h = refl
tighter_none Adding op.Eq h = refl
tighter_none Adding op.Ne h = refl
tighter_none Adding op.Lt h = refl
tighter_none Adding op.Le h = refl
tighter_none Adding op.Gt h = refl
tighter_none Adding op.Ge h = refl
tighter_none Adding op.And h = refl
tighter_none Adding op.Or h = refl
tighter_none Adding op.Xor h = refl
tighter_none Relational op.And h = refl
tighter_none Relational op.Or h = refl
tighter_none Relational op.Xor h = refl
tighter_none _ _ h = absurd (omega arith)

-- whether the operators of a class are logical
abbrev pub logical : Class → Bool
logical And = true
logical Or = true
logical Xor = true
logical Relational = false
logical Adding = false
logical Multiplying = false

-- a logical operator that is next is of the class that is picked
pub picks : (o : BinOp) → logical (class_of o) ≡ true → logical_class (Some (op_token o)) ≡ class_of o
unfolding logical_class sees_operator
picks op.And h = refl
picks op.Or h = refl
picks op.Xor h = refl
picks _ h = absurd (cc)

pub picked : (o : Option Token) → logical (logical_class o) ≡ true
unfolding logical_class
picked o = of (begins And o) (begins Or o) where
  of : (a b : Bool) → logical (cond a And (cond b Or Xor)) ≡ true
  of true b = refl
  of false true = refl
  of false false = refl

-- where none of the class that is picked is next, no logical operator is
abbrev pub NoneLogical : Option Token → Type 0
NoneLogical o = (begins And o ≡ false) × (begins Or o ≡ false) × (begins Xor o ≡ false)

pub none_picked : (o : Option Token) → begins (logical_class o) o ≡ false → NoneLogical o
unfolding logical_class
none_picked o h = of (begins And o) (begins Or o) refl refl h where
  of : (a b : Bool) → begins And o ≡ a → begins Or o ≡ b → begins (cond a And (cond b Or Xor)) o ≡ false → NoneLogical o
  of true b p q k = absurd (cc)
  of false true p q k = absurd (cc)
  of false false p q k = (p, q, k)

pub none_any : (o : Option Token) → NoneLogical o → (c : Class) → logical c ≡ true → begins c o ≡ false
none_any o n And h = n.0
none_any o n Or h = n.1
none_any o n Xor h = n.2
none_any o n Relational h = absurd (cc)
none_any o n Adding h = absurd (cc)
none_any o n Multiplying h = absurd (cc)

-- relational operators make no chain
pub no_relational : (c : Class) → same_class c Relational ≡ false
no_relational And = refl
no_relational Or = refl
no_relational Xor = refl
no_relational Relational = refl
no_relational Adding = refl
no_relational Multiplying = refl

pub rank_low : (c : Class) → rank c < 4
rank_low And = omega arith
rank_low Or = omega arith
rank_low Xor = omega arith
rank_low Relational = omega arith
rank_low Adding = omega arith
rank_low Multiplying = omega arith

abbrev pub is_relational_class : Class → Bool
is_relational_class Relational = true
is_relational_class _ = false

pub relational_rank : (c : Class) → 2 ≤ rank c → is_relational_class c ≡ false
relational_rank And h = refl
relational_rank Or h = refl
relational_rank Xor h = refl
relational_rank Relational h = absurd (omega (arith, h))
relational_rank Adding h = refl
relational_rank Multiplying h = refl

pub relational_class : (c : Class) → rank c ≡ 1 → c ≡ Relational
relational_class Relational h = refl
relational_class _ h = absurd (omega (arith, h))

-- an operator is next where it is written
pub begins_by : (c : Class) (o : BinOp) → class_of o ≡ c → begins c (Some (op_token o)) ≡ true
begins_by c o is = let P : Class → Type 0 = λ k. begins k (Some (op_token o)) ≡ true in subst P is (rw (seen o) refl)

pub rank_logical : (k : Class) → logical k ≡ true → rank k ≡ 0
rank_logical And h = refl
rank_logical Or h = refl
rank_logical Xor h = refl
rank_logical Relational h = absurd (cc)
rank_logical Adding h = absurd (cc)
rank_logical Multiplying h = absurd (cc)

pub self_logical : (k : Class) → logical k ≡ true → same_class k k ≡ true
self_logical And h = refl
self_logical Or h = refl
self_logical Xor h = refl
self_logical Relational h = absurd (cc)
self_logical Adding h = absurd (cc)
self_logical Multiplying h = absurd (cc)

pub rank_tight : (k : Class) → logical k ≡ false → 1 ≤ rank k
rank_tight And h = absurd (cc)
rank_tight Or h = absurd (cc)
rank_tight Xor h = absurd (cc)
rank_tight Relational h = omega arith
rank_tight Adding h = omega arith
rank_tight Multiplying h = omega arith

pub relational_by : (c : Class) → is_relational_class c ≡ true → c ≡ Relational
relational_by Relational h = refl
relational_by And h = absurd (cc)
relational_by Or h = absurd (cc)
relational_by Xor h = absurd (cc)
relational_by Adding h = absurd (cc)
relational_by Multiplying h = absurd (cc)

pub rank_not_relational : (c : Class) → is_relational_class c ≡ false → 1 ≤ rank c → 2 ≤ rank c
rank_not_relational And h k = absurd (omega (arith, k))
rank_not_relational Or h k = absurd (omega (arith, k))
rank_not_relational Xor h k = absurd (omega (arith, k))
rank_not_relational Relational h k = absurd (cc)
rank_not_relational Adding h k = omega arith
rank_not_relational Multiplying h k = omega arith
