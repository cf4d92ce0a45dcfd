-- A chain of operators of one class is read, and grouped to the left.
use Rattle.std.proofs.Common.{◌≡◌, ℕ, zero, suc, ◌+◌, ◌<◌, true, false, List, [], ◌∷◌, ◌++◌, length, Option, Some, ◌⊎◌, inl, inr, refl, sym, ap}
use Rattle.std.proofs.Common.{subst, ◌∙◌, arith, append_assoc, append-nil, length-append}
use Rattle.std.specs.Prelude.{⊤}
use Rattle.grammar.specs.Reading.{first, pure_at, token_at, Reads, Joined}
use Rattle.grammar.proofs.Shared.Laws.{reads-token, IsToken, IsOnly, reads-pure, reads-then, reads-branch, reads-joint}
use Rattle.grammar.proofs.Shared.Limits.{reads-limit}
use Rattle.seq_tree.specs.Expressions.{Expression, Binary}
use Rattle.seq_tree.specs.Spelling.{expression_tokens, op_token}
use Rattle.seq_tree.specs.declared.tree.BinOp.{BinOp}
use Rattle.seq_tree.specs.declared.token.Token.{Token}
use Rattle.seq_read.specs.declared.operators.Class.{Class}
use Rattle.seq_read.specs.Operators.{sees_operator, begins}
use Rattle.seq_read.specs.Expressions.{ExpressionReader, chain_at}
use Rattle.seq_read.proofs.OperatorLaws.{class_of, sees, seen}

-- the right side of an expression
abbrev pub right_of : Expression → Expression
right_of (Binary op left right) = right
right_of e = e

-- whether an expression has more tokens than another
abbrev pub Longer : Expression → Expression → Type 0
Longer e f = length (expression_tokens e) < length (expression_tokens f)

-- what an expression goes on to by at most so many operators of a class
abbrev pub ExtendsBy : Class → (Expression → List Token → Type 0) → ℕ → Expression → Expression → List Token → Type 0
ExtendsBy class IsOperand zero e f text = IsOnly {T = Token} e f text
ExtendsBy class IsOperand (suc n) e f text =
    Joined (IsToken (sees_operator class)) (λ op. Joined IsOperand (λ g. ExtendsBy class IsOperand n (Binary op e g))) f text
    ⊎ IsOnly {T = Token} e f text

-- where it stops
abbrev pub StopsBy : Class → (Expression → Option Token → Type 0) → Expression → Expression → Option Token → Type 0
StopsBy class StopsOperand e f o = (begins class o ≡ false) × (Longer e f → StopsOperand (right_of f) o)

-- it begins with an operator, where it adds anything
pub record Begun (class : Class) (e f : Expression) (text : List Token) : Type 0 where
  pub token : Token
  pub op : BinOp
  pub seen : sees_operator class token ≡ Some op
  pub more : List Token
  pub whole : text ≡ token ∷ more
  pub long : Longer e f

module _ (class : Class) (operand : ExpressionReader) (IsOperand : Expression → List Token → Type 0) (StopsOperand : Expression
    → Option Token → Type 0)
    (one : Reads IsOperand StopsOperand operand)
    (some_op : BinOp) (some_is : class_of some_op ≡ class)
    (spelled : (g : Expression) (text : List Token) → IsOperand g text → text ≡ expression_tokens g)
    (apart : (g : Expression) (t : Token) (op : BinOp) → sees_operator class t ≡ Some op → StopsOperand g (Some t)) where
  abbrev Extends : ℕ → Expression → Expression → List Token → Type 0
  Extends = ExtendsBy class IsOperand

  abbrev StopsFrom : Expression → Expression → Option Token → Type 0
  StopsFrom = StopsBy class StopsOperand

  -- the tokens of one step
  step_tokens : (op : BinOp) (e g : Expression) (front text : List Token) → IsToken (sees_operator class) op front → IsOperand g text →
      front ++ text ≡ op_token op ∷ expression_tokens g
  step_tokens op e g front text h k = rw (h.whole, (sees class h.token op h.seen).token_is, spelled g text k) refl

  -- the tokens of what it goes on to
  pub tokens_on : (n : ℕ) (e f : Expression) (text : List Token) → Extends n e f text → expression_tokens f ≡ expression_tokens e ++ text
  tokens_on zero e f text h = rw (h.0, h.1) (sym (append-nil (expression_tokens e)))
  tokens_on (suc n) e f text (inr h) = rw (h.0, h.1) (sym (append-nil (expression_tokens e)))
  tokens_on (suc n) e f text (inl j) =
      let k = j.after in
      let seen_op = sees class j.before.token j.a j.before.seen in
      let on = tokens_on n (Binary j.a e k.a) f k.back k.after in
      let operand_text = spelled k.a k.front k.before in
      on ∙ append_assoc (expression_tokens e) (op_token j.a ∷ expression_tokens k.a) k.back
      ∙ ap (λ us. expression_tokens e ++ us) (sym (j.whole ∙ (rw (j.before.whole, k.whole, seen_op.token_is, operand_text) refl)))

  longer_step : (op : BinOp) (e g : Expression) → Longer e (Binary op e g)
  longer_step op e g = omega (arith, length-append (expression_tokens e) (op_token op ∷ expression_tokens g))

  longer_on : (n : ℕ) (e f : Expression) (text : List Token) → Extends n e f text
      → length (expression_tokens f) ≡ length (expression_tokens e) + length text
  longer_on n e f text h = ap length (tokens_on n e f text h) ∙ length-append (expression_tokens e) text

  longer_all : (n : ℕ) (op : BinOp) (e g f : Expression) (text : List Token) → Extends n (Binary op e g) f text → Longer e f
  longer_all n op e g f text h = omega (arith, longer_on n (Binary op e g) f text h, longer_step op e g)

  not_longer : (e f : Expression) → f ≡ e → Longer e f → ⊥
  not_longer e f same h = omega (arith, ap (λ x. length (expression_tokens x)) same, h)

  pub begun : (n : ℕ) (e f : Expression) (text : List Token) → Extends n e f text → Begun class e f text ⊎ ((f ≡ e) × (text ≡ []))
  begun zero e f text h = inr h
  begun (suc n) e f text (inr h) = inr h
  begun (suc n) e f text (inl j) =
      inl (record {
        token = j.before.token;
        op = j.a;
        seen = j.before.seen;
        more = j.back;
        whole = rw (j.whole, j.before.whole) refl;
        long = longer_all n j.a e j.after.a f j.after.back j.after.after;
      })

  follow : (n : ℕ) (e : Expression) (op : BinOp) (g f : Expression) (text back rest : List Token) → IsOperand g text
      → Extends n (Binary op e g) f back → StopsFrom e f (first rest) →
      StopsOperand g (first (back ++ rest)) × StopsFrom (Binary op e g) f (first rest)
  follow n e op g f text back rest h x stop =
      elim (begun n (Binary op e g) f back x) [
        | inl b ↦ (rw b.whole (apart g b.token b.op b.seen), (stop.0, λ long. stop.1 (longer_all n op e g f back x)))
        | inr s ↦
            let P : Expression → Type 0 = λ y. StopsOperand (right_of y) (first rest) in
            let at : StopsOperand g (first rest) = subst P s.0 (stop.1 (longer_all n op e g f back x)) in
            (rw s.1 at, (stop.0, λ long. absurd (not_longer (Binary op e g) f s.0 long)))
      ]

  both : (n : ℕ) (e : Expression) (op : BinOp) (g f : Expression) (text back rest : List Token) → IsOperand g text → Extends n (Binary op e g) f back
      → StopsOperand g (first (back ++ rest)) → StopsFrom (Binary op e g) f (first rest) →
      StopsFrom e f (first rest)
  both n e op g f text back rest h x one_stops stop =
      elim (begun n (Binary op e g) f back x) [
        | inl b ↦ (stop.0, λ long. stop.1 b.long)
        | inr s ↦
            let Q : List Token → Type 0 = λ us. StopsOperand g (first (us ++ rest)) in
            let P : Expression → Type 0 = λ y. StopsOperand (right_of y) (first rest) in
            (stop.0, λ long. subst P (sym s.0) (subst Q s.1 one_stops))
      ]

  seen_begins : (t : Token) (op : BinOp) → sees_operator class t ≡ Some op → begins class (Some t) ≡ true
  seen_begins t op e = rw e refl

  pub reads-chain : (n : ℕ) (e : Expression) → Reads (Extends n e) (StopsFrom e) (chain_at class operand n e)
  unfolding chain_at
  reads-chain zero e =
      reads-limit (begins class) (IsOnly {T = Token} e) (λ f o. ⊤) (StopsFrom e) (pure_at e) (reads-pure (λ f o. ⊤) e (λ o. tt)) refl
      (λ f text rest h stop. (rw h.1 stop.0, tt))
      (λ f text rest h t stop. (
        let P : List Token → Type 0 = λ us. begins class (first
            (us ++ rest)) ≡ false in subst P h.1 t,
        λ long. absurd (not_longer e f h.0 long),
      ))
  reads-chain (suc n) e =
      reads-branch (begins class) _ (IsOnly {T = Token} e) (StopsFrom e) (λ f o. ⊤) (StopsFrom e) _ (pure_at e)
      (reads-then (IsToken (sees_operator class)) _ (λ op o. Unit {0}) (StopsFrom e) (token_at (sees_operator class)) _
      (reads-token (sees_operator class) some_op (op_token some_op) (let P : Class → Type 0 = λ c. sees_operator c (op_token some_op) ≡ Some some_op
      in subst P some_is (seen some_op)))
      (λ op. reads-joint IsOperand (λ g. Extends n (Binary op e g)) StopsOperand (λ g f o. StopsFrom (Binary op e g) f o) (StopsFrom e) operand
      (λ g. chain_at class operand n (Binary op e g)) one
      (λ g. reads-chain n (Binary op e g)) (λ g f text back rest h x stop. follow n e op g f text back rest h x stop)
      (λ g f text back rest h x p stop. both n e op g f text back rest h x p stop))
      (λ op f back rest h stop. tt))
      (reads-pure (λ f o. ⊤) e (λ o. tt))
      (λ f text rest j stop. (rw (j.whole, j.before.whole) (seen_begins j.before.token j.a j.before.seen), stop))
      (λ f text rest h stop. (rw h.1 stop.0, tt))
      (λ f text rest j t stop. stop)
      (λ f text rest h t stop. (
        let P : List Token → Type 0 = λ us. begins class (first
            (us ++ rest)) ≡ false in subst P h.1 t,
        λ long. absurd (not_longer e f h.0 long),
      ))
