-- Readers with limits against the same readers with wider ones.
use Rattle.std.proofs.Common.{◌≡◌, ℕ, zero, suc, ◌<◌, ◌≤◌, Bool, true, false, cond, List, [], ◌∷◌, length, Option, None, Some, Ok, Err, refl}
use Rattle.std.proofs.Common.{sym, ap, subst, arith}
use Rattle.grammar.specs.Reading.{Syntax, TooDeep, Read, first, ◌>>=◌, then_at, pure_at, choose_at, pick_at, from_at, all_from, many_at, each_at}
use Rattle.grammar.specs.Reading.{deep_at, token_at, taken, GoesOn, IsWithin, Beyond, Widens}
use Rattle.grammar.proofs.Shared.Laws.{ok_parts}

-- fewer tokens want no wider limits
pub widens-fewer : {T A : Type 0} {r s : List T → Read T A} (n m : ℕ) → m ≤ n → Widens n r s → Widens m r s
widens-fewer n m h w = λ ts. record {
  ok = (w ts).ok;
  syntax = (w ts).syntax;
  deep = (w ts).deep;
  within = (w ts).within;
  enough = λ left short e. (w ts).enough left (omega (arith, short, h)) e;
}

-- TOKENS, which have no limits
pub widens-token : {T A : Type 0} (n : ℕ) (sees : T → Option A) → Widens n (token_at sees) (token_at sees)
widens-token {T} {A} n sees [] = record {
  ok = λ x e. e;
  syntax = λ left e. e;
  deep = λ left e. absurd (cc);
  within = omega arith;
  enough = λ left short e. cc;
}
widens-token {T} {A} n sees (t ∷ us) = of (sees t) where
  of : (o : Option A) → Beyond n (suc (length us)) (taken o us) (taken o us)
  of None = record { ok = λ x e. e; syntax = λ left e. e; deep = λ left e. absurd (cc); within = omega arith; enough = λ left short e. cc }
  of (Some a) = record { ok = λ x e. e; syntax = λ left e. e; deep = λ left e. absurd (cc); within = omega arith; enough = λ left short e. cc }

pub widens-pure : {T A : Type 0} (n : ℕ) (a : A) → Widens {T = T} n (pure_at a) (pure_at a)
widens-pure {T} {A} n a ts = record {
  ok = λ x e. e;
  syntax = λ left e. e;
  deep = λ left e. absurd (let no : Ok (a, ts) ≡ Err (TooDeep left) = e
      in cc);
  within = omega arith;
  enough = λ left short e. let no : Ok (a, ts) ≡ Err (TooDeep left) = e in cc;
}

-- ONE AFTER ANOTHER
-- what goes on after less was left
goes_less : {T A : Type 0} (m n : ℕ) (q : Read T A) → m < n → IsWithin m q → GoesOn n q
goes_less m n (Ok x) h w = omega (arith, h, w)
goes_less m n (Err halt) h w = omega (arith, h, w)

within_less : {T A : Type 0} (m n : ℕ) (q : Read T A) → m ≤ n → IsWithin m q → IsWithin n q
within_less m n (Ok x) h w = omega (arith, h, w)
within_less m n (Err halt) h w = omega (arith, h, w)

module _ {T A B : Type 0} (n m most : ℕ) (F G : A × List T → Read T B) (two : (x : A × List T) → Beyond m (length x.1) (F x) (G x)) where
  bind_deep : (left : ℕ) (p : Read T A) → GoesOn left p → GoesOn left (p >>= G)
  bind_deep left (Ok x) h = goes_less (length x.1) left (G x) h (two x).within
  bind_deep left (Err halt) h = h

  bind_within : (p : Read T A) → IsWithin most p → IsWithin most (p >>= G)
  bind_within (Ok x) h = within_less (length x.1) most (G x) h (two x).within
  bind_within (Err halt) h = h

  bind_enough : (p : Read T A) → ((left : ℕ) → most < n → p ≡ Err (TooDeep left) → ⊥) → ((x : A × List T) → p ≡ Ok x → most < n → length x.1 < m)
      → (left : ℕ) → most < n → (p >>= G) ≡ Err (TooDeep left) → ⊥
  bind_enough (Ok x) full fewer left short e = (two x).enough left (fewer x refl short) e
  bind_enough (Err halt) full fewer left short e = full left short (let h : Err halt ≡ Err (TooDeep left) = e
      in ap Err (let same : halt ≡ TooDeep left = cc in same))

  bind_on : (q p : Read T A) → Beyond n most q p → ((x : A × List T) → p ≡ Ok x → most < n → length x.1 < m) → Beyond n most (q >>= F) (p >>= G)
  bind_on (Ok x) p b fewer =
      let here = b.ok x refl in
      record {
        ok = λ y e. rw here ((two x).ok y e);
        syntax = λ left e. rw here ((two x).syntax left e);
        deep = λ left e. rw here ((two x).deep left e);
        within = bind_within p b.within;
        enough = bind_enough p b.enough fewer;
      }
  bind_on (Err (Syntax l)) p b fewer =
      let here = b.syntax l refl in
      record {
        ok = λ y e. absurd (cc);
        syntax = λ left e. rw here (ap Err (let h : Err (Syntax l) ≡ Err (Syntax left) = e in let same : Syntax l ≡ Syntax left = cc in same));
        deep = λ left e. absurd (cc);
        within = bind_within p b.within;
        enough = bind_enough p b.enough fewer;
      }
  bind_on (Err (TooDeep l)) p b fewer = record {
    ok = λ y e. absurd (cc);
    syntax = λ left e. absurd (cc);
    deep = λ left e. bind_deep left p (b.deep left (let h : Err (TooDeep l) ≡ Err (TooDeep left) = e
        in ap Err (let same : TooDeep l ≡ TooDeep left = cc in same)));
    within = bind_within p b.within;
    enough = bind_enough p b.enough fewer;
  }

within_rest : {T A : Type 0} (k : ℕ) (q : Read T A) (x : A × List T) → q ≡ Ok x → IsWithin k q → length x.1 ≤ k
within_rest {T} {A} k q x e h = let P : Read T A → Type 0 = λ p. IsWithin k p in subst P e h

pub widens-then : {T A B : Type 0} {n : ℕ} {r s : List T → Read T A} {f g : A → List T → Read T B} → Widens n r s → ((a : A) → Widens n (f a) (g a))
    → Widens n (then_at r f) (then_at s g)
widens-then {n = n} {r = r} {s = s} {f = f} {g = g} one two ts =
    bind_on n n (length ts) (λ x. f x.0 x.1) (λ x. g x.0 x.1) (λ x. two x.0 x.1) (r ts) (s ts) (one ts)
    (λ x e short. omega (arith, short, within_rest (length ts) (s ts) x e (one ts).within))

-- after a token there are fewer
token_rest : {T A : Type 0} (sees : T → Option A) (ts : List T) (x : A × List T) → token_at sees ts ≡ Ok x → suc (length x.1) ≡ length ts
token_rest sees [] x e = absurd (cc)
token_rest {T} {A} sees (t ∷ us) x e = of (sees t) e where
  of : (o : Option A) → taken o us ≡ Ok x → suc (length x.1) ≡ suc (length us)
  of None h = absurd (cc)
  of (Some b) h = ap (λ vs. suc (length vs)) (sym (ok_parts {a = b} {b = x.0} {us = us} {vs = x.1} h).1)

pub widens-behind : {T A B : Type 0} {n : ℕ} (sees : T → Option A) {f g : A → List T → Read T B} → ((a : A) → Widens n (f a) (g a))
    → Widens (suc n) (then_at (token_at sees) f) (then_at (token_at sees) g)
widens-behind {n = n} sees {f} {g} two ts =
    bind_on (suc n) n (length ts) (λ x. f x.0 x.1) (λ x. g x.0 x.1) (λ x. two x.0 x.1) (token_at sees ts) (token_at sees ts)
    (widens-token (suc n) sees ts)
    (λ x e short. omega (arith, short, token_rest sees ts x e))

-- a reader that takes a token goes on behind it
pub goes-behind : {T A B : Type 0} {n : ℕ} (sees : T → Option A) {f g : A → List T → Read T B} → ((a : A) → Widens n (f a) (g a))
    → (ts : List T) (x : A × List T) → token_at sees ts ≡ Ok x → GoesOn (length ts) (then_at (token_at sees) g ts)
goes-behind sees {f} {g} two ts x e =
    rw e (goes_less (length x.1) (length ts) (g x.0 x.1) (omega (arith, token_rest sees ts x e)) (two x.0 x.1).within)

-- ONE OF TWO, AND ONE OF SEVERAL
pub widens-pick : {K T A : Type 0} {n : ℕ} (kind : Option T → K) {r s : K → List T → Read T A}
    → ((k : K) (ts : List T) → kind (first ts) ≡ k → Beyond n (length ts) (r k ts) (s k ts)) → Widens n (pick_at kind r) (pick_at kind s)
widens-pick kind one ts = one (kind (first ts)) ts refl

pub widens-choose : {T A : Type 0} {n : ℕ} (test : Option T → Bool) {r s p q : List T → Read T A} → Widens n r p → Widens n s q
    → Widens n (choose_at test r s) (choose_at test p q)
widens-choose {T} {A} {n} test {r} {s} {p} {q} one two ts = of (test (first ts)) where
  of : (b : Bool) → Beyond n (length ts) (cond b (r ts) (s ts)) (cond b (p ts) (q ts))
  of true = one ts
  of false = two ts

-- where the limit is reached, against a reader that goes on
pub deep-beyond : {T A : Type 0} {n : ℕ} (ts : List T) (r p : List T → Read T A) → GoesOn (length ts) (p ts) → Beyond n (length ts) (r ts) (p ts)
    → Beyond n (length ts) (deep_at ts) (p ts)
deep-beyond {T} {A} ts r p on b = record {
  ok = λ x e. absurd (cc);
  syntax = λ left e. absurd (cc);
  deep = λ left e. let h : Err (TooDeep (length ts)) ≡ (let q : Read T A = Err (TooDeep left)
      in q) = e in let P : ℕ → Type 0 = λ k. GoesOn k (p ts) in subst P (let same : length ts ≡ left = cc in same) on;
  within = b.within;
  enough = b.enough;
}

pub widens-deep : {T A : Type 0} {n : ℕ} (test : Option T → Bool) {r s p q : List T → Read T A}
    → ((ts : List T) → test (first ts) ≡ true → GoesOn (length ts) (p ts)) → Widens n r p → Widens n s q
    → Widens n (choose_at test deep_at s) (choose_at test p q)
widens-deep {T} {A} {n} test {r} {s} {p} {q} on one two ts = of (test (first ts)) refl where
  of : (b : Bool) → test (first ts) ≡ b → Beyond n (length ts) (cond b (deep_at ts) (s ts)) (cond b (p ts) (q ts))
  of true t = deep-beyond ts r p (on ts t) (one ts)
  of false t = two ts

-- a reader that is past its limits before it begins, and one that is at them
abbrev pub past_at : {T A : Type 0} → List T → Read T A
past_at ts = Err (TooDeep (suc (length ts)))

pub widens-past : {T A : Type 0} → Widens {T = T} {A = A} 0 past_at deep_at
widens-past {T} {A} ts = record {
  ok = λ x e. absurd (cc);
  syntax = λ left e. absurd (cc);
  deep = λ left e. let h : Err (TooDeep (suc (length ts))) ≡ (let q : Read T A = Err (TooDeep left)
      in q) = e in let same : suc (length ts) ≡ left = cc in omega (arith, same);
  within = omega arith;
  enough = λ left short e. omega (arith, short);
}

-- REPETITIONS
module _ {S T A : Type 0} (k : ℕ) (test : S → Option T → Bool) (next : S → A → S) (r p : S → List T → Read T A) (one : (s : S)
    → Widens k (r s) (p s)) where
  pub widens-turns : (n : ℕ) (s : S) → Widens k (from_at test next r n s) (from_at test next p n s)
  widens-turns zero s = widens-pure k []
  widens-turns (suc n) s =
      widens-choose (test s) (widens-then (one s) (λ a. widens-then (widens-turns n (next s a)) (λ xs. widens-pure k (a ∷ xs)))) (widens-pure k [])

  pub widens-from : (s : S) → Widens k (all_from test next r s) (all_from test next p s)
  widens-from s ts = widens-turns (suc (length ts)) s ts

pub widens-many : {T A : Type 0} {k : ℕ} (test : Option T → Bool) {r p : List T → Read T A} → Widens k r p
    → Widens k (many_at test r) (many_at test p)
widens-many {k = k} test {r} {p} one = widens-from k (λ (s : Unit {0}). test) (λ s a. s) (λ s. r) (λ s. p) (λ s. one) tt

pub widens-each : {B T A : Type 0} {k : ℕ} {r p : B → List T → Read T A} → ((b : B) → Widens k (r b) (p b)) → (bs : List B)
    → Widens k (each_at r bs) (each_at p bs)
widens-each {k = k} one [] = widens-pure k []
widens-each {k = k} one (b ∷ bs) = widens-then (one b) (λ a. widens-then (widens-each one bs) (λ xs. widens-pure k (a ∷ xs)))
