-- Repetitions, one turn after another.
use Rattle.std.proofs.Common.{◌≡◌, ℕ, zero, suc, ◌<◌, Bool, true, false, cond, List, [], ◌∷◌, ◌++◌, length, Option, Ok, Err, refl, sym, ap, ◌∙◌}
use Rattle.std.proofs.Common.{arith, append_assoc, append-nil}
use Rattle.grammar.specs.Reading.{Halt, Read, first, ◌>>=◌, pure_at, many_at, from_at}
use Rattle.seq_tree.specs.declared.token.Token.{Token}
use Rattle.seq_read.proofs.Shared.Takes.{Takes}

-- as many as there are, behind those that are read already, and what follows
unfoldable pub onward : {T A B : Type 0} → (Option T → Bool) → (List T → Read T A) → (List A → List T → Read T B) → List A → List T → Read T B
onward test r follow front ts = many_at test r ts >>= λ y. follow (front ++ y.0) y.1

module _ {T A : Type 0} (test : Option T → Bool) (r : List T → Read T A) (one : Takes 1 r) where
  abbrev turns : ℕ → List T → Read T (List A)
  turns n ts = from_at (λ (s : Unit {0}). test) (λ s a. s) (λ s. r) n tt ts

  abbrev Same : ℕ → ℕ → Type 0
  Same n m = (ts : List T) → length ts < n → length ts < m → turns n ts ≡ turns m ts

  same_step : (n m : ℕ) → Same n m → (ts : List T) → length ts < suc n → length ts < suc m → (q : Read T A) → r ts ≡ q →
      (q >>= λ x. turns n x.1 >>= λ y. Ok (x.0 ∷ y.0, y.1)) ≡ (q >>= λ x. turns m x.1 >>= λ y. Ok (x.0 ∷ y.0, y.1))
  same_step n m same ts h k (Err halt) e = refl
  same_step n m same ts h k (Ok x) e =
      let fewer = one.fewer ts x.0 x.1 e in
      ap (λ p. p >>= λ y. Ok (x.0 ∷ y.0, y.1)) (same x.1 (omega (arith, fewer, h)) (omega (arith, fewer, k)))

  -- turns that are enough find the same
  same_turns : (n m : ℕ) → Same n m
  same_turns zero m ts h k = absurd (omega arith)
  same_turns (suc n) zero ts h k = absurd (omega arith)
  same_turns (suc n) (suc m) ts h k = ap (λ q. cond (test (first ts)) q (Ok ([], ts))) (same_step n m (same_turns n m) ts h k (r ts) refl)

  many_turn : (ts : List T) (x : A) (rest : List T) → test (first ts) ≡ true → r ts ≡ Ok (x, rest)
      → many_at test r ts ≡ (many_at test r rest >>= λ y. Ok (x ∷ y.0, y.1))
  many_turn ts x rest t e =
      rw (t, e) (ap (λ p. p >>= λ y. Ok (x ∷ y.0, y.1)) (same_turns (length ts) (suc (length rest)) rest (omega (arith, one.fewer ts x rest e))
      (omega arith)))

regroup : {T A B : Type 0} (follow : List A → List T → Read T B) (front : List A) (x : A) (q : Read T (List A)) →
    ((q >>= λ y. Ok (x ∷ y.0, y.1)) >>= λ y. follow (front ++ y.0) y.1) ≡ (q >>= λ y. follow ((front ++ x ∷ []) ++ y.0) y.1)
regroup follow front x (Ok y) = ap (λ ys. follow ys y.1) (sym (append_assoc front (x ∷ []) y.0))
regroup follow front x (Err halt) = refl

pub onward-turn : {T A B : Type 0} (test : Option T → Bool) (r : List T → Read T A) (follow : List A → List T
    → Read T B) (front : List A) (ts : List T) (x : A) (rest : List T) →
    Takes 1 r → test (first ts) ≡ true → r ts ≡ Ok (x, rest) → onward test r follow (front ++ x ∷ []) rest ≡ onward test r follow front ts
unfolding onward
onward-turn test r follow front ts x rest one t e =
    sym (ap (λ q. q >>= λ y. follow (front ++ y.0) y.1) (many_turn test r one ts x rest t e) ∙ regroup follow front x (many_at test r rest))

pub onward-fails : {T A B : Type 0} (test : Option T → Bool) (r : List T → Read T A) (follow : List A → List T
    → Read T B) (front : List A) (ts : List T) (halt : Halt) →
    test (first ts) ≡ true → r ts ≡ Err halt → onward test r follow front ts ≡ Err halt
unfolding onward
onward-fails test r follow front ts halt t e = rw (t, e) refl

pub onward-ends : {T A B : Type 0} (test : Option T → Bool) (r : List T → Read T A) (follow : List A → List T
    → Read T B) (front : List A) (ts : List T) →
    test (first ts) ≡ false → onward test r follow front ts ≡ follow front ts
unfolding onward
onward-ends test r follow front ts t = rw (t, append-nil) refl

-- what is read, behind items that were read before
unfoldable pub with_front : {T A : Type 0} → List A → Read T (List A) → Read T (List A)
with_front front q = q >>= λ y. Ok (front ++ y.0, y.1)

pub front-none : {T A : Type 0} (q : Read T (List A)) → with_front [] q ≡ q
unfolding with_front
front-none (Ok y) = refl
front-none (Err halt) = refl

-- one item more in front of what is read
pub front-more : {T A : Type 0} (front : List A) (x : A) (q : Read T (List A)) → with_front front (q >>= λ y. Ok (x ∷ y.0, y.1))
    ≡ with_front (front ++ x ∷ []) q
unfolding with_front
front-more = regroup pure_at

pub front-turn : {T A : Type 0} (test : Option T → Bool) (r : List T → Read T A) → Takes 1 r → (front : List A) (ts : List T) (x : A) (rest : List T)
    → test (first ts) ≡ true → r ts ≡ Ok (x, rest) → with_front (front ++ x ∷ []) (many_at test r rest) ≡ with_front front (many_at test r ts)
unfolding with_front onward
front-turn test r one front ts x rest t e = onward-turn test r pure_at front ts x rest one t e

pub front-fails : {T A : Type 0} (test : Option T → Bool) (r : List T → Read T A) (front : List A) (ts : List T) (halt : Halt)
    → test (first ts) ≡ true → r ts ≡ Err halt → with_front front (many_at test r ts) ≡ Err halt
unfolding with_front onward
front-fails test r = onward-fails test r pure_at

pub front-ends : {T A : Type 0} (test : Option T → Bool) (r : List T → Read T A) (front : List A) (ts : List T)
    → test (first ts) ≡ false → with_front front (many_at test r ts) ≡ Ok (front, ts)
unfolding with_front onward
front-ends test r = onward-ends test r pure_at

-- each turn takes a token
pub turn-shorter : {A : Type 0} (r : List Token → Read Token A) (ts us : List Token) (a : A) → Takes 1 r → r ts ≡ Ok (a, us) → length us < length ts
turn-shorter r ts us a one e = omega (arith, one.fewer ts a us e)

pub ruleset turns_on = (onward-turn, onward-fails, onward-ends, turn-shorter)
