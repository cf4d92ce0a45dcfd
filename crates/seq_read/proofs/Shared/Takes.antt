-- How many tokens the readers take at least, one form after another.
use Rattle.std.proofs.Common.{◌≡◌, ℕ, zero, suc, ◌+◌, ◌<◌, ◌≤◌, Bool, true, false, cond, List, [], ◌∷◌, length, Option, Some, None, Ok, ap, arith}
use Rattle.std.proofs.Common.{length-append}
use Rattle.grammar.specs.Reading.{Read, first, then_at, pure_at, choose_at, pick_at, many_at, from_at, deep_at, token_at, taken, Reads}
use Rattle.grammar.proofs.Shared.Laws.{bind_ok, ok_parts}

-- where a reader reads something, it takes so many tokens at least
pub record Takes {T A : Type 0} (k : ℕ) (r : List T → Read T A) : Type 0 where
  pub fewer : (ts : List T) (a : A) (rest : List T) → r ts ≡ Ok (a, rest) → length rest + k ≤ length ts

pub takes-any : {T A : Type 0} (k : ℕ) {r : List T → Read T A} → Takes k r → Takes 0 r
takes-any k one = record { fewer = λ ts a rest e. omega (arith, one.fewer ts a rest e) }

-- a reader of texts that have tokens
pub takes-read : {T A : Type 0} {G : A → List T → Type 0} {Stops : A → Option T → Type 0} {r : List T → Read T A} → Reads G Stops r
    → ((a : A) (text : List T) → G a text → 0 < length text) → Takes 1 r
takes-read one grows = record {
  fewer = λ ts a rest e.
      let f = one.sound ts a rest e in omega (arith, ap length f.split, length-append f.text rest, grows a f.text f.spelled);
}

pub takes-token : {T A : Type 0} (sees : T → Option A) → Takes 1 (token_at sees)
takes-token {T} {A} sees = record { fewer = fewer } where
  seen : (o : Option A) (us : List T) (a : A) (rest : List T) → taken o us ≡ Ok (a, rest) → length rest + 1 ≤ suc (length us)
  seen None us a rest e = absurd (cc)
  seen (Some b) us a rest e = omega (arith, ap length (ok_parts e).1)

  fewer : (ts : List T) (a : A) (rest : List T) → token_at sees ts ≡ Ok (a, rest) → length rest + 1 ≤ length ts
  fewer [] a rest e = absurd (cc)
  fewer (t ∷ us) a rest e = seen (sees t) us a rest e

pub takes-pure : {T A : Type 0} (a : A) → Takes {T = T} 0 (pure_at a)
takes-pure {T} {A} a = record { fewer = λ ts b rest e. omega (arith, ap length (ok_parts e).1) }

pub takes-deep : {T A : Type 0} (k : ℕ) → Takes {T = T} {A = A} k deep_at
takes-deep {T} {A} k = record { fewer = λ ts a rest e. absurd (cc) }

pub takes-then : {T A B : Type 0} {k : ℕ} {r : List T → Read T A} {f : A → List T → Read T B} → Takes k r → ((a : A) → Takes 0 (f a))
    → Takes k (then_at r f)
takes-then {r = r} {f = f} one two = record {
  fewer = λ ts b rest e.
      let both = bind_ok (r ts) (λ x. f x.0 x.1) (b, rest) e in
      omega (arith, one.fewer ts both.x.0 both.x.1 both.one, (two both.x.0).fewer both.x.1 b rest both.two);
}

pub takes-choose : {T A : Type 0} {k : ℕ} (test : Option T → Bool) {r s : List T → Read T A} → Takes k r → Takes k s → Takes k (choose_at test r s)
takes-choose {T} {A} {k} test {r} {s} one two = record { fewer = λ ts. fewer ts (test (first ts)) } where
  fewer : (ts : List T) (b : Bool) (a : A) (rest : List T) → cond b (r ts) (s ts) ≡ Ok (a, rest) → length rest + k ≤ length ts
  fewer ts true a rest e = one.fewer ts a rest e
  fewer ts false a rest e = two.fewer ts a rest e

pub takes-pick : {K T A : Type 0} {k : ℕ} (kind : Option T → K) {r : K → List T → Read T A} → ((x : K) → Takes k (r x)) → Takes k (pick_at kind r)
takes-pick kind one = record { fewer = λ ts. (one (kind (first ts))).fewer ts }

module _ {T A : Type 0} (test : Option T → Bool) (r : List T → Read T A) (one : Takes 0 r) where
  turns : (n : ℕ) → Takes 0 (from_at (λ (s : Unit {0}). test) (λ s a. s) (λ s. r) n tt)
  turns zero = takes-pure []
  turns (suc n) = takes-choose test (takes-then one (λ a. takes-then (turns n) (λ xs. takes-pure (a ∷ xs)))) (takes-pure [])

  pub takes-many : Takes 0 (many_at test r)
  takes-many = record { fewer = λ ts. (turns (suc (length ts))).fewer ts }
