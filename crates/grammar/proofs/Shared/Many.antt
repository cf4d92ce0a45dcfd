-- The law of repetitions.
use Rattle.std.proofs.Common.{◌≡◌, ◌<◌, Bool, true, false, List, [], ◌∷◌, ◌++◌, length, Option, None, Ok, Err, refl}
use Rattle.grammar.specs.Reading.{Halt, Read, first, ◌>>=◌, many_at, AreFrom, AreMany, Reads}
use Rattle.grammar.proofs.Shared.Laws.{reads-same}
use Rattle.grammar.proofs.Shared.From.{Last, reads-from, from-turn, from-fails}

module _ {T A : Type 0} (test : Option T → Bool) (G : A → List T → Type 0) (Gap : A → Option T → Type 0)
    (r : List T → Read T A) (one : Reads G Gap r)
    (starts : (a : A) (text rest : List T) → G a text → test (first (text ++ rest)) ≡ true)
    (grows : (a : A) (text : List T) → G a text → 0 < length text)
    (apart : (a : A) (o : Option T) → test o ≡ true → Gap a o)
    (ends : test None ≡ false) where
  -- where a repetition stops
  abbrev pub Stops : List A → Option T → Type 0
  Stops xs o = (test o ≡ false) × Last Gap xs o

  many_to : (xs : List A) (text : List T) → AreFrom (λ (s : Unit {0}). test) (λ s a. s) (λ s. G) tt xs text → AreMany G xs text
  many_to [] text g = g.0
  many_to (x ∷ xs) text g = (g.0, g.1, g.2, many_to xs g.1 g.3, g.4)

  many_back : (xs : List A) (text : List T) → AreMany G xs text → AreFrom (λ (s : Unit {0}). test) (λ s a. s) (λ s. G) tt xs text
  many_back [] text g = (g, ends)
  many_back (x ∷ xs) text g = (g.0, g.1, g.2, many_back xs g.1 g.3, g.4)

  pub reads-many : Reads (AreMany G) Stops (many_at test r)
  reads-many = reads-same (AreFrom (λ (s : Unit {0}). test) (λ s a. s) (λ s. G) tt) (AreMany G) Stops (many_at test r) many_to many_back
      (reads-from (λ (s : Unit {0}). test) (λ s a. s) (λ s. G) Gap (λ s. r) (λ s. one) (λ s. starts) (λ s. grows) (λ a s. apart a) (λ s o h. ends)
      (λ s. record { items = []; text = []; spelled = (refl, ends) }) tt)

  -- the repetition as an equation
  pub many-turn : (ts : List T) (x : A) (rest : List T) → test (first ts) ≡ true → r ts ≡ Ok (x, rest)
      → many_at test r ts ≡ (many_at test r rest >>= λ y. Ok (x ∷ y.0, y.1))
  many-turn = from-turn (λ (s : Unit {0}). test) (λ s a. s) (λ s. G) Gap (λ s. r) (λ s. one) (λ s. starts) (λ s. grows) (λ a s. apart a)
      (λ s o h. ends)
      (λ s. record { items = []; text = []; spelled = (refl, ends) }) tt

  pub many-fails : (ts : List T) (halt : Halt) → test (first ts) ≡ true → r ts ≡ Err halt → many_at test r ts ≡ Err halt
  many-fails = from-fails (λ (s : Unit {0}). test) (λ s a. s) (λ s. G) Gap (λ s. r) (λ s. one) (λ s. starts) (λ s. grows) (λ a s. apart a)
      (λ s o h. ends)
      (λ s. record { items = []; text = []; spelled = (refl, ends) }) tt

  pub many-ends : (ts : List T) → test (first ts) ≡ false → many_at test r ts ≡ Ok ([], ts)
  many-ends ts t = rw t refl

-- items that any token may follow
pub last_free : {T A : Type 0} (xs : List A) (o : Option T) → Last (λ a p. Unit {0}) xs o
last_free [] o = tt
last_free (x ∷ []) o = tt
last_free (x ∷ (y ∷ ys)) o = last_free (y ∷ ys) o

pub reads-items : {T A : Type 0} (test : Option T → Bool) (G : A → List T → Type 0) (r : List T → Read T A) → Reads G (λ a o. Unit {0}) r →
    ((a : A) (text rest : List T) → G a text → test (first (text ++ rest)) ≡ true) → ((a : A) (text : List T) → G a text → 0 < length text)
    → test None ≡ false →
    Reads (AreMany G) (λ xs o. test o ≡ false) (many_at test r)
reads-items test G r one starts grows ends =
    let m = reads-many test G (λ a o. Unit {0}) r one starts grows (λ a o t. tt) ends in
    record {
      sound = λ ts xs rest e. let f = m.sound ts xs rest e in record { text = f.text; spelled = f.spelled; split = f.split; stops = f.stops.0 };
      complete = λ xs text rest g stop. m.complete xs text rest g (stop, last_free xs (first rest));
      fault = m.fault;
      some = m.some;
      some_text = m.some_text;
      some_spelled = m.some_spelled;
    }
