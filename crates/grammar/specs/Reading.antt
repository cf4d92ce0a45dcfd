-- Readers over lists of tokens, and what makes a reader right for a grammar.
-- A reader takes the longest front that is a text of its grammar, or stops at the first token with which no text goes on.
use Rattle.std.specs.Prelude.{◌≡◌, ℕ, zero, suc, ◌<◌, ◌≤◌, Bool, false, List, [], ◌∷◌, ◌++◌, length, Option, Some, None, Result, Ok, Err}
use Rattle.std.specs.Prelude.{if◌then◌else◌}

-- Why a reader stopped, and how many tokens were left there.
pub data Halt : Type 0 where
  -- no text goes on with the next token
  Syntax : (left : ℕ) → Halt
  -- texts go on with it, but none within the limits
  TooDeep : (left : ℕ) → Halt

-- how many tokens were left
abbrev pub left_of : Halt → ℕ
left_of (Syntax left) = left
left_of (TooDeep left) = left

-- the same cause with so many tokens left
abbrev pub with_left : Halt → ℕ → Halt
with_left (Syntax left) n = Syntax n
with_left (TooDeep left) n = TooDeep n

-- What a reader takes from the front, with the tokens after it, or why it stopped.
abbrev pub Read : Type 0 → Type 0 → Type 0
Read T A = Result (A × List T) Halt

abbrev pub first : {T : Type 0} → List T → Option T
first [] = None
first (t ∷ ts) = Some t

infixl 10 ◌>>=◌
abbrev pub ◌>>=◌ : {T A B : Type 0} → Read T A → (A × List T → Read T B) → Read T B
(Ok x) >>= f = f x
(Err halt) >>= f = Err halt

-- one reader after another
abbrev pub then_at : {T A B : Type 0} → (List T → Read T A) → (A → List T → Read T B) → List T → Read T B
then_at r f ts = r ts >>= λ x. f x.0 x.1

-- nothing
abbrev pub pure_at : {T A : Type 0} → A → List T → Read T A
pure_at a ts = Ok (a, ts)

-- one of two, by the next token
abbrev pub choose_at : {T A : Type 0} → (Option T → Bool) → (List T → Read T A) → (List T → Read T A) → List T → Read T A
choose_at test r s ts = if test (first ts) then r ts else s ts

-- one token, by what it stands for
abbrev pub taken : {T A : Type 0} → Option A → List T → Read T A
taken None ts = Err (Syntax (suc (length ts)))
taken (Some a) ts = Ok (a, ts)

abbrev pub token_at : {T A : Type 0} → (T → Option A) → List T → Read T A
token_at sees [] = Err (Syntax 0)
token_at sees (t ∷ ts) = taken (sees t) ts

-- where a reader stops
pub record Stuck {T A : Type 0} (G : A → List T → Type 0) (r : List T → Read T A) (ts : List T) (halt : Halt) : Type 0 where
  pub front : List T
  pub back : List T
  pub split : ts ≡ front ++ back
  pub place : length back ≡ left_of halt
  -- what was taken begins some text
  pub last : A
  pub tail : List T
  pub viable : G last (front ++ tail)
  -- and with the next token it begins none, whatever follows
  pub dead : (t : T) (more after : List T) → back ≡ t ∷ more → r (front ++ t ∷ after) ≡ Err (with_left halt (suc (length after)))

-- What a reader found, and that what follows does not go on.
pub record Found {T A : Type 0} (G : A → List T → Type 0) (Stops : A → Option T → Type 0) (ts : List T) (a : A) (rest : List T) : Type 0 where
  pub text : List T
  pub spelled : G a text
  pub split : ts ≡ text ++ rest
  pub stops : Stops a (first rest)

-- The reader r reads the grammar G, up to a token by which it stops.
pub record Reads {T A : Type 0} (G : A → List T → Type 0) (Stops : A → Option T → Type 0) (r : List T → Read T A) : Type 0 where
  pub sound : (ts : List T) (a : A) (rest : List T) → r ts ≡ Ok (a, rest) → Found G Stops ts a rest
  pub complete : (a : A) (text rest : List T) → G a text → Stops a (first rest) → r (text ++ rest) ≡ Ok (a, rest)
  pub fault : (ts : List T) (halt : Halt) → r ts ≡ Err halt → Stuck G r ts halt
  pub some : A
  pub some_text : List T
  pub some_spelled : G some some_text

-- two texts, one after another
pub record Joined {T A B : Type 0} (G : A → List T → Type 0) (H : A → B → List T → Type 0) (b : B) (text : List T) : Type 0 where
  pub a : A
  pub front : List T
  pub back : List T
  pub before : G a front
  pub after : H a b back
  pub whole : text ≡ front ++ back

-- one of several, by the next token
abbrev pub pick_at : {K T A : Type 0} → (Option T → K) → (K → List T → Read T A) → List T → Read T A
pick_at kind r ts = r (kind (first ts)) ts

-- no text within the limits goes on
abbrev pub deep_at : {T A : Type 0} → List T → Read T A
deep_at ts = Err (TooDeep (length ts))

-- As many as there are, by the next token and by what was read before. Each takes a token at least, so that as many turns as there
-- are tokens are enough.
abbrev pub from_at : {S T A : Type 0} → (S → Option T → Bool) → (S → A → S) → (S → List T → Read T A) → ℕ → S → List T → Read T (List A)
from_at test next r zero s ts = Ok ([], ts)
from_at test next r (suc n) s ts =
    if test s (first ts) then (r s ts >>= λ x. from_at test next r n (next s x.0) x.1 >>= λ y. Ok (x.0 ∷ y.0, y.1))
    else Ok ([], ts)

-- texts of the items, joined, and an end where there may be one
abbrev pub AreFrom : {S T A : Type 0} → (S → Option T → Bool) → (S → A → S) → (S → A → List T → Type 0) → S → List A → List T → Type 0
AreFrom test next G s [] text = (text ≡ []) × (test s None ≡ false)
AreFrom {T = T} test next G s (a ∷ xs) text = (front : List T) × (back : List T) × G s a front × AreFrom test next G (next s a) xs back
    × (text ≡ front ++ back)

-- as many as there are from a state on
abbrev pub all_from : {S T A : Type 0} → (S → Option T → Bool) → (S → A → S) → (S → List T → Read T A) → S → List T → Read T (List A)
all_from test next r s ts = from_at test next r (suc (length ts)) s ts

-- as many as there are, by the next token alone
abbrev pub many_at : {T A : Type 0} → (Option T → Bool) → (List T → Read T A) → List T → Read T (List A)
many_at {T} {A} test r ts = all_from (λ (s : Unit {0}). test) (λ s a. s) (λ s. r) tt ts

-- one reader for each of a list, one after another
abbrev pub each_at : {B T A : Type 0} → (B → List T → Read T A) → List B → List T → Read T (List A)
each_at r [] = pure_at []
each_at r (b ∷ bs) = then_at (r b) (λ a. then_at (each_at r bs) (λ xs. pure_at (a ∷ xs)))

-- texts of one item for each of a list, joined
abbrev pub AreEach : {B T A : Type 0} → (B → A → List T → Type 0) → List B → List A → List T → Type 0
AreEach G [] [] text = text ≡ []
AreEach {T = T} G (b ∷ bs) (a ∷ xs) text = (front : List T) × (back : List T) × G b a front × AreEach G bs xs back × (text ≡ front ++ back)
AreEach G _ _ text = ⊥

-- texts of the items, joined
abbrev pub AreMany : {T A : Type 0} → (A → List T → Type 0) → List A → List T → Type 0
AreMany G [] text = text ≡ []
AreMany {T} G (a ∷ xs) text = (front : List T) × (back : List T) × G a front × AreMany G xs back × (text ≡ front ++ back)

-- The first fault: all tokens but the last `left` begin a text of the grammar, and with the next one they begin none.
pub record IsFirstFault {T A : Type 0} (G : A → List T → Type 0) (tokens : List T) (left : ℕ) : Type 0 where
  pub front : List T
  pub back : List T
  pub split : tokens ≡ front ++ back
  pub place : length back ≡ left
  pub last : A
  pub tail : List T
  pub begins : G last (front ++ tail)
  pub ends : (t : T) (more after : List T) (a : A) → back ≡ t ∷ more → G a (front ++ t ∷ after) → ⊥
  -- and they are no text themselves
  pub no_text : (a : A) → G a tokens → ⊥

-- all of the tokens
abbrev pub all_taken : {T A : Type 0} → A → List T → Result A Halt
all_taken a [] = Ok a
all_taken a (t ∷ ts) = Err (Syntax (suc (length ts)))

abbrev pub all_of : {T A : Type 0} → Read T A → Result A Halt
all_of (Ok x) = all_taken x.0 x.1
all_of (Err halt) = Err halt

abbrev pub whole_at : {T A : Type 0} → (List T → Read T A) → List T → Result A Halt
whole_at r ts = all_of (r ts)

-- a reader passed a place behind which so many tokens are left
abbrev pub GoesOn : {T A : Type 0} → ℕ → Read T A → Type 0
GoesOn left (Ok x) = length x.1 < left
GoesOn left (Err halt) = left_of halt < left

-- at most so many tokens are left
abbrev pub IsWithin : {T A : Type 0} → ℕ → Read T A → Type 0
IsWithin most (Ok x) = length x.1 ≤ most
IsWithin most (Err halt) = left_of halt ≤ most

-- The answer p of wider limits, against the answer q: what was read is read, a fault of syntax is one, and where q is at a limit p
-- goes on. It leaves no more tokens than there were, and fewer than n tokens meet no limit of it.
pub record Beyond {T A : Type 0} (n there : ℕ) (q p : Read T A) : Type 0 where
  pub ok : (x : A × List T) → q ≡ Ok x → p ≡ Ok x
  pub syntax : (left : ℕ) → q ≡ Err (Syntax left) → p ≡ Err (Syntax left)
  pub deep : (left : ℕ) → q ≡ Err (TooDeep left) → GoesOn left p
  pub within : IsWithin there p
  pub enough : (left : ℕ) → there < n → p ≡ Err (TooDeep left) → ⊥

-- the reader s has wider limits than r
abbrev pub Widens : {T A : Type 0} → ℕ → (List T → Read T A) → (List T → Read T A) → Type 0
Widens {T} n r s = (ts : List T) → Beyond n (length ts) (r ts) (s ts)
