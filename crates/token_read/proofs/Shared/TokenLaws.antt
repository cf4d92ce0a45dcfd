-- The laws of the readers of one token, and of a phrase.
use Rattle.std.proofs.Common.{◌≡◌, ℕ, Bool, true, false, cond, List, [], ◌∷◌, ◌++◌, Option, Some, None, slice_get, refl, sym, ap, subst, ◌∙◌}
use Rattle.std.proofs.lemmas.Slice.Eq.{bytes_eq-Decides}
use Rattle.std.proofs.lemmas.Bool.{eqb-true, eq-eqb}
use Rattle.grammar.specs.Reading.{Read, then_at, token_at, Reads, Joined}
use Rattle.grammar.proofs.Shared.Laws.{reads-token, IsToken, reads-same, reads-then, reads-pure}
use Rattle.seq_tree.specs.Names.{Name}
use Rattle.seq_tree.specs.declared.token.Token.{Token}
use Rattle.seq_tree.specs.declared.token.Token.TheVariants as token
use Rattle.seq_tree.specs.declared.token.Mark.{Mark}
use Rattle.seq_tree.specs.declared.token.Mark.TheVariants as mark
use Rattle.token_read.specs.Words.{number_of, same_mark, same_token}
use Rattle.token_read.specs.Readers.{sees_fixed, fixed_at, phrase_at, sees_number, number_at, sees_number_within, number_within_at}
use Rattle.seq_tree.specs.Limits.{is_within}
use Rattle.token_read.specs.Readers.{sees_name, name_at}

-- any token may follow
abbrev pub Any : {A T : Type 0} → A → Option T → Type 0
Any a o = Unit {0}

-- a reader that any token may follow, and one after it
pub andthen : {T A B : Type 0} {G : A → List T → Type 0} {H : A → B → List T → Type 0} {Stops : B → Option T → Type 0} {r : List T → Read T A} {f : A
    → List T → Read T B} →
    Reads G Any r → ((a : A) → Reads (H a) Stops (f a)) → Reads (Joined G H) Stops (then_at r f)
andthen {G = G} {H = H} {Stops = Stops} {r = r} {f = f} one two = reads-then G H Any Stops r f one two (λ a b back rest h stop. tt)

-- what a choice that gave something says
pub chosen : {A : Type 0} (b : Bool) (x y : A) → cond b (Some x) None ≡ Some y → (b ≡ true) × (x ≡ y)
chosen true x y e = (refl, cc)
chosen false x y e = absurd (cc)

all_marks : List Mark
all_marks = mark.LeftParen ∷ mark.RightParen ∷ mark.Comma ∷ mark.Semicolon ∷ mark.Colon ∷ mark.Dot ∷ mark.DotDot ∷ mark.Becomes ∷ mark.Equal
    ∷ mark.NotEqual ∷ mark.Less ∷ mark.LessEqual ∷ mark.Greater ∷ mark.GreaterEqual ∷ mark.Plus ∷ mark.Minus ∷ mark.Star ∷ mark.Slash
    ∷ mark.StarStar ∷ []

mark_at_number : (m : Mark) → slice_get all_marks (number_of m) ≡ Some m
unfolding all_marks
mark_at_number mark.LeftParen = refl
mark_at_number mark.RightParen = refl
mark_at_number mark.Comma = refl
mark_at_number mark.Semicolon = refl
mark_at_number mark.Colon = refl
mark_at_number mark.Dot = refl
mark_at_number mark.DotDot = refl
mark_at_number mark.Becomes = refl
mark_at_number mark.Equal = refl
mark_at_number mark.NotEqual = refl
mark_at_number mark.Less = refl
mark_at_number mark.LessEqual = refl
mark_at_number mark.Greater = refl
mark_at_number mark.GreaterEqual = refl
mark_at_number mark.Plus = refl
mark_at_number mark.Minus = refl
mark_at_number mark.Star = refl
mark_at_number mark.Slash = refl
mark_at_number mark.StarStar = refl

same_mark_is : (a b : Mark) → same_mark a b ≡ true → a ≡ b
same_mark_is a b e =
    let n : number_of a ≡ number_of b = eqb-true (number_of a) (number_of b) e in
    let found : Some a ≡ Some b = sym (mark_at_number a) ∙ ap (λ k. slice_get all_marks k) n ∙ mark_at_number b in
    cc

-- tokens that are told to be one are one, and a token is one with itself
pub same_is : (a b : Token) → same_token a b ≡ true → a ≡ b
same_is (token.Word a) (token.Word b) e = ap token.Word ((bytes_eq-Decides a b).0 e)
same_is (token.Sign a) (token.Sign b) e = ap token.Sign (same_mark_is a b e)
same_is (token.Number a) (token.Number b) e = ap token.Number (eqb-true a b e)
same_is (token.Word a) (token.Sign b) e = absurd (cc)
same_is (token.Word a) (token.Number b) e = absurd (cc)
same_is (token.Sign a) (token.Word b) e = absurd (cc)
same_is (token.Sign a) (token.Number b) e = absurd (cc)
same_is (token.Number a) (token.Word b) e = absurd (cc)
same_is (token.Number a) (token.Sign b) e = absurd (cc)

pub same_self : (a : Token) → same_token a a ≡ true
same_self (token.Word a) = (bytes_eq-Decides a a).1 refl
same_self (token.Sign a) = eq-eqb (number_of a) (number_of a) refl
same_self (token.Number a) = eq-eqb a a refl

sees_self : (u : Token) → sees_fixed u u ≡ Some tt
sees_self u = rw (same_self u) refl

-- this token
abbrev pub IsFixed : Token → Unit {0} → List Token → Type 0
IsFixed u a text = text ≡ u ∷ []

pub reads-fixed : (u : Token) → Reads (IsFixed u) Any (fixed_at u)
unfolding fixed_at
reads-fixed u = reads-same (IsToken (sees_fixed u)) (IsFixed u) Any (token_at (sees_fixed u))
    (λ a text g. g.whole ∙ ap (λ t. t ∷ []) (same_is g.token u (chosen (same_token g.token u) tt a g.seen).0))
    (λ a text g. record { token = u; seen = sees_self u; whole = g })
    (reads-token (sees_fixed u) tt u (sees_self u))

-- these tokens
abbrev pub IsPhrase : List Token → Unit {0} → List Token → Type 0
IsPhrase us a text = text ≡ us

pub reads-phrase : (us : List Token) → Reads (IsPhrase us) Any (phrase_at us)
reads-phrase [] = reads-same _ (IsPhrase []) Any (phrase_at []) (λ a text g. g.1) (λ a text g. (refl, g)) (reads-pure Any tt (λ _. tt))
reads-phrase (u ∷ us) = reads-same _ (IsPhrase (u ∷ us)) Any (phrase_at (u ∷ us))
    (λ a text g. rw (g.whole, g.before, g.after) refl)
    (λ a text g. record { a = tt; front = u ∷ []; back = us; before = refl; after = refl; whole = g })
    (andthen (reads-fixed u) (λ _. reads-phrase us))

-- a number
abbrev pub IsNumber : ℕ → List Token → Type 0
IsNumber n text = text ≡ token.Number n ∷ []

number_seen : (t : Token) (n : ℕ) → sees_number t ≡ Some n → t ≡ token.Number n
number_seen (token.Number m) n e = ap token.Number (let h : Some m ≡ Some n = e in cc)
number_seen (token.Sign m) n e = absurd (cc)
number_seen (token.Word m) n e = absurd (cc)

pub reads-number : Reads IsNumber Any number_at
unfolding number_at
reads-number = reads-same (IsToken sees_number) IsNumber Any (token_at sees_number)
    (λ n text g. g.whole ∙ ap (λ t. t ∷ []) (number_seen g.token n g.seen))
    (λ n text g. record { token = token.Number n; seen = refl; whole = g })
    (reads-token sees_number 0 (token.Number 0) refl)

-- a number of a range
abbrev pub IsNumberWithin : ℕ → ℕ → ℕ → List Token → Type 0
IsNumberWithin low high n text = (is_within low high n ≡ true) × (text ≡ token.Number n ∷ [])

within_seen : (low high : ℕ) (t : Token) (n : ℕ) → sees_number_within low high t ≡ Some n → (is_within low high n ≡ true) × (t ≡ token.Number n)
within_seen low high (token.Number m) n e =
    let p = chosen (is_within low high m) m n e in
    let P : ℕ → Type 0 = λ k. is_within low high k ≡ true in (subst P p.1 p.0, ap token.Number p.1)
within_seen low high (token.Sign m) n e = absurd (cc)
within_seen low high (token.Word m) n e = absurd (cc)

within_sees : (low high n : ℕ) → is_within low high n ≡ true → sees_number_within low high (token.Number n) ≡ Some n
within_sees low high n e = rw e refl

-- a range has a number of its own: what completes an open text
pub reads-number_within : (low high : ℕ) → is_within low high low ≡ true → Reads (IsNumberWithin low high) Any (number_within_at low high)
unfolding number_within_at
reads-number_within low high some = reads-same (IsToken (sees_number_within low high)) (IsNumberWithin low high) Any
    (token_at (sees_number_within low high))
    (λ n text g. let s = within_seen low high g.token n g.seen in (s.0, g.whole ∙ ap (λ t. t ∷ []) s.1))
    (λ n text g. record { token = token.Number n; seen = within_sees low high n g.0; whole = g.1 })
    (reads-token (sees_number_within low high) low (token.Number low) (within_sees low high low some))

-- a word that passes a test
abbrev pub IsName : (Name → Bool) → Name → List Token → Type 0
IsName test name text = (test name ≡ true) × (text ≡ token.Word name ∷ [])

name_seen : (test : Name → Bool) (t : Token) (n : Name) → sees_name test t ≡ Some n → (test n ≡ true) × (t ≡ token.Word n)
name_seen test (token.Word m) n e =
    let p = chosen (test m) m n e in
    let P : Name → Type 0 = λ k. test k ≡ true in (subst P p.1 p.0, ap token.Word p.1)
name_seen test (token.Sign m) n e = absurd (cc)
name_seen test (token.Number m) n e = absurd (cc)

name_sees : (test : Name → Bool) (n : Name) → test n ≡ true → sees_name test (token.Word n) ≡ Some n
name_sees test n e = rw e refl

-- some word passes the test: what completes an open text
pub reads-name : (test : Name → Bool) (some : Name) → test some ≡ true → Reads (IsName test) Any (name_at test)
unfolding name_at
reads-name test some passes = reads-same (IsToken (sees_name test)) (IsName test) Any (token_at (sees_name test))
    (λ n text g. let s = name_seen test g.token n g.seen in (s.0, g.whole ∙ ap (λ t. t ∷ []) s.1))
    (λ n text g. record { token = token.Word n; seen = name_sees test n g.0; whole = g.1 })
    (reads-token (sees_name test) some (token.Word some) (name_sees test some passes))

-- one token, or a phrase, in front of the rest of a text
pub joins-fixed : {B : Type 0} (H : Unit {0} → B → List Token → Type 0) (u : Token) (b : B) (rest : List Token) → H tt b rest
    → Joined (IsFixed u) H b (u ∷ rest)
joins-fixed H u b rest h = record { a = tt; front = u ∷ []; back = rest; before = refl; after = h; whole = refl }

pub joins-phrase : {B : Type 0} (H : Unit {0} → B → List Token → Type 0) (us : List Token) (b : B) (rest : List Token) → H tt b rest
    → Joined (IsPhrase us) H b (us ++ rest)
joins-phrase H us b rest h = record { a = tt; front = us; back = rest; before = refl; after = h; whole = refl }

pub joins-number : {B : Type 0} (H : ℕ → B → List Token → Type 0) (n : ℕ) (b : B) (rest : List Token) → H n b rest
    → Joined IsNumber H b (token.Number n ∷ rest)
joins-number H n b rest h = record { a = n; front = token.Number n ∷ []; back = rest; before = refl; after = h; whole = refl }

pub joins-number_within : {B : Type 0} (low high : ℕ) (H : ℕ → B → List Token → Type 0) (n : ℕ) (b : B) (rest : List Token) →
    is_within low high n ≡ true → H n b rest → Joined (IsNumberWithin low high) H b (token.Number n ∷ rest)
joins-number_within low high H n b rest ok h = record {
  a = n;
  front = token.Number n ∷ [];
  back = rest;
  before = (ok, refl);
  after = h;
  whole = refl;
}

pub joins-name : {B : Type 0} (test : Name → Bool) (H : Name → B → List Token → Type 0) (n : Name) (b : B) (rest : List Token) →
    test n ≡ true → H n b rest → Joined (IsName test) H b (token.Word n ∷ rest)
joins-name test H n b rest ok h = record { a = n; front = token.Word n ∷ []; back = rest; before = (ok, refl); after = h; whole = refl }
