-- The place at which the reader of arrivals stops is the first with which no text of arrivals goes on.
use Rattle.std.proofs.Common.{◌≡◌, ℕ, zero, suc, ◌-◌, ◌<◌, ◌≤◌, Bool, true, false, nat_le, List, [], ◌∷◌, ◌++◌, length, take, Ok, Err, refl, sym}
use Rattle.std.proofs.Common.{ap, ◌∙◌, arith, append_assoc, length-append}
use Rattle.std.proofs.lemmas.Bool.{leb-true, leb-false}
use Rattle.std.proofs.lemmas.List.{length-map}
use Rattle.grammar.specs.Reading.{Syntax, IsFirstFault, whole_at}
use Rattle.grammar.proofs.Shared.Whole.{whole-found, whole-only, whole-fault}
use Rattle.seq_tree.specs.Limits.{text_limit}
use Rattle.seq_tree.specs.Reach.{IsReach, IsSyntaxFault}
use Rattle.seq_tree.specs.Reach as reach
use Rattle.seq_tree.specs.Lexis.{tokens}
use Rattle.seq_tree.specs.declared.token.Token.{Token}
use Rattle.seq_tree.specs.declared.token.Place.{Place}
use Rattle.seq_tree.specs.declared.token.Spanned.{Spanned}
use Rattle.token_read.specs.Words.{bare}
use Rattle.seq_read.specs.Places.{place_at}
use Rattle.seq_read.specs.TextFaults.{IsFaultyAt}
use Rattle.arrivals_tree.specs.ArrivalTexts.{ArrivalText, arrival_tokens}
use Rattle.arrivals_read.specs.Answers.{AnyArrivals}
use Rattle.arrivals_read.specs.Readers.{arrivals_at}
use Rattle.arrivals_read.proofs.ReaderLaws.{IsArrivals, AtEnd, reads-arrivals}

-- WHAT IS READ
pub arrivals-found : (ts : List Token) (t : ArrivalText) → whole_at arrivals_at ts ≡ Ok t → ts ≡ arrival_tokens t
arrivals-found ts t e = whole-found IsArrivals AtEnd arrivals_at reads-arrivals (λ _. refl) ts t e

pub arrivals-only : (ts : List Token) (t : ArrivalText) → ts ≡ arrival_tokens t → whole_at arrivals_at ts ≡ Ok t
arrivals-only ts t e = whole-only IsArrivals AtEnd arrivals_at reads-arrivals (λ _. refl) ts t e

-- tokens are those of one text
pub one-tree : (ts : List Token) (t u : ArrivalText) → ts ≡ arrival_tokens t → ts ≡ arrival_tokens u → t ≡ u
one-tree ts t u e h = let same : Ok t ≡ Ok u = sym (arrivals-only ts t e) ∙ arrivals-only ts u h in cc

-- WHERE IT STOPS
-- more than a front takes a token behind it
record Past (front back : List Token) (n : ℕ) : Type 0 where
  pub token : Token
  pub more : List Token
  pub after : List Token
  pub at : back ≡ token ∷ more
  pub taken : take n (front ++ back) ≡ front ++ token ∷ after

past : (front back : List Token) (n : ℕ) → length front < n → n ≤ length (front ++ back) → Past front back n
past [] [] n h k = absurd (omega (arith, h, k))
past [] (t ∷ us) zero h k = absurd (omega (arith, h))
past [] (t ∷ us) (suc n) h k = record { token = t; more = us; after = take n us; at = refl; taken = refl }
past (u ∷ us) back zero h k = absurd (omega (arith, h))
past (u ∷ us) back (suc n) h k =
    let p = past us back n (omega (arith, h)) (omega (arith, k)) in
    record { token = p.token; more = p.more; after = p.after; at = p.at; taken = ap (λ vs. u ∷ vs) p.taken }

take_front : (front back : List Token) → take (length front) (front ++ back) ≡ front
take_front [] back = refl
take_front (x ∷ xs) back = ap (λ us. x ∷ us) (take_front xs back)

not_over : (m n : ℕ) → (n < m → ⊥) → m ≤ n
not_over m n h = by (nat_le m n) refl where
  by : (b : Bool) → nat_le m n ≡ b → m ≤ n
  by true e = leb-true m n e
  by false e = absurd (h (leb-false m n e))

-- what is taken, with more behind it
joined : (ts front back : List Token) (n : ℕ) (t : Token) (after more whole : List Token) → ts ≡ front ++ back
    → take n (front ++ back) ≡ front ++ t ∷ after → take n ts ++ more ≡ whole →
    front ++ t ∷ (after ++ more) ≡ whole
joined ts front back n t after more whole split taken h
    = sym (ap (λ vs. vs ++ more) (ap (take n) split ∙ taken) ∙ append_assoc front (t ∷ after) more) ∙ h

reach_of : (ts : List Token) (left : ℕ) → IsFirstFault IsArrivals ts left → IsReach AnyArrivals ts (length ts - left)
reach_of ts left f =
    let here : length ts - left ≡ length f.front = omega (arith, ap length f.split, length-append f.front f.back, f.place) in
    let cut : take (length ts - left) ts ≡ f.front = rw (here, f.split) (take_front f.front f.back) in
    record {
      within = omega arith;
      begins = (f.tail, (f.last, rw cut f.begins));
      greatest = λ n within b.
          not_over n (length ts - left) (λ over.
          let p = past f.front f.back n (omega (arith, here, over)) (omega (arith, ap length f.split, within)) in
          f.ends p.token p.more (p.after ++ b.0) b.1.0 p.at (joined ts f.front f.back n p.token p.after b.0
          (arrival_tokens b.1.0) f.split p.taken b.1.1));
    }

fault_of_tokens : (ts : List Token) (left : ℕ) → whole_at arrivals_at ts ≡ Err (Syntax left)
    → IsSyntaxFault AnyArrivals AnyArrivals ts (length ts - left)
fault_of_tokens ts left e =
    let f = whole-fault IsArrivals AtEnd arrivals_at reads-arrivals (λ _. refl) ts (Syntax left) e in
    record { reach = reach_of ts left f; limited = reach_of ts left f; none = λ t. f.no_text t.0 t.1 }

pub arrivals-faulty : (bytes : List ℕ) (ts : List Spanned) (left : ℕ) (place : Place) → length bytes ≤ text_limit → tokens bytes ≡ Ok ts
    → whole_at arrivals_at (bare ts) ≡ Err (Syntax left) → place ≡ place_at bytes ts left →
    IsFaultyAt AnyArrivals AnyArrivals text_limit bytes place reach.Syntax
arrivals-faulty bytes ts left place short read e here =
    let f = whole-fault IsArrivals AtEnd arrivals_at reads-arrivals (λ _. refl) (bare ts) (Syntax left) e in
    let same : left ≡ length ts - (length (bare ts) - left)
    = omega (arith, ap length f.split, length-append f.front f.back, f.place, length-map ts (λ (s : Spanned). s.token)) in
    record {
      short = short;
      found = ts;
      read = read;
      index = length (bare ts) - left;
      fault = fault_of_tokens (bare ts) left e;
      here = here ∙ ap (place_at bytes ts) same;
    }
