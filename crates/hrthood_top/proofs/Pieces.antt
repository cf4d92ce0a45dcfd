-- Writing one piece after another.
use Rattle.std.proofs.Common.{◌≡◌, ℕ, ◌+◌, ◌<◌, ◌≤◌, List, [], ◌++◌, length, take, drop, get_or, Option, Bor, Result, Ok, Err, refl, sym, ap, subst}
use Rattle.std.proofs.Common.{◌∙◌, arith, append_assoc, length-append, drop-cons, add-one, append-nil}
use Rattle.std.proofs.lemmas.List.{take-append-le, drop_all}
use Rattle.std.proofs.Math.Seq.{take-append-add}
use Rattle.hood_io.specs.Sinks.{Appends, Puts}
use Rattle.hood_io.proofs.Shared.Appending.{appends-twice}
use Rattle.hrthood_top.specs.Messages.{joined}

-- a front of a text is written, and this is left of it
pub record IsWritten (a b : Option (List ℕ)) (left text : List ℕ) : Type 0 where
  pub front : List ℕ
  pub before : Appends a b front
  pub whole : front ++ left ≡ text

-- the next piece is written
pub next-written : (a b c : Option (List ℕ)) (piece left text : List ℕ) → IsWritten a b (piece ++ left) text → Appends b c piece
    → IsWritten a c left text
next-written a b c piece left text w here = record {
  front = w.front ++ piece;
  before = appends-twice a b c w.front piece w.before here;
  whole = append_assoc w.front piece left ∙ w.whole;
}

-- a piece that is written in part leaves a proper front of the text
pub part-written : (a b c : Option (List ℕ)) (piece left text : List ℕ) → IsWritten a b (piece ++ left) text →
    (n : ℕ) × (n < length piece) × Appends b c (take n piece) → (k : ℕ) × (k < length text) × Appends a c (take k text)
part-written a b c piece left text w part =
    let cut : take (length w.front + part.0) text ≡ w.front ++ take part.0 piece =
    ap (take (length w.front + part.0)) (sym w.whole) ∙ take-append-add w.front (piece ++ left) part.0
    ∙ ap (λ z. w.front ++ z) (take-append-le part.0 piece left (let short = part.1 in let le : part.0 ≤ length piece = omega arith in le)) in
    let P : List ℕ → Type 0 = λ z. Appends a c z in (
      length w.front + part.0,
      (let short = part.1 in omega (arith, ap length w.whole, length-append w.front (piece ++ left), length-append piece left)),
      subst P (sym cut) (appends-twice a b c w.front (take part.0 piece) w.before part.2),
    )

-- where nothing is left, the text is written
pub none-left : (a b : Option (List ℕ)) (text : List ℕ) → IsWritten a b [] text → Appends a b text
none-left a b text w =
    let P : List ℕ → Type 0 = λ z. Appends a b z in subst P (sym (append-nil w.front) ∙ w.whole) w.before

-- the last piece
pub last-put : {E : Type 0} (a b c : Option (List ℕ)) (piece text : List ℕ) (r : Result (Unit {0}) E) → IsWritten a b piece text
    → Puts b c piece r → Puts a c text r
last-put a b c piece text (Ok u) w puts =
    let P : List ℕ → Type 0 = λ z. Appends a c z in subst P w.whole (appends-twice a b c w.front piece w.before puts)
last-put a b c piece text (Err e) w puts =
    let I : List ℕ → Type 0 = λ z. IsWritten a b z text in part-written a b c piece [] text (subst I (sym (append-nil piece)) w) puts

-- PIECES OF A LIST

-- the pieces from one on are this one and those behind it
joined-next : (ps : List (Bor (List ℕ))) (i : ℕ) (d : Bor (List ℕ)) → i < length ps
    → joined (drop i ps) ≡ (get_or ps i d).now ++ joined (drop (i + 1) ps)
joined-next ps i d h = rw (drop-cons ps i d, add-one) refl

-- this one is next
at-piece : (a b : Option (List ℕ)) (ps : List (Bor (List ℕ))) (i : ℕ) (d : Bor (List ℕ)) → i < length ps
    → IsWritten a b (joined (drop i ps)) (joined ps) → IsWritten a b ((get_or ps i d).now ++ joined (drop (i + 1) ps)) (joined ps)
at-piece a b ps i d h w = let I : List ℕ → Type 0 = λ z. IsWritten a b z (joined ps) in subst I (joined-next ps i d h) w

-- one more piece is written
pub one_more : (a b c : Option (List ℕ)) (ps : List (Bor (List ℕ))) (i : ℕ) (d : Bor (List ℕ)) → i < length ps
    → IsWritten a b (joined (drop i ps)) (joined ps) → Appends b c (get_or ps i d).now → IsWritten a c (joined (drop (i + 1) ps)) (joined ps)
one_more a b c ps i d h w here =
    next-written a b c (get_or ps i d).now (joined (drop (i + 1) ps)) (joined ps) (at-piece a b ps i d h w) here

-- a piece that is written in part leaves a proper front of the whole
pub part_of_all : (a b c : Option (List ℕ)) (ps : List (Bor (List ℕ))) (i : ℕ) (d : Bor (List ℕ)) → i < length ps
    → IsWritten a b (joined (drop i ps)) (joined ps) → (n : ℕ) × (n < length (get_or ps i d).now) × Appends b c (take n (get_or ps i d).now)
    → (k : ℕ) × (k < length (joined ps)) × Appends a c (take k (joined ps))
part_of_all a b c ps i d h w part =
    part-written a b c (get_or ps i d).now (joined (drop (i + 1) ps)) (joined ps) (at-piece a b ps i d h w) part

-- all pieces are written
pub all_written : (a b : Option (List ℕ)) (ps : List (Bor (List ℕ))) (i : ℕ) → length ps ≤ i → IsWritten a b (joined (drop i ps)) (joined ps)
    → Appends a b (joined ps)
all_written a b ps i h w =
    let I : List (Bor (List ℕ)) → Type 0 = λ z. IsWritten a b (joined z) (joined ps) in none-left a b (joined ps) (subst I (drop_all i ps h) w)
