-- Texts that are added one after another, and fronts of them.
use Rattle.std.proofs.Common.{◌≡◌, ℕ, ◌+◌, ◌≤◌, List, ◌++◌, length, take, drop, min, Result, Ok, Err, ap, sym, ◌∙◌, append_assoc, arith, ◌-◌}
use Rattle.std.proofs.lemmas.List.{append-nil, length-append, take-append-drop, take-append-le, take_at, take_min}
use Rattle.std.proofs.lemmas.Result.{IfOk-from_err}
use Rattle.std.proofs.Math.Seq.{take-append-add}
use Rattle.std.specs.Result.{IsErr}
use Rattle.seq_tree.specs.declared.memory.NoMemory.{NoMemory}
use Rattle.seq_print.specs.Printing.{Adds, AddsFront, Prints, Writes}

-- nothing is a front
pub front-none : (before after text : List ℕ) → after ≡ before → AddsFront before after text
front-none before after text e = (0, e ∙ sym (append-nil before))

-- a text, and then a front of another
pub front-then : (before middle after first next : List ℕ) → middle ≡ before ++ first → AddsFront middle after next
    → AddsFront before after (first ++ next)
front-then before middle after first next e (n, a) = (
  length first + n,
  a ∙ ap (λ t. t ++ take n next) e ∙ append_assoc before first (take n next) ∙ ap (λ t. before
      ++ t) (sym (take-append-add first next n)),
)

-- a front of a text is one of a longer text
pub front-longer : (before after first next : List ℕ) → AddsFront before after first → AddsFront before after (first ++ next)
front-longer before after first next (n, a) =
    let short : min n (length first) ≤ length first = grind arith in
    (min n (length first), a ∙ ap (λ t. before ++ t) (sym (take_min n first) ∙ sym (take-append-le (min n (length first)) first next short)))

-- a front of the same text in other words
pub front-same : (before after text other : List ℕ) → text ≡ other → AddsFront before after text → AddsFront before after other
front-same before after text other e (n, a) = (n, a ∙ ap (λ t. before ++ take n t) e)

-- for want of memory a front is enough
pub adds-front : (r : Result (Unit {0}) NoMemory) (before after text : List ℕ) → IsErr r → AddsFront before after text → Adds r before after text
adds-front (Ok done) before after text h a = absurd (IfOk-from_err {T = Unit {0}} {E = NoMemory} (Ok done) (λ v. ⊥) h)
adds-front (Err fault) before after text h a = a

-- a text, and then another
pub adds-then : (r : Result (Unit {0}) NoMemory) (before middle after first next : List ℕ) → middle ≡ before ++ first → Adds r middle after next
    → Adds r before after (first ++ next)
adds-then (Ok done) before middle after first next e a = a ∙ ap (λ t. t ++ next) e ∙ append_assoc before first next
adds-then (Err fault) before middle after first next e a = front-then before middle after first next e a

-- the same text in other words
pub adds-same : (r : Result (Unit {0}) NoMemory) (before after text other : List ℕ) → text ≡ other → Adds r before after text
    → Adds r before after other
adds-same (Ok done) before after text other e a = a ∙ ap (λ t. before ++ t) e
adds-same (Err fault) before after text other e a = front-same before after text other e a

-- a text at the end of others
pub adds-printed : (r : Result (Unit {0}) NoMemory) (before after text : List ℕ) → Prints r before after text → Adds r before after text
adds-printed (Ok done) before after text e = e
adds-printed (Err fault) before after text e = front-none before after text e

-- what begins a text behind others, and is as long as they are at least, is they and a front of the text
pub front-of : (start after rest text : List ℕ) → length start ≤ length after → after ++ rest ≡ start ++ text → AddsFront start after text
front-of start after rest text h e =
    let k : ℕ = length after - length start in
    let whole : length start + k ≡ length after = omega (arith, h) in
    let front : take (length start + k) (after ++ rest) ≡ after = take_at after rest (length start + k) (sym whole) in
    (k, sym front ∙ ap (take (length start + k)) e ∙ take-append-add start text k)

-- a front of the next text, where others were added before it
pub front-onward : (start before after first next text : List ℕ) → length start ≤ length before → before ++ (first ++ next) ≡ start ++ text
    → AddsFront before after first → AddsFront start after text
front-onward start before after first next text h e (n, a) =
    let more : length before ≤ length after = omega (arith, ap length a ∙ length-append before (take n first)) in
    let split : after ++ (drop n first ++ next) ≡ before ++ (first ++ next) =
    ap (λ t. t ++ (drop n first ++ next)) a ∙ append_assoc before (take n first) (drop n first ++ next) ∙ ap (λ t. before ++ t)
    (sym (append_assoc (take n first) (drop n first) next) ∙ ap (λ t. t ++ next) (take-append-drop n first)) in
    front-of start after (drop n first ++ next) text (omega (arith, h, more)) (split ∙ e)

-- a text that is written, and then another
pub writes-then : (r : Result (Unit {0}) NoMemory) (before middle after first next : List ℕ) → middle ≡ before ++ first → Writes r middle after next
    → Writes r before after (first ++ next)
writes-then (Ok done) before middle after first next e w = w ∙ ap (λ t. t ++ next) e ∙ append_assoc before first next
writes-then (Err fault) before middle after first next e w = tt

-- the same text in other words
pub writes-same : (r : Result (Unit {0}) NoMemory) (before after text other : List ℕ) → text ≡ other → Writes r before after text
    → Writes r before after other
writes-same (Ok done) before after text other e w = w ∙ ap (λ t. before ++ t) e
writes-same (Err fault) before after text other e w = tt

-- a text at the end of others
pub writes-printed : (r : Result (Unit {0}) NoMemory) (before after text : List ℕ) → Prints r before after text → Writes r before after text
writes-printed (Ok done) before after text e = e
writes-printed (Err fault) before after text e = tt

pub writes-added : (r : Result (Unit {0}) NoMemory) (before after text : List ℕ) → Adds r before after text → Writes r before after text
writes-added (Ok done) before after text e = e
writes-added (Err fault) before after text e = tt

-- two texts more, where a whole is they and a rest
pub two-more : (before one two first second rest whole text : List ℕ) → one ≡ before ++ first → two ≡ one ++ second
    → whole ≡ first ++ (second ++ rest) → before ++ whole ≡ text → two ++ rest ≡ text
two-more before one two first second rest whole text e f w all =
    ap (λ t. t ++ rest) (f ∙ ap (λ t. t ++ second) e) ∙ append_assoc (before ++ first) second rest ∙ append_assoc before first (second ++ rest) ∙ ap
    (λ t. before ++ t) (sym w) ∙ all

pub ruleset writing = (writes-then, writes-printed, writes-added)

pub ruleset adding = (adds-front, adds-then, adds-printed, front-none, front-then, front-longer)
