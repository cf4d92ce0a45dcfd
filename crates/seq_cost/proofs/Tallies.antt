-- The sum of ticks statement by statement, up to the first that brings it over the most.
use Rattle.std.proofs.Common.{◌≡◌, ℕ, suc, ◌+◌, ◌<◌, ◌≤◌, Option, Some, None, Result, Ok, Err, arith, refl, ap, subst, Bool, true, false}
use Rattle.std.specs.Prelude.{nat_lt}
use Rattle.seq_tree.specs.Statements.{Statement, Statements, End, Then}
use Rattle.seq_tree.specs.Dearest.{Weights, dearest, dearest_statement}
use Rattle.seq_cost.specs.Over.{front, most, within_most}

-- the statement at this place, where its sum is over the most, or what follows it
abbrev pub unless_over : Option ℕ → ℕ → (ℕ → Result ℕ ℕ) → Result ℕ ℕ
unless_over None place later = Err place
unless_over (Some spent) place later = later spent

-- the sum, or the first statement that brings it over the most, where this much was spent before this place
abbrev pub tally : Weights → ℕ → ℕ → Statements → Result ℕ ℕ
tally w place spent End = Ok spent
tally w place spent (Then first rest) = unless_over (within_most (spent + dearest_statement w first)) place (λ sum. tally w (suc place) sum rest)

-- what a tally tells
abbrev pub Told : Weights → ℕ → ℕ → Statements → Result ℕ ℕ → Type 0
Told w place spent b (Ok sum) = (sum ≡ spent + dearest w b) × (sum ≤ most)
Told w place spent b (Err at) = (k : ℕ) × (at ≡ place + k) × (spent + dearest w (front k b) ≤ most) × (most < spent + dearest w (front (suc k) b))
    × (most < spent + dearest w b)

after : (w : Weights) (place spent : ℕ) (first : Statement) (rest : Statements) (r : Result ℕ ℕ) →
    Told w (suc place) (spent + dearest_statement w first) rest r → Told w place spent (Then first rest) r
after w place spent first rest (Ok sum) (e, fits) = (grind (arith, e), fits)
after w place spent first rest (Err at) (k, e, before, with_it, whole)
    = (suc k, grind (arith, e), grind (arith, before), grind (arith, with_it), grind (arith, whole))

here : (w : Weights) (place spent : ℕ) (first : Statement) (rest : Statements) → spent ≤ most → most < spent + dearest_statement w first
    → Told w place spent (Then first rest) (Err place)
here w place spent first rest fits over = (0, grind arith, grind (arith, fits), grind (arith, over), grind (arith, over))

step : (w : Weights) (place spent : ℕ) (first : Statement) (rest : Statements) (over : Bool) → nat_lt most (spent + dearest_statement w first) ≡ over
    → spent ≤ most →
    ((spent + dearest_statement w first ≤ most)
    → Told w (suc place) (spent + dearest_statement w first) rest (tally w (suc place) (spent + dearest_statement w first) rest)) →
    Told w place spent (Then first rest) (tally w place spent (Then first rest))
step w place spent first rest true e fits more = rw e (here w place spent first rest fits (grind (arith, e)))
step w place spent first rest false e fits more = rw e (after w place spent first rest _ (more (grind (arith, e))))

pub tally-told : (w : Weights) (place spent : ℕ) (b : Statements) → spent ≤ most → Told w place spent b (tally w place spent b)
tally-told w place spent End fits = (grind arith, fits)
tally-told w place spent (Then first rest) fits
    = step w place spent first rest (nat_lt most (spent + dearest_statement w first)) refl fits
    (λ h. tally-told w (suc place) (spent + dearest_statement w first) rest h)

abbrev ok_or : ℕ → Result ℕ ℕ → ℕ
ok_or other (Ok n) = n
ok_or other (Err n) = other

abbrev err_or : ℕ → Result ℕ ℕ → ℕ
err_or other (Ok n) = other
err_or other (Err n) = n

sum_of : (w : Weights) (b : Statements) (r : Result ℕ ℕ) (sum : ℕ) → Told w 0 0 b r → r ≡ Ok sum → sum ≡ dearest w b
sum_of w b (Ok _) sum (e, fits) h = let same = ap (ok_or 0) h in grind (arith, e, same)
sum_of w b (Err _) sum told h = absurd (cc)

-- what a whole tally tells
pub tally-sum : (w : Weights) (b : Statements) (sum : ℕ) → tally w 0 0 b ≡ Ok sum → sum ≡ dearest w b
tally-sum w b sum h = sum_of w b (tally w 0 0 b) sum (tally-told w 0 0 b (grind arith)) h

abbrev Over : Weights → Statements → ℕ → Type 0
Over w b place = (dearest w (front place b) ≤ most) × (most < dearest w (front (suc place) b)) × (most < dearest w b)

over_of : (w : Weights) (b : Statements) (r : Result ℕ ℕ) (place : ℕ) → Told w 0 0 b r → r ≡ Err place → Over w b place
over_of w b (Ok _) place told h = absurd (cc)
over_of w b (Err at) place (k, e, before, with_it, whole) h =
    let same : k ≡ place = (let p = ap (err_or 0) h in grind (arith, e, p)) in
    subst (Over w b) same (grind (arith, before), grind (arith, with_it), grind (arith, whole))

pub tally-over : (w : Weights) (b : Statements) (place : ℕ) → tally w 0 0 b ≡ Err place → Over w b place
tally-over w b place h = over_of w b (tally w 0 0 b) place (tally-told w 0 0 b (grind arith)) h
