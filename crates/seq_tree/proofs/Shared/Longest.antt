-- How far the longest run goes, one part at a time.
use Rattle.std.proofs.Common.{◌≡◌, ℕ, suc, ◌+◌, Bool, true, false, not, ◌&&◌, cond, List, [], ◌∷◌, length, ◌≤◌, ◌⊎◌, inl, inr, ltb, eqb, refl}
use Rattle.std.proofs.Common.{◌∙◌, arith}
use Rattle.std.proofs.lemmas.Bool.{cases_Bool, eq-eqb, ne_eqb}
use Rattle.seq_tree.specs.Lexis.{longest, goes_on, is_underscore}

-- one more byte before a front of that length, which is a run by itself where ends is true
abbrev bump : Bool → ℕ → ℕ
bump ends n = cond (ltb 0 n) (suc n) (cond ends 1 0)

pub longest-cons : (test : List ℕ → Bool) (b : ℕ) (bs : List ℕ) → longest test (b ∷ bs) ≡ bump (test (b ∷ [])) (longest (λ xs. test (b ∷ xs)) bs)
unfolding longest
longest-cons test b bs = refl

-- a test that nothing passes
longest-none : (xs : List ℕ) → longest (λ _. false) xs ≡ 0
unfolding longest
longest-none [] = refl
longest-none (x ∷ xs) = rw (longest-none xs) refl

pub longest-nil : (test : List ℕ → Bool) → longest test [] ≡ 0
unfolding longest
longest-nil test = refl

one_more : (n : ℕ) → cond (ltb 0 n) (suc n) 1 ≡ suc n
one_more n = grind arith

bump-most : (ends : Bool) (n most : ℕ) → n ≤ most → bump ends n ≤ suc most
bump-most ends n most h = grind arith

-- a part goes one further
pub longest-part : (part : ℕ → Bool) (under : Bool) (c : ℕ) (cs : List ℕ) → part c ≡ true
    → longest (goes_on part under) (c ∷ cs) ≡ suc (longest (goes_on part false) cs)
longest-part part under c cs e = longest-cons (goes_on part under) c cs ∙ simp e (one_more (longest (goes_on part false) cs))

-- a byte that is neither a part nor an underscore that may stand here ends the run
pub longest-ends : (part : ℕ → Bool) (under : Bool) (c : ℕ) (cs : List ℕ) → part c ≡ false → (is_underscore c && not under) ≡ false
    → longest (goes_on part under) (c ∷ cs) ≡ 0
longest-ends part under c cs e u = longest-cons (goes_on part under) c cs ∙ simp (e, u, longest-none cs) refl

-- an underscore counts where a part follows it
pub longest-under : (part : ℕ → Bool) (c : ℕ) (cs : List ℕ) → part c ≡ false → is_underscore c ≡ true
    → longest (goes_on part false) (c ∷ cs) ≡ bump false (longest (goes_on part true) cs)
longest-under part c cs e u = longest-cons (goes_on part false) c cs ∙ simp (e, u) refl

-- what is left of the run, where an underscore may have been read
unfoldable pub from_here : (ℕ → Bool) → Bool → List ℕ → ℕ
from_here part under rest = cond under (bump false (longest (goes_on part true) rest)) (longest (goes_on part false) rest)

bump-suc : (ends : Bool) (n : ℕ) → bump ends (suc n) ≡ suc (suc n)
bump-suc ends n = grind arith

pub from_here-part : (part : ℕ → Bool) (under : Bool) (c : ℕ) (cs : List ℕ) → part c ≡ true
    → from_here part under (c ∷ cs) ≡ cond under 2 1 + from_here part false cs
unfolding from_here
from_here-part part true c cs e = rw (longest-part part true c cs e, bump-suc) (omega arith)
from_here-part part false c cs e = rw (longest-part part false c cs e) (omega arith)

pub from_here-under : (part : ℕ → Bool) (c : ℕ) (cs : List ℕ) → part c ≡ false → c ≡ 95 → from_here part false (c ∷ cs) ≡ from_here part true cs
unfolding from_here
from_here-under part c cs e u = longest-under part c cs e (rw u refl)

pub from_here-ends : (part : ℕ → Bool) (under : Bool) (c : ℕ) (cs : List ℕ) → part c ≡ false → (is_underscore c && not under) ≡ false
    → from_here part under (c ∷ cs) ≡ 0
unfolding from_here
from_here-ends part true c cs e u = rw (longest-ends part true c cs e u) refl
from_here-ends part false c cs e u = longest-ends part false c cs e u

pub from_here-nil : (part : ℕ → Bool) (under : Bool) → from_here part under [] ≡ 0
unfolding from_here
from_here-nil part true = rw (longest-nil (goes_on part true)) refl
from_here-nil part false = longest-nil (goes_on part false)

pub from_here-start : (part : ℕ → Bool) (bytes : List ℕ) → from_here part false bytes ≡ longest (goes_on part false) bytes
unfolding from_here
from_here-start part bytes = refl

-- the step of the loop, case by case
pub ruleset run_steps = (from_here-part, from_here-under, from_here-ends, from_here-nil, from_here-start)

-- a byte that leads: the front goes on by another test
pub longest-led : (test more : List ℕ → Bool) (c : ℕ) (cs : List ℕ) → test (c ∷ []) ≡ true → longest (λ xs. test (c ∷ xs)) cs ≡ longest more cs
    → longest test (c ∷ cs) ≡ 1 + longest more cs
longest-led test more c cs single rest = longest-cons test c cs ∙ rw (single, rest) (one_more (longest more cs) ∙ omega arith)

-- a test that no front passes
pub longest-never : (test : List ℕ → Bool) → ((b : ℕ) (bs : List ℕ) → test (b ∷ bs) ≡ false) → (xs : List ℕ) → longest test xs ≡ 0
longest-never test never [] = longest-nil test
longest-never test never (x ∷ xs) = longest-cons test x xs ∙ rw (never x [], longest-never (λ ys. test (x ∷ ys)) (λ b bs. never x (b ∷ bs)) xs) refl

-- a whole text that passes is its own longest front
longest-whole : (test : List ℕ → Bool) (c : ℕ) (cs : List ℕ) → test (c ∷ cs) ≡ true → longest test (c ∷ cs) ≡ suc (length cs)
longest-whole test c [] passes = longest-cons test c [] ∙ rw (passes, longest-nil (λ xs. test (c ∷ xs))) refl
longest-whole test c (d ∷ ds) passes =
    longest-cons test c (d ∷ ds) ∙ rw (longest-whole (λ xs. test (c ∷ xs)) d ds passes) (bump-suc (test (c ∷ [])) (length ds))

-- and one that doesn't has a shorter one
longest-shorter : (test : List ℕ → Bool) (c : ℕ) (cs : List ℕ) → test (c ∷ cs) ≡ false → longest test (c ∷ cs) ≤ length cs
longest-shorter test c [] fails = rw (longest-cons test c [], fails, longest-nil (λ xs. test (c ∷ xs))) (omega arith)
longest-shorter test c (d ∷ ds) fails =
    let shorter = longest-shorter (λ xs. test (c ∷ xs)) d ds fails in
    rw (longest-cons test c (d ∷ ds)) (bump-most (test (c ∷ [])) (longest (λ xs. test (c ∷ xs)) (d ∷ ds)) (length ds) shorter)

all_or_not : (test : List ℕ → Bool) (c : ℕ) (cs : List ℕ) → (test (c ∷ cs) ≡ true) ⊎ (test (c ∷ cs) ≡ false)
    → eqb (longest test (c ∷ cs)) (length (c ∷ cs)) ≡ test (c ∷ cs)
all_or_not test c cs (inl passes) = rw passes (eq-eqb _ _ (longest-whole test c cs passes))
all_or_not test c cs (inr fails) = let shorter = longest-shorter test c cs fails in rw fails (ne_eqb _ _ (λ e. omega arith))

-- whether a run is the whole of the bytes
pub longest-all : (part : ℕ → Bool) (cs : List ℕ) → eqb (longest (goes_on part false) cs) (length cs) ≡ goes_on part false cs
longest-all part [] = rw (longest-nil (goes_on part false)) refl
longest-all part (c ∷ cs) = all_or_not (goes_on part false) c cs (cases_Bool (goes_on part false (c ∷ cs)))

pub ruleset whole_runs = (longest-all)
