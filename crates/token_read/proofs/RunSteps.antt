-- How far a name goes that has no underscore, and what is behind white space.
use Rattle.std.proofs.Common.{◌≡◌, ℕ, suc, Bool, true, false, List, [], ◌∷◌, ◌⊎◌, inl, inr, drop, refl, sym, ap, ◌∙◌, subst, arith}
use Rattle.std.specs.List.{prefix_len}
use Rattle.std.proofs.lemmas.Bool.{cases_Bool}
use Rattle.seq_tree.specs.Lexis.{goes_on, is_space, longest}
use Rattle.seq_tree.proofs.Shared.Longest.{longest-ends, longest-nil, longest-part}
use Rattle.token_read.specs.Behind.{behind, is_whole}
use Rattle.token_read.specs.Fronts.{begins_under, is_blank}
use Rattle.token_read.proofs.Shared.BehindSteps.{space-turn}

-- a run goes as far as its parts, where no underscore follows
abbrev Plain : (ℕ → Bool) → List ℕ → Type 0
Plain part bytes = begins_under (drop (prefix_len part bytes) bytes) ≡ false → longest (goes_on part false) bytes ≡ prefix_len part bytes

one-more : (part : ℕ → Bool) (c : ℕ) (cs : List ℕ) → Plain part cs → (part c ≡ true) ⊎ (part c ≡ false) → Plain part (c ∷ cs)
one-more part c cs others (inl p) e =
    let P : ℕ → Type 0 = λ n. begins_under (drop n (c ∷ cs)) ≡ false in
    let more : prefix_len part (c ∷ cs) ≡ suc (prefix_len part cs) = rw p (omega arith) in
    longest-part part false c cs p ∙ ap suc (others (subst P more e)) ∙ sym more
one-more part c cs others (inr p) e = longest-ends part false c cs p (rw (rw p at e) refl) ∙ rw p refl

run-parts : (part : ℕ → Bool) (bytes : List ℕ) → Plain part bytes
run-parts part [] e = longest-nil (goes_on part false)
run-parts part (c ∷ cs) e = one-more part c cs (run-parts part cs) (cases_Bool (part c)) e

pub run-plain : (part : ℕ → Bool) (bytes after : List ℕ) (n : ℕ) → n ≡ prefix_len part bytes → after ≡ drop n bytes → false ≡ begins_under after
    → n ≡ longest (goes_on part false) bytes
run-plain part bytes after n is_len is_after e =
    is_len ∙ sym (run-parts part bytes (ap (λ k. begins_under (drop k bytes)) (sym is_len) ∙ ap begins_under (sym is_after) ∙ sym e))

pub ruleset run_steps = (run-plain)

-- the tokens of a text are those behind some of its bytes
abbrev Same : List ℕ → List ℕ → Type 0
Same bytes after = (is_whole bytes ≡ is_whole after) × (is_whole bytes ≡ true → behind bytes ≡ behind after)

blank-more : (c : ℕ) (cs : List ℕ) → is_blank c ≡ true → suc (prefix_len is_blank cs) ≡ prefix_len is_blank (c ∷ cs)
blank-more c cs s = rw s (omega arith)

blank-none : (c : ℕ) (cs : List ℕ) → is_blank c ≡ false → 0 ≡ prefix_len is_blank (c ∷ cs)
blank-none c cs s = rw s refl

blank-space : (c : ℕ) → is_blank c ≡ true → is_space c ≡ true
blank-space c s = rw s refl

space-more : (c : ℕ) (cs : List ℕ) → Same cs (drop (prefix_len is_blank cs) cs) → (is_blank c ≡ true) ⊎ (is_blank c ≡ false)
    → Same (c ∷ cs) (drop (prefix_len is_blank (c ∷ cs)) (c ∷ cs))
space-more c cs others (inl s) =
    let P : ℕ → Type 0 = λ n. Same (c ∷ cs) (drop n (c ∷ cs)) in
    let here : Same (c ∷ cs) cs = space-turn c cs (c ∷ cs) refl (blank-space c s) in
    let both : P (suc (prefix_len is_blank cs)) = (here.0 ∙ others.0, λ w. here.1 w ∙ others.1 (sym here.0 ∙ w)) in
    subst P (blank-more c cs s) both
space-more c cs others (inr s) =
    let P : ℕ → Type 0 = λ n. Same (c ∷ cs) (drop n (c ∷ cs)) in
    let none : P 0 = (refl, λ w. refl) in
    subst P (blank-none c cs s) none

-- the tokens behind spaces are those of the text
spaces-turn : (bytes : List ℕ) → Same bytes (drop (prefix_len is_blank bytes) bytes)
spaces-turn [] = (refl, λ w. refl)
spaces-turn (c ∷ cs) = space-more c cs (spaces-turn cs) (cases_Bool (is_blank c))

pub spaces-whole : (bytes after : List ℕ) (n : ℕ) → n ≡ prefix_len is_blank bytes → after ≡ drop n bytes → is_whole bytes ≡ is_whole after
spaces-whole bytes after n is_len is_after = rw (is_after, is_len) (spaces-turn bytes).0

pub spaces-behind : (bytes after : List ℕ) (n : ℕ) → n ≡ prefix_len is_blank bytes → after ≡ drop n bytes → is_whole bytes ≡ true
    → behind bytes ≡ behind after
spaces-behind bytes after n is_len is_after whole = rw (is_after, is_len) ((spaces-turn bytes).1 whole)

pub ruleset space_steps = (spaces-whole, spaces-behind)
