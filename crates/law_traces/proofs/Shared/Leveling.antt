-- The levels of a thread's deeds are what is inside its operations.
use Rattle.std.proofs.Common.{◌≡◌, ℕ, zero, suc, ◌-◌, Bool, true, false, List, [], ◌∷◌, map, drop, refl, sym, ap, ◌∙◌, arith}
use Rattle.std.specs.Prelude.{◌==◌, filter, if◌then◌else◌}
use Rattle.std.proofs.lemmas.Bool.{ne_eqb}
use Rattle.guarantee.specs.Events.{Deed, Release, Arrive, Enter, Leave, Request, Print, End, Stop}
use Rattle.guarantee.specs.Steps.{Step, depth_after, depth_of, placed, outermost, closes, before_leave, inside}
use Rattle.law_traces.specs.Levels.{level, with_deed, levels}

-- the deeds at the outermost level, from this depth on, up to the exit that closes it
abbrev outer : ℕ → List Step → List Deed
outer k ss = map (λ s. s.deed) (outermost (placed k (before_leave k ss)))

-- one step, by its depth
outer-step : (k : ℕ) (s : Step) (ss : List Step) → closes k s.deed ≡ false
    → outer k (s ∷ ss) ≡ (if depth_of k s.deed == 0 then s.deed ∷ outer (depth_after k s.deed) ss else outer (depth_after k s.deed) ss)
outer-step k s ss e =
    let F : Bool → List Deed = λ z. map (λ s. s.deed) (outermost (placed k (if z then [] else s ∷ before_leave (depth_after k s.deed) ss))) in
    ap F e ∙ by (depth_of k s.deed == 0) refl
  where
    rest : List Step
    rest = before_leave (depth_after k s.deed) ss

    by : (b : Bool) → (depth_of k s.deed == 0) ≡ b
        → map (λ s. s.deed) (outermost (placed k (s ∷ before_leave (depth_after k s.deed) ss)))
        ≡ (if b then s.deed ∷ outer (depth_after k s.deed) ss else outer (depth_after k s.deed) ss)
    by true f = ap (λ z. map (λ s. s.deed) (map (λ p. p.step) (if z then record { depth = depth_of k s.deed; step = s }
        ∷ filter (λ p. p.depth == 0) (placed (depth_after k s.deed) (before_leave (depth_after k s.deed) ss))
        else filter (λ p. p.depth == 0) (placed (depth_after k s.deed) (before_leave (depth_after k s.deed) ss))))) f
    by false f = ap (λ z. map (λ s. s.deed) (map (λ p. p.step) (if z then record { depth = depth_of k s.deed; step = s }
        ∷ filter (λ p. p.depth == 0) (placed (depth_after k s.deed) (before_leave (depth_after k s.deed) ss))
        else filter (λ p. p.depth == 0) (placed (depth_after k s.deed) (before_leave (depth_after k s.deed) ss))))) f

-- levels behind others
level-drop : (n k : ℕ) (ls : List (List Deed)) → level k (drop (suc n) ls) ≡ level (suc k) (drop n ls)
level-drop n k [] = drops n
  where
    drops : (n : ℕ) → level k (drop (suc n) []) ≡ level (suc k) (drop n [])
    drops zero = refl
    drops (suc n) = refl
level-drop zero k (l ∷ ls) = refl
level-drop (suc n) k (l ∷ ls) = level-drop n k ls

not-zero : (k : ℕ) → (suc k == 0) ≡ false
not-zero k = ne_eqb (suc k) 0 (λ e. omega (arith, e))

one-less : (k : ℕ) → suc k - 1 ≡ k
one-less k = omega arith

-- a step of the level itself, and one that is deeper
at-level : (k : ℕ) (s : Step) (ss : List Step) (n : ℕ) → closes k s.deed ≡ false → depth_of k s.deed ≡ 0 → depth_after k s.deed ≡ n
    → outer k (s ∷ ss) ≡ s.deed ∷ outer n ss
at-level k s ss n e f g =
    outer-step k s ss e ∙ ap (λ z. if z == 0 then s.deed ∷ outer (depth_after k s.deed) ss else outer (depth_after k s.deed) ss) f
    ∙ ap (λ z. s.deed ∷ outer z ss) g

deeper : (k : ℕ) (s : Step) (ss : List Step) (m n : ℕ) → closes k s.deed ≡ false → depth_of k s.deed ≡ suc m → depth_after k s.deed ≡ n
    → outer k (s ∷ ss) ≡ outer n ss
deeper k s ss m n e f g =
    outer-step k s ss e ∙ ap (λ z. if z == 0 then s.deed ∷ outer (depth_after k s.deed) ss else outer (depth_after k s.deed) ss) f
    ∙ ap (λ z. if z then s.deed ∷ outer (depth_after k s.deed) ss else outer (depth_after k s.deed) ss) (not-zero m) ∙ ap (λ z. outer z ss) g

abbrev deeds : List Step → List Deed
deeds ss = map (λ s. s.deed) ss

-- the exit that closes the level
at-close : (s : Step) (ss : List Step) → closes 0 s.deed ≡ true → outer 0 (s ∷ ss) ≡ []
at-close s ss e =
    let F : Bool → List Deed = λ z. map (λ s. s.deed) (outermost (placed 0 (if z then [] else s ∷ before_leave (depth_after 0 s.deed) ss))) in ap F e

abbrev IsLevel : List Step → Type 0
IsLevel ss = (k : ℕ) → outer k ss ≡ level k (levels (deeds ss))

-- a deed that is no entry and no exit
plain-by : (s : Step) (d : Deed) → s.deed ≡ d → closes 0 d ≡ false → ((k : ℕ) → closes (suc k) d ≡ false) → ((k : ℕ) → depth_of k d ≡ k)
    → ((k : ℕ) → depth_after k d ≡ k)
    → (ss : List Step) → IsLevel ss → (k : ℕ) → outer k (s ∷ ss) ≡ level k ((d ∷ level 0 (levels (deeds ss))) ∷ drop 1 (levels (deeds ss)))
plain-by s d same e e' f g ss h zero =
    at-level 0 s ss 0 (ap (closes 0) same ∙ e) (ap (depth_of 0) same ∙ f 0) (ap (depth_after 0) same ∙ g 0) ∙ ap (λ z. z ∷ outer 0 ss) same
    ∙ ap (λ z. d ∷ z) (h 0)
plain-by s d same e e' f g ss h (suc k) =
    deeper (suc k) s ss k (suc k) (ap (closes (suc k)) same ∙ e' k) (ap (depth_of (suc k)) same ∙ f (suc k))
    (ap (depth_after (suc k)) same ∙ g (suc k)) ∙ h (suc k) ∙ sym (level-drop 0 k (levels (deeds ss)))

level-by : (s : Step) (d : Deed) → s.deed ≡ d → (ss : List Step) → IsLevel ss → (k : ℕ) → outer k (s ∷ ss) ≡ level k (with_deed d (levels (deeds ss)))
level-by s (Enter name values) same ss h zero =
    at-level 0 s ss 1 (ap (closes 0) same) (ap (depth_of 0) same) (ap (depth_after 0) same) ∙ ap (λ z. z ∷ outer 1 ss) same
    ∙ ap (λ z. Enter name values ∷ z) (h 1)
level-by s (Enter name values) same ss h (suc k) =
    deeper (suc k) s ss k (suc (suc k)) (ap (closes (suc k)) same) (ap (depth_of (suc k)) same) (ap (depth_after (suc k)) same)
    ∙ h (suc (suc k)) ∙ sym (level-drop 0 (suc k) (levels (deeds ss))) ∙ sym (level-drop 1 k (levels (deeds ss)))
level-by s (Leave name values) same ss h zero = at-close s ss (ap (closes 0) same)
level-by s (Leave name values) same ss h (suc zero) =
    at-level 1 s ss 0 (ap (closes 1) same) (ap (depth_of 1) same ∙ one-less 0) (ap (depth_after 1) same ∙ one-less 0) ∙ ap (λ z. z ∷ outer 0 ss) same
    ∙ ap (λ z. Leave name values ∷ z) (h 0)
level-by s (Leave name values) same ss h (suc (suc k)) =
    deeper (suc (suc k)) s ss k (suc k) (ap (closes (suc (suc k))) same) (ap (depth_of (suc (suc k))) same ∙ one-less (suc k))
    (ap (depth_after (suc (suc k))) same ∙ one-less (suc k)) ∙ h (suc k) ∙ sym (level-drop 0 k (levels (deeds ss)))
level-by s (Release v) same ss h k = plain-by s (Release v) same refl (λ k. refl) (λ k. refl) (λ k. refl) ss h k
level-by s (Arrive v) same ss h k = plain-by s (Arrive v) same refl (λ k. refl) (λ k. refl) (λ k. refl) ss h k
level-by s (Request target v) same ss h k = plain-by s (Request target v) same refl (λ k. refl) (λ k. refl) (λ k. refl) ss h k
level-by s (Print v) same ss h k = plain-by s (Print v) same refl (λ k. refl) (λ k. refl) (λ k. refl) ss h k
level-by s (End used) same ss h k = plain-by s (End used) same refl (λ k. refl) (λ k. refl) (λ k. refl) ss h k
level-by s (Stop object priority ceiling) same ss h k =
    plain-by s (Stop object priority ceiling) same refl (λ k. refl) (λ k. refl) (λ k. refl) ss h k

all-levels : (ss : List Step) → IsLevel ss
all-levels [] k = refl
all-levels (s ∷ ss) k = level-by s s.deed refl ss (all-levels ss) k

pub tells-insides : (ss : List Step) → inside ss ≡ level 0 (levels (map (λ s. s.deed) ss))
tells-insides ss = all-levels ss 0
