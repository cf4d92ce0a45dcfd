-- What a trace tells of a task's activations: the time of each release, and of the next end after it.
-- A log says the same of a task with a row.
use Rattle.std.specs.Prelude.{◌≡◌, ◌≢◌, ℕ, zero, suc, ◌==◌, Bool, true, false, List, [], ◌∷◌, ◌++◌, map, slice_get, Option, Some, None}
use Rattle.std.specs.Prelude.{if◌then◌else◌, refl}
use Rattle.std.proofs.Common.{sym, ◌∙◌, ap, arith, append-nil}
use Rattle.seq_tree.specs.Lists.{change}
use Rattle.trace_tree.specs.declared.event.Event.{Event}
use Rattle.trace_tree.specs.declared.event.Event.TheVariants as event
use Rattle.law_responses.proofs.Logs.{Made, over_at}
use Rattle.std.proofs.lemmas.Bool.{eq-eqb}

-- a release, and the end after it, where there is one
abbrev pub Answer : Type 0
Answer = ℕ × Option ℕ

-- the next end of a unit's task
abbrev pub next_end : ℕ → List Event → Option ℕ
next_end u [] = None
next_end u (event.End time task used ∷ es) = if task == u then Some time else next_end u es
next_end u (_ ∷ es) = next_end u es

-- the releases of a unit's task with their ends
abbrev pub answers : ℕ → List Event → List Answer
answers u [] = []
answers u (event.Release time task value ∷ es) = if task == u then (time, next_end u es) ∷ answers u es else answers u es
answers u (_ ∷ es) = answers u es

-- one or another
abbrev pub either : Option ℕ → Option ℕ → Option ℕ
either None o = o
either (Some x) o = Some x

-- an answer with an end, where it has none yet
abbrev pub with_end : Option ℕ → Answer → Answer
with_end o a = (a.0, either a.1 o)

next_end-snoc : (u : ℕ) (es : List Event) (e : Event) → next_end u (es ++ e ∷ []) ≡ either (next_end u es) (next_end u (e ∷ []))
next_end-snoc u [] e = refl
next_end-snoc u (event.End time task used ∷ es) e = by (task == u) (next_end-snoc u es e)
  where
    by : (b : Bool) → next_end u (es ++ e ∷ []) ≡ either (next_end u es) (next_end u (e ∷ []))
        → (if b then Some time else next_end u (es ++ e ∷ [])) ≡ either (if b then Some time else next_end u es) (next_end u (e ∷ []))
    by true h = refl
    by false h = h
next_end-snoc u (_ ∷ es) e = next_end-snoc u es e

pub answers-snoc : (u : ℕ) (es : List Event) (e : Event) → answers u (es ++ e ∷ [])
    ≡ map (with_end (next_end u (e ∷ []))) (answers u es) ++ answers u (e ∷ [])
answers-snoc u [] e = refl
answers-snoc u (event.Release time task value ∷ es) e = by (task == u) (answers-snoc u es e) (next_end-snoc u es e)
  where
    by : (b : Bool) → answers u (es ++ e ∷ []) ≡ map (with_end (next_end u (e ∷ []))) (answers u es) ++ answers u (e ∷ [])
        → next_end u (es ++ e ∷ []) ≡ either (next_end u es) (next_end u (e ∷ []))
        → (if b then (time, next_end u (es ++ e ∷ [])) ∷ answers u (es ++ e ∷ []) else answers u (es ++ e ∷ []))
        ≡ map (with_end (next_end u (e ∷ []))) (if b then (time, next_end u es) ∷ answers u es else answers u es) ++ answers u (e ∷ [])
    by true h g = ap (λ x. let a : Answer = (time, x) in a ∷ answers u (es ++ e ∷ [])) g ∙ ap (λ xs. let a : Answer
        = (time, either (next_end u es) (next_end u (e ∷ []))) in a ∷ xs) h
    by false h g = h
answers-snoc u (_ ∷ es) e = answers-snoc u es e

map-none : (as' : List Answer) → map (with_end None) as' ≡ as'
map-none [] = refl
map-none (a ∷ as') = both (either-none a.1) (map-none as')
  where
    either-none : (o : Option ℕ) → either o None ≡ o
    either-none None = refl
    either-none (Some x) = refl

    both : either a.1 None ≡ a.1 → map (with_end None) as' ≡ as' → map (with_end None) (a ∷ as') ≡ a ∷ as'
    both h g = ap (λ x. let b : Answer = (a.0, x) in b ∷ map (with_end None) as') h ∙ ap (λ xs. a ∷ xs) g

-- an event that is neither a release nor an end of a unit's task
abbrev pub IsOther : ℕ → Event → Type 0
IsOther u e = (next_end u (e ∷ []) ≡ None) × (answers u (e ∷ []) ≡ [])

pub answers-other : (u : ℕ) (es : List Event) (e : Event) → IsOther u e → answers u (es ++ e ∷ []) ≡ answers u es
answers-other u es e other =
    answers-snoc u es e ∙ ap (λ o. map (with_end o) (answers u es) ++ answers u (e ∷ [])) other.0 ∙ ap
    (λ xs. map (with_end None) (answers u es) ++ xs) other.1
    ∙ append-nil (map (with_end None) (answers u es)) ∙ map-none (answers u es)

same-false : (a b : ℕ) → a ≢ b → (a == b) ≡ false
same-false a b h = by (a == b) refl
  where
    by : (c : Bool) → (a == b) ≡ c → c ≡ false
    by true e = absurd (h (let same : a ≡ b = grind arith in same))
    by false e = refl

-- a release of a unit's task, and one of another
pub answers-release : (u : ℕ) (es : List Event) (time task : ℕ) (value : Option ℕ) → task ≡ u
    → answers u (es ++ event.Release time task value ∷ []) ≡ answers u es ++ (time, None) ∷ []
answers-release u es time task value same =
    answers-snoc u es (event.Release time task value)
    ∙ ap (λ b. map (with_end None) (answers u es) ++ (if b then (time, None) ∷ [] else [])) (eq-eqb task u same)
    ∙ ap (λ xs. xs ++ (time, None) ∷ []) (map-none (answers u es))

pub other-release : (u time task : ℕ) (value : Option ℕ) → task ≢ u → IsOther u (event.Release time task value)
other-release u time task value differ
    = (refl, ap (λ b. let none : List Answer = [] in if b then (time, None) ∷ [] else none) (same-false task u differ))

-- an end of a unit's task, and one of another
pub answers-end : (u : ℕ) (es : List Event) (time task used : ℕ) → task ≡ u → answers u (es ++ event.End time task used ∷ [])
    ≡ map (with_end (Some time)) (answers u es)
answers-end u es time task used same =
    answers-snoc u es (event.End time task used) ∙ append-nil (map (with_end (next_end u (event.End time task used ∷ []))) (answers u es))
    ∙ ap (λ b. map (with_end (if b then Some time else None)) (answers u es)) (eq-eqb task u same)

pub other-end : (u time task used : ℕ) → task ≢ u → IsOther u (event.End time task used)
other-end u time task used differ = (ap (λ b. if b then Some time else None) (same-false task u differ), refl)

-- the releases of a row with their ends, in a log
abbrev pub ends_of : ℕ → List Made → List Answer
ends_of r [] = []
ends_of r (m ∷ ms) = if m.row == r then (m.release, m.over) ∷ ends_of r ms else ends_of r ms

ends-snoc : (r : ℕ) (ms : List Made) (m : Made) → ends_of r (ms ++ m ∷ []) ≡ ends_of r ms ++ ends_of r (m ∷ [])
ends-snoc r [] m = refl
ends-snoc r (x ∷ ms) m = by (x.row == r) (ends-snoc r ms m)
  where
    by : (b : Bool) → ends_of r (ms ++ m ∷ []) ≡ ends_of r ms ++ ends_of r (m ∷ [])
        → (if b then (x.release, x.over) ∷ ends_of r (ms ++ m ∷ []) else ends_of r (ms ++ m ∷ []))
        ≡ (if b then (x.release, x.over) ∷ ends_of r ms else ends_of r ms) ++ ends_of r (m ∷ [])
    by true h = ap (λ xs. (x.release, x.over) ∷ xs) h
    by false h = h

pub ends-own : (r : ℕ) (ms : List Made) (m : Made) → m.row ≡ r → ends_of r (ms ++ m ∷ []) ≡ ends_of r ms ++ (m.release, m.over) ∷ []
ends-own r ms m same = ends-snoc r ms m ∙ ap (λ b. ends_of r ms ++ (if b then (m.release, m.over) ∷ [] else [])) (eq-eqb m.row r same)

pub ends-else : (r : ℕ) (ms : List Made) (m : Made) → m.row ≢ r → ends_of r (ms ++ m ∷ []) ≡ ends_of r ms
ends-else r ms m differ =
    ends-snoc r ms m ∙ ap (λ b. ends_of r ms ++ (if b then (m.release, m.over) ∷ [] else [])) (same-false m.row r differ) ∙ append-nil (ends_of r ms)

-- an activation of another row ends
pub ends-far : (r place now : ℕ) (ms : List Made) → ((m : Made) → slice_get ms place ≡ Some m → m.row ≢ r)
    → ends_of r (change place (over_at now) ms) ≡ ends_of r ms
ends-far r place now [] far = refl
ends-far r zero now (m ∷ ms) far =
    let off : (m.row == r) ≡ false = same-false m.row r (far m refl) in
    ap (λ b. if b then (m.release, Some now) ∷ ends_of r ms else ends_of r ms) off ∙ sym
    (ap (λ b. if b then (m.release, m.over) ∷ ends_of r ms else ends_of r ms) off)
ends-far r (suc place) now (m ∷ ms) far = by (m.row == r) (ends-far r place now ms far)
  where
    by : (b : Bool) → ends_of r (change place (over_at now) ms) ≡ ends_of r ms
        → (if b then (m.release, m.over) ∷ ends_of r (change place (over_at now) ms) else ends_of r (change place (over_at now) ms))
        ≡ (if b then (m.release, m.over) ∷ ends_of r ms else ends_of r ms)
    by true h = ap (λ xs. (m.release, m.over) ∷ xs) h
    by false h = h

-- where all activations of a row are over, an end changes nothing
ends-over : (r now : ℕ) (ms : List Made) → ((k : ℕ) (m : Made) → slice_get ms k ≡ Some m → m.row ≡ r → m.over ≡ None → ⊥)
    → map (with_end (Some now)) (ends_of r ms) ≡ ends_of r ms
ends-over r now [] over = refl
ends-over r now (m ∷ ms) over = by (m.row == r) refl (ends-over r now ms (λ k x e same. over (suc k) x e same))
  where
    still : (o : Option ℕ) → (o ≡ None → ⊥) → either o (Some now) ≡ o
    still None h = absurd (h refl)
    still (Some x) h = refl

    by : (b : Bool) → (m.row == r) ≡ b → map (with_end (Some now)) (ends_of r ms) ≡ ends_of r ms
        → map (with_end (Some now)) (if b then (m.release, m.over) ∷ ends_of r ms else ends_of r ms)
        ≡ (if b then (m.release, m.over) ∷ ends_of r ms else ends_of r ms)
    by true e h =
        let same : m.row ≡ r = grind arith in
        ap (λ x. let a : Answer = (m.release, x) in a ∷ map (with_end (Some now)) (ends_of r ms)) (still m.over (over 0 m refl same)) ∙ ap
        (λ xs. (m.release, m.over) ∷ xs) h
    by false e h = h

-- the one activation of a row that isn't over ends
pub ends-end : (r place now : ℕ) (ms : List Made) (m : Made) → slice_get ms place ≡ Some m → m.row ≡ r → m.over ≡ None
    → ((k : ℕ) (x : Made) → slice_get ms k ≡ Some x → x.row ≡ r → x.over ≡ None → k ≡ place)
    → ends_of r (change place (over_at now) ms) ≡ map (with_end (Some now)) (ends_of r ms)
ends-end r place now [] m e same unended alone = cc
ends-end r zero now (y ∷ ms) m e same unended alone =
    let is : y ≡ m = cc in
    let on : (y.row == r) ≡ true = eq-eqb y.row r (ap (λ z. z.row) is ∙ same) in
    let none : y.over ≡ None = ap (λ z. z.over) is ∙ unended in
    let others : map (with_end (Some now)) (ends_of r ms) ≡ ends_of r ms
    = ends-over r now ms (λ k x g of_row un. let no : suc k ≡ 0 = alone (suc k) x g of_row un in omega (arith, no)) in
    ap (λ b. if b then (y.release, Some now) ∷ ends_of r ms else ends_of r ms) on
    ∙ sym (ap (λ xs. let a : Answer = (y.release, Some now) in a ∷ xs) others)
    ∙ sym (ap (λ o. let a : Answer = (y.release, either o (Some now)) in a ∷ map (with_end (Some now)) (ends_of r ms)) none)
    ∙ sym (ap (λ b. map (with_end (Some now)) (if b then (y.release, y.over) ∷ ends_of r ms else ends_of r ms)) on)
ends-end r (suc place) now (y ∷ ms) m e same unended alone =
    by (y.row == r) refl (ends-end r place now ms m e same unended (λ k x g of_row un. let up : suc k ≡ suc place = alone (suc k) x g of_row un
    in omega (arith, up)))
  where
    still : (o : Option ℕ) → (o ≡ None → ⊥) → o ≡ either o (Some now)
    still None h = absurd (h refl)
    still (Some x) h = refl

    by : (b : Bool) → (y.row == r) ≡ b → ends_of r (change place (over_at now) ms) ≡ map (with_end (Some now)) (ends_of r ms)
        → (if b then (y.release, y.over) ∷ ends_of r (change place (over_at now) ms) else ends_of r (change place (over_at now) ms))
        ≡ map (with_end (Some now)) (if b then (y.release, y.over) ∷ ends_of r ms else ends_of r ms)
    by true h g =
        let of_row : y.row ≡ r = grind arith in
        ap (λ xs. (y.release, y.over) ∷ xs) g
        ∙ ap (λ o. let a : Answer = (y.release, o) in a ∷ map (with_end (Some now)) (ends_of r ms))
        (still y.over (λ un. let no : 0 ≡ suc place = alone 0 y refl of_row un in omega (arith, no)))
    by false h g = g
