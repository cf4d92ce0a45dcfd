-- The first piece of bytes, byte by byte; and a text that begins with some bytes.
use Rattle.std.proofs.Common.{◌≡◌, ℕ, zero, suc, true, false, not, List, [], ◌∷◌, ◌++◌, length, take, drop, refl, sym, ap, subst, ◌∙◌, arith}
use Rattle.std.specs.Prelude.{◌+◌, ◌≤◌, ◌==◌, bytes_eq}
use Rattle.std.proofs.lemmas.Bool.{and_from, and_parts, ne_eqb, true≢false}
use Rattle.std.proofs.lemmas.List.{append-nil, take-append-drop}
use Rattle.std.proofs.lemmas.Slice.Eq.{bytes_eq-Decides}
use Rattle.std.proofs.Math.Seq.{take-append_seam}
use Rattle.law_traces.specs.Told.{Lacks}
use Rattle.law_traces.specs.Cuts.{cut}
use Rattle.law_traces.proofs.Shared.Words.{cut-front, cut-last}

abbrev Stepped : ℕ → List ℕ → List ℕ → ℕ → Type 0
Stepped by bytes rest len = (len ≤ length bytes) × (rest ≡ drop len bytes) × Lacks by (take len bytes)

step : (by first : ℕ) (rest : List ℕ) (len : ℕ) (bytes : List ℕ) → first ∷ rest ≡ drop len bytes → Lacks by (take len bytes)
    → (first == by) ≡ false → Stepped by bytes rest (suc len)
step by first rest zero [] e lacks test = absurd (let z : first ∷ rest ≡ [] = e in cc)
step by first rest zero (b ∷ bs) e lacks test =
    let one : first ≡ b = cc in
    (omega arith, (let two : rest ≡ bs = cc in two), and_from _ _ (ap not (ap (λ z. z == by) (sym one) ∙ test)) refl)
step by first rest (suc len) [] e lacks test = absurd (let z : first ∷ rest ≡ [] = e in cc)
step by first rest (suc len) (b ∷ bs) e lacks test =
    let p = and_parts (not (b == by)) _ lacks in
    let more = step by first rest len bs e p.1 test in
    ((let h : suc len ≤ length bs = more.0 in omega (arith, h)), more.1, and_from _ _ p.0 more.2)

pub split-step : (by first : ℕ) (rest : List ℕ) (len : ℕ) (bytes : List ℕ) → first ∷ rest ≡ drop len bytes → Lacks by (take len bytes)
    → (first ≡ by → ⊥) → Stepped by bytes rest (len + 1)
split-step by first rest len bytes e lacks test =
    subst (Stepped by bytes rest) (let z : suc len ≡ len + 1 = omega arith in z) (step by first rest len bytes e lacks (ne_eqb first by test))

pub split-found : (by first : ℕ) (rest : List ℕ) (len : ℕ) (bytes : List ℕ) → first ∷ rest ≡ drop len bytes → Lacks by (take len bytes)
    → first ≡ by → cut by bytes ≡ take len bytes ∷ cut by rest
split-found by first rest len bytes e lacks one =
    ap (cut by) (sym (take-append-drop len bytes) ∙ ap (λ z. take len bytes ++ z) (sym e) ∙ ap (λ z. take len bytes ++ z ∷ rest) one)
    ∙ cut-front by (take len bytes) rest lacks

nothing : (left : List ℕ) → length left ≡ 0 → [] ≡ left
nothing [] h = refl
nothing (b ∷ left) h = absurd (let z : suc (length left) ≡ 0 = h in omega (arith, z))

pub split-last : (by len : ℕ) (bytes left : List ℕ) → length left ≡ 0 → left ≡ drop len bytes → Lacks by (take len bytes) → cut by bytes ≡ bytes ∷ []
split-last by len bytes left none at lacks =
    let e : [] ≡ drop len bytes = nothing left none ∙ at in
    let whole : take len bytes ≡ bytes = sym (append-nil (take len bytes)) ∙ ap (λ z. take len bytes ++ z) e ∙ take-append-drop len bytes in
    cut-last by bytes (subst (Lacks by) whole lacks)

-- A TEXT that begins with these bytes
pub begins-other : (text first written front more : List ℕ) → first ≡ take (length written) text → written ≡ front → true ≡ not (bytes_eq first written)
    → text ≡ front ++ more → ⊥
begins-other text first written front more taken is other e =
    let same : first ≡ written =
    taken ∙ ap (λ z. take (length z) text) is ∙ ap (take (length front)) e ∙ take-append_seam front more ∙ sym is in
    true≢false (other ∙ ap not ((bytes_eq-Decides first written).1 same))
