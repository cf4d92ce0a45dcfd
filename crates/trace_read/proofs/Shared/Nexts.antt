-- One event more behind others: the text of all, and that its line takes some bytes.
use Rattle.std.proofs.Common.{◌≡◌, ℕ, ◌<◌, ◌≤◌, List, [], ◌∷◌, ◌++◌, length, refl, sym, ap, subst, ◌∙◌, arith}
use Rattle.std.proofs.lemmas.Grind.{flat_map-append}
use Rattle.std.proofs.lemmas.List.{append-nil}
use Rattle.std.proofs.lemmas.List.Concat.{flat_map-cons}
use Rattle.ada_tree.specs.Programs.{Program}
use Rattle.ada_tree.specs.Rules.{MeetsRules}
use Rattle.trace_tree.specs.Lines.{line, lines}
use Rattle.trace_tree.specs.declared.event.Event.{Event}
use Rattle.law_traces.specs.Told.{HasPlainNames}
use Rattle.law_traces.proofs.Shared.Events.{line-some}

pub lines-push : (p : Program) (es : List Event) (e : Event) → lines p (es ++ e ∷ []) ≡ lines p es ++ line p e
lines-push p es e = flat_map-append (line p) es (e ∷ []) ∙ ap (λ z. lines p es ++ z) (flat_map-cons (line p) e [] ∙ append-nil (line p e))

-- a line is some bytes
some-length : (p : Program) (plain : HasPlainNames p) (e : Event) (rest : List ℕ) → length rest < length (line p e ++ rest)
some-length p plain e rest = by (line p e) (λ h. line-some p plain e [] (h ∙ sym (append-nil (line p e))))
  where
    longer : (xs : List ℕ) → length rest ≤ length (xs ++ rest)
    longer [] = omega arith
    longer (x ∷ xs) = let h = longer xs in omega (arith, h)

    by : (l : List ℕ) → ([] ≡ l → ⊥) → length rest < length (l ++ rest)
    by [] h = absurd (h refl)
    by (x ∷ xs) h = let g = longer xs in omega (arith, g)

pub next-shorter : (p : Program) → HasPlainNames p → (e : Event) (left rest : List ℕ) → left ≡ line p e ++ rest → length rest < length left
next-shorter p plain e left rest same = subst (λ z. length rest < length z) (sym same) (some-length p plain e rest)

-- what holds of a program where it meets its rules, at another name of it
pub at-program : (P : Program → Type 0) (q p : Program) → q ≡ p → MeetsRules p → HasPlainNames p → (MeetsRules q → HasPlainNames q → P q) → P p
at-program P q p same meets plain h = subst P same (h (subst MeetsRules (sym same) meets) (subst HasPlainNames (sym same) plain))
