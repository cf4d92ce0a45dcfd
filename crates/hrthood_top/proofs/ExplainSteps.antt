-- One line more behind those that are written, and the lines of what explains a flat design.
use Rattle.std.proofs.Common.{◌≡◌, ℕ, List, ◌∷◌, ◌++◌, flat_map, map, sym, ap, ◌∙◌, append_assoc}
use Rattle.ods_tree.specs.Flats.{Flat}
use Rattle.analysis.specs.Tables.{table}
use Rattle.explanation.specs.declared.reasons.Explanation.{Explanation}
use Rattle.explanation.specs.Explanations.{IsExplanation}
use Rattle.explanation.specs.Threads.{chains, reasons_of}
use Rattle.hrthood_top.specs.Explanations.{IsToldOf, explained, with_utilisation}

pub next-line : {A : Type 0} (f : A → List ℕ) (x : A) (left more : List A) (line before after total : List ℕ) → left ≡ x ∷ more → line ≡ f x
    → after ≡ before ++ line → before ++ flat_map f left ≡ total → after ++ flat_map f more ≡ total
next-line f x left more line before after total is same grown all =
    ap (λ l. l ++ flat_map f more) grown ∙ append_assoc before line (flat_map f more) ∙ ap (λ l. before ++ (l ++ flat_map f more)) same
    ∙ ap (λ xs. before ++ flat_map f xs) (sym is) ∙ all

-- the lines of an explanation are those of the flat design
pub told-of : (first : ℕ) (f : Flat) (e : Explanation) (lines : List ℕ) → IsExplanation first f e
    → lines ≡ with_utilisation e.utilisation (explained e.late e.threads.items (map (λ c. c.items) e.chains.items) e.ceilings.items)
    → IsToldOf first f lines
told-of first f e lines h told = record {
  late = e.late;
  found = h.found;
  per_mille = e.utilisation;
  is_found = h.is_found;
  is_per_mille = h.per_mille;
  told = told ∙ ap (with_utilisation e.utilisation)
      (ap (λ ts. explained e.late ts (map (λ c. c.items) e.chains.items) e.ceilings.items) h.threads
      ∙ ap (λ cs. explained e.late (reasons_of first f h.found) cs e.ceilings.items) h.chains
      ∙ ap (explained e.late (reasons_of first f h.found) (chains (table f).rows)) h.ceilings);
}
