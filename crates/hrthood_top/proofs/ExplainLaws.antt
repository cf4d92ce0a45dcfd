-- That the verb `explain` refuses a design for one reason, and none that meets the rules, and writes one text.
use Rattle.std.proofs.Common.{◌≡◌, ℕ, ◌+◌, ◌*◌, ◌≤◌, ◌<◌, List, map, Option, Some, None, refl, sym, ap, subst, ◌∙◌, arith}
use Rattle.std.proofs.Math.Nat.{mul-le-mul_right}
use Rattle.ods_tree.specs.Designs as designs
use Rattle.ods_tree.specs.Flats.{Flat}
use Rattle.ods_tree.specs.Flattening.{flat}
use Rattle.ods_tree.specs.Ticks.{first_priority}
use Rattle.analysis.specs.Tables.{table}
use Rattle.rt_response.specs.declared.rows.Miss as rows
use Rattle.design_bounds.specs.Analyses.{IsMissed}
use Rattle.design_bounds.specs.Rows.{ceiling_rows, name_of_row}
use Rattle.late_response.specs.declared.reach.Reach.{Reach}
use Rattle.late_response.specs.Utilisation.{Fraction, IsPerMille, utilisation}
use Rattle.late_response.proofs.Shared.LateLaws.{table-told-once}
use Rattle.explanation.specs.declared.reasons.Late.{Late}
use Rattle.explanation.specs.Findings.{IsFound, solved_of}
use Rattle.explanation.specs.Threads.{chains, reasons_of}
use Rattle.law_backgrounds.proofs.Shared.FirstFaults.{no-less, one-at}
use Rattle.hrthood_top.specs.Checks.{CanCheck}
use Rattle.hrthood_top.specs.Explanations.{IsExplained, IsToldOf, explained, with_utilisation, of_explain}
use Rattle.hrthood_top.proofs.GenerateLaws.{one_least}
use Rattle.hrthood_top.proofs.OneDesign.{not-untaken, one-untaken}
use Rattle.hrthood_top.proofs.OneRule.{one-miss}
use Rattle.hrthood_top.proofs.Taken.{along}
use Rattle.hrthood_top.proofs.VerbLaws.{IsExactOf}

can_make : (bytes made : List ℕ) → IsExplained bytes made → CanCheck bytes
can_make bytes made w = record { design = w.1.design; reads = w.1.reads; meets = w.1.meets }

-- one value is the first over its limit, and it is that of one thread
one_late : (f : Flat) (a b : Late) → IsMissed f a.thread a.miss → IsMissed f b.thread b.miss → a ≡ b
one_late f a b h k =
    let miss : a.miss ≡ b.miss = one-miss (table f).rows a.miss b.miss h.first k.first in
    let called : name_of_row f b.miss.index ≡ Some a.thread = ap (λ z. name_of_row f z.index) (sym miss) ∙ h.called in
    let thread : a.thread ≡ b.thread = one-at _ a.thread b.thread called k.called in
    rw (thread, miss) refl

-- what is told of the rows, and the first value that is over its limit
record IsSame (found others : List Reach) (late other : Option Late) : Type 0 where
  founds : found ≡ others
  lates : late ≡ other

one_found : (f : Flat) (found others : List Reach) (late other : Option Late) → IsFound f found late → IsFound f others other
    → IsSame found others late other
one_found f found others None None h k = record {
  founds = h.2 ∙ ap (λ v. map solved_of v) (one_least (table f).rows h.0 k.0 h.1 k.1) ∙ sym k.2;
  lates = refl;
}
one_found f found others None (Some b) h k = absurd (k.0.none h.0 h.1.fits)
one_found f found others (Some a) None h k = absurd (h.0.none k.0 k.1.fits)
one_found f found others (Some a) (Some b) h k = record {
  founds = table-told-once (table f).rows found others h.1 k.1;
  lates = ap Some (one_late f a b h.0 k.0);
}

-- a fraction is one number of per mille
not_below : (f : Fraction) (n m : ℕ) → IsPerMille f n → IsPerMille f m → n < m → ⊥
not_below f n m h k less =
    let up : (n + 1) * f.under ≤ m * f.under = mul-le-mul_right f.under (omega (arith, less)) in
    let high = h.1 in let low = k.0 in omega (arith, up, high, low)

one_per_mille : (f : Fraction) (n m : ℕ) → IsPerMille f n → IsPerMille f m → n ≡ m
one_per_mille f n m h k = no-less n m (not_below f n m h k) (not_below f m n k h)

one_told : (first : ℕ) (f : Flat) (x y : List ℕ) → IsToldOf first f x → IsToldOf first f y → x ≡ y
one_told first f x y h k =
    let same = one_found f h.found k.found h.late k.late h.is_found k.is_found in
    let n : h.per_mille ≡ k.per_mille = one_per_mille (utilisation (table f).rows) h.per_mille k.per_mille h.is_per_mille k.is_per_mille in
    h.told
    ∙ ap (λ n. with_utilisation n (explained h.late (reasons_of first f h.found) (chains (table f).rows) (ceiling_rows first f))) n
    ∙ ap (λ late. with_utilisation k.per_mille (explained late (reasons_of first f h.found) (chains (table f).rows) (ceiling_rows first f))) same.lates
    ∙ ap (λ found. with_utilisation k.per_mille (explained k.late (reasons_of first f found) (chains (table f).rows) (ceiling_rows first f))) same.founds
    ∙ sym k.told

one_text : (bytes x y : List ℕ) → IsExplained bytes x → IsExplained bytes y → x ≡ y
one_text bytes x y h k =
    let P : designs.Design → Type 0 = λ z. IsToldOf (first_priority z) (flat z) x in
    one_told (first_priority k.0) (flat k.0) x y (along P bytes h.0 k.0 h.1 k.1 h.2) k.2

pub explains-exact : IsExactOf of_explain
explains-exact = record {
  able = λ bytes w r h. not-untaken bytes w.design r w.reads w.meets h;
  one = one-untaken;
  made = can_make;
  text = one_text;
}
