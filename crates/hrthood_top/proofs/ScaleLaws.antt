-- That the verb `scale` refuses a design for one reason, and none that meets the rules and holds at one per mille.
use Rattle.std.proofs.Common.{◌≡◌, ℕ, suc, List, Option, Some, None, refl, subst, sym, ap, ◌∙◌, arith}
use Rattle.seq_tree.specs.Names.{Name}
use Rattle.ods_tree.specs.Designs as designs
use Rattle.ods_tree.specs.Flats.{Flat}
use Rattle.ods_tree.specs.Flattening.{flat}
use Rattle.ods_tree.specs.Ticks.{in_ticks}
use Rattle.rt_response.specs.declared.rows.Miss as rows
use Rattle.analysis.specs.Tables.{table}
use Rattle.design_bounds.specs.Analyses.{IsMissed}
use Rattle.design_bounds.specs.Rows.{name_of_row}
use Rattle.law_scaling.specs.Scaling.{scaled, scaled_in}
use Rattle.law_scaling.specs.Holding.{Holds, IsGreatest}
use Rattle.scaling.specs.Failures.{IsDear}
use Rattle.scaling.specs.Margins.{IsMargin, IsNext, HasNoMargin}
use Rattle.scaling.specs.declared.margin.Margin.{Margin}
use Rattle.scaling.specs.declared.margin.Next.{Next}
use Rattle.scaling.specs.declared.margin.Next.TheVariants as next
use Rattle.hrthood_top.specs.declared.scale.ScaleRefusal.{ScaleRefusal}
use Rattle.hrthood_top.specs.declared.scale.ScaleRefusal.TheVariants.{Untaken, Miss}
use Rattle.hrthood_top.specs.Scales.{CanScale, HoldsNowhere, IsScaled, RefusesScale, margin_lines, of_scale}
use Rattle.bridge.specs.Taking.{IsTakenAs}
use Rattle.hrthood_top.proofs.OneDesign.{one-design, not-untaken, one-untaken}
use Rattle.law_backgrounds.proofs.Shared.FirstFaults.{no-less, one-at}
use Rattle.hrthood_top.proofs.OneRule.{one-miss}
use Rattle.hrthood_top.proofs.Taken.{taken-sound}
use Rattle.hrthood_top.proofs.VerbLaws.{IsExactOf}

-- WHAT THE CODE MAKES OF A DESIGN THAT IS TAKEN

-- its margin is told
pub scaled-as : (bytes lines : List ℕ) (x : designs.Design) (m : Margin) → IsTakenAs bytes x → IsMargin (flat x) m × Holds (flat x) 1
    → lines ≡ margin_lines m → IsScaled bytes lines
scaled-as bytes lines x m w h e =
    let M : designs.Design → Type 0 = λ z. IsMargin (flat z) m in
    let H : designs.Design → Type 0 = λ z. Holds (flat z) 1 in
    record {
      design = w.design;
      reads = w.reads;
      meets = w.meets;
      margin = m;
      right = subst M w.ticked h.0;
      holds = subst H w.ticked h.1;
      told = e;
    }

-- or the value for which it has none
pub holds-nowhere : (bytes : List ℕ) (x : designs.Design) (thread : Name) (m : rows.Miss) → IsTakenAs bytes x
    → HasNoMargin (flat x) (next.Miss thread m) → HoldsNowhere bytes thread m
holds-nowhere bytes x thread m w h =
    let N : designs.Design → Type 0 = λ z. HasNoMargin (flat z) (next.Miss thread m) in
    record { design = w.design; reads = w.reads; meets = w.meets; without = subst N w.ticked h }

-- WHAT REFUSES

can_or_refuses : (bytes : List ℕ) → CanScale bytes → (r : ScaleRefusal) → RefusesScale bytes r → ⊥
can_or_refuses bytes w (Untaken r) h = not-untaken bytes w.design r w.reads w.meets h
can_or_refuses bytes w (Miss thread miss) h =
    let one : w.design ≡ h.design = one-design bytes w.design h.design w.reads h.reads in
    let H : designs.Design → Type 0 = λ z. Holds (flat (in_ticks z)) 1 in
    h.without.holds (subst H one w.holds)

-- there is one value over its limit at one per mille, and it is that of one thread
one_over : (bytes : List ℕ) (thread other : Name) (m n : rows.Miss) → HoldsNowhere bytes thread m → HoldsNowhere bytes other n
    → ◌≡◌ {A = ScaleRefusal} (Miss thread m) (Miss other n)
one_over bytes thread other m n h k =
    let M : designs.Design → Type 0 = λ z. IsMissed (scaled 1 (flat (in_ticks z))) thread m in
    let here : IsMissed (scaled 1 (flat (in_ticks k.design))) thread m
    = subst M (one-design bytes h.design k.design h.reads k.reads) h.without.fails.1 in
    let there : IsMissed (scaled 1 (flat (in_ticks k.design))) other n = k.without.fails.1 in
    let miss : m ≡ n = one-miss (table (scaled 1 (flat (in_ticks k.design)))).rows m n here.first there.first in
    let called : name_of_row (scaled 1 (flat (in_ticks k.design))) n.index ≡ Some thread
    = ap (λ z. name_of_row (scaled 1 (flat (in_ticks k.design))) z.index) (sym miss) ∙ here.called in
    ap (λ z. Miss z m) (one-at _ thread other called there.called) ∙ ap (λ z. Miss other z) miss

one_refusal : (bytes : List ℕ) (r q : ScaleRefusal) → RefusesScale bytes r → RefusesScale bytes q → r ≡ q
one_refusal bytes (Untaken r) (Untaken q) h k = ap Untaken (one-untaken bytes r q h k)
one_refusal bytes (Untaken r) (Miss thread miss) h k = absurd (not-untaken bytes k.design r k.reads k.meets h)
one_refusal bytes (Miss thread miss) (Untaken q) h k = absurd (not-untaken bytes h.design q h.reads h.meets k)
one_refusal bytes (Miss thread m) (Miss other n) h k = one_over bytes thread other m n h k

can_make : (bytes made : List ℕ) → IsScaled bytes made → CanScale bytes
can_make bytes made w = record { design = w.design; reads = w.reads; meets = w.meets; holds = w.holds }

-- one per mille is the greatest at which a design holds, and one thing fails at the next
one_greatest : (f : Flat) (j k : ℕ) → IsGreatest f j → IsGreatest f k → j ≡ k
one_greatest f j k h g = no-less j k (λ l. h.above k l g.within.1 g.holds) (λ l. g.above j l h.within.1 h.holds)

one_dear : (f : Flat) (name other : Name) (part piece : Option Name) → IsDear f name part → IsDear f other piece
    → ◌≡◌ {A = Next} (next.Cost name part) (next.Cost other piece)
one_dear f name other part piece h k =
    let same = one-at _ (record { object = name; op = part; ticks = h.0 }) (record { object = other; op = piece; ticks = k.0 }) h.1 k.1 in
    ap (λ d. next.Cost d.object d.op) same

one_missed : (f : Flat) (thread other : Name) (m n : rows.Miss) → IsMissed f thread m → IsMissed f other n
    → ◌≡◌ {A = Next} (next.Miss thread m) (next.Miss other n)
one_missed f thread other m n h k =
    let miss : m ≡ n = one-miss (table f).rows m n h.first k.first in
    let called : name_of_row f n.index ≡ Some thread = ap (λ z. name_of_row f z.index) (sym miss) ∙ h.called in
    ap (λ z. next.Miss z m) (one-at _ thread other called k.called) ∙ ap (λ z. next.Miss other z) miss

one_next : (f : Flat) (k : ℕ) (a b : Next) → IsNext None f k a → IsNext None f k b → a ≡ b
one_next f k next.Limit next.Limit h g = refl
one_next f k next.Limit (next.Cost name part) h g = (let less = g.0 in absurd (omega (arith, h, less)))
one_next f k next.Limit (next.Miss thread miss) h g = (let less = g.0 in absurd (omega (arith, h, less)))
one_next f k (next.Cost name part) next.Limit h g = (let less = h.0 in absurd (omega (arith, g, less)))
one_next f k (next.Cost name part) (next.Cost other piece) h g = one_dear (scaled_in None (suc k) f) name other part piece h.1 g.1
one_next f k (next.Cost name part) (next.Miss thread miss) h g = (let a = h.1.1 in let b = g.1.0 in cc)
one_next f k (next.Miss thread miss) next.Limit h g = (let less = h.0 in absurd (omega (arith, g, less)))
one_next f k (next.Miss thread miss) (next.Cost other piece) h g = (let a = h.1.0 in let b = g.1.1 in cc)
one_next f k (next.Miss thread miss) (next.Miss other more) h g = one_missed (scaled_in None (suc k) f) thread other miss more h.1.1 g.1.1

one_margin : (f : Flat) (m n : Margin) → IsMargin f m → IsMargin f n → m ≡ n
one_margin f m n h k =
    let per_mille : m.per_mille ≡ n.per_mille = one_greatest f m.per_mille n.per_mille h.greatest k.greatest in
    let N : ℕ → Type 0 = λ j. IsNext None f j m.next in
    let fails : m.next ≡ n.next = one_next f n.per_mille m.next n.next (subst N per_mille h.next) k.next in
    rw (per_mille, fails) refl

one_text : (bytes x y : List ℕ) → IsScaled bytes x → IsScaled bytes y → x ≡ y
one_text bytes x y h k =
    let M : designs.Design → Type 0 = λ z. IsMargin (flat (in_ticks z)) h.margin in
    let right = subst M (one-design bytes h.design k.design h.reads k.reads) h.right in
    h.told ∙ ap margin_lines (one_margin (flat (in_ticks k.design)) h.margin k.margin right k.right) ∙ sym k.told

pub scales-exact : IsExactOf of_scale
scales-exact = record {
  able = can_or_refuses;
  one = one_refusal;
  made = can_make;
  text = one_text;
}

pub ruleset scale_laws = (taken-sound, scaled-as, holds-nowhere)
