-- That the verb `generate` refuses a design for one reason, and none that it can be done of.
use Rattle.std.proofs.Common.{◌≡◌, ℕ, List, [], ◌∷◌, length, refl, sym, ap, subst, ◌∙◌, arith}
use Rattle.ods_tree.specs.Designs as designs
use Rattle.ods_tree.specs.Flattening.{flat}
use Rattle.ods_tree.specs.Ticks.{in_ticks}
use Rattle.rt_response.specs.declared.rows.Bound.{Bound}
use Rattle.rt_response.specs.declared.rows.Miss as rows
use Rattle.rt_response.specs.declared.rows.ThreadRow.{ThreadRow}
use Rattle.rt_response.specs.Response.{IsAtMost, IsLeastVector}
use Rattle.analysis.specs.Tables.{table}
use Rattle.guarantee.specs.Programs.{text}
use Rattle.bridge.specs.Delivers.{IsTextFor, HasNoBounds, HasLongText}
use Rattle.seq_tree.specs.Names.{Name}
use Rattle.hrthood_top.specs.declared.generate.GenerateRefusal.{GenerateRefusal}
use Rattle.hrthood_top.specs.declared.generate.GenerateRefusal.TheVariants.{Untaken, Miss, Long}
use Rattle.hrthood_top.specs.Generates.{CanGenerate, RefusesDesign, of_generate}
use Rattle.hrthood_top.proofs.OneDesign.{one-design, not-untaken, one-untaken}
use Rattle.hrthood_top.proofs.OneBounds.{one-bounds}
use Rattle.hrthood_top.proofs.VerbLaws.{IsExactOf}

-- two vectors, neither of which is above the other
same_vectors : (v u : List Bound) → IsAtMost v u → IsAtMost u v → v ≡ u
same_vectors [] [] p q = refl
same_vectors [] (b ∷ u) p q = absurd p
same_vectors (a ∷ v) [] p q = absurd p
same_vectors (a ∷ v) (b ∷ u) p q =
    let jitter : a.jitter ≡ b.jitter = omega (arith, p.0, q.0) in
    let response : a.response ≡ b.response = omega (arith, p.0, q.0) in
    let first : a ≡ b = rw (jitter, response) refl in
    let rest : v ≡ u = same_vectors v u p.1 q.1 in
    rw (first, rest) refl

-- there is one least vector
pub one_least : (rows : List ThreadRow) (v u : List Bound) → IsLeastVector rows v → IsLeastVector rows u → v ≡ u
one_least rows v u p q = same_vectors v u (p.least u q.fits) (q.least v p.fits)

not_long : (bytes : List ℕ) → CanGenerate bytes → HasLongText bytes → ⊥
not_long bytes w h =
    let one : h.design ≡ w.design = one-design bytes h.design w.design h.reads w.reads in
    let P : designs.Design → Type 0 = λ z. IsLeastVector (table (flat (in_ticks z))).rows h.bounds in
    let bounds : h.bounds ≡ w.bounds = one_least (table (flat (in_ticks w.design))).rows h.bounds w.bounds (subst P one h.least) w.least in
    let L : designs.Design → List Bound → ℕ = λ z v. length (text (in_ticks z) v) in
    let equal : length (text (in_ticks h.design) h.bounds) ≡ length (text (in_ticks w.design) w.bounds)
    = ap (λ z. L z h.bounds) one ∙ ap (L w.design) bounds in
    let long = h.long in let short = w.short in omega (arith, equal)

pub can_or_refuses : (bytes : List ℕ) → CanGenerate bytes → (r : GenerateRefusal) → RefusesDesign bytes r → ⊥
can_or_refuses bytes w (Untaken r) h = not-untaken bytes w.design r w.reads w.meets h
can_or_refuses bytes w (Miss thread miss) h =
    let one : h.design ≡ w.design = one-design bytes h.design w.design h.reads w.reads in h.missed.none w.bounds (rw one w.least.fits)
can_or_refuses bytes w Long h = not_long bytes w h

abbrev pub can_make : (bytes made : List ℕ) → IsTextFor bytes made → CanGenerate bytes
can_make bytes made w = record {
  design = w.design;
  reads = w.reads;
  meets = w.meets;
  bounds = w.bounds;
  least = w.least;
  short = (let short = w.short in rw w.made at short);
}

bounds_or_none : (bytes : List ℕ) (thread : Name) (miss : rows.Miss) → HasNoBounds bytes thread miss → HasLongText bytes → ⊥
bounds_or_none bytes thread miss h k =
    let one : h.design ≡ k.design = one-design bytes h.design k.design h.reads k.reads in h.missed.none k.bounds (rw one k.least.fits)

one_over : (bytes : List ℕ) (thread other : Name) (m n : rows.Miss) → HasNoBounds bytes thread m → HasNoBounds bytes other n
    → ◌≡◌ {A = GenerateRefusal} (Miss thread m) (Miss other n)
one_over bytes thread other m n h k = (let one = one-bounds bytes thread other m n h k in ap (λ z. Miss z m) one.0 ∙ ap (λ z. Miss other z) one.1)

pub one_refusal : (bytes : List ℕ) (r q : GenerateRefusal) → RefusesDesign bytes r → RefusesDesign bytes q → r ≡ q
one_refusal bytes (Untaken r) (Untaken q) h k = ap Untaken (one-untaken bytes r q h k)
one_refusal bytes (Untaken r) (Miss thread miss) h k = absurd (not-untaken bytes k.design r k.reads k.meets h)
one_refusal bytes (Untaken r) Long h k = absurd (not-untaken bytes k.design r k.reads k.meets h)
one_refusal bytes (Miss thread miss) (Untaken q) h k = absurd (not-untaken bytes h.design q h.reads h.meets k)
one_refusal bytes (Miss thread miss) (Miss other more) h k = one_over bytes thread other miss more h k
one_refusal bytes (Miss thread miss) Long h k = absurd (bounds_or_none bytes thread miss h k)
one_refusal bytes Long (Untaken q) h k = absurd (not-untaken bytes h.design q h.reads h.meets k)
one_refusal bytes Long (Miss thread miss) h k = absurd (bounds_or_none bytes thread miss k h)
one_refusal bytes Long Long h k = refl

-- a design has one text, with one vector of bounds
pub record IsSameText (bytes t u : List ℕ) (h : IsTextFor bytes t) (k : IsTextFor bytes u) : Type 0 where
  pub designs : h.design ≡ k.design
  pub bounds : h.bounds ≡ k.bounds

pub same-text : (bytes t u : List ℕ) (h : IsTextFor bytes t) (k : IsTextFor bytes u) → IsSameText bytes t u h k
same-text bytes t u h k =
    let one : h.design ≡ k.design = one-design bytes h.design k.design h.reads k.reads in
    let P : designs.Design → Type 0 = λ z. IsLeastVector (table (flat (in_ticks z))).rows h.bounds in
    record { designs = one; bounds = one_least (table (flat (in_ticks k.design))).rows h.bounds k.bounds (subst P one h.least) k.least }

pub one-made : (bytes t u : List ℕ) → IsTextFor bytes t → IsTextFor bytes u → t ≡ u
one-made bytes t u h k =
    let same = same-text bytes t u h k in
    h.made ∙ ap (λ z. text (in_ticks z) h.bounds) same.designs ∙ ap (text (in_ticks k.design)) same.bounds ∙ sym k.made

pub generates-exact : IsExactOf of_generate
generates-exact = record {
  able = can_or_refuses;
  one = one_refusal;
  made = can_make;
  text = one-made;
}
