-- A design in ticks that meets the rules can be analysed: its flat design is sound, and its least priority is written as a small number.
use Rattle.std.proofs.Common.{◌≡◌, ℕ, ◌≤◌, Bool, true, false, not, ◌&&◌, [], ◌∷◌, Option, Some, None, option_to_list, nat_le}
use Rattle.std.proofs.Common.{refl, sym, ap, subst, ◌∙◌, arith}
use Rattle.std.proofs.lemmas.Bool.{and_parts, leb-true}
use Rattle.ods_tree.specs.Designs.{Design}
use Rattle.ods_tree.specs.Walk.{only_if}
use Rattle.ods_tree.specs.Flats.{Flat}
use Rattle.ods_tree.specs.Flattening.{flat}
use Rattle.ods_tree.specs.Ticks.{first_priority, least_of, stated_priorities}
use Rattle.analysis.specs.Sound.{IsSound}
use Rattle.design_rules.specs.Broken.{V17Priorities}
use Rattle.design_rules.specs.Versions.{is_range, bad_priorities}
use Rattle.design_rules.specs.Rules.{AreMet}
use Rattle.law_designs.proofs.Shared.RankRanges.{priorities-stated, room}
pub use Rattle.law_designs.proofs.Shared.SoundDesigns.{flat-sound}

pub first-small : (x : Design) → AreMet x x → first_priority x ≤ 1000000000
first-small x met = (let most = room x x met refl in omega (arith, most))

-- priorities that are stated as they must begin at 1 at least
range-first : (r : Option (ℕ × ℕ)) → bad_priorities r ≡ [] → 1 ≤ least_of r
range-first None h = omega arith
range-first (Some range) h = by (is_range range) refl h
  where
    by : (b : Bool) → is_range range ≡ b → option_to_list (only_if (not (is_range range)) V17Priorities) ≡ [] → 1 ≤ range.0
    by true e k = leb-true 1 range.0 (and_parts (nat_le 1 range.0) (nat_le range.0 range.1)
        (and_parts (nat_le 1 range.0 && nat_le range.0 range.1) (nat_le range.1 60) e).0).0
    by false e k = (let z : V17Priorities ∷ [] ≡ [] = sym (ap (λ b. option_to_list (only_if (not b) V17Priorities)) e) ∙ k in cc)

pub first-some : (x : Design) → AreMet x x → 1 ≤ first_priority x
first-some x met = range-first (stated_priorities x) (priorities-stated x x met refl)

-- the same, of a design by another name, with its flat design and its least priority
module _ (x y : Design) (same : y ≡ x) (met : AreMet y y) (first : ℕ) (written : first ≡ first_priority y) (f : Flat) (flattened : f ≡ flat x) where
  pub flat-of : f ≡ flat y
  flat-of = flattened ∙ ap flat (sym same)

  pub sound-of : IsSound f
  sound-of = subst IsSound (sym flat-of) (flat-sound y y met)

  pub small-of : first ≤ 1000000000
  small-of = subst (λ n. n ≤ 1000000000) (sym written) (first-small y met)

  pub some-of : 1 ≤ first
  some-of = subst (λ n. 1 ≤ n) (sym written) (first-some y met)
