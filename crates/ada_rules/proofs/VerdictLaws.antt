-- The first rule that is broken, found rule by rule.
use Rattle.std.proofs.Common.{◌≡◌, ℕ, zero, suc, ◌+◌, ◌<◌, Option, Some, None, refl, sym, ap, subst, ◌∙◌, arith, below_more}
use Rattle.seq_tree.specs.Faults.{BodyFault}
use Rattle.ada_tree.specs.Programs.{Program}
use Rattle.ada_tree.specs.Bodies.{unit_fault}
use Rattle.ada_tree.specs.Rules.{Rule, Naming, Uses, Rings, Bodies, Ranges, Externals, number_of, UnitBreaks, Site, Whole, At, WholeBreaks}
use Rattle.ada_tree.specs.Rules.{Breaks, IsBefore, MeetsRules, IsFirstBroken}
use Rattle.seq_check.specs.declared.fault.BodyFault as codes
use Rattle.seq_check.specs.declared.fault.BodyFault.TheVariants as fault
use Rattle.seq_tree.specs.Faults as faults
use Rattle.ada_rules.specs.Firsts.{IsFirst}
use Rattle.ada_rules.specs.FaultsTold.{IsToldAs, IsFirstFault}
use Rattle.ada_rules.specs.declared.bodies.FaultAt.{FaultAt}

-- a rule that is broken nowhere
abbrev pub IsClear : Program → Rule → Type 0
IsClear p rule = (site : Site) → Breaks p rule site → ⊥

-- the rules below a number are broken nowhere
abbrev pub AreClear : Program → ℕ → Type 0
AreClear p n = (k : ℕ) → k < n → (rule : Rule) → number_of rule ≡ k → IsClear p rule

-- the rule of a number
abbrev rule_at : ℕ → Rule
rule_at zero = Naming
rule_at (suc zero) = Naming
rule_at (suc (suc zero)) = Uses
rule_at (suc (suc (suc zero))) = Rings
rule_at (suc (suc (suc (suc zero)))) = Bodies
rule_at (suc (suc (suc (suc (suc zero))))) = Ranges
rule_at (suc (suc (suc (suc (suc (suc n)))))) = Externals

numbered_rule : (rule : Rule) → rule_at (number_of rule) ≡ rule
numbered_rule Naming = refl
numbered_rule Uses = refl
numbered_rule Rings = refl
numbered_rule Bodies = refl
numbered_rule Ranges = refl
numbered_rule Externals = refl

pub none_clear : (p : Program) → AreClear p 1
none_clear p = λ k low rule numbered. absurd (at_least rule (omega (arith, low, numbered))) where
  at_least : (rule : Rule) → number_of rule < 1 → ⊥
  at_least Naming h = omega (arith, h)
  at_least Uses h = omega (arith, h)
  at_least Rings h = omega (arith, h)
  at_least Bodies h = omega (arith, h)
  at_least Ranges h = omega (arith, h)
  at_least Externals h = omega (arith, h)

-- a rule that no unit breaks
pub rule_clear : (p : Program) (rule : Rule) → (WholeBreaks p rule → ⊥) → IsFirst (UnitBreaks p rule) p.units None → IsClear p rule
rule_clear p rule whole none Whole broken = whole broken
rule_clear p rule whole none (At place) (u, at, broken) = none place u at broken

-- rules told apart by their numbers
apart : (p : Program) (n : ℕ) (rule : Rule) → number_of rule ≡ n → IsClear p rule → (other : Rule) → number_of other ≡ n → IsClear p other
apart p n rule e clear other d =
    let same : rule ≡ other = sym (numbered_rule rule) ∙ ap rule_at (e ∙ sym d) ∙ numbered_rule other in
    let Clear : Rule → Type 0 = IsClear p in subst Clear same clear

pub one_more : (p : Program) (n : ℕ) (rule : Rule) → number_of rule ≡ n → IsClear p rule → AreClear p n → AreClear p (n + 1)
one_more p n rule e clear before = below_more (λ k. (other : Rule) → number_of other ≡ k → IsClear p other) n before (apart p n rule e clear)

-- the first rule that is broken, where the lower ones are broken nowhere
pub first_broken : (p : Program) (rule : Rule) (place : ℕ) → AreClear p (number_of rule) → (WholeBreaks p rule → ⊥)
    → IsFirst (UnitBreaks p rule) p.units (Some place) → IsFirstBroken p rule (At place)
first_broken p rule place lower whole (u, at, broken, before) = record {
  broken = (u, at, broken);
  none_lower = λ other site below. lower (number_of other) below other refl site;
  none_earlier = earlier;
} where
  earlier : (site : Site) → IsBefore site (At place) → Breaks p rule site → ⊥
  earlier Whole h b = whole b
  earlier (At k) h (v, found, b) = before k h v found b

-- what is broken before all units
pub whole_broken : (p : Program) (rule : Rule) → AreClear p (number_of rule) → WholeBreaks p rule → IsFirstBroken p rule Whole
whole_broken p rule lower whole = record {
  broken = whole;
  none_lower = λ other site below. lower (number_of other) below other refl site;
  none_earlier = earlier;
} where
  earlier : (site : Site) → IsBefore site Whole → Breaks p rule site → ⊥
  earlier Whole h b = h
  earlier (At k) h b = h

pub meets : (p : Program) → AreClear p 7 → MeetsRules p
meets p clear = λ rule site. clear (number_of rule) (low rule) rule refl site where
  low : (rule : Rule) → number_of rule < 7
  low Naming = omega arith
  low Uses = omega arith
  low Rings = omega arith
  low Bodies = omega arith
  low Ranges = omega arith
  low Externals = omega arith

-- a fault that is told is one
told_has : (e : codes.BodyFault) (first : Option BodyFault) → IsToldAs e first → (f : BodyFault) × (first ≡ Some f)
told_has fault.Unknown first h = (faults.Unknown, h)
told_has fault.Sort first h = (faults.Missorted, h)
told_has fault.Divisor first h = (faults.Divisor, h)
told_has fault.Exit first h = (faults.Exit, h)
told_has fault.Assigned first h = (faults.Assigned, h)
told_has fault.Actual first h = (faults.Actual, h)
told_has fault.Count first h = (faults.Count, h)
told_has fault.NoMemory first h = absurd h

-- the fault and the first unit with it
pub fault_first : (p : Program) (at : FaultAt) → IsFirstFault p (Some at) → IsFirst (UnitBreaks p Bodies) p.units (Some at.place)
fault_first p at (u, found, told, before) = (u, found, told_has at.fault (unit_fault p u) told, before)

-- one rule more that no unit breaks
pub next : (p : Program) (rule : Rule) → (WholeBreaks p rule → ⊥) → IsFirst (UnitBreaks p rule) p.units None → AreClear p (number_of rule)
    → AreClear p (number_of rule + 1)
next p rule whole none before = one_more p (number_of rule) rule refl (rule_clear p rule whole none) before
