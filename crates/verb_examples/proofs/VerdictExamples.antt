-- Examples: what the check of a program answers. Which rule a rule is, is computed; a verdict holds of all its parts, and without one of them it
-- doesn't.
use Rattle.std.specs.Prelude.{◌≡◌, ℕ, [], ◌∷◌, map, slice_get, Option, Some, None, Ok, Err, refl}
use Rattle.seq_tree.specs.Names.{Name}
use Rattle.seq_tree.specs.Faults as faults
use Rattle.seq_check.specs.declared.fault.BodyFault.TheVariants as body
use Rattle.ada_tree.specs.Programs.{Program, Unit}
use Rattle.ada_tree.specs.Bodies.{unit_fault}
use Rattle.ada_tree.specs.Rules.{Naming, Uses, Rings, Bodies, Ranges, Externals, Whole, At, MeetsRules, IsFirstBroken}
use Rattle.ada_rules.specs.Verdicts as verdicts
use Rattle.ada_rules.specs.declared.verdict.AdaRule.TheVariants as rule
use Rattle.ada_rules.specs.declared.verdict.RuleBreak.TheVariants as told

-- RULES OF A PROGRAM
rules : map verdicts.rule_of (rule.G1 ∷ rule.G2 ∷ rule.G3 ∷ rule.G4 body.Exit ∷ rule.G5 ∷ rule.G6 ∷ [])
    ≡ Naming ∷ Uses ∷ Rings ∷ Bodies ∷ Ranges ∷ Externals ∷ []
rules = refl

module _ (p : Program) where
  met : MeetsRules p → verdicts.Says p (Ok tt)
  met h = h

  not_met : (MeetsRules p → ⊥) → verdicts.Says p (Ok tt) → ⊥
  not_met never h = never h

  -- before all units no unit is told
  whole : IsFirstBroken p Ranges Whole → verdicts.Says p (Err (told.Rule rule.G5 None))
  whole b = (Whole, b, refl, tt)

  not_first : (unit : Option Name) → ((site : _) → IsFirstBroken p Ranges site → ⊥) → verdicts.Says p (Err (told.Rule rule.G5 unit)) → ⊥
  not_first unit never h = never h.0 h.1

  other_unit : (unit : Option Name) → ((site : _) → IsFirstBroken p Ranges site → unit ≡ verdicts.name_at p site → ⊥)
      → verdicts.Says p (Err (told.Rule rule.G5 unit)) → ⊥
  other_unit unit never h = never h.0 h.1 h.2

  -- the fault of a body is that of the unit
  faulty : (n : ℕ) (u : Unit) → IsFirstBroken p Bodies (At n) → slice_get p.units n ≡ Some u → unit_fault p u ≡ Some faults.Exit
      → verdicts.Says p (Err (told.Rule (rule.G4 body.Exit) (verdicts.name_at p (At n))))
  faulty n u b s f = (At n, b, refl, (u, s, f))

  other_fault : (n : ℕ) → ((u : Unit) → slice_get p.units n ≡ Some u → unit_fault p u ≡ Some faults.Exit → ⊥)
      → verdicts.IsFaultAt p (rule.G4 body.Exit) (At n) → ⊥
  other_fault n never h = never h.0 h.1 h.2

  no_whole_fault : verdicts.IsFaultAt p (rule.G4 body.Exit) Whole → ⊥
  no_whole_fault h = h

  rule_memory : verdicts.Says p (Err told.NoMemory)
  rule_memory = tt
