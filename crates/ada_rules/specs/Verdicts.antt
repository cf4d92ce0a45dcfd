-- What the check of a program answers, by cases.
-- The rules and their order are those of the program's own definitions.
use Rattle.std.specs.Prelude.{◌≡◌, ℕ, Option, Some, None, option_map, Result, Ok, Err, ⊤, slice_get}
use Rattle.seq_tree.specs.Names.{Name}
use Rattle.ada_tree.specs.Programs.{Program}
use Rattle.ada_tree.specs.Programs as programs
use Rattle.ada_tree.specs.Bodies.{unit_fault}
use Rattle.ada_tree.specs.Rules.{Rule, Naming, Uses, Rings, Bodies, Ranges, Externals, Site, Whole, At, MeetsRules, IsFirstBroken}
use Rattle.ada_rules.specs.FaultsTold.{IsToldAs}
use Rattle.ada_rules.specs.declared.verdict.AdaRule as code
use Rattle.ada_rules.specs.declared.verdict.AdaRule.TheVariants as rule
use Rattle.ada_rules.specs.declared.verdict.RuleBreak as breaks
use Rattle.ada_rules.specs.declared.verdict.RuleBreak.TheVariants as told
use Rattle.ada_rules.specs.declared.verdict.Found.{Found}

-- the rule that is told
abbrev pub rule_of : code.AdaRule → Rule
rule_of rule.G1 = Naming
rule_of rule.G2 = Uses
rule_of rule.G3 = Rings
rule_of (rule.G4 fault) = Bodies
rule_of rule.G5 = Ranges
rule_of rule.G6 = Externals

-- the name of the unit at a site; none before all units
abbrev pub name_at : Program → Site → Option Name
name_at p Whole = None
name_at p (At place) = option_map (λ u. u.name) (slice_get p.units place)

-- a fault that is told is the first of the unit at the site
abbrev pub IsFaultAt : Program → code.AdaRule → Site → Type 0
IsFaultAt p (rule.G4 fault) Whole = ⊥
IsFaultAt p (rule.G4 fault) (At place) = (u : programs.Unit) × (slice_get p.units place ≡ Some u) × IsToldAs fault (unit_fault p u)
IsFaultAt p rule' site = ⊤

-- what an answer says: the rules are met, or the first that is broken is told with the unit at its first site; want of memory says
-- nothing
abbrev pub Says : Program → Result Unit breaks.RuleBreak → Type 0
Says p (Ok done) = MeetsRules p
Says p (Err (told.Rule rule' unit)) = (site : Site) × IsFirstBroken p (rule_of rule') site × (unit ≡ name_at p site) × IsFaultAt p rule' site
Says p (Err told.NoMemory) = ⊤

-- the site of a place, or that before all units
abbrev pub site_of : Option ℕ → Site
site_of None = Whole
site_of (Some place) = At place

-- the first rule that is broken, if one is
abbrev pub FirstSays : Program → Option Found → Type 0
FirstSays p None = MeetsRules p
FirstSays p (Some found) = IsFirstBroken p (rule_of found.rule) (site_of found.place) × IsFaultAt p found.rule (site_of found.place)
