-- The first rule that is broken, found rule by rule.
use Rattle.std.proofs.Common.{◌≡◌, ℕ, zero, suc, ◌<◌, Bool, true, false, List, [], ◌∷◌, Option, Some, None, Result, Ok, Err, refl, sym, ap}
use Rattle.std.proofs.Common.{subst, ◌∙◌, arith, below_more}
use Rattle.ods_tree.specs.Designs.{Design}
use Rattle.ods_tree.specs.Ticks.{in_ticks}
use Rattle.design_rules.specs.Broken.{Broken}
use Rattle.design_rules.specs.Rules.{Rule, Version, Clash, KeptName, Include, Operation, Fitting, Stranger, Absence, Use, CallRing, ObjectRing}
use Rattle.design_rules.specs.Rules.{StartRing, Source, Number, IdleActive, BodyFault, Budget, Size, Spacing, number_of, IsListed, Offends}
use Rattle.design_rules.specs.Rules.{AreMet, IsFirst, MeetsRules}
use Rattle.design_rules.specs.Versions.{version_faults}
use Rattle.ods_rules.specs.Checks.{IsFirstTold, Says}
use Rattle.ods_index.specs.Judging.{head_of, IsTold, Tells, IsFirstOffender, IsToldFirst, Judges, Passes}
use Rattle.ods_rules.specs.Orders.{PassesBelow, IsToldOf, Verdict, limit, rule_of}
use Rattle.ods_index.specs.Told.{told_of, is_memory}
use Rattle.ods_forms.proofs.Shared.TickLaws.{still_fine, ticks_again}
use Rattle.ods_index.specs.declared.broken.Broken as codes
use Rattle.ods_rules.specs.declared.verdict.Rule as code

-- an empty list has no offender
none_listed : (all : List Broken) → head_of all ≡ None → (place : ℕ) (told : Broken) → IsListed all place told → ⊥
none_listed [] e place told h = absurd (cc)
none_listed (b ∷ bs) e place told h = absurd (cc)

-- the first of a list is its first offender
first_listed : (all : List Broken) (told : Broken) → head_of all ≡ Some told → IsFirstOffender (IsListed all) told
first_listed [] told e = absurd (cc)
first_listed (b ∷ bs) told e = record { place = 0; offends = e; none_earlier = λ earlier other low h. absurd (omega (arith, low)) }

told_listed : (memory : Bool) (told : Option Broken) (all : List Broken) → IsTold memory told (head_of all) → IsToldFirst memory told (IsListed all)
told_listed true told all h = h
told_listed false None all h = h
told_listed false (Some told) all h = first_listed all told h

-- an answer that tells the first of a list judges its offenders
pub judged_list : (all : List Broken) (answer : Result (Unit {0}) codes.Broken) → Tells answer (head_of all) → Judges (IsListed all) answer
judged_list all (Ok done) h = none_listed all h
judged_list all (Err e) h = told_listed (is_memory e) (told_of e) all h

-- the rule of a number
abbrev rule_at : ℕ → Rule
rule_at zero = Version
rule_at (suc zero) = Clash
rule_at (suc (suc zero)) = KeptName
rule_at (suc (suc (suc zero))) = Include
rule_at (suc (suc (suc (suc zero)))) = Operation
rule_at (suc (suc (suc (suc (suc zero))))) = Fitting
rule_at (suc (suc (suc (suc (suc (suc zero)))))) = Stranger
rule_at (suc (suc (suc (suc (suc (suc (suc zero))))))) = Absence
rule_at (suc (suc (suc (suc (suc (suc (suc (suc zero)))))))) = Use
rule_at (suc (suc (suc (suc (suc (suc (suc (suc (suc zero))))))))) = CallRing
rule_at (suc (suc (suc (suc (suc (suc (suc (suc (suc (suc zero)))))))))) = ObjectRing
rule_at (suc (suc (suc (suc (suc (suc (suc (suc (suc (suc (suc zero))))))))))) = StartRing
rule_at (suc (suc (suc (suc (suc (suc (suc (suc (suc (suc (suc (suc zero)))))))))))) = Source
rule_at (suc (suc (suc (suc (suc (suc (suc (suc (suc (suc (suc (suc (suc zero))))))))))))) = Number
rule_at (suc (suc (suc (suc (suc (suc (suc (suc (suc (suc (suc (suc (suc (suc zero)))))))))))))) = IdleActive
rule_at (suc (suc (suc (suc (suc (suc (suc (suc (suc (suc (suc (suc (suc (suc (suc zero))))))))))))))) = BodyFault
rule_at (suc (suc (suc (suc (suc (suc (suc (suc (suc (suc (suc (suc (suc (suc (suc (suc zero)))))))))))))))) = Budget
rule_at (suc (suc (suc (suc (suc (suc (suc (suc (suc (suc (suc (suc (suc (suc (suc (suc (suc zero))))))))))))))))) = Size
rule_at (suc (suc (suc (suc (suc (suc (suc (suc (suc (suc (suc (suc (suc (suc (suc (suc (suc (suc n)))))))))))))))))) = Spacing

numbered_rule : (rule : Rule) → rule_at (number_of rule) ≡ rule
numbered_rule Version = refl
numbered_rule Clash = refl
numbered_rule KeptName = refl
numbered_rule Include = refl
numbered_rule Operation = refl
numbered_rule Fitting = refl
numbered_rule Stranger = refl
numbered_rule Absence = refl
numbered_rule Use = refl
numbered_rule CallRing = refl
numbered_rule ObjectRing = refl
numbered_rule StartRing = refl
numbered_rule Source = refl
numbered_rule Number = refl
numbered_rule IdleActive = refl
numbered_rule BodyFault = refl
numbered_rule Budget = refl
numbered_rule Size = refl
numbered_rule Spacing = refl

-- rules told apart by their numbers
apart : (x : Design) (rule other : Rule) → Passes x rule → number_of other ≡ number_of rule → Passes x other
apart x rule other clear d =
    let same : rule ≡ other = sym (numbered_rule rule) ∙ ap rule_at (sym d) ∙ numbered_rule other in
    let Clear : Rule → Type 0 = Passes x in subst Clear same clear

-- one rule more against which nothing offends
pub one_more : (x : Design) (rule : Rule) → PassesBelow x (number_of rule) → Passes x rule → PassesBelow x (suc (number_of rule))
one_more x rule before clear = λ lower low.
    below_more (λ k. (other : Rule) → number_of other ≡ k → Passes x other) (number_of rule)
    (λ k small other d. before other (omega (arith, small, d))) (λ other d. apart x rule other clear d) (number_of lower)
    (omega (arith, low)) lower refl

-- after the version
pub after_version : (x : Design) → Passes x Version → PassesBelow x 1
after_version x clear = one_more x Version (λ lower low. absurd (omega (arith, low))) clear

-- a rule that passes, as an answer says it
pub next_passes : (x : Design) (rule : code.Rule) (after : Option code.Rule) → limit after ≡ suc (limit (Some rule))
    → PassesBelow x (limit (Some rule)) → Passes x (rule_of rule) → PassesBelow x (limit after)
next_passes x rule after e before clear =
    let Below : ℕ → Type 0 = PassesBelow x in subst Below (sym e) (one_more x (rule_of rule) before clear)

-- nothing offends against any rule
pub met : (x : Design) → PassesBelow x 19 → AreMet x x
met x clear = λ rule. clear rule (low rule) where
  low : (rule : Rule) → number_of rule < 19
  low Version = omega arith
  low Clash = omega arith
  low KeptName = omega arith
  low Include = omega arith
  low Operation = omega arith
  low Fitting = omega arith
  low Stranger = omega arith
  low Absence = omega arith
  low Use = omega arith
  low CallRing = omega arith
  low ObjectRing = omega arith
  low StartRing = omega arith
  low Source = omega arith
  low Number = omega arith
  low IdleActive = omega arith
  low BodyFault = omega arith
  low Budget = omega arith
  low Size = omega arith
  low Spacing = omega arith

-- the first offender against the first rule that is broken
told_first : (memory : Bool) (told : Option Broken) (x : Design) (rule : Rule) → PassesBelow x (number_of rule)
    → IsToldFirst memory told (Offends x x rule) → IsToldOf memory told x
told_first true told x rule before h = h
told_first false None x rule before h = h
told_first false (Some told) x rule before h = record {
  rule = rule;
  place = h.place;
  offends = h.offends;
  none_lower = λ lower other others low. before lower low other others;
  none_earlier = h.none_earlier;
}

pub broken_first : (x : Design) (rule : Rule) (e : codes.Broken) → PassesBelow x (number_of rule) → Judges (Offends x x rule) (Err e)
    → Verdict x (Err e)
broken_first x rule e before h = told_first (is_memory e) (told_of e) x rule before h

-- a design as it is written, whose version is fine, has the offenders that it has in ticks
back : (w x : Design) → ((place : ℕ) (told : Broken) → Offends w x Version place told → ⊥) → (rule : Rule) (place : ℕ) (told : Broken)
    → Offends w x rule place told → Offends x x rule place told
back w x fine Version place told h = absurd (fine place told h)
back w x fine Clash place told h = h
back w x fine KeptName place told h = h
back w x fine Include place told h = h
back w x fine Operation place told h = h
back w x fine Fitting place told h = h
back w x fine Stranger place told h = h
back w x fine Absence place told h = h
back w x fine Use place told h = h
back w x fine CallRing place told h = h
back w x fine ObjectRing place told h = h
back w x fine StartRing place told h = h
back w x fine Source place told h = h
back w x fine Number place told h = h
back w x fine IdleActive place told h = h
back w x fine BodyFault place told h = h
back w x fine Budget place told h = h
back w x fine Size place told h = h
back w x fine Spacing place told h = h

forth : (w x : Design) → Passes x Version → (rule : Rule) (place : ℕ) (told : Broken) → Offends x x rule place told → Offends w x rule place told
forth w x fine Version place told h = absurd (fine place told h)
forth w x fine Clash place told h = h
forth w x fine KeptName place told h = h
forth w x fine Include place told h = h
forth w x fine Operation place told h = h
forth w x fine Fitting place told h = h
forth w x fine Stranger place told h = h
forth w x fine Absence place told h = h
forth w x fine Use place told h = h
forth w x fine CallRing place told h = h
forth w x fine ObjectRing place told h = h
forth w x fine StartRing place told h = h
forth w x fine Source place told h = h
forth w x fine Number place told h = h
forth w x fine IdleActive place told h = h
forth w x fine BodyFault place told h = h
forth w x fine Budget place told h = h
forth w x fine Size place told h = h
forth w x fine Spacing place told h = h

-- as it is written it meets the rules where it does in ticks
pub met_as_written : (w x : Design) → head_of (version_faults w) ≡ None → AreMet x x → AreMet w x
met_as_written w x fine all = λ rule place told h. all rule place told (back w x (none_listed (version_faults w) fine) rule place told h)

-- and breaks first what it does in ticks
first_as_written : (w x : Design) (told : Broken) → head_of (version_faults w) ≡ None → Passes x Version → IsFirst x x told → IsFirst w x told
first_as_written w x told fine passes f = record {
  rule = f.rule;
  place = f.place;
  offends = forth w x passes f.rule f.place told f.offends;
  none_lower = λ lower other others low h. f.none_lower lower other others low (back w x (none_listed (version_faults w) fine) lower other others h);
  none_earlier = λ earlier others low h. f.none_earlier earlier others low (back w x (none_listed (version_faults w) fine) f.rule earlier others h);
}

told_as_written : (memory : Bool) (told : Option Broken) (w : Design) → head_of (version_faults w) ≡ None → Passes (in_ticks w) Version
    → IsToldOf memory told (in_ticks w) → IsFirstTold memory told w
told_as_written true told w fine passes h = h
told_as_written false None w fine passes h = h
told_as_written false (Some told) w fine passes h = first_as_written w (in_ticks w) told fine passes h

pub says_as_written : (w : Design) (e : codes.Broken) → head_of (version_faults w) ≡ None → Passes (in_ticks w) Version → Verdict (in_ticks w) (Err e)
    → Says w (Err e)
says_as_written w e fine passes h = told_as_written (is_memory e) (told_of e) w fine passes h

-- what is wrong with the version comes first
version_told : (memory : Bool) (told : Option Broken) (w : Design) → IsTold memory told (head_of (version_faults w)) → IsFirstTold memory told w
version_told true told w h = h
version_told false None w h = h
version_told false (Some told) w h =
    let first : IsFirstOffender (IsListed (version_faults w)) told = first_listed (version_faults w) told h in record {
      rule = Version;
      place = first.place;
      offends = first.offends;
      none_lower = λ lower other others low. absurd (omega (arith, low));
      none_earlier = first.none_earlier;
    }

pub says_version : (w : Design) (e : codes.Broken) → Tells (Err e) (head_of (version_faults w)) → Says w (Err e)
says_version w e h = version_told (is_memory e) (told_of e) w h

-- a design in ticks has no fault of its version where it has none as it is written
pub ticks_pass : (w : Design) → head_of (version_faults w) ≡ None → Passes (in_ticks w) Version
ticks_pass w fine = none_listed (version_faults (in_ticks w)) (still_fine w fine)

-- what was checked meets the rules, in ticks, as a design that is written in ticks
pub met_in_ticks : (x : Design) → AreMet (in_ticks x) (in_ticks x) → MeetsRules (in_ticks x)
met_in_ticks x met = let Met : Design → Type 0 = AreMet (in_ticks x) in subst Met (sym (ticks_again x)) met

-- the same of a design that is the one in ticks
pub passes_at : (w y : Design) → y ≡ in_ticks w → head_of (version_faults w) ≡ None → Passes y Version
passes_at w y same fine = let Clear : Design → Type 0 = λ z. Passes z Version in subst Clear (sym same) (ticks_pass w fine)

pub says_at : (w y : Design) (e : codes.Broken) → y ≡ in_ticks w → head_of (version_faults w) ≡ None → Verdict y (Err e) → Says w (Err e)
says_at w y e same fine h = let Told : Design → Type 0 = λ z. Verdict z (Err e) in says_as_written w e fine (ticks_pass w fine) (subst Told same h)

pub met_at : (w y : Design) → y ≡ in_ticks w → AreMet y y → MeetsRules y
met_at w y same h =
    let Met : Design → Type 0 = λ z. AreMet z z in let Right : Design → Type 0 = MeetsRules in
    subst Right (sym same) (met_in_ticks w (subst Met same h))

pub meets_at : (w y : Design) → y ≡ in_ticks w → head_of (version_faults w) ≡ None → AreMet y y → MeetsRules w
meets_at w y same fine h = let Met : Design → Type 0 = λ z. AreMet z z in met_as_written w (in_ticks w) fine (subst Met same h)

pub ruleset order_laws = (broken_first, next_passes, after_version, met)

pub ruleset check_laws = (says_version, meets_at)
