-- What an answer on one rule says: nothing offends against it, or the first offender is told.
-- Want of memory says nothing.
use Rattle.std.specs.Prelude.{◌≡◌, ℕ, ◌<◌, Bool, true, false, List, [], ◌∷◌, Option, Some, None, Result, Ok, Err, ⊤}
use Rattle.ods_tree.specs.Designs.{Design}
use Rattle.design_rules.specs.Broken.{Broken}
use Rattle.design_rules.specs.Rules.{Rule, Offends, number_of}
use Rattle.ods_index.specs.Told.{told_of, is_memory}
use Rattle.ods_index.specs.declared.broken.Broken as code

-- the first of a list, where it has one
abbrev pub head_of : {A : Type 0} → List A → Option A
head_of [] = None
head_of (a ∷ as') = Some a

-- an error that is told is this one, unless it is want of memory
abbrev pub IsTold : Bool → Option Broken → Option Broken → Type 0
IsTold true told wanted = ⊤
IsTold false None wanted = ⊥
IsTold false (Some told) wanted = wanted ≡ Some told

-- an answer tells what is to be told, and nothing where nothing is
abbrev pub Tells : Result (Unit {0}) code.Broken → Option Broken → Type 0
Tells (Ok done) wanted = wanted ≡ None
Tells (Err e) wanted = IsTold (is_memory e) (told_of e) wanted

-- what is told is of the first offender
pub record IsFirstOffender (Offender : ℕ → Broken → Type 0) (told : Broken) : Type 0 where
  pub place : ℕ
  pub offends : Offender place told
  pub none_earlier : (earlier : ℕ) (other : Broken) → earlier < place → Offender earlier other → ⊥

-- an error that is told is of the first offender, unless it is want of memory
abbrev pub IsToldFirst : Bool → Option Broken → (ℕ → Broken → Type 0) → Type 0
IsToldFirst true told Offender = ⊤
IsToldFirst false None Offender = ⊥
IsToldFirst false (Some told) Offender = IsFirstOffender Offender told

-- an answer tells the first offender, and nothing where there is none
abbrev pub Judges : (ℕ → Broken → Type 0) → Result (Unit {0}) code.Broken → Type 0
Judges Offender (Ok done) = (place : ℕ) (told : Broken) → Offender place told → ⊥
Judges Offender (Err e) = IsToldFirst (is_memory e) (told_of e) Offender

-- nothing offends against a rule on designs in ticks
abbrev pub Passes : Design → Rule → Type 0
Passes x rule = (place : ℕ) (told : Broken) → Offends x x rule place told → ⊥

-- nothing offends against the rules before this one
abbrev pub PassesBefore : Design → Rule → Type 0
PassesBefore x rule = (lower : Rule) → number_of lower < number_of rule → Passes x lower
