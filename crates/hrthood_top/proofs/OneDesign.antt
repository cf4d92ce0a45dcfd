-- That bytes are one design, have one fault or none, and that a design breaks one rule first or none.
use Rattle.std.proofs.Common.{◌≡◌, ℕ, List, Option, Some, None, ap, subst}
use Rattle.ods_tree.specs.Designs as designs
use Rattle.ods_tree.specs.Reading.{Reads}
pub use Rattle.ods_read.proofs.Shared.OneReading.{one-design, no-fault, one-fault}
use Rattle.design_rules.specs.Broken.{Broken}
use Rattle.design_rules.specs.Rules.{MeetsRules}
use Rattle.ods_index.specs.Told.{told_of}
use Rattle.ods_index.specs.declared.broken.Broken as code
use Rattle.bridge.specs.declared.taking.Untaken.{Untaken}
use Rattle.bridge.specs.declared.taking.Untaken.TheVariants.{Text, Rule}
use Rattle.bridge.specs.Taking.{RefusesTaking, BreaksRule, IsBroken}
use Rattle.hrthood_top.proofs.OneRule.{one-broken}

-- a design that meets the rules breaks none
none_broken : (x : designs.Design) (told : Option Broken) → MeetsRules x → IsBroken x told → ⊥
none_broken x None meets broken = broken
none_broken x (Some told) meets broken = meets broken.rule broken.place told broken.offends

pub no-rule : (bytes : List ℕ) (broken : code.Broken) (x : designs.Design) → BreaksRule bytes (told_of broken) → Reads bytes x → MeetsRules x → ⊥
no-rule bytes broken x h reads meets =
    let B : designs.Design → Type 0 = λ z. IsBroken z (told_of broken) in
    none_broken x (told_of broken) meets (subst B (one-design bytes h.design x h.reads reads) h.broken)

-- it breaks one first
pub one-rule : (bytes : List ℕ) (a b : code.Broken) → BreaksRule bytes (told_of a) → BreaksRule bytes (told_of b) → a ≡ b
one-rule bytes a b h k =
    let B : designs.Design → Type 0 = λ z. IsBroken z (told_of a) in
    one-broken k.design a b (subst B (one-design bytes h.design k.design h.reads k.reads) h.broken) k.broken

-- bytes of a design that meets the rules are taken
pub not-untaken : (bytes : List ℕ) (x : designs.Design) (r : Untaken) → Reads bytes x → MeetsRules x → RefusesTaking bytes r → ⊥
not-untaken bytes x (Text found) reads meets h = no-fault bytes x found reads h
not-untaken bytes x (Rule broken) reads meets h = no-rule bytes broken x h reads meets

-- bytes are refused for one reason
pub one-untaken : (bytes : List ℕ) (r q : Untaken) → RefusesTaking bytes r → RefusesTaking bytes q → r ≡ q
one-untaken bytes (Text f) (Text g) h k = ap Text (one-fault bytes f g h k)
one-untaken bytes (Text f) (Rule broken) h k = absurd (no-fault bytes k.design f k.reads h)
one-untaken bytes (Rule broken) (Text f) h k = absurd (no-fault bytes h.design f h.reads k)
one-untaken bytes (Rule broken) (Rule other) h k = ap Rule (one-rule bytes broken other h k)
