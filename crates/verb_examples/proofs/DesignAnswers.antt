-- Examples: what the reader of a design answers. Which fault a token's fault is, is computed.
use Rattle.std.specs.Prelude.{◌≡◌, ℕ, ◌≤◌, ◌<◌, List, [], ◌∷◌, map, length, Ok, Err, refl}
use Rattle.std.proofs.Common.{arith}
use Rattle.seq_tree.specs.declared.token.Place.{Place}
use Rattle.seq_tree.specs.declared.text_fault.TextFault.TheVariants as fault
use Rattle.token_read.specs.declared.fault.LexFault.TheVariants as lex
use Rattle.ods_tree.specs.Trees.{design_of}
use Rattle.ods_tree.specs.Reading as designs
use Rattle.ods_tree.specs.declared.design.Design.{Design}
use Rattle.ods_read.specs.Answers as designing

abbrev place : Place
place = record { line = 1; column = 2 }

-- DESIGNS
design_faults : map designing.fault_of (lex.Byte place ∷ lex.Number place ∷ lex.Long place ∷ lex.NoMemory ∷ [])
    ≡ fault.Byte place ∷ fault.Number place ∷ fault.Long place ∷ fault.NoMemory ∷ []
design_faults = refl

module _ (bytes : List ℕ) where
  design : (x : Design) → designs.Reads bytes (design_of x) → designing.Says bytes (Ok x)
  design x h = h

  no_design : (x : Design) → (designs.Reads bytes (design_of x) → ⊥) → designing.Says bytes (Ok x) → ⊥
  no_design x never h = never h

  long_design : 1048576 < length bytes → designing.Says bytes (Err fault.FileTooLong)
  long_design over = over

  short_design : length bytes ≤ 1048576 → designing.Says bytes (Err fault.FileTooLong) → ⊥
  short_design short h = omega (arith, short, h)

  design_memory : designing.Says bytes (Err fault.NoMemory)
  design_memory = tt
