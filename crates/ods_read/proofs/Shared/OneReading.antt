-- That bytes read as one design, have one fault, and have none where they read as a design.
use Rattle.std.proofs.Common.{◌≡◌, ℕ, List, Result, Ok, Err, refl, sym, ◌∙◌}
use Rattle.seq_tree.specs.Limits.{text_limit}
use Rattle.seq_tree.specs.Lexis.{Misread, tokens, plain}
use Rattle.seq_tree.specs.declared.token.Token.{Token}
use Rattle.seq_tree.specs.declared.token.Spanned.{Spanned}
use Rattle.seq_tree.specs.declared.text_fault.TextFault.{TextFault}
use Rattle.seq_tree.specs.declared.text_fault.TextFault.TheVariants as text
use Rattle.seq_read.proofs.Shared.TextFaultLaws.{one-text-fault}
use Rattle.ods_tree.specs.Designs.{Design}
use Rattle.ods_tree.specs.Reading.{Reads}
use Rattle.ods_tree.specs.Spelling.{design_tokens}
use Rattle.ods_read.specs.Answers.{AnyDesign, Keeps, Faults}
use Rattle.ods_read.proofs.Shared.ReadingLaws.{reads-only, reads-unfaulty}

-- the tokens of bytes that have some
there : (found : Result (List Spanned) Misread) (ts : List Token) → plain found ≡ Ok ts → (all : List Spanned) × (found ≡ Ok all)
there (Ok all) ts e = (all, refl)
there (Err fault) ts e = absurd cc

pub one-design : (bytes : List ℕ) (x y : Design) → Reads bytes x → Reads bytes y → x ≡ y
one-design bytes x y r q =
    let found = there (tokens bytes) (design_tokens x) r.spelled in
    let same : Ok x ≡ Ok y = sym (reads-only bytes found.0 x found.1 r) ∙ reads-only bytes found.0 y found.1 q in
    cc

pub one-fault : (bytes : List ℕ) (f g : TextFault) → Faults bytes f → Faults bytes g → f ≡ g
one-fault bytes f g h k = one-text-fault AnyDesign Keeps text_limit bytes f g h k

none_of_memory : (bytes : List ℕ) (f : TextFault) → f ≡ text.NoMemory → Faults bytes f → ⊥
none_of_memory bytes (text.Byte place) e h = cc
none_of_memory bytes (text.Number place) e h = cc
none_of_memory bytes (text.Long place) e h = cc
none_of_memory bytes (text.Syntax place) e h = cc
none_of_memory bytes (text.TooDeep place) e h = cc
none_of_memory bytes text.FileTooLong e h = cc
none_of_memory bytes text.NoMemory e h = h

pub no-fault : (bytes : List ℕ) (x : Design) (f : TextFault) → Reads bytes x → Faults bytes f → ⊥
no-fault bytes x f r h = none_of_memory bytes f (reads-unfaulty bytes x f r h) h
