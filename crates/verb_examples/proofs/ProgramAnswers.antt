-- Examples: what the reader of an Ada text answers. Which fault a token's fault is, is computed; a broken rule holds of all its parts, and without
-- one of them it doesn't.
use Rattle.std.specs.Prelude.{◌≡◌, ℕ, ◌≤◌, ◌<◌, List, [], ◌∷◌, map, length, Option, Ok, Err, refl}
use Rattle.std.proofs.Common.{arith}
use Rattle.seq_tree.specs.Names.{Name}
use Rattle.seq_tree.specs.declared.token.Place.{Place}
use Rattle.seq_tree.specs.declared.text_fault.TextFault.TheVariants as fault
use Rattle.token_read.specs.declared.fault.LexFault.TheVariants as lex
use Rattle.ada_tree.specs.Programs.{Program}
use Rattle.ada_tree.specs.Reading.{Reads, Accepts}
use Rattle.ada_tree.specs.Trees.{program_of}
use Rattle.ada_tree.specs.declared.program.AdaProgram.{AdaProgram}
use Rattle.ada_rules.specs.Verdicts as verdicts
use Rattle.ada_rules.specs.declared.verdict.AdaRule.TheVariants as rule
use Rattle.ada_rules.specs.declared.verdict.RuleBreak.TheVariants as told
use Rattle.ada_read.specs.Answers as programs
use Rattle.ada_read.specs.declared.fault.AdaFault.TheVariants as ada

abbrev place : Place
place = record { line = 1; column = 2 }

-- PROGRAMS
program_faults : map programs.fault_of (lex.Byte place ∷ lex.Number place ∷ lex.Long place ∷ lex.NoMemory ∷ [])
    ≡ ada.Text (fault.Byte place) ∷ ada.Text (fault.Number place) ∷ ada.Text (fault.Long place) ∷ ada.NoMemory ∷ []
program_faults = refl

module _ (bytes : List ℕ) where
  program : (p : AdaProgram) → Accepts bytes (program_of p) → programs.Says bytes (Ok p)
  program p h = h

  no_program : (p : AdaProgram) → (Accepts bytes (program_of p) → ⊥) → programs.Says bytes (Ok p) → ⊥
  no_program p never h = never h

  long_program : 16777216 < length bytes → programs.Says bytes (Err (ada.Text fault.FileTooLong))
  long_program over = over

  short_program : length bytes ≤ 16777216 → programs.Says bytes (Err (ada.Text fault.FileTooLong)) → ⊥
  short_program short h = omega (arith, short, h)

  breaks : (p : Program) (unit : Option Name) → Reads bytes p → ((q : Program) → Reads bytes q → q ≡ p)
      → verdicts.Says p (Err (told.Rule rule.G5 unit)) → programs.Says bytes (Err (ada.Rule rule.G5 unit))
  breaks p unit r one b = record { program = p; reads = r; alone = one; broken = b }

  unread : (unit : Option Name) → ((p : Program) → Reads bytes p → ⊥) → programs.Says bytes (Err (ada.Rule rule.G5 unit)) → ⊥
  unread unit never h = never h.program h.reads

  two_programs : (p q : Program) (unit : Option Name) → Reads bytes p → Reads bytes q → (p ≡ q → ⊥)
      → programs.Says bytes (Err (ada.Rule rule.G5 unit)) → ⊥
  two_programs p q unit r s differ h = differ (let e = h.alone p r in let f = h.alone q s in cc)

  unbroken : (unit : Option Name) → ((p : Program) → Reads bytes p → verdicts.Says p (Err (told.Rule rule.G5 unit)) → ⊥)
      → programs.Says bytes (Err (ada.Rule rule.G5 unit)) → ⊥
  unbroken unit never h = never h.program h.reads h.broken

  program_memory : programs.Says bytes (Err ada.NoMemory)
  program_memory = tt
