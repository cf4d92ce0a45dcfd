-- What the reader of an Ada text answers, by cases. A place is the line and the column of a token, or of the end of the text.
-- Lexical faults come before those of syntax and depth, and these before the rules of a program.
use Rattle.std.specs.Prelude.{◌≡◌, ℕ, List, Option, Result, Ok, Err, ⊤}
use Rattle.seq_tree.specs.Limits.{ada_limit}
use Rattle.seq_tree.specs.Names.{Name}
use Rattle.seq_tree.specs.Reach.{Fault}
use Rattle.seq_tree.specs.Proper.{within_limits, without_limits}
use Rattle.seq_tree.specs.declared.token.Token.{Token}
use Rattle.seq_tree.specs.declared.token.Place.{Place}
use Rattle.seq_tree.specs.declared.text_fault.TextFault.{TextFault}
use Rattle.seq_tree.specs.declared.text_fault.TextFault.TheVariants as fault
use Rattle.ada_tree.specs.Programs.{Program}
use Rattle.ada_tree.specs.Trees.{program_of}
use Rattle.ada_tree.specs.Words.{is_ada_name}
use Rattle.ada_tree.specs.Proper.{IsProperProgram}
use Rattle.ada_tree.specs.Spelling.{program_tokens}
use Rattle.ada_tree.specs.Reading.{Reads, Accepts}
use Rattle.ada_tree.specs.declared.program.AdaProgram.{AdaProgram}
use Rattle.ada_rules.specs.Verdicts as verdicts
use Rattle.ada_rules.specs.declared.verdict.AdaRule.{AdaRule}
use Rattle.ada_rules.specs.declared.verdict.RuleBreak.TheVariants as told
use Rattle.token_read.specs.declared.fault.LexFault.{LexFault}
use Rattle.token_read.specs.declared.fault.LexFault.TheVariants as lex
use Rattle.seq_read.specs.TextFaults as texts
use Rattle.ada_read.specs.declared.fault.AdaFault.{AdaFault}
use Rattle.ada_read.specs.declared.fault.AdaFault.TheVariants.{Text, Rule, NoMemory}

-- the fault of a reader of tokens, as a fault of a text
abbrev pub fault_of : LexFault → AdaFault
fault_of (lex.Byte place) = Text (fault.Byte place)
fault_of (lex.Number place) = Text (fault.Number place)
fault_of (lex.Long place) = Text (fault.Long place)
fault_of lex.NoMemory = NoMemory

-- a program with its tokens
pub record IsTextOf (p : Program) (text : List Token) : Type 0 where
  pub proper : IsProperProgram (within_limits is_ada_name) p
  pub spelled : text ≡ program_tokens p

-- the tokens of some program
abbrev pub SomeProgram : List Token → Type 0
SomeProgram text = (p : Program) × IsTextOf p text

-- the tokens of some program, whatever its nesting and its chains
abbrev pub AnyProgram : List Token → Type 0
AnyProgram text = (p : Program) × IsProperProgram (without_limits is_ada_name) p × (text ≡ program_tokens p)

-- a text that is short enough, and whose tokens have this fault at this place
abbrev pub IsFaultyAt : List ℕ → Place → (ℕ → Fault) → Type 0
IsFaultyAt bytes place kind = texts.IsFaultyAt AnyProgram SomeProgram ada_limit bytes place kind

-- what a fault says
abbrev pub Faults : List ℕ → TextFault → Type 0
Faults bytes fault = texts.Faults AnyProgram SomeProgram ada_limit bytes fault

-- a text that reads as one program, and as no other, which breaks this rule first, at this unit
pub record Breaks (bytes : List ℕ) (rule : AdaRule) (unit : Option Name) : Type 0 where
  pub program : Program
  pub reads : Reads bytes program
  pub alone : (p : Program) → Reads bytes p → p ≡ program
  pub broken : verdicts.Says program (Err (told.Rule rule unit))

-- what an answer says; want of memory says nothing
abbrev pub Says : List ℕ → Result AdaProgram AdaFault → Type 0
Says bytes (Ok p) = Accepts bytes (program_of p)
Says bytes (Err (Text fault)) = Faults bytes fault
Says bytes (Err (Rule rule unit)) = Breaks bytes rule unit
Says bytes (Err NoMemory) = ⊤
