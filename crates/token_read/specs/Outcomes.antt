-- What a call that reads tokens answers, by what the definition gives: the same value, or the same fault at the same place. The
-- definition is in seq_tree, and its lexical elements are those of ISO/IEC 8652:2012, 2.1 to 2.7.
use Rattle.std.specs.Prelude.{◌≡◌, Result, Ok, Err}
use Rattle.seq_tree.specs.Lexis.{Misread, Stray, Great, Long}
use Rattle.token_read.specs.declared.fault.LexFault.{LexFault}
use Rattle.token_read.specs.declared.fault.LexFault.TheVariants as fault

-- A call returned, seen by view, what the definition gives, unless memory ran out.
abbrev pub Gives : {X Y : Type 0} → (X → Y) → Result X LexFault → Result Y Misread → Type 0
Gives view (Ok x) read = read ≡ Ok (view x)
Gives view (Err (fault.Byte place)) read = read ≡ Err (Stray place)
Gives view (Err (fault.Number place)) read = read ≡ Err (Great place)
Gives view (Err (fault.Long place)) read = read ≡ Err (Long place)
Gives view (Err fault.NoMemory) read = Unit {0}
