-- What values of the code stand for: a verb of the list, the words behind a verb, a command, and what reading words answers.
-- The code has words, the definitions their bytes.
use Rattle.std.specs.Prelude.{◌≡◌, ◌≤◌, List, [], ◌∷◌, ℕ, Option, Some, None, Result, Ok, Err, true, is_some, ⊤}
use Rattle.std.specs.Borrow.{Bor}
use Rattle.hrthood_words.specs.Words as words
use Rattle.hrthood_words.specs.declared.verbs.Shape.{Shape}
use Rattle.hrthood_words.specs.declared.operands.Operands.{Operands}
use Rattle.hrthood_words.specs.declared.operands.Operands.TheVariants.{One, Two, Three}
use Rattle.hrthood_words.specs.declared.command.Command.{Command}
use Rattle.hrthood_words.specs.declared.command.Command.TheVariants.{OnDesign, Replay, Verify, Accepts, Sample}
use Rattle.hrthood_words.specs.declared.reading.Unread.{Unread}
use Rattle.hrthood_words.specs.declared.reading.Unread.TheVariants.{NoCommand, NoMemory}

-- a verb of the list
abbrev pub listed : Bor (List ℕ) × Shape → words.Listed
listed v = (v.0.now, v.1)

-- the words behind a verb
abbrev pub operand_words : Operands → List (List ℕ)
operand_words (One first) = first.now ∷ []
operand_words (Two first second) = first.now ∷ second.now ∷ []
operand_words (Three first second third) = first.now ∷ second.now ∷ third.now ∷ []

-- names are their bytes
abbrev pub command_tree : Command → words.Command
command_tree (OnDesign verb design) = words.OnDesign verb design.now
command_tree (Replay ada arrivals) = words.Replay ada.now arrivals.now
command_tree (Verify design arrivals) = words.Verify design.now arrivals.now
command_tree (Accepts design arrivals trace) = words.Accepts design.now arrivals.now trace.now
command_tree (Sample threads) = words.Sample threads

-- a sample has from 1 to 30 threads
abbrev pub HasFewThreads : Command → Type 0
HasFewThreads (Sample threads) = (1 ≤ threads) × (threads ≤ 30)
HasFewThreads _ = ⊤

-- what is read of words, with the command that they are, where they are one: want of memory comes to commands alone
abbrev pub ReadsAs : Result Command Unread → Option words.Command → Type 0
ReadsAs (Ok c) is = is ≡ Some (command_tree c)
ReadsAs (Err NoCommand) is = is ≡ None
ReadsAs (Err NoMemory) is = is_some is ≡ true
