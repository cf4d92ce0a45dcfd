-- What is read of words, by the command that the parser found.
use Rattle.std.proofs.Common.{◌≡◌, Option, Some, None, Result, sym, subst, option_map}
use Rattle.std.specs.Option.{ok_or}
use Rattle.hrthood_words.specs.Words as words
use Rattle.hrthood_words.specs.Views.{ReadsAs, command_tree}
use Rattle.hrthood_words.specs.declared.command.Command.{Command}
use Rattle.hrthood_words.specs.declared.reading.Unread.{Unread}
use Rattle.hrthood_words.specs.declared.reading.Unread.TheVariants.{NoCommand}

-- the command that was found is read, and where none was, none
pub read-found : (is : Option words.Command) (found : Option Command) (read : Result Command Unread) → read ≡ ok_or found NoCommand
    → option_map command_tree found ≡ is → ReadsAs read is
read-found is None read e same =
    let R : Result Command Unread → Type 0 = λ z. ReadsAs z is in
    subst R (sym e) (sym same)
read-found is (Some k) read e same =
    let R : Result Command Unread → Type 0 = λ z. ReadsAs z is in
    subst R (sym e) (sym same)
