-- What a run promises, by the command that its words are, where they are one.
-- It is what both public calls say, whichever way they read the words.
use Rattle.std.specs.Prelude.{◌≡◌, ◌↔◌, Option, None}
use Rattle.hrthood_words.specs.Words.{Command}
use Rattle.hrthood_top.specs.declared.status.Status.{Status}
use Rattle.hrthood_top.specs.declared.status.Status.TheVariants.{Usage}
use Rattle.hrthood_top.specs.Ends.{Outside, Ends, Completes}
use Rattle.hrthood_top.specs.Samples.{EndsSample}

-- from what stood outside before to what stands there after
pub record Runs (status : Status) (asked : Option Command) (x y : Outside) : Type 0 where
  -- usage exactly where the words are no command
  pub usage : (status ≡ Usage) ↔ (asked ≡ None)
  -- each status with its cause, with what was written and fetched, and with what stays as it was
  pub ends : Ends status asked x y
  -- a sample is never refused, and what is written of it is its summary, whatever the shelf
  pub summed : EndsSample status asked x.out y.out
  -- what can be done is done, unless memory is wanted or a fault came
  pub completes : Completes status asked x y
