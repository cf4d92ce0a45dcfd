-- What it is to read a text as arrivals for a program: the text has their tokens, and nothing in them is wrong.
-- A text is at most 1,048,576 bytes.
use Rattle.std.specs.Prelude.{◌≡◌, ℕ, ◌≤◌, List, length, Ok}
use Rattle.seq_tree.specs.Limits.{text_limit, tick_limit}
use Rattle.seq_tree.specs.Lexis.{tokens, plain}
use Rattle.ada_tree.specs.Programs.{Program}
use Rattle.arrivals_tree.specs.Arriving.{Arrivals}
use Rattle.arrivals_tree.specs.ArrivalTexts.{ArrivalText, arrival_tokens, said}
use Rattle.arrivals_tree.specs.Acceptance.{IsAccepted}

-- the farthest horizon that is accepted, in ticks
abbrev pub horizon_limit : ℕ
horizon_limit = tick_limit

-- a text gives these arrivals for a program, up to the farthest horizon allowed
pub record Arrives (limit : ℕ) (text : List ℕ) (p : Program) (a : Arrivals) : Type 0 where
  pub within : length text ≤ text_limit
  pub tree : ArrivalText
  pub spelled : plain (tokens text) ≡ Ok (arrival_tokens tree)
  pub says : a ≡ said p tree
  pub accepted : IsAccepted limit p a
