-- The text of arrivals as a tree, its tokens, and what it says of a program.
-- The format is this project's own.
use Rattle.std.specs.Prelude.{ℕ, List, [], ◌∷◌, ◌++◌, map, length, Option, Some, None, codes, flat_map, unwrap_or, option_map}
use Rattle.seq_tree.specs.Names.{Name, same_name}
use Rattle.seq_tree.specs.declared.token.Token.{Token}
use Rattle.seq_tree.specs.declared.token.Token.TheVariants.{Word, Number, Sign}
use Rattle.seq_tree.specs.declared.token.Mark.TheVariants.{Comma, Semicolon}
use Rattle.ada_tree.specs.Programs.{Program}
use Rattle.seq_tree.specs.Lists.{first_where}
use Rattle.arrivals_tree.specs.Arriving.{Arrivals, Durations}
use Rattle.arrivals_tree.specs.declared.arrivals.Arrival.{Arrival}

-- durations for a task
pub record WorkText : Type 0 where
  pub name : Name
  pub first : ℕ
  pub others : List ℕ

-- a request from outside
pub record AtText : Type 0 where
  pub time : ℕ
  pub name : Name
  pub value : Option ℕ

-- the text of arrivals
pub record ArrivalText : Type 0 where
  pub until : ℕ
  pub works : List WorkText
  pub requests : List AtText

-- further durations
abbrev pub other_tokens : List ℕ → List Token
other_tokens others = flat_map (λ n. Sign Comma ∷ Number n ∷ []) others

-- the tokens of durations
abbrev pub work_tokens : WorkText → List Token
work_tokens w = Word (codes "work") ∷ Word w.name ∷ Number w.first ∷ (other_tokens w.others ++ Sign Semicolon ∷ [])

-- a value, where there is one
abbrev pub value_tokens : Option ℕ → List Token
value_tokens None = []
value_tokens (Some value) = Number value ∷ []

-- the tokens of a request
abbrev pub request_tokens : AtText → List Token
request_tokens r = Word (codes "at") ∷ Number r.time ∷ Word r.name ∷ (value_tokens r.value ++ Sign Semicolon ∷ [])

-- the tokens of a text of arrivals
abbrev pub arrival_tokens : ArrivalText → List Token
arrival_tokens t =
    Word (codes "until") ∷ Number t.until ∷ Sign Semicolon ∷ (flat_map work_tokens t.works ++ flat_map request_tokens t.requests)

-- the place of the unit of this name, and the number of units where there is none
abbrev pub unit_place : Program → Name → ℕ
unit_place p name = unwrap_or (option_map (λ u. u.0) (first_where (λ u. same_name u.name name) p.units)) (length p.units)

-- what durations say of a program
abbrev pub work_of : Program → WorkText → Durations
work_of p w = record { task = unit_place p w.name; ticks = w.first ∷ w.others }

-- what a request says of a program
abbrev pub request_of : Program → AtText → Arrival
request_of p r = record { time = r.time; task = unit_place p r.name; value = r.value }

-- what a text says of a program
abbrev pub said : Program → ArrivalText → Arrivals
said p t = record { until = t.until; work = map (work_of p) t.works; items = map (request_of p) t.requests }
