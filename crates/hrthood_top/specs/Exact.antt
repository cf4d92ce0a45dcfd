-- That a refusal comes exactly where its cause stands: of one command over one shelf there is one, and none where something is written;
-- and that there is one text to write. The causes are those of the ends.
use Rattle.std.specs.Prelude.{◌≡◌, ℕ, List}
use Rattle.hood_io.specs.Shelves.{Told}
use Rattle.hrthood_top.specs.Verbs.{Verb}
use Rattle.hrthood_top.specs.Ends.{Writes, WritesUpTo, Cause, Refuses}

-- two causes are one
abbrev pub HasOneCause : Told → Verb → Type 0
HasOneCause t v = (p q : Cause v) → Refuses t v p → Refuses t v q → p ≡ q

-- no cause stands where what a verb makes is written
abbrev pub WritesOrRefuses : Told → Verb → Type 0
WritesOrRefuses t v = (cause : Cause v) (text : List ℕ) → Refuses t v cause → Writes t v text → ⊥

-- two texts that a verb writes are one, and so are two that it writes before it stops
pub record WritesOneText (t : Told) (v : Verb) : Type 0 where
  pub done : (text other : List ℕ) → Writes t v text → Writes t v other → text ≡ other
  pub stopped : (stop halt : v.Stop) (text other : List ℕ) → WritesUpTo t v stop text → WritesUpTo t v halt other → text ≡ other
