-- Examples: what the reader of arrivals answers. Which fault a token's fault is, is computed; what is told holds of all its parts, and without
-- one of them it doesn't.
use Rattle.std.specs.Prelude.{◌≡◌, ℕ, ◌≤◌, List, [], ◌∷◌, map, Ok, Err, refl}
use Rattle.std.proofs.Common.{arith}
use Rattle.seq_tree.specs.Names.{Name}
use Rattle.seq_tree.specs.declared.token.Place.{Place}
use Rattle.seq_tree.specs.declared.text_fault.TextFault.TheVariants as fault
use Rattle.token_read.specs.declared.fault.LexFault.TheVariants as lex
use Rattle.ada_tree.specs.Programs.{Program}
use Rattle.arrivals_tree.specs.Acceptance.{Falling, Unknown, Unfit, Early}
use Rattle.arrivals_tree.specs.Arrived.{Arrives, horizon_limit}
use Rattle.arrivals_tree.specs.Arriving.{arrivals_of}
use Rattle.arrivals_tree.specs.declared.arrivals.Arrivals as values
use Rattle.arrivals_read.specs.Answers as arriving
use Rattle.arrivals_read.specs.declared.fault.ArrivalFault.TheVariants as arrival

abbrev place : Place
place = record { line = 1; column = 2 }

-- ARRIVALS
arrival_faults : map arriving.fault_of (lex.Byte place ∷ lex.Number place ∷ lex.Long place ∷ lex.NoMemory ∷ [])
    ≡ arrival.Text (fault.Byte place) ∷ arrival.Text (fault.Number place) ∷ arrival.Text (fault.Long place) ∷ arrival.NoMemory ∷ []
arrival_faults = refl

module _ (bytes : List ℕ) (p : Program) (line : ℕ) (name : Name) where
  arrives : (a : values.Arrivals) → Arrives horizon_limit bytes p (arrivals_of a) → arriving.Says bytes p (Ok a)
  arrives a h = h

  not_arriving : (a : values.Arrivals) → (Arrives horizon_limit bytes p (arrivals_of a) → ⊥) → arriving.Says bytes p (Ok a) → ⊥
  not_arriving a never h = never h

  falls : arriving.IsWrong bytes p Falling line name → arriving.Says bytes p (Err (arrival.Q1 line))
  falls h = (name, h)

  not_falling : ((n : Name) → arriving.IsWrong bytes p Falling line n → ⊥) → arriving.Says bytes p (Err (arrival.Q1 line)) → ⊥
  not_falling never h = never h.0 h.1

  not_unknown : (arriving.IsWrong bytes p Unknown line name → ⊥) → arriving.Says bytes p (Err (arrival.Q2 line name)) → ⊥
  not_unknown never h = never h

  not_early : (arriving.IsWrong bytes p Early line name → ⊥) → arriving.Says bytes p (Err (arrival.Q3 line name)) → ⊥
  not_early never h = never h

  unfit : arriving.IsWrong bytes p Unfit line name → arriving.Says bytes p (Err (arrival.Q5 line))
  unfit h = (name, h)

  not_unfit : ((n : Name) → arriving.IsWrong bytes p Unfit line n → ⊥) → arriving.Says bytes p (Err (arrival.Q5 line)) → ⊥
  not_unfit never h = never h.0 h.1

  far : arriving.IsFar bytes line → arriving.Says bytes p (Err (arrival.Q4 line 1000000000))
  far h = (h, refl)

  not_far : (arriving.IsFar bytes line → ⊥) → arriving.Says bytes p (Err (arrival.Q4 line 1000000000)) → ⊥
  not_far never h = never h.0

  other_limit : arriving.Says bytes p (Err (arrival.Q4 line 1000000001)) → ⊥
  other_limit h = omega (arith, h.1)

  arrivals_memory : arriving.Says bytes p (Err arrival.NoMemory)
  arrivals_memory = tt

  memory_refuses : arriving.Refuses bytes p arrival.NoMemory → ⊥
  memory_refuses h = h

within_the_limit : (bytes : List ℕ) (value : ℕ) → value ≤ 1000000000 → arriving.IsFar bytes value → ⊥
within_the_limit bytes value near h = omega (arith, near, h.far)
