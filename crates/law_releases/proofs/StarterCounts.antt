-- How many requests of a task the pieces left to another may still make, on the way that makes most. It does not rise, whatever the task does,
-- and falls with each request that is made.
use Rattle.std.specs.Prelude.{◌≡◌, ℕ, ◌+◌, ◌≤◌, true, ◌==◌, List, ◌∷◌, if◌then◌else◌, refl}
use Rattle.std.proofs.Common.{sym, arith}
use Rattle.std.proofs.lemmas.Bool.{true≢false}
use Rattle.seq_tree.specs.Names.{Name}
use Rattle.seq_tree.specs.Variables.{Variables}
use Rattle.machine.specs.Systems.{System}
use Rattle.machine.specs.Pieces.{Piece}
use Rattle.machine.specs.Deeds.{Act, Ended, done}
use Rattle.law_calls.proofs.Shared.Remaining.{Measure, own, rest, CoversCalls, rest-done}
use Rattle.law_tasks.proofs.Shared.Aheads.{is_quiet}
use Rattle.law_tasks.proofs.Shared.Acts.{Source, From_quiet, From_put, From_entry, From_leave, From_ended, From_finish, source}
use Rattle.law_lists.proofs.Shared.Weights.{counting}

-- requests of a task, counted where they end, and where calls count this much
abbrev pub requests_of : (Name → Name → ℕ) → ℕ → Measure
requests_of through j = record { weights = counting through; keeping = 0; opening = λ task. 0; requesting = λ task. if task == j then 1 else 0 }

-- a request that is made
abbrev pub made : ℕ → Act → ℕ
made j (Ended k v) = if k == j then 1 else 0
made j _ = 0

quiet_makes_none : (j : ℕ) (a : Act) → is_quiet a ≡ true → made j a ≡ 0
quiet_makes_none j (Ended k v) e = absurd (true≢false (sym e))
quiet_makes_none j _ e = refl

-- a piece makes what it counts by itself at most
made_own : (y : System) (through : Name → Name → ℕ) (j : ℕ) (vars : Variables) (x : Piece) (a : Act) → Source y vars x a
    → made j a ≤ own (requests_of through j) x
made_own y through j vars x a (From_quiet quiet) = omega (arith, quiet_makes_none j a quiet)
made_own y through j vars x a (From_put d) = omega arith
made_own y through j vars x a (From_entry unit name actuals o m g q leads) = omega arith
made_own y through j vars x a (From_leave o m ds outs stores caller) = omega arith
made_own y through j vars x a (From_ended task w) = omega arith
made_own y through j vars x a From_finish = omega arith

-- a deed
pub count-done : (y : System) (through : Name → Name → ℕ) (j : ℕ) → CoversCalls y (requests_of through j)
    → (x : Piece) (vars : Variables) (ps : List Piece)
    → rest (requests_of through j) ((done y x vars ps).pieces) + made j ((done y x vars ps).act) ≤ rest (requests_of through j) (x ∷ ps)
count-done y through j covers x vars ps =
    omega (arith, rest-done y (requests_of through j) covers x vars ps, made_own y through j vars x ((done y x vars ps).act) (source y x vars ps))
