-- What is told of threads, one at a time.
use Rattle.std.proofs.Common.{◌≡◌, ℕ, zero, suc, ◌+◌, ◌-◌, ◌<◌, List, [], ◌∷◌, ◌++◌, Option, Some, None, refl, sym, ap, ◌∙◌, arith, append_assoc, append-nil}
use Rattle.std.specs.Prelude.{filter_map, option_and_then, slice_get}
use Rattle.std.specs.List.{cons_option}
use Rattle.seq_tree.specs.Names.{Name}
use Rattle.ods_tree.specs.Flats.{Flat, Thread}
use Rattle.analysis.specs.Ceilings.{numbered}
use Rattle.analysis.specs.Tables.{downwards}
use Rattle.explanation.specs.declared.reasons.Blocker.{Blocker}
use Rattle.explanation.specs.declared.reasons.Reasons.{Reasons}
use Rattle.explanation.specs.Threads.{Known, blocker_of, reasons_at}

-- where no thread stands at a place nothing is told
pub none-added : (f : Flat) (k : Known) (before : List Reasons) → slice_get f.threads k.0 ≡ None → before ≡ before ++ filter_map (reasons_at f) (k ∷ [])
none-added f k before e = rw e (sym (append-nil before))

-- and where one does, this
pub one-added : (f : Flat) (k : Known) (t : Thread) (name : Name) (blocker : Option Blocker) (before after : List Reasons)
    → slice_get f.threads k.0 ≡ Some t → name ≡ t.name → blocker ≡ option_and_then (blocker_of f) k.1.1.1.0
    → after ≡ before ++ record { name = name; priority = k.1.1.1.1; row = k.1.0; reach = k.1.1.0; blocker = blocker } ∷ []
    → after ≡ before ++ filter_map (reasons_at f) (k ∷ [])
one-added f k t name blocker before after e called blocked grown = rw e (rw (← called, ← blocked) grown)

-- one priority more is written
pub counted-down : (first n written : ℕ) (before after total : List ℕ) → 0 < n → written ≡ n + (first - 1) → after ≡ before ++ written ∷ []
    → before ++ numbered first (downwards n) ≡ total → after ++ numbered first (downwards (n - 1)) ≡ total
counted-down first zero written before after total some is grown all = absurd (omega (arith, some))
counted-down first (suc n) written before after total some is grown all =
    let less : suc n - 1 ≡ n = omega arith in
    ap (λ k. after ++ numbered first (downwards k)) less ∙ ap (λ l. l ++ numbered first (downwards n)) grown
    ∙ append_assoc before (written ∷ []) (numbered first (downwards n)) ∙ ap (λ w. before ++ w ∷ numbered first (downwards n)) is ∙ all
