-- Readiness: a task that waits or sleeps is not ready, and one with pieces left is.
use Rattle.std.specs.Prelude.{◌≡◌, ℕ, true, List, [], ◌∷◌, refl}
use Rattle.std.proofs.Common.{sym, ◌∙◌}
use Rattle.std.proofs.lemmas.Bool.{true≢false}
use Rattle.machine.specs.Pieces.{Piece}
use Rattle.machine.specs.States.{Task, Readiness, Asleep, Waiting, Ready}
use Rattle.machine.specs.Releases.{is_waiting}

pub waits_not_ready : Waiting ≡ Ready → ⊥
waits_not_ready e = cc

pub sleeps_not_ready : (until : ℕ) → Asleep until ≡ Ready → ⊥
sleeps_not_ready until e = cc

pub waiting_is : (r : Readiness) → is_waiting r ≡ true → r ≡ Waiting
waiting_is Waiting e = refl
waiting_is Ready e = absurd (true≢false (sym e))
waiting_is (Asleep until) e = absurd (true≢false (sym e))

-- where one that is not ready has no pieces left
pub busy_ready : (t : Task) (x : Piece) (rest : List Piece) → ((t.readiness ≡ Ready → ⊥) → t.pieces ≡ []) → t.pieces ≡ x ∷ rest → t.readiness ≡ Ready
busy_ready t x rest idles has = by t.readiness refl
  where
    empty : [] ≡ x ∷ rest → ⊥
    empty e = cc

    by : (r : Readiness) → t.readiness ≡ r → t.readiness ≡ Ready
    by Ready e = e
    by Waiting e = absurd (empty (sym (idles (λ ready. waits_not_ready (sym e ∙ ready))) ∙ has))
    by (Asleep until) e = absurd (empty (sym (idles (λ ready. sleeps_not_ready until (sym e ∙ ready))) ∙ has))
