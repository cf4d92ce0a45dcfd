-- Whether a thread can be last of some threads depends on which they are alone.
use Rattle.std.specs.Prelude.{◌≡◌, ℕ, true, List}
use Rattle.std.proofs.Common.{sym, ◌∙◌}
use Rattle.ods_tree.specs.Flats.{Flat}
use Rattle.analysis.specs.Sound.{IsSound}
use Rattle.law_orders.specs.Orders.{has_place, CanBeLast, IsLowest}
use Rattle.law_orders.proofs.Shared.Fewer.{fewer-above}

-- lists of the same places
abbrev pub SamePlaces : List ℕ → List ℕ → Type 0
SamePlaces xs ys = (k : ℕ) → has_place xs k ≡ has_place ys k

pub last-same : (f : Flat) → IsSound f → (xs ys : List ℕ) (own : ℕ) → SamePlaces xs ys → has_place xs own ≡ true → CanBeLast f xs own → CanBeLast f ys own
last-same f sound xs ys own same mine last = fewer-above f xs ys own sound (sym (same own) ∙ mine) (λ k h. same k ∙ h) last

pub lowest-same : (f : Flat) → IsSound f → (xs ys : List ℕ) (own : ℕ) → SamePlaces xs ys → IsLowest f xs own → IsLowest f ys own
lowest-same f sound xs ys own same lowest = record {
  among = sym (same own) ∙ lowest.among;
  last = last-same f sound xs ys own same lowest.among lowest.last;
  least = λ place p q h last e g. lowest.least place p q (same place ∙ h) (last-same f sound ys xs place (λ k. sym (same k)) h last) e g;
}
