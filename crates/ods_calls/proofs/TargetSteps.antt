-- A name more among those of sporadic threads.
use Rattle.std.proofs.Math.Bool.{or-false}
use Rattle.std.proofs.Common.{◌≡◌, ℕ, Bool, true, false, cond, ◌||◌, Option, Some, refl, ap, sym, ◌∙◌, is_some}

-- a name that was put into a table is there
pub put_there : (same : Bool) (after before : Option ℕ) → after ≡ cond same (Some 0) before → is_some after ≡ (is_some before || same)
put_there true after before e = ap is_some e ∙ by (is_some before)
  where
    by : (b : Bool) → true ≡ (b || true)
    by true = refl
    by false = refl
put_there false after before e = ap is_some e ∙ sym (or-false (is_some before))

pub ruleset target_steps = (put_there, or-false)
