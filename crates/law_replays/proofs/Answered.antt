-- Answers of the one kind that are equal hold equal values, and no fault is a value.
-- Readers answer so.
use Rattle.std.specs.Prelude.{◌≡◌, Result, Ok, Err}
use Rattle.std.proofs.Common.{ap}

pub no_ok : {A E : Type 0} (e : E) (a : A) → ◌≡◌ {A = Result A E} (Err e) (Ok a) → ⊥
no_ok e a h = cc

pub ok_same : {A E : Type 0} (a b : A) → ◌≡◌ {A = Result A E} (Ok a) (Ok b) → a ≡ b
ok_same {A} {E} a b e = ap value e
  where
    value : Result A E → A
    value (Ok x) = x
    value (Err fault) = a
