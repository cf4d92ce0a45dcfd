-- Numbers by the names of an object and of an operation: those of an object stand at its place.
use Rattle.std.proofs.Common.{◌≡◌, ℕ, Bool, true, false, ◌&&◌, cond, Option, Some, refl, ap, sym, ◌∙◌}
use Rattle.std.specs.Prelude.{option_and_then, if◌then◌else◌}

module _ {P : Type 0} (look : P → Option ℕ) where
  -- the numbers of an object became these
  pub put_law : (first second : Bool) (p : ℕ) (before old new : Option P) (v : P) → new ≡ (if first then Some v else old)
      → (first ≡ true → old ≡ before) → look v ≡ cond second (Some p) (option_and_then look before)
      → option_and_then look new ≡ cond (first && second) (Some p) (option_and_then look old)
  put_law true true p before old new v is same made = ap (option_and_then look) is ∙ made
  put_law true false p before old new v is same made =
      ap (option_and_then look) is ∙ made ∙ ap (option_and_then look) (sym (same refl))
  put_law false second p before old new v is same made = ap (option_and_then look) is
