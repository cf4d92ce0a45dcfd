-- A table of variables, from the last one to the first.
use Rattle.std.proofs.Common.{◌≡◌, ℕ, ◌+◌, ◌-◌, ◌<◌, ◌≤◌, Bool, true, false, drop, length, Option, Some, refl, sym, ap, ◌∙◌}
use Rattle.std.proofs.Common.{get_or, arith}
use Rattle.std.specs.Prelude.{unwrap_or, if◌then◌else◌}
use Rattle.std.specs.Cmp.{both_ways}
use Rattle.seq_tree.proofs.Shared.LoopSteps.{drop_step}
use Rattle.seq_tree.specs.Names.{Name, same_name}
use Rattle.seq_tree.specs.Variables.{Variables, read}
use Rattle.law_lists.proofs.Shared.Facts.{same-is, is-same}

turned : (a b : Name) → same_name a b ≡ same_name b a
turned a b = both_ways (same_name a b) (same_name b a) (λ e. is-same b a (sym (same-is a b e))) (λ e. is-same a b (sym (same-is b a e)))

pub one-read : (slots : Variables) (at : ℕ) (x : Name × ℕ) → at < length slots → x ≡ get_or slots at x → (n : Name) (old new : Option ℕ)
    → unwrap_or old 0 ≡ read n (drop (at + 1) slots) → new ≡ (if same_name x.0 n then Some x.1 else old) → unwrap_or new 0 ≡ read n (drop at slots)
one-read slots at x in' is n old new told put =
    ap (λ o. unwrap_or o 0) put ∙ by (same_name x.0 n)
    ∙ ap (λ z. if same_name x.0 n then x.1 else z) told ∙ ap (λ b. if b then x.1 else read n (drop (at + 1) slots)) (turned x.0 n)
    ∙ sym (ap (read n) (drop_step slots at x in' is))
  where
    by : (b : Bool) → unwrap_or (if b then Some x.1 else old) 0 ≡ (if b then x.1 else unwrap_or old 0)
    by true = refl
    by false = refl

pub back-read : (slots : Variables) (at : ℕ) (x : Name × ℕ) → 0 < at → at ≤ length slots → x ≡ get_or slots (at - 1) x → (n : Name)
    (old new : Option ℕ) → unwrap_or old 0 ≡ read n (drop at slots) → new ≡ (if same_name x.0 n then Some x.1 else old)
    → unwrap_or new 0 ≡ read n (drop (at - 1) slots)
back-read slots at x some within is n old new told put =
    let one : at - 1 + 1 ≡ at = omega (arith, some) in
    one-read slots (at - 1) x (omega (arith, some, within)) is n old new (told ∙ ap (λ k. read n (drop k slots)) (sym one)) put
