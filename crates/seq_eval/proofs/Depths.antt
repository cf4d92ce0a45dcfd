-- Walks at any depth at which a block may be walked come to the same.
use Rattle.std.proofs.Common.{◌≡◌, ℕ, ◌≤◌, ◌<◌, Bool, true, false, List, [], ◌∷◌, ◌++◌, length, Result, Ok, Err}
use Rattle.std.proofs.Common.{refl, sym, ap, ◌∙◌, arith, append_assoc, length-append, subst}
use Rattle.std.specs.Prelude.{nat_lt}
use Rattle.std.proofs.lemmas.Bool.{ltb-false, ltb-true}
use Rattle.grammar.specs.Reading.{Halt, left_of, IsFirstFault, whole_at}
use Rattle.seq_tree.specs.Names.{Name}
use Rattle.seq_tree.specs.Statements.{Statements}
use Rattle.seq_tree.specs.Variables.{Variables}
use Rattle.seq_tree.specs.Runs.{Action, Path, Callee}
use Rattle.seq_tree.specs.declared.tree.Costs.{Costs}
use Rattle.law_walks.specs.Walks.{walk_at}
use Rattle.law_walks.specs.Fit.{MayRun}
use Rattle.law_walks.specs.Laws.{RunOf, Tells}
use Rattle.law_walks.proofs.Shared.Deeper.{run-deeper}
use Rattle.law_walks.proofs.Shared.Exact.{tells}
use Rattle.seq_eval.specs.Ends.{comes_to}

heads : {x y : Action} {xs ys : List Action} → x ∷ xs ≡ y ∷ ys → x ≡ y
heads e = cc

tails : {x y : Action} {xs ys : List Action} → x ∷ xs ≡ y ∷ ys → xs ≡ ys
tails e = cc

-- of two ways to cut a list, the longer front goes on with what follows the shorter one
longer : (xs ys us vs : List Action) → xs ++ us ≡ ys ++ vs → length vs < length us
    → (t : Action) × (more : List Action) × (rest : List Action) × (us ≡ t ∷ more) × (ys ≡ xs ++ t ∷ rest)
longer [] ys [] vs e lt = absurd (omega (arith, lt))
longer [] [] (u ∷ us) vs e lt = absurd (let same = ap length e in omega (arith, same, lt))
longer [] (y ∷ ys) (u ∷ us) vs e lt = (u, us, ys, refl, let same : u ≡ y = heads e in ap (λ t. t ∷ ys) (sym same))
longer (x ∷ xs) [] us vs e lt = absurd (let same = ap length e in let sum = length-append xs us in omega (arith, same, sum, lt))
longer (x ∷ xs) (y ∷ ys) us vs e lt =
    let more = longer xs ys us vs (tails e) lt in
    (more.0, more.1, more.2, more.3, ap (λ t. t ∷ ys) (sym (heads e)) ∙ ap (λ zs. x ∷ zs) more.4)

-- no first fault comes before another
not-before : {A : Type 0} (G : A → List Action → Type 0) (script : List Action) (m n : ℕ) → IsFirstFault G script m → IsFirstFault G script n
    → m < n → ⊥
not-before G script m n f g lt =
    let cut = longer g.front f.front g.back f.back (sym g.split ∙ f.split)
    (let a = f.place in let b = g.place in omega (arith, a, b, lt)) in
    g.ends cut.0 cut.1 (cut.2 ++ f.tail) f.last cut.3
    (subst (G f.last) (ap (λ zs. zs ++ f.tail) cut.4 ∙ append_assoc g.front (cut.0 ∷ cut.2) f.tail) f.begins)

one-fault : {A : Type 0} (G : A → List Action → Type 0) (script : List Action) (m n : ℕ) → IsFirstFault G script m → IsFirstFault G script n → m ≡ n
one-fault G script m n f g = by (nat_lt m n) (nat_lt n m) refl refl
  where
    by : (b c : Bool) → nat_lt m n ≡ b → nat_lt n m ≡ c → m ≡ n
    by true c e h = absurd (not-before G script m n f g (ltb-true m n e))
    by false true e h = absurd (not-before G script n m g f (ltb-true n m h))
    by false false e h = let a = ltb-false m n e in let b = ltb-false n m h in omega (arith, a, b)

module _ (costs : Costs) (calls : Name → Name → Callee) (b : Statements) (vars : Variables) (script : List Action) where
  abbrev whole : ℕ → Result Path Halt
  whole n = whole_at (walk_at costs calls n b vars) script

  same-by : (n m : ℕ) (r s : Result Path Halt) → whole n ≡ r → whole m ≡ s → Tells costs calls n b vars script → Tells costs calls m b vars script
      → comes_to r ≡ comes_to s
  same-by n m (Ok p) s e f t u = ap comes_to (sym (u.only p (t.found p e)) ∙ f)
  same-by n m (Err h) (Ok p) e f t u = ap comes_to (sym e ∙ t.only p (u.found p f))
  same-by n m (Err h) (Err k) e f t u = ap Err (one-fault (RunOf costs calls b vars) script (left_of h) (left_of k) (t.fault h e) (u.fault k f))

  -- at all depths at which a block may be walked, its walk comes to the same
  pub same-depths : (n m : ℕ) → n ≤ m → MayRun calls n b → comes_to (whole n) ≡ comes_to (whole m)
  same-depths n m le may =
      same-by n m (whole n) (whole m) refl refl (tells costs calls n b vars script may)
      (tells costs calls m b vars script (run-deeper calls n m le b may))
