-- Stacks of variables: the one at a place, those behind it and those before it.
use Rattle.std.proofs.Common.{◌≡◌, ℕ, ◌+◌, ◌-◌, ◌≤◌, ◌<◌, cond, Bool, true, false, List, [], ◌∷◌, ◌++◌, length, take, drop, set, get_or, map}
use Rattle.std.proofs.Common.{fold, refl, ap}
use Rattle.std.proofs.Common.{sym, ◌∙◌, arith, append_assoc}
use Rattle.std.proofs.lemmas.List.{take-append-drop, drop-set, take-set, map-append}
use Rattle.std.proofs.lemmas.List.Sums.{fold-append}
use Rattle.seq_tree.specs.Names.{Name, same_name}
use Rattle.seq_tree.specs.Variables.{Variables, write}
use Rattle.seq_tree.proofs.Shared.LoopSteps.{drop_step, take_step}
use Rattle.seq_eval.specs.Scopes.{vars_of, with_var}
use Rattle.seq_eval.specs.declared.scope.Var.{Var}

-- what stands outside
fold_onto : (xs : List Var) (a : Variables) → fold with_var a xs ≡ vars_of xs ++ a
fold_onto [] a = refl
fold_onto (x ∷ xs) a =
    fold_onto xs (with_var a x) ∙ sym (append_assoc (vars_of xs) ((x.name.now, x.value) ∷ []) a)
    ∙ ap (λ ys. ys ++ a) (sym (fold_onto xs ((x.name.now, x.value) ∷ [])))

pub vars-cons : (x : Var) (xs : List Var) → vars_of (x ∷ xs) ≡ vars_of xs ++ (x.name.now, x.value) ∷ []
vars-cons x xs = fold_onto xs ((x.name.now, x.value) ∷ [])

pub vars-snoc : (xs : List Var) (x : Var) → vars_of (xs ++ x ∷ []) ≡ (x.name.now, x.value) ∷ vars_of xs
vars-snoc xs x = fold-append with_var [] xs (x ∷ [])

-- the variables from a place on
pub vars-from : (xs : List Var) (at : ℕ) (x : Var) → at < length xs → x ≡ get_or xs at x
    → vars_of (drop at xs) ≡ vars_of (drop (at + 1) xs) ++ (x.name.now, x.value) ∷ []
vars-from xs at x within is = ap vars_of (drop_step xs at x within is) ∙ vars-cons x (drop (at + 1) xs)

-- the variables up to a place
pub vars-to : (xs : List Var) (at : ℕ) (x : Var) → at < length xs → x ≡ get_or xs at x
    → vars_of (take (at + 1) xs) ≡ (x.name.now, x.value) ∷ vars_of (take at xs)
vars-to xs at x within is = ap vars_of (take_step xs at x within is) ∙ vars-snoc (take at xs) x

-- what stands at a place is one
pub same-item : (xs : List Var) (i : ℕ) (x y : Var) → i < length xs → x ≡ get_or xs i x → y ≡ get_or xs i y → x ≡ y
same-item xs i x y inside is was =
    let one : x ∷ drop (i + 1) xs ≡ y ∷ drop (i + 1) xs = sym (drop_step xs i x inside is) ∙ drop_step xs i y inside was in cc

-- one place before another
one_on : (at : ℕ) → 0 < at → (at - 1) + 1 ≡ at
one_on at some = omega (arith, some)

-- one value more
pub values-on : (xs : List Var) (at : ℕ) (x : Var) (values pushed : List ℕ) → 0 < at → at ≤ length xs → x ≡ get_or xs (at - 1) x
    → values ≡ map (λ v. v.1) (vars_of (drop at xs)) → pushed ≡ values ++ x.value ∷ [] → pushed ≡ map (λ v. v.1) (vars_of (drop (at - 1) xs))
values-on xs at x values pushed some within is was made =
    made ∙ ap (λ vs. vs ++ x.value ∷ []) (was ∙ ap (λ k. map (λ v. v.1) (vars_of (drop k xs))) (sym (one_on at some)))
    ∙ sym (map-append (λ v. v.1) (vars_of (drop ((at - 1) + 1) xs)) ((x.name.now, x.value) ∷ []))
    ∙ ap (map (λ v. v.1)) (sym (vars-from xs (at - 1) x (omega (arith, some, within)) is))

-- a write passes a variable of another name
module _ (name : Name) (value : ℕ) where
  write_by : (x : Name × ℕ) (vs : Variables) (b : Bool) → same_name name x.0 ≡ b
      → write name value (x ∷ vs) ≡ cond b ((x.0, value) ∷ vs) (x ∷ write name value vs)
  write_by x vs b e = simp e refl

  pub write-past : (xs : List Var) (at : ℕ) (x : Var) → 0 < at → at ≤ length xs → x ≡ get_or xs (at - 1) x → same_name name x.name.now ≡ false
      → write name value (vars_of xs) ≡ vars_of (drop at xs) ++ write name value (vars_of (take at xs))
      → write name value (vars_of xs) ≡ vars_of (drop (at - 1) xs) ++ write name value (vars_of (take (at - 1) xs))
  write-past xs at x some within is other was =
      let front = vars_of (take (at - 1) xs) in
      let one : Name × ℕ = (x.name.now, x.value) in
      let inside : at - 1 < length xs = omega (arith, some, within) in
      let before : vars_of (take at xs) ≡ one ∷ front
      = ap (λ k. vars_of (take k xs)) (sym (one_on at some)) ∙ vars-to xs (at - 1) x inside is in
      let behind : vars_of (drop (at - 1) xs) ≡ vars_of (drop at xs) ++ one ∷ []
      = vars-from xs (at - 1) x inside is ∙ ap (λ k. vars_of (drop k xs) ++ one ∷ []) (one_on at some) in
      was ∙ ap (λ vs. vars_of (drop at xs) ++ write name value vs) before
      ∙ ap (λ vs. vars_of (drop at xs) ++ vs) (write_by one front false other)
      ∙ sym (append_assoc (vars_of (drop at xs)) (one ∷ []) (write name value front))
      ∙ ap (λ vs. vs ++ write name value front) (sym behind)

  -- and ends at the one that has it
  pub write-here : (xs : List Var) (at : ℕ) (x w : Var) → 0 < at → at ≤ length xs → x ≡ get_or xs (at - 1) x → same_name name x.name.now ≡ true
      → w.name.now ≡ x.name.now → w.value ≡ value
      → write name value (vars_of xs) ≡ vars_of (drop at xs) ++ write name value (vars_of (take at xs))
      → vars_of (set xs (at - 1) w) ≡ write name value (vars_of xs)
  write-here xs at x w some within is same named valued was =
      let front = vars_of (take (at - 1) xs) in
      let one : Name × ℕ = (x.name.now, x.value) in
      let inside : at - 1 < length xs = omega (arith, some, within) in
      let before : vars_of (take at xs) ≡ one ∷ front
      = ap (λ k. vars_of (take k xs)) (sym (one_on at some)) ∙ vars-to xs (at - 1) x inside is in
      let new : set xs (at - 1) w ≡ take (at - 1) xs ++ w ∷ drop at xs
      = sym (take-append-drop (at - 1) (set xs (at - 1) w))
      ∙ ap (λ ys. ys ++ drop (at - 1) (set xs (at - 1) w)) (take-set xs (at - 1) w)
      ∙ ap (λ ys. take (at - 1) xs ++ ys) (drop-set xs (at - 1) w inside)
      ∙ ap (λ k. take (at - 1) xs ++ w ∷ drop k xs) (one_on at some) in
      ap vars_of new ∙ fold-append with_var [] (take (at - 1) xs) (w ∷ drop at xs)
      ∙ fold_onto (drop at xs) ((w.name.now, w.value) ∷ front)
      ∙ ap (λ n. vars_of (drop at xs) ++ (n, w.value) ∷ front) named ∙ ap (λ v. vars_of (drop at xs) ++ (x.name.now, v) ∷ front) valued
      ∙ sym (was ∙ ap (λ vs. vars_of (drop at xs) ++ write name value vs) before
      ∙ ap (λ vs. vars_of (drop at xs) ++ vs) (write_by one front true same))
