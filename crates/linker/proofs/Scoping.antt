-- A stack of names with a table of their innermost slots.
use Rattle.std.proofs.Common.{◌≡◌, ◌⊎◌, inl, inr, ◌<◌, ◌≤◌, ℕ, suc, ◌+◌, ◌-◌, Bool, true, false, List, [], ◌∷◌, ◌++◌, Option, Some, None}
use Rattle.std.proofs.Common.{length, take}
use Rattle.std.proofs.Common.{drop, fold, refl, ap, sym, subst, ◌∙◌, arith, length-append}
use Rattle.std.specs.Prelude.{slice_get, unwrap_or, if◌then◌else◌}
use Rattle.std.proofs.lemmas.Bool.{cases_lt}
use Rattle.std.proofs.lemmas.List.{take-append-le}
use Rattle.std.proofs.lemmas.Option.{same_Some, slice_get_within}
use Rattle.std.proofs.lemmas.Slice.Eq.{bytes_eq-Decides}
use Rattle.std.proofs.Math.Seq.{take-append_seam}
use Rattle.seq_tree.specs.Names.{Name, same_name}
use Rattle.seq_tree.specs.Variables.{Variables}
use Rattle.seq_eval.specs.Lookups.{found}
use Rattle.name_sets.specs.Tables.{named}
use Rattle.name_sets.specs.declared.name_table.NameTable.{NameTable}
use Rattle.law_flat_code.specs.Codes.{next_slot}
use Rattle.linker.specs.Scopes.{IsTable, scope_of, with_slot}
use Rattle.linker.specs.declared.scope.Slot.{Slot}
use Rattle.linker.proofs.Keeping.{get_before, get_last, get_more}

fold_last : (rest : Variables) (xs : List Slot) (s : Slot) → fold with_slot rest (xs ++ s ∷ []) ≡ with_slot (fold with_slot rest xs) s
fold_last rest [] s = refl
fold_last rest (x ∷ xs) s = fold_last (with_slot rest x) xs s

pub scope_last : (xs : List Slot) (s : Slot) → scope_of (xs ++ s ∷ []) ≡ with_slot (scope_of xs) s
scope_last xs s = fold_last [] xs s

-- a stack from which the last name was taken
pub popped : (xs ys rest : List Slot) (s : Slot) (n : ℕ) → xs ≡ rest ++ s ∷ [] → length rest + 1 ≡ length xs → n ≡ length xs
    → ys ≡ take (n - 1) xs → ys ≡ rest
popped xs ys rest s n whole one count is =
    let most : n - 1 ≡ length rest = omega (arith, one, count) in
    is ∙ ap (λ k. take k xs) most ∙ ap (take (length rest)) whole ∙ take-append_seam rest (s ∷ [])

same_twice : (a b : Name) → same_name a b ≡ true → same_name b a ≡ true
same_twice a b e = (bytes_eq-Decides b a).1 (sym ((bytes_eq-Decides a b).0 e))

same_either : (a b : Name) → same_name a b ≡ same_name b a
same_either a b = by (same_name a b) refl (same_name b a) refl
  where
    by : (c : Bool) → same_name a b ≡ c → (d : Bool) → same_name b a ≡ d → same_name a b ≡ same_name b a
    by true e d f = e ∙ sym (same_twice a b e)
    by false e true f = absurd (let t = same_twice b a f in cc)
    by false e false f = e ∙ sym f

found_here : (b : Bool) (n m : Name) (slot : ℕ) (rest : Variables) → same_name n m ≡ b
    → found n ((m, slot) ∷ rest) ≡ (if b then Some slot else found n rest)
found_here true n m slot rest e = simp e refl
found_here false n m slot rest e = simp e refl

each_pushed : (b : Bool) (n : Name) (s : Slot) (rest : Variables) (o o' : Option (Option ℕ)) → same_name s.name.now n ≡ b
    → o' ≡ (if same_name s.name.now n then Some (Some s.slot) else o) → unwrap_or o None ≡ found n rest
    → unwrap_or o' None ≡ found n (with_slot rest s)
each_pushed true n s rest o o' e is h =
    ap (λ z. unwrap_or z None) (is ∙ ap (λ z. if z then Some (Some s.slot) else o) e)
    ∙ sym (found_here true n s.name.now s.slot rest (same_either n s.name.now ∙ e))
each_pushed false n s rest o o' e is h =
    ap (λ z. unwrap_or z None) (is ∙ ap (λ z. if z then Some (Some s.slot) else o) e) ∙ h
    ∙ sym (found_here false n s.name.now s.slot rest (same_either n s.name.now ∙ e))

each_left : (b : Bool) (n : Name) (s : Slot) (rest : Variables) (o o' : Option (Option ℕ)) → same_name s.name.now n ≡ b
    → o' ≡ (if same_name s.name.now n then Some s.hidden else o) → unwrap_or o None ≡ found n (with_slot rest s)
    → s.hidden ≡ found s.name.now rest → unwrap_or o' None ≡ found n rest
each_left true n s rest o o' e is h hidden =
    ap (λ z. unwrap_or z None) (is ∙ ap (λ z. if z then Some s.hidden else o) e) ∙ hidden
    ∙ ap (λ m. found m rest) ((bytes_eq-Decides s.name.now n).0 e)
each_left false n s rest o o' e is h hidden =
    ap (λ z. unwrap_or z None) (is ∙ ap (λ z. if z then Some s.hidden else o) e) ∙ h
    ∙ found_here false n s.name.now s.slot rest (same_either n s.name.now ∙ e)

pub table_none : (xs : List Slot) (t : NameTable (Option ℕ)) → xs ≡ [] → ((n : Name) → named t n ≡ None) → IsTable xs t
table_none xs t e h = subst (λ z. IsTable z t) (sym e)
    (record { each = λ n. ap (λ z. unwrap_or z None) (h n); hidden = λ k s at. absurd (let lt = slice_get_within [] k s at in omega (arith, lt)) })

pub table_same : (xs ys : List Slot) (t u : NameTable (Option ℕ)) → ys ≡ xs → ((n : Name) → named u n ≡ named t n) → IsTable xs t → IsTable ys u
table_same xs ys t u e h table = subst (λ z. IsTable z u) (sym e) (record {
  each = λ n. ap (λ z. unwrap_or z None) (h n) ∙ table.each n;
  hidden = table.hidden;
})

-- one name more
pub table_longer : (xs ys : List Slot) (s : Slot) (t u : NameTable (Option ℕ)) → ys ≡ xs ++ s ∷ [] → IsTable xs t
    → s.hidden ≡ found s.name.now (scope_of xs)
    → ((n : Name) → named u n ≡ (if same_name s.name.now n then Some (Some s.slot) else named t n)) → IsTable ys u
table_longer xs ys s t u is table hides put = subst (λ z. IsTable z u) (sym is) (record {
  each = λ n. each_pushed (same_name s.name.now n) n s (scope_of xs) (named t n) (named u n) refl (put n) (table.each n)
      ∙ ap (found n) (sym (scope_last xs s));
  hidden = λ k z at. by k z at (cases_lt k (length xs));
})
  where
    by : (k : ℕ) (z : Slot) → slice_get (xs ++ s ∷ []) k ≡ Some z → (k < length xs) ⊎ (length xs ≤ k)
        → z.hidden ≡ found z.name.now (scope_of (take k (xs ++ s ∷ [])))
    by k z at (inl lt) =
        table.hidden k z (sym (get_before xs (s ∷ []) k lt) ∙ at)
        ∙ ap (λ w. found z.name.now (scope_of w)) (sym (take-append-le k xs (s ∷ []) (omega (arith, lt))))
    by k z at (inr ge) =
        let lt = slice_get_within (xs ++ s ∷ []) k z at in
        let here : length xs ≡ k = omega (arith, lt, ge, length-append xs (s ∷ [])) in
        let same : s ≡ z = same_Some s z (sym (get_last xs s) ∙ ap (slice_get (xs ++ s ∷ [])) here ∙ at) in
        let hides' : s.hidden ≡ found s.name.now (scope_of (take k (xs ++ s ∷ []))) =
        hides ∙ ap (λ w. found s.name.now (scope_of w)) (sym (take-append_seam xs (s ∷ [])) ∙ ap (λ i. take i (xs ++ s ∷ [])) here) in
        subst (λ x. x.hidden ≡ found x.name.now (scope_of (take k (xs ++ s ∷ [])))) same hides'

-- without the last name
pub table_shorter : (xs ys : List Slot) (s : Slot) (t u : NameTable (Option ℕ)) → xs ≡ ys ++ s ∷ [] → IsTable xs t
    → ((n : Name) → named u n ≡ (if same_name s.name.now n then Some s.hidden else named t n)) → IsTable ys u
table_shorter xs ys s t u is table put =
    let first : IsTable (ys ++ s ∷ []) t = subst (λ z. IsTable z t) is table in
    let hides : s.hidden ≡ found s.name.now (scope_of ys) =
    first.hidden (length ys) s (get_last ys s) ∙ ap (λ w. found s.name.now (scope_of w)) (take-append_seam ys (s ∷ [])) in
    record {
      each = λ n. each_left (same_name s.name.now n) n s (scope_of ys) (named t n) (named u n) refl (put n)
          (first.each n ∙ ap (found n) (scope_last ys s)) hides;
      hidden = λ k z at. first.hidden k z (get_more ys (s ∷ []) k z at)
          ∙ ap (λ w. found z.name.now (scope_of w)) (take-append-le k ys (s ∷ []) (let lt = slice_get_within ys k z at in omega (arith, lt)));
    }

-- the scope without its innermost name, and the slot above all of it
pub scope_shorter : (xs ys : List Slot) (s : Slot) → xs ≡ ys ++ s ∷ [] → scope_of ys ≡ drop 1 (scope_of xs)
scope_shorter xs ys s is = ap (λ z. drop 1 z) (sym (scope_last ys s)) ∙ ap (λ z. drop 1 (scope_of z)) (sym is)

pub next_last : (xs ys : List Slot) (s : Slot) → xs ≡ ys ++ s ∷ [] → suc s.slot ≡ next_slot (scope_of xs)
next_last xs ys s is = ap next_slot (sym (scope_last ys s)) ∙ ap (λ z. next_slot (scope_of z)) (sym is)

-- there is no innermost name
pub none_left : (xs : List Slot) (scope : Variables) → length xs ≡ 0 → scope_of xs ≡ scope → scope ≡ drop 1 scope
none_left [] scope none is = subst (λ z. z ≡ drop 1 z) is refl
none_left (x ∷ xs) scope none is = absurd (omega (arith, none))
