-- Names that differ: each reads as what its own slot holds.
use Rattle.std.proofs.lemmas.List.{length-append, length-map}
use Rattle.std.proofs.Common.{◌≡◌, ℕ, suc, ◌+◌, ◌-◌, Bool, true, false, not, ◌&&◌, ◌||◌, List, [], ◌∷◌, ◌++◌, length, refl, ap, sym}
use Rattle.std.proofs.Common.{◌∙◌, append_assoc, arith}
use Rattle.std.specs.Prelude.{if◌then◌else◌}
use Rattle.std.proofs.lemmas.Slice.Eq.{bytes_eq-Decides}
use Rattle.std.proofs.lemmas.List.Folds.{list_any-append}
use Rattle.seq_tree.specs.Names.{Name, are_distinct, is_named, same_name}
use Rattle.seq_tree.specs.Operations.{is_out, out_names}
use Rattle.seq_tree.specs.Variables.{Variables, kept, read, reads}
use Rattle.seq_tree.specs.declared.tree.Datum.{Datum}
use Rattle.seq_tree.specs.declared.tree.Mode.{Mode}
use Rattle.seq_tree.specs.declared.tree.Mode.TheVariants.{In, Out}
use Rattle.seq_tree.specs.declared.tree.Param.{Param}
use Rattle.linker.specs.Slots.{slot_at, vars_at}
use Rattle.linker.specs.Programs.{datum_names, param_names}
use Rattle.linker.specs.Scopes.{slots_of}

no_true : true ≡ false → ⊥
no_true h = cc

or_false : (a b : Bool) → (a || b) ≡ false → (a ≡ false) × (b ≡ false)
or_false false false e = (refl, refl)
or_false false true e = absurd (no_true e)
or_false true b e = absurd (no_true e)

and_true : (a b : Bool) → (a && b) ≡ true → (a ≡ true) × (b ≡ true)
and_true true true e = (refl, refl)
and_true true false e = absurd (no_true (sym e))
and_true false b e = absurd (no_true (sym e))

not_true : (b : Bool) → not b ≡ true → b ≡ false
not_true true e = absurd (no_true (sym e))
not_true false e = refl

same_itself : (n : Name) → same_name n n ≡ true
same_itself n = (bytes_eq-Decides n n).1 refl

read_first : (b : Bool) (n x : Name) (v : ℕ) (vs : Variables) → same_name n x ≡ b → read n ((x, v) ∷ vs) ≡ (if b then v else read n vs)
read_first b n x v vs e = ap (λ c. if c then v else read n vs) e

-- none of these names is the first one
pub first_apart : (n : Name) (ns : List Name) → are_distinct (n ∷ ns) ≡ true → (is_named ns n ≡ false) × (are_distinct ns ≡ true)
first_apart n ns h = let both = and_true (not (is_named ns n)) (are_distinct ns) h in (not_true (is_named ns n) both.0, both.1)

behind_apart : (xs : List Name) (n : Name) (ys : List Name) (x : Name) → is_named (xs ++ n ∷ ys) x ≡ false → same_name n x ≡ false
behind_apart xs n ys x h =
    (or_false (same_name n x) (is_named ys x) ((or_false (is_named xs x) (is_named (n ∷ ys) x)
    (sym (list_any-append (λ m. same_name m x) xs (n ∷ ys)) ∙ h)).1)).0

pub read_split : (xs : List Name) (n : Name) (ys : List Name) (slots : List ℕ) → are_distinct (xs ++ n ∷ ys) ≡ true
    → read n (vars_at (slots_of (xs ++ n ∷ ys)) slots) ≡ slot_at slots (length ys)
read_split [] n ys slots h = read_first true n n (slot_at slots (length ys)) (vars_at (slots_of ys) slots) (same_itself n)
read_split (x ∷ xs) n ys slots h =
    let apart = first_apart x (xs ++ n ∷ ys) h in
    read_first false n x (slot_at slots (length (xs ++ n ∷ ys))) (vars_at (slots_of (xs ++ n ∷ ys)) slots) (behind_apart xs n ys x apart.0)
    ∙ read_split xs n ys slots apart.1

-- data are kept as their slots hold them
pub kept_slots : (ns : List Name) (ds : List Datum) (slots : List ℕ) → are_distinct (ns ++ datum_names ds) ≡ true
    → kept ds (vars_at (slots_of (ns ++ datum_names ds)) slots) ≡ vars_at (slots_of (datum_names ds)) slots
kept_slots ns [] slots h = refl
kept_slots ns (d ∷ ds) slots h =
    let one = read_split ns d.name (datum_names ds) slots h in
    let moved = append_assoc ns (d.name ∷ []) (datum_names ds) in
    let rest = kept_slots (ns ++ d.name ∷ []) ds slots (ap are_distinct moved ∙ h) in
    ap (λ v. (d.name, v) ∷ kept ds (vars_at (slots_of (ns ++ d.name ∷ datum_names ds)) slots)) one
    ∙ ap (λ xs. (d.name, slot_at slots (length (datum_names ds))) ∷ kept ds (vars_at (slots_of xs) slots)) (sym moved)
    ∙ ap (λ vs. (d.name, slot_at slots (length (datum_names ds))) ∷ vs) rest

-- a variable of another name is passed over by what is handed out
reads_past_by : (m : Mode) (p : Param) (ps : List Param) (n : Name) (v : ℕ) (vs : Variables) → p.mode ≡ m → same_name p.name n ≡ false
    → reads (out_names ps) ((n, v) ∷ vs) ≡ reads (out_names ps) vs → reads (out_names (p ∷ ps)) ((n, v) ∷ vs) ≡ reads (out_names (p ∷ ps)) vs
reads_past_by In p ps n v vs e apart rest = simp (e, rest) refl
reads_past_by Out p ps n v vs e apart rest =
    let one : read p.name ((n, v) ∷ vs) ≡ read p.name vs = read_first false p.name n v vs apart in
    simp (e, one, rest) refl

pub reads_past : (ps : List Param) (n : Name) (v : ℕ) (vs : Variables) → is_named (param_names ps) n ≡ false
    → reads (out_names ps) ((n, v) ∷ vs) ≡ reads (out_names ps) vs
reads_past [] n v vs h = refl
reads_past (p ∷ ps) n v vs h =
    let apart = or_false (same_name p.name n) (is_named (param_names ps) n) h in
    reads_past_by p.mode p ps n v vs refl apart.0 (reads_past ps n v vs apart.1)

-- the values of parameters that are handed out, the first of which has the slot above the others
pub reads_first_by : (m : Mode) (p : Param) (ps : List Param) (ns : List Name) (slots : List ℕ) → p.mode ≡ m
    → is_named (param_names ps) p.name ≡ false
    → reads (out_names (p ∷ ps)) (vars_at (slots_of (p.name ∷ (param_names ps ++ ns))) slots)
    ≡ (if is_out m then slot_at slots (length (param_names ps ++ ns)) ∷ reads (out_names ps) (vars_at (slots_of (param_names ps ++ ns)) slots)
    else reads (out_names ps) (vars_at (slots_of (param_names ps ++ ns)) slots))
reads_first_by In p ps ns slots e apart =
    let rest = reads_past ps p.name (slot_at slots (length (param_names ps ++ ns))) (vars_at (slots_of (param_names ps ++ ns)) slots) apart in
    simp (e, rest) refl
reads_first_by Out p ps ns slots e apart =
    let rest = reads_past ps p.name (slot_at slots (length (param_names ps ++ ns))) (vars_at (slots_of (param_names ps ++ ns)) slots) apart in
    let one = read_first true p.name p.name (slot_at slots (length (param_names ps ++ ns))) (vars_at (slots_of (param_names ps ++ ns)) slots)
    (same_itself p.name) in
    simp (e, one, rest) refl

-- parameters that are handed out, from the first on: one that is handed in is passed over
module _ (qs : List Param) (p : Param) (ps : List Param) (here : qs ≡ p ∷ ps) (distinct : are_distinct (param_names qs) ≡ true) (top : ℕ)
    (slots old new : List ℕ) (ns : List Name) (are : length ns + length qs ≡ top) where
  apart : is_named (param_names ps) p.name ≡ false
  apart = (first_apart p.name (param_names ps) (ap (λ xs. are_distinct (param_names xs)) (sym here) ∙ distinct)).0

  ps_count : length ns + suc (length ps) ≡ top
  ps_count = ap (λ xs. length ns + length xs) (sym here) ∙ are

  pub hands_in : p.mode ≡ In
      → (length ns + length ps ≡ top - 1 → new ≡ old ++ reads (out_names ps) (vars_at (slots_of (param_names ps ++ ns)) slots))
      → new ≡ old ++ reads (out_names qs) (vars_at (slots_of (param_names qs ++ ns)) slots)
  hands_in mode rest =
      let e = ps_count in
      rest (omega (arith, e)) ∙ ap (λ vs. old ++ vs) (sym (reads_first_by In p ps ns slots mode apart))
      ∙ ap (λ xs. old ++ reads (out_names xs) (vars_at (slots_of (param_names xs ++ ns)) slots)) (sym here)

  pub hands_out : (v : ℕ) → p.mode ≡ Out → v ≡ slot_at slots (top - 1)
      → (length ns + length ps ≡ top - 1 → new ≡ (old ++ v ∷ []) ++ reads (out_names ps) (vars_at (slots_of (param_names ps ++ ns)) slots))
      → new ≡ old ++ reads (out_names qs) (vars_at (slots_of (param_names qs ++ ns)) slots)
  hands_out v mode is rest =
      let e = ps_count in
      let a = length-append (param_names ps) ns in
      let b = length-map ps (λ q. q.name) in
      let behind = reads (out_names ps) (vars_at (slots_of (param_names ps ++ ns)) slots) in
      let k : top - 1 ≡ length (param_names ps ++ ns) = omega (arith, a, b, e) in
      rest (omega (arith, e)) ∙ append_assoc old (v ∷ []) behind
      ∙ ap (λ w. old ++ w ∷ behind) (is ∙ ap (slot_at slots) k)
      ∙ ap (λ vs. old ++ vs) (sym (reads_first_by Out p ps ns slots mode apart))
      ∙ ap (λ xs. old ++ reads (out_names xs) (vars_at (slots_of (param_names xs ++ ns)) slots)) (sym here)
