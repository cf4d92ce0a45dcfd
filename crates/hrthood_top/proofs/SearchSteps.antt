-- The lines of an order that was found, names of threads, and what is written of them.
use Rattle.std.proofs.Common.{◌≡◌, ℕ, suc, ◌+◌, ◌<◌, ◌≤◌, List, [], ◌∷◌, ◌++◌, Bool, true, false, cond, codes, length, map, take, drop, get_or}
use Rattle.std.proofs.Common.{Option, Some, Result}
use Rattle.std.proofs.Common.{None, Bor, ◌==◌, refl, sym, ap, subst, ◌∙◌, arith, drop-cons, add-one, append-nil, slice_get, option_map}
use Rattle.std.specs.Slice.{IsItemAt}
use Rattle.std.proofs.lemmas.List.{drop_all}
use Rattle.std.proofs.lemmas.Option.{slice_get-map}
use Rattle.std.specs.List.{position_from, range_with_len}
use Rattle.seq_tree.specs.Lists.{Each}
use Rattle.seq_tree.specs.Names.{Name}
use Rattle.hood_io.specs.Sinks.{Appends, Puts}
use Rattle.hood_io.proofs.Shared.Appending.{appends-none}
use Rattle.ods_tree.specs.Flats.{Flat, Thread}
use Rattle.rt_response.specs.declared.rows.Bound.{Bound}
use Rattle.analysis.specs.Sound.{IsSound}
use Rattle.law_orders.specs.Orders.{IsOrder, priority_in, priorities_by}
use Rattle.design_bounds.proofs.Shared.RowLaws.{there, not-there}
use Rattle.priority_search.proofs.Shared.NextSteps.{order-few}
use Rattle.trace_text.specs.declared.bound.NamedBound.{NamedBound}
use Rattle.design_bounds.specs.declared.rows.CeilingRow.{CeilingRow}
use Rattle.design_bounds.specs.Rows.{named_bounds_by, ceiling_rows_by}
use Rattle.hrthood_top.specs.Analyses.{report}
use Rattle.hrthood_top.specs.Searches.{name_at, names_text, report_by}
use Rattle.hrthood_top.proofs.Pieces.{IsWritten, next-written, part-written, none-left, last-put}

-- THE LINES OF AN ORDER

-- priorities by an order are small
in-most : (o : List ℕ) (k : ℕ) → priority_in o k ≤ length o
in-most [] k = omega arith
in-most (x ∷ o) k = by (x == k) (in-most o k)
  where
    by : (b : Bool) → priority_in o k ≤ length o → cond b (suc (length o)) (priority_in o k) ≤ suc (length o)
    by true h = omega arith
    by false h = omega (arith, h)

each-small : (o ks : List ℕ) → length o ≤ 30 → Each (λ n. n ≤ 31) (map (priority_in o) ks)
each-small o [] few = tt
each-small o (k ∷ ks) few = ((let most = in-most o k in omega (arith, most, few)), each-small o ks few)

pub small-by : (f : Flat) (o ps : List ℕ) → IsSound f → IsOrder f o → ps ≡ priorities_by f o → Each (λ n. n ≤ 31) ps
small-by f o ps sound order e =
    let P : List ℕ → Type 0 = λ qs. Each (λ n. n ≤ 31) qs in
    subst P (sym e) (each-small o (range_with_len 0 (length f.threads)) (order-few f sound o order))

-- what is reported are the lines for the order
pub told-by : (first : ℕ) (f : Flat) (o ps : List ℕ) (v u : List Bound) (ns ms : List NamedBound) (cs ds : List CeilingRow) → ps ≡ priorities_by f o
    → u ≡ v → ns ≡ named_bounds_by first f ps u → ms ≡ ns → cs ≡ ceiling_rows_by first f ps → ds ≡ cs → report ms ds ≡ report_by first f o v
told-by first f o ps v u ns ms cs ds same bounds named slice ceilings slice' =
    ap (λ z. report z ds) (slice ∙ named) ∙ ap (report (named_bounds_by first f ps u)) (slice' ∙ ceilings)
    ∙ ap (λ z. report (named_bounds_by first f ps z) (ceiling_rows_by first f ps)) bounds
    ∙ ap (λ qs. report (named_bounds_by first f qs v) (ceiling_rows_by first f qs)) same

-- NAMES

-- the first place that passes a test is one of the list
pub found-within : {A : Type 0} (test : A → Bool) (n k : ℕ) (xs : List A) → position_from test n xs ≡ Some k → k < n + length xs
found-within test n k [] e = absurd (cc e)
found-within {A} test n k (x ∷ xs) e = by (test x) e (found-within test (n + 1) k xs)
  where
    by : (b : Bool) → cond b (Some n) (position_from test (n + 1) xs) ≡ Some k → (position_from test (n + 1) xs ≡ Some k → k < n + 1 + length xs)
        → k < n + suc (length xs)
    by true g more = (let z : n ≡ k = cc g in omega (arith, z))
    by false g more = let r = more g in omega (arith, r)

-- the name of a thread that stands there, and that of none
pub name-there : {T : Type 0} (view : T → Thread) (ts : List T) (f : Flat) (k : ℕ) (t : Bor T) → f.threads ≡ map view ts → IsItemAt ts k (Some t)
    → name_at f k ≡ Some (view t.now).name
name-there view ts f k t same e =
    ap (option_map (λ u. u.name)) (ap (λ us. slice_get us k) same ∙ slice_get-map view ts k ∙ ap (option_map view) (there ts k t e))

pub no-name : {T : Type 0} (view : T → Thread) (ts : List T) (f : Flat) (k : ℕ) → f.threads ≡ map view ts → IsItemAt ts k None → name_at f k ≡ None
no-name view ts f k same e =
    ap (option_map (λ u. u.name)) (ap (λ us. slice_get us k) same ∙ slice_get-map view ts k ∙ ap (option_map view) (not-there ts k e))

-- the names from one on
abbrev pub left_of : List Name → ℕ → List ℕ
left_of names i = names_text (drop i names)

names-next : (names : List Name) (i : ℕ) (d : Name) → i < length names
    → left_of names i ≡ (codes " " ++ (get_or names i d ++ codes "")) ++ left_of names (i + 1)
names-next names i d h =
    let next : left_of names i ≡ (codes " " ++ get_or names i d) ++ left_of names (i + 1) = rw (drop-cons names i d, add-one) refl in
    next ∙ ap (λ z. (codes " " ++ z) ++ left_of names (i + 1)) (sym (append-nil (get_or names i d)))

at-name : (a b : Option (List ℕ)) (names : List Name) (i : ℕ) (d : Name) → i < length names → IsWritten a b (left_of names i) (names_text names)
    → IsWritten a b ((codes " " ++ (get_or names i d ++ codes "")) ++ left_of names (i + 1)) (names_text names)
at-name a b names i d h w = let I : List ℕ → Type 0 = λ z. IsWritten a b z (names_text names) in subst I (names-next names i d h) w

-- one more name is written
pub one-name : (a b c : Option (List ℕ)) (names : List Name) (i : ℕ) (d name : Name) → i < length names → name ≡ get_or names i d
    → IsWritten a b (left_of names i) (names_text names) → Appends b c (codes " " ++ (name ++ codes ""))
    → IsWritten a c (left_of names (i + 1)) (names_text names)
one-name a b c names i d name h same w here =
    let P : List ℕ → Type 0 = λ z. Appends b c (codes " " ++ (z ++ codes "")) in
    next-written a b c (codes " " ++ (get_or names i d ++ codes "")) (left_of names (i + 1)) (names_text names) (at-name a b names i d h w)
    (subst P same here)

-- a name that is written in part leaves a proper front of them all
pub part-of-name : (a b c : Option (List ℕ)) (names : List Name) (i : ℕ) (d name : Name) → i < length names → name ≡ get_or names i d
    → IsWritten a b (left_of names i) (names_text names)
    → (n : ℕ) × (n < length (codes " " ++ (name ++ codes ""))) × Appends b c (take n (codes " " ++ (name ++ codes "")))
    → (k : ℕ) × (k < length (names_text names)) × Appends a c (take k (names_text names))
part-of-name a b c names i d name h same w part =
    let P : List ℕ → Type 0 = λ z. (n : ℕ) × (n < length (codes " " ++ (z ++ codes ""))) × Appends b c (take n (codes " " ++ (z ++ codes ""))) in
    part-written a b c (codes " " ++ (get_or names i d ++ codes "")) (left_of names (i + 1)) (names_text names) (at-name a b names i d h w)
    (subst P same part)

-- all names are written
pub all-names : (a b : Option (List ℕ)) (names : List Name) (i : ℕ) → length names ≤ i → IsWritten a b (left_of names i) (names_text names)
    → Appends a b (names_text names)
all-names a b names i h w =
    let I : List Name → Type 0 = λ z. IsWritten a b (names_text z) (names_text names) in
    none-left a b (names_text names) (subst I (drop_all i names h) w)

-- A TEXT OF THREE PIECES

first-left : (a : Option (List ℕ)) (text : List ℕ) → IsWritten a a text text
first-left a text = record { front = []; before = appends-none a; whole = refl }

-- the first is written in part
pub first-part : (a b : Option (List ℕ)) (p q r : List ℕ) → (n : ℕ) × (n < length p) × Appends a b (take n p)
    → (k : ℕ) × (k < length (p ++ (q ++ r))) × Appends a b (take k (p ++ (q ++ r)))
first-part a b p q r part = part-written a a b p (q ++ r) (p ++ (q ++ r)) (first-left a (p ++ (q ++ r))) part

-- the second is
pub second-part : (a b c : Option (List ℕ)) (p q r : List ℕ) → Appends a b p → (n : ℕ) × (n < length q) × Appends b c (take n q)
    → (k : ℕ) × (k < length (p ++ (q ++ r))) × Appends a c (take k (p ++ (q ++ r)))
second-part a b c p q r one part =
    part-written a b c q r (p ++ (q ++ r)) (next-written a a b p (q ++ r) (p ++ (q ++ r)) (first-left a (p ++ (q ++ r))) one) part

-- the last is put
pub third-put : {E : Type 0} (a b c d : Option (List ℕ)) (p q r : List ℕ) (put : Result (Unit {0}) E) → Appends a b p → Appends b c q → Puts c d r put
    → Puts a d (p ++ (q ++ r)) put
third-put a b c d p q r put one two puts =
    last-put a c d r (p ++ (q ++ r)) put
    (next-written a b c q r (p ++ (q ++ r)) (next-written a a b p (q ++ r) (p ++ (q ++ r)) (first-left a (p ++ (q ++ r))) one) two) puts
