-- Slots of which only the first are written: the others hold 0.
use Rattle.std.proofs.Common.{◌≡◌, ◌<◌, ◌≤◌, ℕ, zero, suc, ◌+◌, ◌-◌, List, [], ◌∷◌, ◌++◌, length, take, drop, set, get_or, refl, ap, sym}
use Rattle.std.proofs.Common.{◌∙◌, append_assoc, arith}
use Rattle.std.specs.Prelude.{replicate}
use Rattle.std.proofs.lemmas.List.{append-nil, drop-append-le, drop-drop, drop-set-add, get_or-drop, length-append, length-drop, length-replicate}
use Rattle.std.proofs.lemmas.List.{length-set, length-take-le, replicate-append-replicate, set-append_left, take-append-drop, take-set-le, take-take}
use Rattle.std.proofs.Math.Seq.{set-append_seam, take-add}
use Rattle.std.proofs.lemmas.Option.{unwrap_or-slice_get}
use Rattle.seq_tree.specs.Variables.{Variables}
use Rattle.linker.specs.Slots.{slot_at, vars_at}
use Rattle.task_runtime.specs.Slotted.{Slotted, slotted, with_zeros}

abbrev zeros : ℕ → List ℕ
zeros n = replicate n 0

-- a zero reads as a slot that isn't there
zero_read : (n i : ℕ) → get_or (zeros n) i zero ≡ zero
zero_read zero i = refl
zero_read (suc n) zero = refl
zero_read (suc n) (suc i) = zero_read n i

zeros_read : (xs : List ℕ) (n i : ℕ) → get_or (xs ++ zeros n) i 0 ≡ get_or xs i 0
zeros_read [] n i = zero_read n i
zeros_read (x ∷ xs) n zero = refl
zeros_read (x ∷ xs) n (suc i) = zeros_read xs n i

-- what a slot holds, by those that are written
pub held : (base count : ℕ) (xs : List ℕ) (slot : ℕ) → slot_at (drop base (with_zeros count xs)) slot ≡ get_or xs (base + slot) 0
unfolding with_zeros
held base count xs slot =
    let n = count - length xs in
    unwrap_or-slice_get (drop base (xs ++ zeros n)) slot 0 ∙ get_or-drop base (xs ++ zeros n) slot 0 ∙ zeros_read xs n (base + slot)

here_held : (base count : ℕ) (xs : List ℕ) (slot : ℕ) → slot_at (drop base xs) slot ≡ slot_at (drop base (with_zeros count xs)) slot
here_held base count xs slot =
    unwrap_or-slice_get (drop base xs) slot 0 ∙ get_or-drop base xs slot 0 ∙ sym (held base count xs slot)

-- variables read the same over the slots that are written
pub vars_held : (base count : ℕ) (xs : List ℕ) (scope : Variables) → vars_at scope (drop base xs) ≡ vars_at scope (drop base (with_zeros count xs))
vars_held base count xs [] = refl
vars_held base count xs (v ∷ scope) =
    ap (λ z. (v.0, z) ∷ vars_at scope (drop base xs)) (here_held base count xs v.1)
    ∙ ap (λ vs. (v.0, slot_at (drop base (with_zeros count xs)) v.1) ∷ vs) (vars_held base count xs scope)

-- how many slots there are, and none is added where as many are written
pub zeros_long : (n : ℕ) (xs : List ℕ) → length (with_zeros n xs) ≡ length xs + (n - length xs)
unfolding with_zeros
zeros_long n xs =
    length-append xs (zeros (n - length xs)) ∙ ap (λ k. length xs + k) (length-replicate (n - length xs) zero)

pub zeros_none : (n : ℕ) (xs : List ℕ) → n ≤ length xs → with_zeros n xs ≡ xs
unfolding with_zeros
zeros_none n xs le =
    let none : n - length xs ≡ 0 = omega (arith, le) in
    ap (λ k. xs ++ zeros k) none ∙ append-nil xs

pub zeros_all : (n : ℕ) (xs : List ℕ) → xs ≡ [] → with_zeros n xs ≡ zeros n
unfolding with_zeros
zeros_all n xs none =
    let all : n - 0 ≡ n = omega arith in
    ap (λ ys. ys ++ zeros (n - length ys)) none ∙ ap zeros all

-- slots that are written with zeros are the same slots
pub zeros_more : (count n : ℕ) (xs : List ℕ) → n ≤ count → with_zeros count (with_zeros n xs) ≡ with_zeros count xs
unfolding with_zeros
zeros_more count n xs le =
    let m = n - length xs in
    let long = zeros_long n xs in
    let k = count - length (with_zeros n xs) in
    let sum : m + k ≡ count - length xs = omega (arith, le, long) in
    append_assoc xs (zeros m) (zeros k) ∙ ap (λ ys. xs ++ ys) (replicate-append-replicate m k zero) ∙ ap (λ j. xs ++ zeros j) sum

pub zero_more : (count : ℕ) (xs : List ℕ) → length xs < count → with_zeros count (xs ++ 0 ∷ []) ≡ with_zeros count xs
unfolding with_zeros
zero_more count xs lt =
    let long = length-append xs (0 ∷ []) in
    let next : suc (count - length (xs ++ 0 ∷ [])) ≡ count - length xs = omega (arith, lt, long) in
    append_assoc xs (0 ∷ []) (zeros (count - length (xs ++ 0 ∷ []))) ∙ ap (λ k. xs ++ zeros k) next

-- a value in a slot that is written, and in the first one that isn't
pub set_written : (count i v : ℕ) (xs : List ℕ) → i < length xs → with_zeros count (set xs i v) ≡ set (with_zeros count xs) i v
unfolding with_zeros
set_written count i v xs lt =
    ap (λ k. set xs i v ++ zeros (count - k)) (length-set xs i v)
    ∙ sym (set-append_left xs (zeros (count - length xs)) i v lt)

pub set_next : (count v : ℕ) (xs : List ℕ) → length xs < count → with_zeros count (xs ++ v ∷ []) ≡ set (with_zeros count xs) (length xs) v
unfolding with_zeros
set_next count v xs lt =
    let long = length-append xs (v ∷ []) in
    let k = count - length (xs ++ v ∷ []) in
    let next : suc k ≡ count - length xs = omega (arith, lt, long) in
    append_assoc xs (v ∷ []) (zeros k) ∙ sym (set-append_seam xs 0 (zeros k) v) ∙ ap (λ j. set (xs ++ zeros j) (length xs) v) next

-- a value in a slot that isn't written
pub set_reached : (count i v : ℕ) (xs ys : List ℕ) → length xs ≤ i → i < count → ys ≡ with_zeros i xs ++ v ∷ []
    → with_zeros count ys ≡ set (with_zeros count xs) i v
set_reached count i v xs ys le lt is =
    let long : length (with_zeros i xs) ≡ i = (let e = zeros_long i xs in omega (arith, e, le)) in
    ap (with_zeros count) is ∙ set_next count v (with_zeros i xs) (omega (arith, long, lt))
    ∙ ap (λ zs. set zs (length (with_zeros i xs)) v) (zeros_more count i xs (omega (arith, lt))) ∙ ap (λ k. set (with_zeros count xs) k v) long

-- the slots of the body that runs, and of its callers
module _ (base count : ℕ) (xs : List ℕ) (s : Slotted) (is : slotted base (with_zeros count xs) ≡ s) (within : base ≤ length xs)
    (few : length xs ≤ count) where
  abbrev all : List ℕ
  all = with_zeros count xs

  long : length all ≡ count
  long = let e = zeros_long count xs in omega (arith, e, few)

  here : drop base all ≡ s.here
  here = ap (λ t. t.here) is

  away : take base all ≡ s.away
  away = ap (λ t. t.away) is

  here_long : length s.here ≡ count - base
  here_long = let a = ap length here in let b = length-drop base all in let l = long in omega (arith, a, b, l)

  away_long : length s.away ≡ base
  away_long = let l = long in sym (ap length away) ∙ length-take-le base all (omega (arith, l, within, few))

  pub slot_fits : (slot : ℕ) → slot < length s.here → base + slot < count
  slot_fits slot lt = let e = here_long in omega (arith, e, lt)

  pub enters_fits : (n : ℕ) → n ≤ length s.here → base + n ≤ count
  enters_fits n le = let e = here_long in omega (arith, e, le, within, few)

  pub leaves_fits : (n : ℕ) → n ≤ length s.away → n ≤ base
  leaves_fits n le = let e = away_long in omega (arith, e, le)

  pub put_here : (slot v : ℕ) (ys : List ℕ) → with_zeros count ys ≡ set all (base + slot) v → drop base (with_zeros count ys) ≡ set s.here slot v
  put_here slot v ys e = ap (drop base) e ∙ drop-set-add base all slot v ∙ ap (λ zs. set zs slot v) here

  pub put_away : (slot v : ℕ) (ys : List ℕ) → with_zeros count ys ≡ set all (base + slot) v → take base (with_zeros count ys) ≡ s.away
  put_away slot v ys e = ap (take base) e ∙ take-set-le base all (base + slot) v (omega arith) ∙ away

  pub entered_here : (n : ℕ) (ys : List ℕ) → with_zeros count ys ≡ all → drop (base + n) (with_zeros count ys) ≡ drop n s.here
  entered_here n ys e = ap (drop (base + n)) e ∙ sym (drop-drop n base all) ∙ ap (drop n) here

  pub entered_away : (n : ℕ) (ys : List ℕ) → with_zeros count ys ≡ all → take (base + n) (with_zeros count ys) ≡ s.away ++ take n s.here
  entered_away n ys e = ap (take (base + n)) e ∙ take-add base n all ∙ ap (λ zs. zs ++ take n (drop base all)) away
      ∙ ap (λ zs. s.away ++ take n zs) here

  pub left_here : (n : ℕ) → drop (base - n) all ≡ drop (length s.away - n) s.away ++ s.here
  left_here n =
      let a = away_long in
      let front = ap length away ∙ a in
      ap (drop (base - n)) (sym (take-append-drop base all))
      ∙ drop-append-le (base - n) (take base all) (drop base all) (omega (arith, front))
      ∙ ap (λ zs. drop (base - n) zs ++ drop base all) away ∙ ap (λ zs. drop (base - n) s.away ++ zs) here
      ∙ ap (λ k. drop (k - n) s.away ++ s.here) (sym a)

  pub left_away : (n : ℕ) → take (base - n) all ≡ take (length s.away - n) s.away
  left_away n =
      sym (take-take (base - n) base all (omega arith)) ∙ ap (take (base - n)) away ∙ ap (λ k. take (k - n) s.away) (sym away_long)

  pub read : (slot v : ℕ) → v ≡ get_or xs (base + slot) 0 → v ≡ slot_at s.here slot
  read slot v e = e ∙ sym (held base count xs slot) ∙ ap (λ zs. slot_at zs slot) here

  pub vars_read : (scope : Variables) → vars_at scope (drop base xs) ≡ vars_at scope s.here
  vars_read scope = vars_held base count xs scope ∙ ap (vars_at scope) here
