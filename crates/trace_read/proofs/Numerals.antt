-- Numbers in decimal are read back, and what is read fits its type.
use Rattle.std.proofs.Common.{◌≡◌, ℕ, suc, Bool, true, false, List, [], ◌∷◌, ◌++◌, length, Option, Some, None, refl, sym, ap, subst, ◌∙◌, arith}
use Rattle.std.specs.Prelude.{◌+◌, ◌-◌, ◌*◌, ◌^◌, ◌<◌, ◌≤◌, ◌&&◌, nat_lt, nat_le, decimal, option_map, option_and_then, if◌then◌else◌}
use Rattle.std.specs.Char.{digit_value, is_ascii_digit}
use Rattle.std.specs.Str.Parse.{AllDigits, digits_value, digits_value_after}
use Rattle.std.proofs.lemmas.Bool.{and_from, and_parts, ltb-true, lt-ltb, le-leb}
use Rattle.std.proofs.Common.{append_assoc}
use Rattle.std.proofs.lemmas.List.{append-nil}
use Rattle.std.proofs.lemmas.Option.{none-some, same_Some, cond_some, option_and_then_some}
use Rattle.std.proofs.lemmas.Str.{digit_value_digit}
use Rattle.std.proofs.lemmas.Str.Parse.{digit_from_value}
use Rattle.std.proofs.lemmas.Fmt.{decimal_is_IsNumeral}
use Rattle.seq_tree.specs.Lists.{Each}
use Rattle.trace_tree.specs.Lines.{value_words, option_words}
use Rattle.law_lists.proofs.Shared.Lists.{each-append}
use Rattle.law_traces.specs.Told.{IsTicks, IsWord, IsWordWhere, AreWords}
use Rattle.trace_read.specs.Reading.{Bytes, number_from, number_of, value_of, maybe_value, values_from, values_of}

in-range : (c : ℕ) → 48 ≤ c → c ≤ 57 → is_ascii_digit c ≡ true
in-range c low high = and_from _ _ (le-test 48 c low) (le-test c 57 high)
  where
    le-test : (a b : ℕ) → a ≤ b → nat_le a b ≡ true
    le-test a b h = le-leb a b h

grows : (cs : List ℕ) (n : ℕ) → n ≤ digits_value_after 10 n cs
grows [] n = omega arith
grows (c ∷ cs) n = let more : n * 10 + digit_value c ≤ digits_value_after 10 (n * 10 + digit_value c) cs = grows cs (n * 10 + digit_value c) in omega (arith, more)

digits-read : (cs : List ℕ) (n : ℕ) → AllDigits 10 cs → digits_value_after 10 n cs < 2 ^ 64 → number_from n cs ≡ Some (digits_value_after 10 n cs)
digits-read [] n h fits = refl
digits-read (c ∷ cs) n h fits =
    let range = digit_from_value c h.0 in
    let is : digit_value c + 48 ≡ c = digit_value_digit c range in
    let next : n * 10 + digit_value c ≡ 10 * n + (c - 48) = omega (arith, is) in
    let below : n * 10 + digit_value c < 2 ^ 64 = let g = grows cs (n * 10 + digit_value c) in omega (arith, g, fits) in
    let test : (is_ascii_digit c && nat_lt (10 * n + (c - 48)) (2 ^ 64)) ≡ true =
    and_from _ _ (in-range c range.0 range.1) (lt-ltb _ _ (subst (λ m. m < 2 ^ 64) next below)) in
    ap (λ b. if b then number_from (10 * n + (c - 48)) cs else None) test
    ∙ ap (λ m. number_from m cs) (sym next) ∙ digits-read cs (n * 10 + digit_value c) h.1 fits

pub number-back : (n : ℕ) → IsTicks n → number_of (decimal n) ≡ Some n
unfolding number_of
number-back n h =
    let d = decimal_is_IsNumeral n h in
    let v : digits_value 10 (decimal n) ≡ n = d.1 in
    digits-read (decimal n) 0 d.0.1 (subst (λ m. m < 2 ^ 64) (sym v) h) ∙ ap (λ m. Some m) v

pub value-back : (n : ℕ) → IsWord n → value_of (decimal n) ≡ Some n
unfolding value_of
value-back n h =
    ap (λ o. option_and_then (λ m. if nat_lt m (2 ^ 32) then Some m else None) o) (number-back n (omega (arith, h)))
    ∙ ap (λ b. if b then Some n else None) (lt-ltb n (2 ^ 32) h)

pub maybe-back : (v : Option ℕ) → IsWordWhere v → maybe_value (option_words v) ≡ Some v
unfolding maybe_value
maybe-back None h = refl
maybe-back (Some n) h = ap (λ o. option_map (λ m. Some m) o) (value-back n h)

length-push : (ns : List ℕ) (n : ℕ) → length (ns ++ n ∷ []) ≡ suc (length ns)
length-push [] n = refl
length-push (m ∷ ns) n = ap suc (length-push ns n)

values-read : (ns ms : List ℕ) → length ns + length ms ≤ 8 → Each IsWord ms → values_from ns (value_words ms) ≡ Some (ns ++ ms)
values-read ns [] h words = ap (λ xs. Some xs) (sym (append-nil ns))
values-read ns (m ∷ ms) h words =
    let g : length ns + suc (length ms) ≤ 8 = h in
    let room : length ns < 8 = omega (arith, g) in
    let k : suc (length ns) + length ms ≤ 8 = omega (arith, g) in
    ap (λ b. if b then option_and_then (λ n. values_from (ns ++ n ∷ []) (value_words ms)) (value_of (decimal m)) else None) (lt-ltb (length ns) 8 room)
    ∙ ap (λ o. option_and_then (λ n. values_from (ns ++ n ∷ []) (value_words ms)) o) (value-back m words.0)
    ∙ values-read (ns ++ m ∷ []) ms (subst (λ z. z + length ms ≤ 8) (sym (length-push ns m)) k) words.1
    ∙ ap (λ xs. Some xs) (append_assoc ns (m ∷ []) ms)

pub values-back : (ns : List ℕ) → AreWords ns → values_of (value_words ns) ≡ Some ns
unfolding values_of
values-back ns h = values-read [] ns (let g : length ns ≤ 8 = h.0 in omega (arith, g)) h.1

-- WHAT IS READ fits
number-within : (cs : List ℕ) (n m : ℕ) → n < 2 ^ 64 → number_from n cs ≡ Some m → m < 2 ^ 64
number-within [] n m h e = subst (λ z. z < 2 ^ 64) (same_Some n m e) h
number-within (c ∷ cs) n m h e = by (is_ascii_digit c && nat_lt (10 * n + (c - 48)) (2 ^ 64)) refl e (number-within cs (10 * n + (c - 48)) m)
  where
    by : (b : Bool) → (is_ascii_digit c && nat_lt (10 * n + (c - 48)) (2 ^ 64)) ≡ b
        → (if b then number_from (10 * n + (c - 48)) cs else None) ≡ Some m
        → (10 * n + (c - 48) < 2 ^ 64 → number_from (10 * n + (c - 48)) cs ≡ Some m → m < 2 ^ 64) → m < 2 ^ 64
    by true t g more = more (ltb-true (10 * n + (c - 48)) (2 ^ 64) (and_parts (is_ascii_digit c) _ t).1) g
    by false t g more = absurd (none-some m g)

pub number-fits : (w : Bytes) (n : ℕ) → number_of w ≡ Some n → IsTicks n
unfolding number_of
number-fits w n e = number-within w 0 n (lt-zero) e
  where
    lt-zero : 0 < 2 ^ 64
    lt-zero = omega arith

pub value-fits : (w : Bytes) (n : ℕ) → value_of w ≡ Some n → IsWord n
unfolding value_of
value-fits w n e = option_and_then_some (λ m. if nat_lt m (2 ^ 32) then Some m else None) (number_of w) n e by
  where
    by : (m : ℕ) → number_of w ≡ Some m → (if nat_lt m (2 ^ 32) then Some m else None) ≡ Some n → IsWord n
    by m at g = let c = cond_some (nat_lt m (2 ^ 32)) m n g in subst IsWord c.1 (ltb-true m (2 ^ 32) c.0)

values-within : (ws : List Bytes) (ns vs : List ℕ) → length ns ≤ 8 → Each IsWord ns → values_from ns ws ≡ Some vs → AreWords vs
values-within [] ns vs few words e = subst AreWords (same_Some ns vs e) (few, words)
values-within (w ∷ ws) ns vs few words e = by (nat_lt (length ns) 8) refl e (λ n. values-within ws (ns ++ n ∷ []) vs)
  where
    next : ℕ → Option (List ℕ)
    next n = values_from (ns ++ n ∷ []) ws

    by : (b : Bool) → nat_lt (length ns) 8 ≡ b → (if b then option_and_then next (value_of w) else None) ≡ Some vs
        → ((n : ℕ) → length (ns ++ n ∷ []) ≤ 8 → Each IsWord (ns ++ n ∷ []) → values_from (ns ++ n ∷ []) ws ≡ Some vs → AreWords vs) → AreWords vs
    by true t g more = option_and_then_some next (value_of w) vs g (λ n at then'.
        more n (let l = length-push ns n in let r = ltb-true (length ns) 8 t in omega (arith, l, r)) (each-append IsWord ns (n ∷ []) words (value-fits w n at, tt)) then')
    by false t g more = absurd (none-some vs g)

pub values-fit : (ws : List Bytes) (vs : List ℕ) → values_of ws ≡ Some vs → AreWords vs
unfolding values_of
values-fit ws vs e = values-within ws [] vs (omega arith) tt e

pub maybe-fits : (ws : List Bytes) (v : Option ℕ) → maybe_value ws ≡ Some v → IsWordWhere v
unfolding maybe_value
maybe-fits [] v e = subst IsWordWhere (same_Some None v e) tt
maybe-fits (w ∷ ws) v e = by (value_of w) refl e
  where
    by : (o : Option ℕ) → value_of w ≡ o → option_map (λ n. Some n) o ≡ Some v → IsWordWhere v
    by None at g = absurd (none-some v g)
    by (Some n) at g = subst IsWordWhere (same_Some (Some n) v g) (value-fits w n at)
