-- Words and lines, cut at the bytes between them: what was joined is cut into the same words again.
use Rattle.std.proofs.Common.{◌≡◌, ℕ, Bool, true, false, not, List, [], ◌∷◌, ◌++◌, refl, ap, subst, ◌∙◌, arith}
use Rattle.std.specs.Prelude.{◌==◌, ◌<◌, ◌≤◌, ◌^◌, decimal, if◌then◌else◌}
use Rattle.std.specs.Char.{digit_value}
use Rattle.std.specs.List.{list_all, join_with_byte}
use Rattle.std.specs.Str.Parse.{AllDigits, digits_value}
use Rattle.std.proofs.lemmas.Bool.{and_from, and_parts, eq-eqb, ne_eqb}
use Rattle.std.proofs.lemmas.Fmt.{decimal_is_IsNumeral}
use Rattle.std.proofs.lemmas.List.Folds.{list_all-append}
use Rattle.seq_tree.specs.Lists.{Each}
use Rattle.law_traces.specs.Told.{Lacks}
use Rattle.law_traces.specs.Cuts.{push, cut}

pub lacks-append : (c : ℕ) (xs ys : List ℕ) → Lacks c xs → Lacks c ys → Lacks c (xs ++ ys)
lacks-append c xs ys h i = list_all-append (λ b. not (b == c)) xs ys ∙ and_from _ _ h i

is-not : (b c : ℕ) → not (b == c) ≡ true → (b == c) ≡ false
is-not b c e = by (b == c) e
  where
    by : (z : Bool) → not z ≡ true → z ≡ false
    by true h = cc
    by false h = refl

pub cut-front : (c : ℕ) (w rest : List ℕ) → Lacks c w → cut c (w ++ c ∷ rest) ≡ w ∷ cut c rest
cut-front c [] rest h =
    let F : Bool → List (List ℕ) = λ z. if z then [] ∷ cut c rest else push c (cut c rest) in ap F (eq-eqb c c refl)
cut-front c (b ∷ w) rest h =
    let p = and_parts (not (b == c)) (list_all (λ x. not (x == c)) w) h in
    let F : Bool → List (List ℕ) = λ z. if z then [] ∷ cut c (w ++ c ∷ rest) else push b (cut c (w ++ c ∷ rest)) in
    ap F (is-not b c p.0) ∙ ap (push b) (cut-front c w rest p.1)

pub cut-last : (c : ℕ) (w : List ℕ) → Lacks c w → cut c w ≡ w ∷ []
cut-last c [] h = refl
cut-last c (b ∷ w) h =
    let p = and_parts (not (b == c)) (list_all (λ x. not (x == c)) w) h in
    let F : Bool → List (List ℕ) = λ z. if z then [] ∷ cut c w else push b (cut c w) in
    ap F (is-not b c p.0) ∙ ap (push b) (cut-last c w p.1)

pub cut-join : (c : ℕ) (w : List ℕ) (ws : List (List ℕ)) → Each (Lacks c) (w ∷ ws) → cut c (join_with_byte c (w ∷ ws)) ≡ w ∷ ws
cut-join c w [] h = cut-last c w h.0
cut-join c w (v ∷ vs) h = cut-front c w (join_with_byte c (v ∷ vs)) h.0 ∙ ap (λ xs. w ∷ xs) (cut-join c v vs h.1)

pub lacks-join : (c d : ℕ) → (c == d) ≡ false → (ws : List (List ℕ)) → Each (Lacks d) ws → Lacks d (join_with_byte c ws)
lacks-join c d e [] h = refl
lacks-join c d e (w ∷ []) h = h.0
lacks-join c d e (w ∷ v ∷ vs) h =
    lacks-append d w (c ∷ join_with_byte c (v ∷ vs)) h.0 (and_from _ _ (ap not e) (lacks-join c d e (v ∷ vs) h.1))

-- DIGITS are no such bytes
digit-lacks : (b c : ℕ) → 10 ≤ digit_value c → digit_value b < 10 → not (b == c) ≡ true
digit-lacks b c wide h =
    ap not (ne_eqb b c (λ e. let g : digit_value c < 10 = subst (λ z. digit_value z < 10) e h in absurd (omega (arith, wide, g))))

digits-lack : (c : ℕ) → 10 ≤ digit_value c → (ds : List ℕ) → AllDigits 10 ds → Lacks c ds
digits-lack c wide [] h = refl
digits-lack c wide (d ∷ ds) h = and_from _ _ (digit-lacks d c wide h.0) (digits-lack c wide ds h.1)

pub decimal-lacks : (c n : ℕ) → 10 ≤ digit_value c → n < 2 ^ 64 → Lacks c (decimal n)
decimal-lacks c n wide h = digits-lack c wide (decimal n) (decimal_is_IsNumeral n h).0.1

pub number-back : (n : ℕ) → n < 2 ^ 64 → digits_value 10 (decimal n) ≡ n
number-back n h = (decimal_is_IsNumeral n h).1
