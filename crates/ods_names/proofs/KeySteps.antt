-- Tests of sets of names by two numbers and a further name.
use Rattle.std.proofs.Common.{◌≡◌, ℕ, Bool, true, false, cond, List, ◌&&◌, ◌||◌, ◌==◌, refl, ap, ◌∙◌}
use Rattle.std.specs.Cmp.{unsigned_tied}
use Rattle.std.specs.Ordering.{is_eq, nat_cmp, ordering_then}
use Rattle.std.specs.Cmp.Lexicographic.{slice_cmp}
use Rattle.std.specs.declared.cmp.Ordering.{Ordering}
use Rattle.std.specs.declared.cmp.Ordering.TheVariants.{Less, Equal, Greater}
use Rattle.std.proofs.lemmas.Bool.{eq-eqb}
use Rattle.std.proofs.lemmas.Map.Text.{is_eq-slice_cmp}
use Rattle.std.proofs.lemmas.Slice.Eq.{bytes_eq-Decides}
use Rattle.std.proofs.Math.Bool.{and-false}
use Rattle.seq_tree.specs.Names.{same_name}
use Rattle.ods_names.specs.Keys.{end_of}

-- two are equal in both parts
is_eq-then : (a b : Ordering) → is_eq (ordering_then a b) ≡ (is_eq a && is_eq b)
is_eq-then Less b = refl
is_eq-then Equal b = refl
is_eq-then Greater b = refl

either : (a b : Bool) → cond a true b ≡ (a || b)
either true b = refl
either false b = refl

-- names that are one have the same ends, so their ends need no look
ends_agree : (op o name n : List ℕ) → ((end_of name == end_of n) && (same_name op o && same_name name n)) ≡ (same_name op o && same_name name n)
ends_agree op o name n = go (same_name op o) (same_name name n) refl
  where
    go : (a b : Bool) → same_name name n ≡ b → ((end_of name == end_of n) && (a && b)) ≡ (a && b)
    go true true h = ap (λ e. e && true) (eq-eqb (end_of name) (end_of n) (ap end_of ((bytes_eq-Decides name n).0 h)))
    go true false h = and-false (end_of name == end_of n)
    go false b h = and-false (end_of name == end_of n)

-- the two names come last, and the ends before them
regrouped : (x c d e : Bool) → (((x && c) && d) && e) ≡ (x && (c && (d && e)))
regrouped true true d e = refl
regrouped true false d e = refl
regrouped false c d e = refl

-- a name that was added, or one that was there
pub added_key : (place number p q : ℕ) (op name o n : List ℕ) (old : Bool) →
    cond (is_eq (ordering_then (ordering_then (ordering_then (ordering_then (nat_cmp place p) (nat_cmp number q)) (nat_cmp (end_of name) (end_of n)))
    (slice_cmp nat_cmp op o)) (slice_cmp nat_cmp name n))) true old
    ≡ (((place == p && number == q) && (same_name op o && same_name name n)) || old)
added_key place number p q op name o n old =
    let numbers = ordering_then (nat_cmp place p) (nat_cmp number q) in
    let ends = nat_cmp (end_of name) (end_of n) in
    let ops = slice_cmp nat_cmp op o in
    let names = slice_cmp nat_cmp name n in
    either (is_eq (ordering_then (ordering_then (ordering_then numbers ends) ops) names)) old
    ∙ ap (λ b. b || old) (is_eq-then (ordering_then (ordering_then numbers ends) ops) names)
    ∙ ap (λ b. (b && is_eq names) || old) (is_eq-then (ordering_then numbers ends) ops)
    ∙ ap (λ b. ((b && is_eq ops) && is_eq names) || old) (is_eq-then numbers ends)
    ∙ ap (λ b. (((b && is_eq ends) && is_eq ops) && is_eq names) || old) (is_eq-then (nat_cmp place p) (nat_cmp number q))
    ∙ ap (λ b. ((((b && is_eq (nat_cmp number q)) && is_eq ends) && is_eq ops) && is_eq names) || old) (unsigned_tied place p)
    ∙ ap (λ b. ((((place == p && b) && is_eq ends) && is_eq ops) && is_eq names) || old) (unsigned_tied number q)
    ∙ ap (λ b. ((((place == p && number == q) && b) && is_eq ops) && is_eq names) || old) (unsigned_tied (end_of name) (end_of n))
    ∙ ap (λ b. ((((place == p && number == q) && (end_of name == end_of n)) && b) && is_eq names) || old) (is_eq-slice_cmp op o)
    ∙ ap (λ b. ((((place == p && number == q) && (end_of name == end_of n)) && same_name op o) && b) || old) (is_eq-slice_cmp name n)
    ∙ ap (λ b. b || old) (regrouped (place == p && number == q) (end_of name == end_of n) (same_name op o) (same_name name n))
    ∙ ap (λ b. ((place == p && number == q) && b) || old) (ends_agree op o name n)
