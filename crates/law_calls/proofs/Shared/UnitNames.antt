-- Units by their names: where names differ, what is made of the units is found by the one unit of a name.
use Rattle.std.specs.Prelude.{◌≡◌, ◌⊎◌, ℕ, zero, suc, ◌+◌, Bool, true, false, cond, List, [], ◌∷◌, ◌++◌, map, take, length, find, flat_map}
use Rattle.std.specs.Prelude.{filter_map, slice_get, Option, Some, None, option_map, unwrap_or, if◌then◌else◌, ⊤, refl}
use Rattle.std.specs.List.{cons_option, enumerate_from}
use Rattle.std.proofs.Common.{sym, ◌∙◌, ap, subst, arith, inl, inr}
use Rattle.seq_tree.specs.Lists.{Each, first_from}
use Rattle.seq_tree.specs.Names.{Name, same_name, is_named}
use Rattle.ada_tree.specs.Programs.{Unit, Program}
use Rattle.trace_tree.specs.Lines.{unit_name}
use Rattle.std.proofs.lemmas.Option.{none-some, same_Some}
use Rattle.std.proofs.lemmas.Bool.{both_ways, true≢false, false_from_ne_true, or_parts}
use Rattle.law_lists.proofs.Shared.Facts.{same-is, is-same}
use Rattle.law_lists.proofs.Shared.Places.{all-at}

other_way : (a b : Name) → same_name a b ≡ false → same_name b a ≡ false
other_way a b e = false_from_ne_true (same_name b a) (λ h. true≢false (sym (is-same a b (sym (same-is b a h))) ∙ e))

-- units of other names
abbrev pub AreOthers : Name → List Unit → Type 0
AreOthers name us = Each (λ u. same_name u.name name ≡ false) us

-- units whose names differ
abbrev pub AreApart : List Unit → Type 0
AreApart [] = ⊤
AreApart (u ∷ us) = Each (λ v. same_name u.name v.name ≡ false) us × AreApart us

others_behind : (name : Name) (u : Unit) (us : List Unit) → u.name ≡ name → Each (λ v. same_name u.name v.name ≡ false) us → AreOthers name us
others_behind name u [] e h = tt
others_behind name u (v ∷ us) e h = (subst (λ n. same_name v.name n ≡ false) e (other_way u.name v.name h.0), others_behind name u us e h.1)

each_behind : (u : Unit) (us : List Unit) → ((i : ℕ) (v : Unit) → slice_get us i ≡ Some v → same_name u.name v.name ≡ false)
    → Each (λ v. same_name u.name v.name ≡ false) us
each_behind u [] h = tt
each_behind u (v ∷ us) h = (h zero v refl, each_behind u us (λ i w at. h (suc i) w at))

pub apart : (us : List Unit) → ((i : ℕ) (u : Unit) → slice_get us i ≡ Some u → is_named (map (λ v. v.name) (take i us)) u.name ≡ false) → AreApart us
apart [] h = tt
apart (u ∷ us) h = (
  each_behind u us (λ i v at. (or_parts (same_name u.name v.name) _ (h (suc i) v at)).0),
  apart us (λ i v at.
      (or_parts (same_name u.name v.name) _ (h (suc i) v at)).1),
)

-- the unit of a name
pub record IsUnit (us : List Unit) (name : Name) : Type 0 where
  pub front : List Unit
  pub unit : Unit
  pub back : List Unit
  pub parts : us ≡ front ++ unit ∷ back
  pub named : unit.name ≡ name
  pub before : AreOthers name front
  pub behind : AreOthers name back

pub unit_of_name : (us : List Unit) (name : Name) → AreApart us → IsUnit us name ⊎ AreOthers name us
unit_of_name [] name far = inr tt
unit_of_name (u ∷ us) name far = by (same_name u.name name) refl (unit_of_name us name far.1)
  where
    by : (b : Bool) → same_name u.name name ≡ b → IsUnit us name ⊎ AreOthers name us → IsUnit (u ∷ us) name ⊎ AreOthers name (u ∷ us)
    by true e more = inl (record {
      front = [];
      unit = u;
      back = us;
      parts = refl;
      named = same-is u.name name e;
      before = tt;
      behind = others_behind name u us (same-is u.name name e) far.0;
    })
    by false e (inl h) = inl (record {
      front = u ∷ h.front;
      unit = h.unit;
      back = h.back;
      parts = ap (λ xs. u ∷ xs) h.parts;
      named = h.named;
      before = (e, h.before);
      behind = h.behind;
    })
    by false e (inr h) = inr (e, h)

-- the unit of a name is the only one
others-at : (name : Name) (us : List Unit) (k : ℕ) (u : Unit) → AreOthers name us → slice_get us k ≡ Some u → same_name u.name name ≡ false
others-at name [] k u others e = absurd (none-some u e)
others-at name (v ∷ us) zero u others e = ap (λ x. same_name x.name name) (sym (same_Some v u e)) ∙ others.0
others-at name (v ∷ us) (suc k) u others e = others-at name us k u others.1 e

one-unit : (name : Name) (front back : List Unit) (v u : Unit) (k : ℕ) → AreOthers name front → AreOthers name back
    → slice_get (front ++ v ∷ back) k ≡ Some u → same_name u.name name ≡ true → u ≡ v
one-unit name [] back v u zero before behind e named = sym (same_Some v u e)
one-unit name [] back v u (suc k) before behind e named = absurd (true≢false (sym named ∙ others-at name back k u behind e))
one-unit name (w ∷ front) back v u zero before behind e named
    = absurd (true≢false (sym named ∙ ap (λ x. same_name x.name name) (sym (same_Some w u e)) ∙ before.0))
one-unit name (w ∷ front) back v u (suc k) before behind e named = one-unit name front back v u k before.1 behind e named

pub only-unit : (us : List Unit) (name : Name) (h : IsUnit us name) (k : ℕ) (u : Unit) → slice_get us k ≡ Some u → same_name u.name name ≡ true
    → u ≡ h.unit
only-unit us name h k u at named =
    one-unit name h.front h.back h.unit u k h.before h.behind (ap (λ xs. slice_get xs k) (sym h.parts) ∙ at) named

pub unit-there : (us : List Unit) (name : Name) → AreApart us → (k : ℕ) (u : Unit) → slice_get us k ≡ Some u → same_name u.name name ≡ true
    → IsUnit us name
unit-there us name apart k u at named = by (unit_of_name us name apart)
  where
    by : IsUnit us name ⊎ AreOthers name us → IsUnit us name
    by (inl h) = h
    by (inr others) = absurd (true≢false (sym named ∙ others-at name us k u others at))

-- what is made of units with their places, one at most of each, and how it is found by name
module _ {X : Type 0} (make : ℕ → Unit → Option X) (called : X → Name) (keeps : (n : ℕ) (u : Unit) (x : X) → make n u ≡ Some x
    → called x ≡ u.name) (name : Name) where
  abbrev pub made : ℕ → List Unit → List X
  made n us = filter_map (λ e. make e.0 e.1) (enumerate_from n us)

  abbrev pub is_it : X → Bool
  is_it x = same_name (called x) name

  not_it : (n : ℕ) (u : Unit) (x : X) → same_name u.name name ≡ false → make n u ≡ Some x → is_it x ≡ false
  not_it n u x e h = ap (λ m. same_name m name) (keeps n u x h) ∙ e

  pub none_made : (n k : ℕ) (us : List Unit) → AreOthers name us → first_from k is_it (made n us) ≡ None
  none_made n k [] h = refl
  none_made n k (u ∷ us) h = by (make n u) refl (λ j. none_made (n + 1) j us h.1)
    where
      by : (o : Option X) → make n u ≡ o → ((j : ℕ) → first_from j is_it (made (n + 1) us) ≡ None)
          → first_from k is_it (cons_option o (made (n + 1) us)) ≡ None
      by None e more = more k
      by (Some x) e more = ap (λ b. if b then Some (k, x) else first_from (suc k) is_it (made (n + 1) us)) (not_it n u x h.0 e) ∙ more (suc k)

  -- the one unit of the name makes nothing
  pub nothing_made : (n k at : ℕ) (front : List Unit) (u : Unit) (back : List Unit) → AreOthers name front → AreOthers name back
      → at ≡ n + length front → make at u ≡ None
      → first_from k is_it (made n (front ++ u ∷ back)) ≡ None
  nothing_made n k at [] u back before behind e h =
      let here : make n u ≡ None = ap (λ m. make m u) (let g : n ≡ at = omega (arith, e) in g) ∙ h in
      ap (λ o. first_from k is_it (cons_option o (made (n + 1) back))) here ∙ none_made (n + 1) k back behind
  nothing_made n k at (f ∷ front) u back before behind e h =
      by (make n f) refl (λ j. nothing_made (n + 1) j at front u back before.1 behind (omega (arith, e)) h)
    where
      rest : List X
      rest = made (n + 1) (front ++ u ∷ back)

      by : (o : Option X) → make n f ≡ o → ((j : ℕ) → first_from j is_it rest ≡ None) → first_from k is_it (cons_option o rest) ≡ None
      by None g more = more k
      by (Some x) g more = ap (λ b. if b then Some (k, x) else first_from (suc k) is_it rest) (not_it n f x before.0 g) ∙ more (suc k)

  -- it makes one
  pub record IsMade (n k : ℕ) (us : List Unit) (x : X) : Type 0 where
    pub place : ℕ
    pub found : first_from k is_it (made n us) ≡ Some (k + place, x)
    pub at : slice_get (made n us) place ≡ Some x

  pub one_made : (n k at : ℕ) (front : List Unit) (u : Unit) (back : List Unit) (x : X) → AreOthers name front → u.name ≡ name → at ≡ n + length front
      → make at u ≡ Some x
      → IsMade n k (front ++ u ∷ back) x
  one_made n k at [] u back x before named e h =
      let here : make n u ≡ Some x = ap (λ m. make m u) (let g : n ≡ at = omega (arith, e) in g) ∙ h in
      let it : is_it x ≡ true = is-same (called x) name (keeps at u x h ∙ named) in
      record {
        place = 0;
        found = ap (λ o. first_from k is_it (cons_option o (made (n + 1) back))) here ∙ ap
            (λ b. if b then Some (k, x) else first_from (suc k) is_it (made (n + 1) back)) it
            ∙ ap (λ m. Some (m, x)) (let g : k ≡ k + 0 = omega arith in g);
        at = ap (λ o. slice_get (cons_option o (made (n + 1) back)) 0) here;
      }
  one_made n k at (f ∷ front) u back x before named e h =
      by (make n f) refl (λ j. one_made (n + 1) j at front u back x before.1 named (omega (arith, e)) h)
    where
      rest : List X
      rest = made (n + 1) (front ++ u ∷ back)

      by : (o : Option X) → make n f ≡ o → ((j : ℕ) → IsMade (n + 1) j (front ++ u ∷ back) x) → IsMade n k (f ∷ front ++ u ∷ back) x
      by None g more = record {
        place = (more k).place;
        found = ap (λ o. first_from k is_it (cons_option o rest)) g ∙ (more k).found;
        at = ap (λ o. slice_get (cons_option o rest) ((more k).place)) g ∙ (more k).at;
      }
      by (Some z) g more = record {
        place = suc ((more (suc k)).place);
        found = ap (λ o. first_from k is_it (cons_option o rest)) g ∙ ap (λ b. if b then Some (k, z) else first_from (suc k) is_it rest)
            (not_it n f z before.0 g)
            ∙ (more (suc k)).found ∙ ap (λ m. Some (m, x)) (let i : suc k + (more (suc k)).place ≡ k + suc ((more (suc k)).place) = omega arith in i);
        at = ap (λ o. slice_get (cons_option o rest) (suc ((more (suc k)).place))) g ∙ (more (suc k)).at;
      }

-- what is made of units in any number, each under the unit's name, and how it is found by a test that names the unit
module _ {X : Type 0} (make : Unit → List X) (test : X → Bool) (name : Name) (passes : (u : Unit) → same_name u.name name ≡ false
    → find test (make u) ≡ None) where
  find_left : (xs ys : List X) → find test xs ≡ None → find test (xs ++ ys) ≡ find test ys
  find_left [] ys e = refl
  find_left (x ∷ xs) ys e = by (test x) (find_left xs ys) e
    where
      by : (b : Bool) → (find test xs ≡ None → find test (xs ++ ys) ≡ find test ys) → cond b (Some x) (find test xs) ≡ None
          → cond b (Some x) (find test (xs ++ ys)) ≡ find test ys
      by true more h = absurd (none-some x (sym h))
      by false more h = more h

  find_right : (xs ys : List X) → find test ys ≡ None → find test (xs ++ ys) ≡ find test xs
  find_right [] ys e = e
  find_right (x ∷ xs) ys e = ap (cond (test x) (Some x)) (find_right xs ys e)

  pub find_others : (us : List Unit) → AreOthers name us → find test (flat_map make us) ≡ None
  find_others [] h = refl
  find_others (u ∷ us) h = find_left (make u) (flat_map make us) (passes u h.0) ∙ find_others us h.1

  pub find_unit : (front : List Unit) (u : Unit) (back : List Unit) → AreOthers name front → AreOthers name back
      → find test (flat_map make (front ++ u ∷ back)) ≡ find test (make u)
  find_unit [] u back before behind = find_right (make u) (flat_map make back) (find_others back behind)
  find_unit (f ∷ front) u back before behind = find_left (make f) (flat_map make (front ++ u ∷ back))
      (passes f before.0) ∙ find_unit front u back before.1 behind

-- units of one name stand at one place
pub places-apart : (us : List Unit) → AreApart us → (j k : ℕ) (u v : Unit) → slice_get us j ≡ Some u → slice_get us k ≡ Some v
    → u.name ≡ v.name → j ≡ k
places-apart [] far j k u v e g same = absurd (none-some u e)
places-apart (w ∷ us) far zero zero u v e g same = refl
places-apart (w ∷ us) far zero (suc k) u v e g same =
    absurd (both_ways (same_name w.name v.name) (all-at (λ x. same_name w.name x.name ≡ false) us k v far.0 g)
    (is-same w.name v.name (ap (λ x. x.name) (same_Some w u e) ∙ same)))
places-apart (w ∷ us) far (suc j) zero u v e g same =
    absurd (both_ways (same_name w.name u.name) (all-at (λ x. same_name w.name x.name ≡ false) us j u far.0 e)
    (is-same w.name u.name (ap (λ x. x.name) (same_Some w v g) ∙ sym same)))
places-apart (w ∷ us) far (suc j) (suc k) u v e g same = ap suc (places-apart us far.1 j k u v e g same)

-- the name of the unit at a place
pub name-at : (p : Program) (k : ℕ) (u : Unit) → slice_get p.units k ≡ Some u → unit_name p k ≡ u.name
unfolding unit_name
name-at p k u e = ap (λ o. unwrap_or (option_map (λ v. v.name) o) []) e
