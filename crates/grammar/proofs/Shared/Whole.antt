-- The law of a reader of a whole text.
use Rattle.std.proofs.Common.{◌≡◌, suc, List, [], ◌∷◌, ◌++◌, length, Option, None, Ok, Err, refl, sym, ap, subst, ◌∙◌, append-nil}
use Rattle.grammar.specs.Reading.{Halt, Syntax, left_of, Read, first, Reads, Found, IsFirstFault, all_taken, all_of, whole_at}
use Rattle.grammar.proofs.Shared.Laws.{ok_parts}

module _ {T A : Type 0} (G : A → List T → Type 0) (Stops : A → Option T → Type 0) (r : List T → Read T A) (one : Reads G Stops r) (ends : (a : A)
    → Stops a None) where
  taken_ok : (a b : A) (ts : List T) → all_taken a ts ≡ Ok b → (a ≡ b) × (ts ≡ [])
  taken_ok a b [] e = (let h : Ok a ≡ Ok b = e in cc, refl)
  taken_ok a b (t ∷ ts) e = absurd (cc)

  taken_found : (ts : List T) (a : A) (rest : List T) → Found G Stops ts a rest → rest ≡ [] → G a ts
  taken_found ts a rest f e = let P : List T → Type 0 = λ us. G a us
      in subst P (sym (f.split ∙ ap (λ us. f.text ++ us) e ∙ append-nil f.text)) f.spelled

  whole_sound : (ts : List T) (a : A) (q : Read T A) → r ts ≡ q → all_of q ≡ Ok a → G a ts
  whole_sound ts a (Err left) e h = absurd (cc)
  whole_sound ts a (Ok x) e h =
      let p = taken_ok x.0 a x.1 h in
      let P : A → Type 0 = λ b. G b ts in
      subst P p.0 (taken_found ts x.0 x.1 (one.sound ts x.0 x.1 e) p.1)

  pub whole-found : (ts : List T) (a : A) → whole_at r ts ≡ Ok a → G a ts
  whole-found ts a e = whole_sound ts a (r ts) refl e

  pub whole-only : (ts : List T) (a : A) → G a ts → whole_at r ts ≡ Ok a
  whole-only ts a g = ap all_of (ap r (sym (append-nil ts)) ∙ one.complete a ts [] g (ends a))

  none : (ts : List T) (left : Halt) → whole_at r ts ≡ Err left → (a : A) → G a ts → ⊥
  none ts left e a g = let h = whole-only ts a g in cc

  whole_fault : (ts : List T) (left : Halt) (q : Read T A) → r ts ≡ q → all_of q ≡ Err left → ((a : A) → G a ts → ⊥)
      → IsFirstFault G ts (left_of left)
  whole_fault ts left (Err n) e h refuses =
      let f = one.fault ts n e in
      let same : n ≡ left = (let k : Err n ≡ Err left = h in cc) in
      record {
        front = f.front;
        back = f.back;
        split = f.split;
        place = f.place ∙ ap left_of same;
        last = f.last;
        tail = f.tail;
        begins = f.viable;
        ends = λ t more after a at g.
            let dead = f.dead t more after at in
            let whole = ap r (sym (append-nil (f.front ++ t ∷ after))) ∙ one.complete a (f.front ++ t ∷ after) [] g (ends a) in cc;
        no_text = refuses;
      }
  whole_fault ts left (Ok x) e h refuses = over x.0 x.1 (one.sound ts x.0 x.1 e) h where
    over : (a : A) (rest : List T) → Found G Stops ts a rest → all_taken a rest ≡ Err left → IsFirstFault G ts (left_of left)
    over a [] f k = absurd (cc)
    over a (u ∷ us) f k =
        record {
          front = f.text;
          back = u ∷ us;
          split = f.split;
          place = ap left_of (let p : Err (Syntax (suc (length us))) ≡ Err left = k in let q : Syntax (suc (length us)) ≡ left = cc in q);
          last = a;
          tail = [];
          begins = rw append-nil f.spelled;
          ends = λ t more after b at g.
              let same : u ≡ t = cc in
              let P : T → Type 0 = λ v. Stops a (first (v ∷ after)) in
              let stop : Stops a (first (t ∷ after)) = subst P same f.stops in
              let short = one.complete a f.text (t ∷ after) f.spelled stop in
              let long = ap r (sym (append-nil (f.text ++ t ∷ after))) ∙ one.complete b (f.text ++ t ∷ after) [] g (ends b) in
              let nil : t ∷ after ≡ [] = (ok_parts (sym short ∙ long)).1 in cc;
          no_text = refuses;
        }

  pub whole-fault : (ts : List T) (left : Halt) → whole_at r ts ≡ Err left → IsFirstFault G ts (left_of left)
  whole-fault ts left e = whole_fault ts left (r ts) refl e (none ts left e)
