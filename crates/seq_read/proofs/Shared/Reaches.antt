-- How far a reader goes is how far texts go.
use Rattle.std.proofs.Common.{◌≡◌, ℕ, zero, suc, ◌+◌, ◌-◌, ◌<◌, ◌≤◌, nat_le, Bool, true, false, List, [], ◌∷◌, ◌++◌, length, take, Option, Some}
use Rattle.std.proofs.Common.{None, Result, Ok, Err, ◌⊎◌, inl, inr, refl, sym, ap, subst, ◌∙◌, arith, append_assoc, append-nil, length-append}
use Rattle.std.proofs.lemmas.Bool.{leb-true, leb-false}
use Rattle.grammar.specs.Reading.{Halt, Syntax, TooDeep, left_of, Read, first, GoesOn, Widens, Reads, all_taken, all_of, whole_at}
use Rattle.grammar.proofs.Shared.Laws.{ok_parts}
use Rattle.seq_tree.specs.Reach.{IsReach, IsSyntaxFault, IsDepthFault}
use Rattle.seq_tree.specs.declared.token.Token.{Token}
use Rattle.seq_read.specs.Fronts.{IsLongest, IsFrontSyntaxFault}

-- what is not beyond a number is at most that
not-lt : (m n : ℕ) → (n < m → ⊥) → m ≤ n
not-lt m n h = of (nat_le m n) refl where
  of : (b : Bool) → nat_le m n ≡ b → m ≤ n
  of true e = leb-true m n e
  of false e = absurd (h (leb-false m n e))

-- a list cut behind a front
take_front : (front back : List Token) → take (length (front ++ back) - length back) (front ++ back) ≡ front
take_front front back = ap (λ n. take n (front ++ back)) (omega (arith, length-append front back)) ∙ at_length front back where
  at_length : (xs ys : List Token) → take (length xs) (xs ++ ys) ≡ xs
  at_length [] ys = refl
  at_length (x ∷ xs) ys = ap (λ us. x ∷ us) (at_length xs ys)

cut_front : (ts front back : List Token) → ts ≡ front ++ back → take (length ts - length back) ts ≡ front
cut_front ts front back split = rw split (take_front front back)

-- more than the front takes a token behind it
record Past (front back : List Token) (m : ℕ) : Type 0 where
  pub token : Token
  pub more : List Token
  pub after : List Token
  pub at : back ≡ token ∷ more
  pub taken : take m (front ++ back) ≡ front ++ token ∷ after

past : (front back : List Token) (m : ℕ) → length front < m → m ≤ length (front ++ back) → Past front back m
past [] [] m h k = absurd (omega (arith, h, k))
past [] (t ∷ us) zero h k = absurd (omega (arith, h))
past [] (t ∷ us) (suc m) h k = record { token = t; more = us; after = take m us; at = refl; taken = refl }
past (u ∷ us) back zero h k = absurd (omega (arith, h))
past (u ∷ us) back (suc m) h k =
    let p = past us back m (omega (arith, h)) (omega (arith, k)) in
    record { token = p.token; more = p.more; after = p.after; at = p.at; taken = ap (λ vs. u ∷ vs) p.taken }

module _ {A : Type 0} (G : A → List Token → Type 0) (Stops : A → Option Token → Type 0) (r : List Token
    → Read Token A) (one : Reads G Stops r) (ends : (a : A) → Stops a None) where
  whole_read : (a : A) (ts : List Token) → G a ts → r ts ≡ Ok (a, [])
  whole_read a ts g = ap r (sym (append-nil ts)) ∙ one.complete a ts [] g (ends a)

  -- no text of the grammar takes more than what was read
  pub no-more-found : (ts : List Token) (a : A) (rest : List Token) → r ts ≡ Ok (a, rest) → (m : ℕ) → m ≤ length ts → (b : A) (tail : List Token)
      → G b (take m ts ++ tail) → m ≤ length ts - length rest
  no-more-found ts a rest e m within b tail g =
      let f = one.sound ts a rest e in
      not-lt m (length ts - length rest) (λ far.
      let p = past f.text rest m (omega (arith, ap length f.split, length-append f.text rest, far)) (omega (arith, ap length f.split, within)) in
      let P : List Token → Type 0 = λ us. Stops a (first us) in
      let whole : take m ts ++ tail ≡ f.text ++ p.token ∷ (p.after ++ tail)
      = ap (λ us. us ++ tail) (ap (take m) f.split ∙ p.taken) ∙ append_assoc f.text (p.token ∷ p.after) tail in
      let Q : List Token → Type 0 = λ us. G b us in
      let long = whole_read b (f.text ++ p.token ∷ (p.after ++ tail)) (subst Q whole g) in
      let short = one.complete a f.text (p.token ∷ (p.after ++ tail)) f.spelled (let R : Option Token → Type 0 = Stops a
      in subst R (ap first p.at) f.stops) in
      let nil : p.token ∷ (p.after ++ tail) ≡ [] = (ok_parts (sym short ∙ long)).1 in cc)

  pub no-more-stuck : (ts : List Token) (halt : Halt) → r ts ≡ Err halt → (m : ℕ) → m ≤ length ts → (b : A) (tail : List Token)
      → G b (take m ts ++ tail) → m ≤ length ts - left_of halt
  no-more-stuck ts halt e m within b tail g =
      let f = one.fault ts halt e in
      not-lt m (length ts - left_of halt) (λ far.
      let p = past f.front f.back m (omega (arith, ap length f.split, length-append f.front f.back, f.place, far))
      (omega (arith, ap length f.split, within)) in
      let whole : take m ts ++ tail ≡ f.front ++ p.token ∷ (p.after ++ tail)
      = ap (λ us. us ++ tail) (ap (take m) f.split ∙ p.taken) ∙ append_assoc f.front (p.token ∷ p.after) tail in
      let Q : List Token → Type 0 = λ us. G b us in
      let long = whole_read b (f.front ++ p.token ∷ (p.after ++ tail)) (subst Q whole g) in
      let dead = f.dead p.token p.more (p.after ++ tail) p.at in cc)

-- A READER WITHIN LIMITS, against the same reader with wider ones
module _ {A : Type 0} (Stops : A → Option Token → Type 0) (ends : (a : A) → Stops a None)
    (G0 : A → List Token → Type 0) (r0 : List Token → Read Token A) (reads0 : Reads G0 Stops r0)
    (G : ℕ → A → List Token → Type 0) (R : ℕ → List Token → Read Token A) (least : ℕ) (reads : (n : ℕ) → least < n → Reads (G n) Stops (R n))
    (widens0 : (n : ℕ) → least < n → Widens (n - least) r0 (R n)) (widens : (n m : ℕ) → least < n → n < m → Widens (m - least) (R n) (R m))
    (Text Limited : List Token → Type 0)
    (limited_to : (ts : List Token) → Limited ts → (a : A) × G0 a ts) (limited_back : (a : A) (ts : List Token) → G0 a ts → Limited ts)
    (text_to : (ts : List Token) → Text ts → (n : ℕ) × ((m : ℕ) → n ≤ m → (a : A) × G m a ts)) (text_back : (n : ℕ) (a : A) (ts : List Token)
    → least < n → G n a ts → Text ts) where
  -- limits that are wide enough for a text
  pub record Wide (n : ℕ) (ts : List Token) : Type 0 where
    pub bound : ℕ
    pub over : least < bound
    pub beyond : n < bound
    pub tree : A
    pub text : G bound tree ts

  wide : (n : ℕ) (ts : List Token) → Text ts → Wide n ts
  wide n ts t =
      let x = text_to ts t in
      let bound = suc (least + (n + x.0)) in
      let g = x.1 bound (omega arith) in
      record { bound = bound; over = omega arith; beyond = omega arith; tree = g.0; text = g.1 }

  -- the reach of a reader with these limits or wider ones
  reach_found : (n : ℕ) → least < n → (ts : List Token) (a : A) (rest : List Token) → R n ts ≡ Ok (a, rest)
      → IsReach Text ts (length ts - length rest)
  reach_found n over ts a rest e =
      let f = (reads n over).sound ts a rest e in
      record {
        within = omega arith;
        begins = (
          [],
          (let P : List Token → Type 0 = Text
              in subst P (sym (append-nil (take (length ts - length rest) ts) ∙ cut_front ts f.text rest f.split)) (text_back n a f.text over
              f.spelled)),
        );
        greatest = λ m h b.
            let x = wide n (take m ts ++ b.0) b.1 in
            no-more-found (G x.bound) Stops (R x.bound) (reads x.bound x.over) ends ts a rest ((widens n x.bound over x.beyond ts).ok
            (a, rest) e) m h x.tree b.0 x.text;
      }

  reach_stuck : (n : ℕ) → least < n → (ts : List Token) (left : ℕ) → R n ts ≡ Err (Syntax left) → IsReach Text ts (length ts - left)
  reach_stuck n over ts left e =
      let f = (reads n over).fault ts (Syntax left) e in
      let cut : take (length ts - left) ts ≡ f.front = ap (λ k. take (length ts - k) ts) (sym f.place) ∙ cut_front ts f.front f.back f.split in
      record {
        within = omega arith;
        begins = (
          f.tail,
          (let P : List Token → Type 0 = λ us. Text (us ++ f.tail)
              in subst P (sym cut) (text_back n f.last (f.front ++ f.tail) over f.viable)),
        );
        greatest = λ m h b.
            let x = wide n (take m ts ++ b.0) b.1 in
            no-more-stuck (G x.bound) Stops (R x.bound) (reads x.bound x.over) ends ts (Syntax left) ((widens n x.bound over x.beyond ts).syntax left
            e) m h x.tree b.0 x.text;
      }

  -- the reach within the limits
  limited_found : (ts : List Token) (a : A) (rest : List Token) → r0 ts ≡ Ok (a, rest) → IsReach Limited ts (length ts - length rest)
  limited_found ts a rest e =
      let f = reads0.sound ts a rest e in
      record {
        within = omega arith;
        begins = (
          [],
          (let P : List Token → Type 0 = Limited
              in subst P (sym (append-nil (take (length ts - length rest) ts) ∙ cut_front ts f.text rest f.split)) (limited_back a f.text f.spelled)),
        );
        greatest = λ m h b. let g = limited_to (take m ts ++ b.0) b.1 in no-more-found G0 Stops r0 reads0 ends ts a rest e m h g.0 b.0 g.1;
      }

  limited_stuck : (ts : List Token) (halt : Halt) → r0 ts ≡ Err halt → IsReach Limited ts (length ts - left_of halt)
  limited_stuck ts halt e =
      let f = reads0.fault ts halt e in
      let cut : take (length ts - left_of halt) ts ≡ f.front
      = ap (λ k. take (length ts - k) ts) (sym f.place) ∙ cut_front ts f.front f.back f.split in
      record {
        within = omega arith;
        begins = (
          f.tail,
          (let P : List Token → Type 0 = λ us. Limited (us ++ f.tail)
              in subst P (sym cut) (limited_back f.last (f.front ++ f.tail) f.viable)),
        );
        greatest = λ m h b. let g = limited_to (take m ts ++ b.0) b.1 in no-more-stuck G0 Stops r0 reads0 ends ts halt e m h g.0 b.0 g.1;
      }

  wider_ok : (n : ℕ) → least < n → (ts : List Token) (x : A × List Token) → r0 ts ≡ Ok x → R n ts ≡ Ok x
  wider_ok n over ts x e = (widens0 n over ts).ok x e

  -- WHAT IS READ
  pub longest : (ts : List Token) (a : A) (rest : List Token) → r0 ts ≡ Ok (a, rest) → IsLongest Text Limited ts (length ts - length rest)
  longest ts a rest e =
      let f = reads0.sound ts a rest e in
      record {
        reach = reach_found (suc least) (omega arith) ts a rest (wider_ok (suc least) (omega arith) ts (a, rest) e);
        limited = let P : List Token → Type 0 = Limited in subst P (sym (cut_front ts f.text rest f.split)) (limited_back a f.text f.spelled);
      }

  pub longest_text : (ts : List Token) (a : A) (rest : List Token) → r0 ts ≡ Ok (a, rest) → G0 a (take (length ts - length rest) ts)
  longest_text ts a rest e = let f = reads0.sound ts a rest e in let P : List Token → Type 0 = G0 a
      in subst P (sym (cut_front ts f.text rest f.split)) f.spelled

  -- WHERE IT IS TOO DEEP
  further : (n : ℕ) → least < n → (ts : List Token) (left : ℕ) → left ≤ length ts → GoesOn left (R n ts) → ((l : ℕ) → R n ts ≡ Err (TooDeep l) → ⊥)
      → (q : Read Token A) → R n ts ≡ q →
      (reach : ℕ) × IsReach Text ts reach × (length ts - left < reach)
  further n over ts left within on never (Ok x) e =
      let shorter : GoesOn left (Ok x) = (let P : Read Token A → Type 0 = λ q. GoesOn left q in subst P e on) in
      (length ts - length x.1, reach_found n over ts x.0 x.1 e, omega (arith, shorter, within))
  further n over ts left within on never (Err (Syntax l)) e =
      let shorter : GoesOn {T = Token} {A = A} left (Err (Syntax l)) = (let P : Read Token A → Type 0 = λ q. GoesOn left q in subst P e on) in
      (length ts - l, reach_stuck n over ts l e, omega (arith, shorter, within))
  further n over ts left within on never (Err (TooDeep l)) e = absurd (never l e)

  pub too-deep : (ts : List Token) (left : ℕ) → r0 ts ≡ Err (TooDeep left) → IsDepthFault Text Limited ts (length ts - left)
  too-deep ts left e =
      let f = reads0.fault ts (TooDeep left) e in
      let bound = suc (least + length ts) in
      let over : least < bound = omega arith in
      let b = widens0 bound over ts in
      record {
        reach = limited_stuck ts (TooDeep left) e;
        goes_on = further bound over ts left (omega (arith, ap length f.split, length-append f.front f.back, f.place)) (b.deep left e) (λ l.
            b.enough l (omega arith)) (R bound ts) refl;
      }

  -- WHERE NO TEXT GOES ON
  pub stuck-reach : (ts : List Token) (left : ℕ) → r0 ts ≡ Err (Syntax left) → IsReach Text ts (length ts - left)
  stuck-reach ts left e = reach_stuck (suc least) (omega arith) ts left ((widens0 (suc least) (omega arith) ts).syntax left e)

  -- a whole text is read to its end
  text_read : (n : ℕ) (ts : List Token) → Text ts → (bound : ℕ) × (least < bound) × (n < bound) × ((a : A) × (R bound ts ≡ Ok (a, [])))
  text_read n ts t = let x = wide n ts t
      in (x.bound, x.over, x.beyond, (x.tree, whole_read (G x.bound) Stops (R x.bound) (reads x.bound x.over) ends x.tree ts x.text))

  pub syntax-fault : (ts : List Token) (left : ℕ) → whole_at r0 ts ≡ Err (Syntax left) → IsSyntaxFault Text Limited ts (length ts - left)
  syntax-fault ts left e = of (r0 ts) refl e where
    over : (a : A) (rest : List Token) → r0 ts ≡ Ok (a, rest) → all_taken a rest ≡ Err (Syntax left)
        → IsSyntaxFault Text Limited ts (length ts - left)
    over a [] h k = absurd (cc)
    over a (u ∷ us) h k =
        let same : suc (length us) ≡ left = (let p : Err (Syntax (suc (length us))) ≡ (let q : Result A Halt = Err (Syntax left) in q) = k
        in let s : Syntax (suc (length us)) ≡ Syntax left = cc in cc) in
        let P : ℕ → Type 0 = λ n. IsSyntaxFault Text Limited ts (length ts - n) in
        subst P same (record {
          reach = (longest ts a (u ∷ us) h).reach;
          limited = limited_found ts a (u ∷ us) h;
          none = λ t.
              let x = text_read 0 ts t in
              let short = (widens0 x.0 x.1 ts).ok (a, u ∷ us) h in
              let nil : u ∷ us ≡ [] = (ok_parts (sym short ∙ x.3.1)).1 in cc;
        })

    of : (q : Read Token A) → r0 ts ≡ q → all_of q ≡ Err (Syntax left) → IsSyntaxFault Text Limited ts (length ts - left)
    of (Ok x) h k = over x.0 x.1 h k
    of (Err halt) h k =
        let same : halt ≡ Syntax left = (let p : Err halt ≡ (let q : Result A Halt = Err (Syntax left) in q) = k in cc) in
        let here : r0 ts ≡ Err (Syntax left) = h ∙ ap Err same in
        record {
          reach = stuck-reach ts left here;
          limited = limited_stuck ts (Syntax left) here;
          none = λ t. let x = text_read 0 ts t in let fails = (widens0 x.0 x.1 ts).syntax left here in let reads_on = x.3.1 in cc;
        }

  pub whole-too-deep : (ts : List Token) (left : ℕ) → whole_at r0 ts ≡ Err (TooDeep left) → IsDepthFault Text Limited ts (length ts - left)
  whole-too-deep ts left e = of (r0 ts) refl e where
    over : (a : A) (rest : List Token) → all_taken a rest ≡ Err (TooDeep left) → ⊥
    over a [] k = cc
    over a (u ∷ us) k = let p : Err (Syntax (suc (length us))) ≡ (let q : Result A Halt = Err (TooDeep left) in q) = k
        in let s : Syntax (suc (length us)) ≡ TooDeep left = cc in cc

    of : (q : Read Token A) → r0 ts ≡ q → all_of q ≡ Err (TooDeep left) → IsDepthFault Text Limited ts (length ts - left)
    of (Ok x) h k = absurd (over x.0 x.1 k)
    of (Err halt) h k =
        let same : halt ≡ TooDeep left = (let p : Err halt ≡ (let q : Result A Halt = Err (TooDeep left) in q) = k in cc) in
        too-deep ts left (h ∙ ap Err same)

  -- WHERE A FRONT IS NO TEXT, given that a text stops at a token or goes on with it
  module _ (goes : (n : ℕ) (a : A) (text : List Token) (t : Token) → least < n → G n a text
      → Stops a (Some t) ⊎ ((more : List Token) × Text (text ++ t ∷ more))) where
    none_at : (ts front back : List Token) (left : ℕ) → ts ≡ front ++ back → length back ≡ left → r0 ts ≡ Err (Syntax left) → Text front → ⊥
    none_at ts front [] left split place e t =
        let x = text_read 0 front t in
        let fails = (widens0 x.0 x.1 ts).syntax left e in
        let same : ts ≡ front = split ∙ append-nil front in
        let reads_on : R x.0 ts ≡ Ok (x.3.0, []) = ap (R x.0) same ∙ x.3.1 in cc
    none_at ts front (u ∷ us) left split place e t =
        let w = wide 0 front t in
        elim (goes w.bound w.tree front u w.over w.text) [
          | inl stops ↦
              let reads_on : R w.bound ts ≡ Ok (w.tree, u ∷ us)
              = ap (R w.bound) split ∙ (reads w.bound w.over).complete w.tree front (u ∷ us) w.text stops in
              let fails = (widens0 w.bound w.over ts).syntax left e in cc
          | inr m ↦
              let reach = stuck-reach ts left e in
              let long : length front < length ts = omega (arith, ap length split, length-append front (u ∷ us)) in
              let cut : take (suc (length front)) ts ≡ front ++ u ∷ [] = ap (take (suc (length front))) split ∙ take_one front u us in
              let P : List Token → Type 0 = Text in
              let begins : Text (take (suc (length front)) ts ++ m.0)
              = subst P (sym (ap (λ vs. vs ++ m.0) cut ∙ append_assoc front (u ∷ []) m.0)) m.1 in
              let most = reach.greatest (suc (length front)) long (m.0, begins) in
              omega (arith, most, place, ap length split, length-append front (u ∷ us))
        ] where
          take_one : (xs : List Token) (v : Token) (vs : List Token) → take (suc (length xs)) (xs ++ v ∷ vs) ≡ xs ++ v ∷ []
          take_one [] v vs = refl
          take_one (x ∷ xs) v vs = ap (λ ws. x ∷ ws) (take_one xs v vs)

    pub front-syntax-fault : (ts : List Token) (left : ℕ) → r0 ts ≡ Err (Syntax left) → IsFrontSyntaxFault Text Limited ts (length ts - left)
    front-syntax-fault ts left e =
        let f = reads0.fault ts (Syntax left) e in
        let cut : take (length ts - left) ts ≡ f.front = ap (λ k. take (length ts - k) ts) (sym f.place) ∙ cut_front ts f.front f.back f.split in
        record {
          reach = stuck-reach ts left e;
          limited = limited_stuck ts (Syntax left) e;
          none = λ t. none_at ts f.front f.back left f.split f.place e (let P : List Token → Type 0 = Text in subst P cut t);
        }
