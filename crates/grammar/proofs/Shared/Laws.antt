-- The laws of the readers, one form after another.
use Rattle.std.proofs.Common.{◌≡◌, suc, Bool, true, false, cond, List, [], ◌∷◌, ◌++◌, length, Option, Some, None, Ok, Err, ◌⊎◌, inl, inr, refl}
use Rattle.std.proofs.Common.{sym, ap, subst, ◌∙◌, append_assoc}
use Rattle.grammar.specs.Reading.{Halt, Syntax, left_of, with_left, Read, first, ◌>>=◌, then_at, pure_at, choose_at, token_at, taken, Stuck}
use Rattle.grammar.specs.Reading.{Found, Reads, Joined}

-- the parts of a run of two readers
pub record Both {T A B : Type 0} (r : Read T A) (f : A × List T → Read T B) (y : B × List T) : Type 0 where
  pub x : A × List T
  pub one : r ≡ Ok x
  pub two : f x ≡ Ok y

pub bind_ok : {T A B : Type 0} (r : Read T A) (f : A × List T → Read T B) (y : B × List T) → (r >>= f) ≡ Ok y → Both r f y
bind_ok (Ok x) f y e = record { x = x; one = refl; two = e }
bind_ok (Err halt) f y e = cc

pub record Second {T A B : Type 0} (r : Read T A) (f : A × List T → Read T B) (left : Halt) : Type 0 where
  pub x : A × List T
  pub one : r ≡ Ok x
  pub two : f x ≡ Err left

pub bind_err : {T A B : Type 0} (r : Read T A) (f : A × List T → Read T B) (left : Halt) → (r >>= f) ≡ Err left → (r ≡ Err left) ⊎ Second r f left
bind_err (Ok x) f left e = inr (record { x = x; one = refl; two = e })
bind_err (Err n) f left e = inl (ap Err (let h : Err n ≡ Err left = e in cc))

-- the first token is the same, however the text goes on behind it
pub first-cut : {T : Type 0} (front : List T) (t : T) (more after : List T) → first (front ++ t ∷ more) ≡ first (front ++ t ∷ after)
first-cut [] t more after = refl
first-cut (u ∷ us) t more after = refl

-- ONE READER AFTER ANOTHER
module _ {T A B : Type 0} (G : A → List T → Type 0) (H : A → B → List T → Type 0)
    (StopsG : A → Option T → Type 0) (StopsH : A → B → Option T → Type 0) (Stops : B → Option T → Type 0)
    (r : List T → Read T A) (f : A → List T → Read T B)
    (one : Reads G StopsG r) (two : (a : A) → Reads (H a) (StopsH a) (f a))
    (follow : (a : A) (b : B) (text back rest : List T) → G a text → H a b back → Stops b (first rest)
    → StopsG a (first (back ++ rest)) × StopsH a b (first rest))
    (stops_both : (a : A) (b : B) (text back rest : List T) → G a text → H a b back → StopsG a (first (back ++ rest)) → StopsH a b (first rest)
    → Stops b (first rest)) where
  joint-sound : (ts : List T) (b : B) (rest : List T) → then_at r f ts ≡ Ok (b, rest) → Found (Joined G H) Stops ts b rest
  joint-sound ts b rest e =
      let both = bind_ok (r ts) (λ x. f x.0 x.1) (b, rest) e in
      let g = one.sound ts both.x.0 both.x.1 both.one in
      let h = (two both.x.0).sound both.x.1 b rest both.two in
      let P : Option T → Type 0 = λ o. StopsG both.x.0 o in
      record {
        text = g.text ++ h.text;
        spelled = record { a = both.x.0; front = g.text; back = h.text; before = g.spelled; after = h.spelled; whole = refl };
        split = g.split ∙ ap (λ us. g.text ++ us) h.split ∙ sym (append_assoc g.text h.text rest);
        stops = stops_both both.x.0 b g.text h.text rest g.spelled h.spelled (subst P (ap first h.split) g.stops) h.stops;
      }

  joint-complete : (b : B) (text rest : List T) → Joined G H b text → Stops b (first rest) → then_at r f (text ++ rest) ≡ Ok (b, rest)
  joint-complete b text rest j stop =
      let s = follow j.a b j.front j.back rest j.before j.after stop in
      rw (j.whole, append_assoc, one.complete j.a j.front (j.back ++ rest) j.before s.0)
      ((two j.a).complete b j.back rest j.after s.1)

  joint-fault : (ts : List T) (halt : Halt) → then_at r f ts ≡ Err halt → Stuck (Joined G H) (then_at r f) ts halt
  joint-fault ts halt e =
      elim (bind_err (r ts) (λ x. f x.0 x.1) halt e) [
        | inl h ↦
            let s = one.fault ts halt h in
            let next = two s.last in
            record {
              front = s.front;
              back = s.back;
              split = s.split;
              place = s.place;
              last = next.some;
              tail = s.tail ++ next.some_text;
              viable = record {
                a = s.last;
                front = s.front ++ s.tail;
                back = next.some_text;
                before = s.viable;
                after = next.some_spelled;
                whole = sym (append_assoc s.front s.tail next.some_text);
              };
              dead = λ t more after at. rw (s.dead t more after at) refl;
            }
        | inr q ↦
            let g = one.sound ts q.x.0 q.x.1 q.one in
            let s = (two q.x.0).fault q.x.1 halt q.two in
            record {
              front = g.text ++ s.front;
              back = s.back;
              split = g.split ∙ ap (λ us. g.text ++ us) s.split ∙ sym (append_assoc g.text s.front s.back);
              place = s.place;
              last = s.last;
              tail = s.tail;
              viable = record {
                a = q.x.0;
                front = g.text;
                back = s.front ++ s.tail;
                before = g.spelled;
                after = s.viable;
                whole = append_assoc g.text s.front s.tail;
              };
              dead = λ t more after at.
                  let here : StopsG q.x.0 (first (s.front ++ t ∷ after)) =
                  let P : Option T → Type 0 = λ o. StopsG q.x.0 o in
                  subst P (ap first s.split ∙ ap (λ us. first (s.front ++ us)) at ∙ first-cut s.front t more after) g.stops in
                  rw (append_assoc, one.complete q.x.0 g.text (s.front ++ t ∷ after) g.spelled here) (s.dead t more after at);
            }
      ]

  pub reads-joint : Reads (Joined G H) Stops (then_at r f)
  reads-joint = record {
    sound = joint-sound;
    complete = joint-complete;
    fault = joint-fault;
    some = (two one.some).some;
    some_text = one.some_text ++ (two one.some).some_text;
    some_spelled = record {
      a = one.some;
      front = one.some_text;
      back = (two one.some).some_text;
      before = one.some_spelled;
      after = (two one.some).some_spelled;
      whole = refl;
    };
  }

-- the same, where what may follow depends on the last value alone
pub reads-then : {T A B : Type 0} (G : A → List T → Type 0) (H : A → B → List T → Type 0) (StopsG : A → Option T → Type 0)
    (StopsH : B → Option T → Type 0) (r : List T → Read T A) (f : A → List T → Read T B) → Reads G StopsG r → ((a : A) → Reads (H a) StopsH (f a))
    → ((a : A) (b : B) (back rest : List T) → H a b back → StopsH b (first rest) → StopsG a (first (back ++ rest)))
    → Reads (Joined G H) StopsH (then_at r f)
reads-then G H StopsG StopsH r f one two follow = reads-joint G H StopsG (λ a. StopsH) StopsH r f one two
    (λ a b text back rest g h stop. (follow a b back rest h stop, stop)) (λ a b text back rest g h before stop. stop)

-- a part of a text with its own law, in front of the rest
pub joins-part : {T A B : Type 0} {G : A → List T → Type 0} (H : A → B → List T → Type 0) (a : A) (text : List T) (b : B) (rest : List T)
    → G a text → H a b rest → Joined G H b (text ++ rest)
joins-part H a text b rest g h = record { a = a; front = text; back = rest; before = g; after = h; whole = refl }

-- what two equal results have in common; cc takes no pair apart
pub ok_parts : {T A : Type 0} {a b : A} {us vs : List T} → (let left : Read T A = Ok (a, us) in left) ≡ Ok (b, vs) → (a ≡ b) × (us ≡ vs)
ok_parts {T} {A} {a} {b} {us} {vs} e = let pair : (a, us) ≡ (b, vs) = cc in (ap (λ (p : A × List T). p.0) pair, ap (λ (p : A × List T). p.1) pair)

-- NOTHING
abbrev pub IsOnly : {T A : Type 0} → A → A → List T → Type 0
IsOnly only a text = (a ≡ only) × (text ≡ [])

pub reads-pure : {T A : Type 0} (Stops : A → Option T → Type 0) (only : A) → ((o : Option T) → Stops only o)
    → Reads (IsOnly {T = T} only) Stops (pure_at only)
reads-pure {T} {A} Stops only any = record {
  sound = λ ts a rest e.
      let same : only ≡ a = (ok_parts e).0 in
      let left : ts ≡ rest = (ok_parts e).1 in
      let P : A → Type 0 = λ b. Stops b (first rest) in
      record { text = []; spelled = (sym same, refl); split = left; stops = subst P same (any (first rest)) };
  complete = λ a text rest g stop. rw (g.0, g.1) refl;
  fault = λ ts left e. absurd (let no : Ok (only, ts) ≡ Err left = e in cc);
  some = only;
  some_text = [];
  some_spelled = (refl, refl);
}

-- ONE TOKEN
pub record IsToken {T A : Type 0} (sees : T → Option A) (a : A) (text : List T) : Type 0 where
  pub token : T
  pub seen : sees token ≡ Some a
  pub whole : text ≡ token ∷ []

pub record Took {T A : Type 0} (sees : T → Option A) (ts : List T) (a : A) (rest : List T) : Type 0 where
  pub token : T
  pub seen : sees token ≡ Some a
  pub whole : ts ≡ token ∷ rest

took_of : {T A : Type 0} (sees : T → Option A) (t : T) (us : List T) (o : Option A) (a : A) (rest : List T) → sees t ≡ o → taken o us ≡ Ok (a, rest)
    → Took sees (t ∷ us) a rest
took_of sees t us None a rest e h = absurd (cc)
took_of sees t us (Some b) a rest e h = record { token = t; seen = e ∙ ap Some (ok_parts h).0; whole = ap (λ vs. t ∷ vs) (ok_parts h).1 }

took : {T A : Type 0} (sees : T → Option A) (ts : List T) (a : A) (rest : List T) → token_at sees ts ≡ Ok (a, rest) → Took sees ts a rest
took sees [] a rest e = absurd (cc)
took sees (t ∷ us) a rest e = took_of sees t us (sees t) a rest refl e

none_of : {T A : Type 0} (sees : T → Option A) (t : T) (us : List T) (o : Option A) (left : Halt) → sees t ≡ o → taken o us ≡ Err left
    → (sees t ≡ None) × (Syntax (suc (length us)) ≡ left)
none_of sees t us None left e h = (e, cc)
none_of sees t us (Some b) left e h = absurd (cc)

pub reads-token : {T A : Type 0} (sees : T → Option A) (some : A) (spelling : T) → sees spelling ≡ Some some
    → Reads (IsToken sees) (λ a o. Unit {0}) (token_at sees)
reads-token {T} {A} sees some spelling seen = record {
  sound = λ ts a rest e. let t = took sees ts a rest e in record {
    text = t.token ∷ [];
    spelled = record { token = t.token; seen = t.seen; whole = refl };
    split = t.whole;
    stops = tt;
  };
  complete = λ a text rest g stop. rw (g.whole, g.seen) refl;
  fault = stuck;
  some = some;
  some_text = spelling ∷ [];
  some_spelled = record { token = spelling; seen = seen; whole = refl };
} where
  stuck : (ts : List T) (left : Halt) → token_at sees ts ≡ Err left → Stuck (IsToken sees) (token_at sees) ts left
  stuck [] left e = record {
    front = [];
    back = [];
    split = refl;
    place = cc;
    last = some;
    tail = spelling ∷ [];
    viable = record { token = spelling; seen = seen; whole = refl };
    dead = λ t more after at. absurd (cc);
  }
  stuck (u ∷ us) left e =
      let h = none_of sees u us (sees u) left refl e in
      record {
        front = [];
        back = u ∷ us;
        split = refl;
        place = ap left_of h.1;
        last = some;
        tail = spelling ∷ [];
        viable = record { token = spelling; seen = seen; whole = refl };
        dead = λ t more after at. let same : u ≡ t = cc in let no : sees t ≡ None = ap sees (sym same) ∙ h.0
            in rw no (ap Err (ap (λ g. with_left g (suc (length after))) h.1));
      }

-- ONE OF TWO, by the next token
pub test_cut : {T : Type 0} (test : Option T → Bool) (ts front back : List T) (t : T) (more after : List T) → ts ≡ front ++ back → back ≡ t ∷ more
    → test (first (front ++ t ∷ after)) ≡ test (first ts)
test_cut test ts front back t more after split at
    = sym (ap (λ us. test (first us)) split ∙ ap (λ us. test (first (front ++ us))) at ∙ ap test (first-cut front t more after))

module _ {T A : Type 0} (test : Option T → Bool) (G H : A → List T → Type 0) (StopsG StopsH Stops : A → Option T → Type 0)
    (r s : List T → Read T A) (one : Reads G StopsG r) (two : Reads H StopsH s)
    (yes : (a : A) (text rest : List T) → G a text → Stops a (first rest) → (test (first (text ++ rest)) ≡ true) × StopsG a (first rest))
    (no : (a : A) (text rest : List T) → H a text → Stops a (first rest) → (test (first (text ++ rest)) ≡ false) × StopsH a (first rest))
    (stops_yes : (a : A) (text rest : List T) → G a text → test (first (text ++ rest)) ≡ true → StopsG a (first rest) → Stops a (first rest))
    (stops_no : (a : A) (text rest : List T) → H a text → test (first (text ++ rest)) ≡ false → StopsH a (first rest) → Stops a (first rest)) where
  abbrev pub Either : A → List T → Type 0
  Either a text = G a text ⊎ H a text

  branch-sound : (ts : List T) (a : A) (rest : List T) (b : Bool) → test (first ts) ≡ b → cond b (r ts) (s ts) ≡ Ok (a, rest)
      → Found Either Stops ts a rest
  branch-sound ts a rest true t e = let f = one.sound ts a rest e
      in record {
        text = f.text;
        spelled = inl f.spelled;
        split = f.split;
        stops = stops_yes a f.text rest f.spelled (ap (λ us. test (first us)) (sym f.split) ∙ t) f.stops;
      }
  branch-sound ts a rest false t e = let f = two.sound ts a rest e
      in record {
        text = f.text;
        spelled = inr f.spelled;
        split = f.split;
        stops = stops_no a f.text rest f.spelled (ap (λ us. test (first us)) (sym f.split) ∙ t) f.stops;
      }

  branch-complete : (a : A) (text rest : List T) → Either a text → Stops a (first rest) → choose_at test r s (text ++ rest) ≡ Ok (a, rest)
  branch-complete a text rest e stop =
      elim e [
        | inl g ↦ let y = yes a text rest g stop in rw y.0 (one.complete a text rest g y.1)
        | inr h ↦ let n = no a text rest h stop in rw n.0 (two.complete a text rest h n.1)
      ]

  branch-fault : (ts : List T) (halt : Halt) (b : Bool) → test (first ts) ≡ b → cond b (r ts) (s ts) ≡ Err halt
      → Stuck Either (choose_at test r s) ts halt
  branch-fault ts halt true t e =
      let f = one.fault ts halt e in
      record {
        front = f.front;
        back = f.back;
        split = f.split;
        place = f.place;
        last = f.last;
        tail = f.tail;
        viable = inl f.viable;
        dead = λ u more after at. rw (test_cut test ts f.front f.back u more after f.split at, t) (f.dead u more after at);
      }
  branch-fault ts halt false t e =
      let f = two.fault ts halt e in
      record {
        front = f.front;
        back = f.back;
        split = f.split;
        place = f.place;
        last = f.last;
        tail = f.tail;
        viable = inr f.viable;
        dead = λ u more after at. rw (test_cut test ts f.front f.back u more after f.split at, t) (f.dead u more after at);
      }

  pub reads-branch : Reads Either Stops (choose_at test r s)
  reads-branch = record {
    sound = λ ts a rest e. branch-sound ts a rest (test (first ts)) refl e;
    complete = branch-complete;
    fault = λ ts halt e. branch-fault ts halt (test (first ts)) refl e;
    some = one.some;
    some_text = one.some_text;
    some_spelled = inl one.some_spelled;
  }

-- the same, where both may be followed by what the choice may be followed by
pub reads-choose : {T A : Type 0} (test : Option T → Bool) (G H : A → List T → Type 0) (Stops : A → Option T → Type 0) (r s : List T → Read T A)
    → Reads G Stops r → Reads H Stops s
    → ((a : A) (text rest : List T) → G a text → Stops a (first rest) → test (first (text ++ rest)) ≡ true)
    → ((a : A) (text rest : List T) → H a text → Stops a (first rest) → test (first (text ++ rest)) ≡ false)
    → Reads (λ a text. G a text ⊎ H a text) Stops (choose_at test r s)
reads-choose test G H Stops r s one two fits other = reads-branch test G H Stops Stops Stops r s one two
    (λ a text rest g stop. (fits a text rest g stop, stop)) (λ a text rest h stop. (other a text rest h stop, stop))
    (λ a text rest g t stop. stop) (λ a text rest h t stop. stop)

-- THE SAME GRAMMAR, SAID OTHERWISE
pub reads-same : {T A : Type 0} (G H : A → List T → Type 0) (Stops : A → Option T → Type 0) (r : List T → Read T A) →
    ((a : A) (text : List T) → G a text → H a text) → ((a : A) (text : List T) → H a text → G a text) → Reads G Stops r → Reads H Stops r
reads-same G H Stops r to back one = record {
  sound = λ ts a rest e. let f = one.sound ts a rest e in record { text = f.text; spelled = to a f.text f.spelled; split = f.split; stops = f.stops };
  complete = λ a text rest h stop. one.complete a text rest (back a text h) stop;
  fault = λ ts left e. let f = one.fault ts left e in record {
    front = f.front;
    back = f.back;
    split = f.split;
    place = f.place;
    last = f.last;
    tail = f.tail;
    viable = to f.last (f.front ++ f.tail) f.viable;
    dead = f.dead;
  };
  some = one.some;
  some_text = one.some_text;
  some_spelled = to one.some one.some_text one.some_spelled;
}

-- A VALUE MADE OF WHAT WAS READ
module _ {T A B : Type 0} (G : A → List T → Type 0) (H : B → List T → Type 0) (StopsG : A → Option T → Type 0) (StopsH : B → Option T → Type 0)
    (r : List T → Read T A) (f : A → B) (one : Reads G StopsG r)
    (to : (a : A) (text : List T) → G a text → H (f a) text)
    (back : (b : B) (text : List T) → H b text → (a : A) × G a text × (f a ≡ b))
    (stops_to : (a : A) (o : Option T) → StopsG a o → StopsH (f a) o)
    (stops_back : (a : A) (o : Option T) → StopsH (f a) o → StopsG a o) where
  map_sound : (ts : List T) (b : B) (rest : List T) → then_at r (λ a. pure_at (f a)) ts ≡ Ok (b, rest) → Found H StopsH ts b rest
  map_sound ts b rest e =
      let both = bind_ok (r ts) (λ x. Ok (f x.0, x.1)) (b, rest) e in
      let g = one.sound ts both.x.0 both.x.1 both.one in
      let p = ok_parts both.two in
      let P : B → Type 0 = λ c. H c g.text in
      let Q : B → Type 0 = λ c. StopsH c (first both.x.1) in
      record {
        text = g.text;
        spelled = subst P p.0 (to both.x.0 g.text g.spelled);
        split = g.split ∙ ap (λ us. g.text ++ us) p.1;
        stops = rw (← p.1) (subst Q p.0 (stops_to both.x.0 (first both.x.1) g.stops));
      }

  map_complete : (b : B) (text rest : List T) → H b text → StopsH b (first rest) → then_at r (λ a. pure_at (f a)) (text ++ rest) ≡ Ok (b, rest)
  map_complete b text rest h stop =
      let a = back b text h in
      let Q : B → Type 0 = λ c. StopsH c (first rest) in
      rw (one.complete a.0 text rest a.1 (stops_back a.0 (first rest) (subst Q (sym a.2) stop)), a.2) refl

  map_fault : (ts : List T) (left : Halt) → then_at r (λ a. pure_at (f a)) ts ≡ Err left → Stuck H (then_at r (λ a. pure_at (f a))) ts left
  map_fault ts left e =
      elim (bind_err (r ts) (λ x. Ok (f x.0, x.1)) left e) [
        | inl h ↦
            let s = one.fault ts left h in
            record {
              front = s.front;
              back = s.back;
              split = s.split;
              place = s.place;
              last = f s.last;
              tail = s.tail;
              viable = to s.last (s.front ++ s.tail) s.viable;
              dead = λ t more after at. rw (s.dead t more after at) refl;
            }
        | inr q ↦ absurd (let no = q.two in cc)
      ]

  pub reads-map : Reads H StopsH (then_at r (λ a. pure_at (f a)))
  reads-map = record {
    sound = map_sound;
    complete = map_complete;
    fault = map_fault;
    some = f one.some;
    some_text = one.some_text;
    some_spelled = to one.some one.some_text one.some_spelled;
  }
