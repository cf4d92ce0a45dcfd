-- The laws of a choice among several, and of one reader for each of a list.
use Rattle.std.proofs.Common.{◌≡◌, List, [], ◌∷◌, ◌++◌, length, Option, Ok, Err, ◌⊎◌, inl, inr, refl, sym, ap, subst, ◌∙◌, append-nil}
use Rattle.grammar.specs.Reading.{Halt, TooDeep, left_of, Read, first, then_at, pure_at, pick_at, deep_at, each_at, AreEach, Found, Reads, Stuck}
use Rattle.grammar.specs.Reading.{Joined}
use Rattle.grammar.proofs.Shared.Laws.{first-cut, reads-then, reads-pure, reads-same}

-- the next token picks the same, however the text goes on behind it
pick_cut : {K T : Type 0} (kind : Option T → K) (ts front back : List T) (t : T) (more after : List T) → ts ≡ front ++ back → back ≡ t ∷ more
    → kind (first (front ++ t ∷ after)) ≡ kind (first ts)
pick_cut kind ts front back t more after split at
    = sym (ap (λ us. kind (first us)) split ∙ ap (λ us. kind (first (front ++ us))) at ∙ ap kind (first-cut front t more after))

-- a kind that would go over a limit: nothing is read of it
pub record AtLimit {T A : Type 0} (G : A → List T → Type 0) (r : List T → Read T A) : Type 0 where
  pub deep : (ts : List T) → r ts ≡ deep_at ts
  pub none : (a : A) (text : List T) → G a text → ⊥

-- ONE OF SEVERAL
module _ {K T A : Type 0} (kind : Option T → K) (G : K → A → List T → Type 0) (StopsG : K → A → Option T → Type 0)
    (H : A → List T → Type 0) (Stops : A → Option T → Type 0)
    (Fits : K → Type 0) (fitting : (o : Option T) → Fits (kind o))
    (r : K → List T → Read T A) (one : (k : K) → Fits k → Reads (G k) (StopsG k) (r k) ⊎ AtLimit (G k) (r k))
    (to : (k : K) (a : A) (text : List T) → G k a text → H a text)
    (halts : (k : K) (a : A) (text rest : List T) → G k a text → kind (first (text ++ rest)) ≡ k → StopsG k a (first rest) → Stops a (first rest))
    (back : (a : A) (text rest : List T) → H a text → Stops a (first rest) → G (kind (first (text ++ rest))) a text
    × StopsG (kind (first (text ++ rest))) a (first rest))
    (some : A) (some_text : List T) (some_spelled : H some some_text) where
  found_by : (ts : List T) (a : A) (rest : List T) (k : K) → kind (first ts) ≡ k → Reads (G k) (StopsG k) (r k) → r k ts ≡ Ok (a, rest)
      → Found H Stops ts a rest
  found_by ts a rest k is reader e =
      let f = reader.sound ts a rest e in
      record {
        text = f.text;
        spelled = to k a f.text f.spelled;
        split = f.split;
        stops = halts k a f.text rest f.spelled (ap (λ us. kind (first us)) (sym f.split) ∙ is) f.stops;
      }

  pick_sound : (ts : List T) (a : A) (rest : List T) (k : K) → Fits k → kind (first ts) ≡ k → r k ts ≡ Ok (a, rest) → Found H Stops ts a rest
  pick_sound ts a rest k fits is e =
      elim (one k fits) [ inl reader ↦ found_by ts a rest k is reader e | inr limit ↦ absurd (let here = limit.deep ts in cc) ]

  pick_complete : (a : A) (text rest : List T) (k : K) → Fits k → G k a text → StopsG k a (first rest) → r k (text ++ rest) ≡ Ok (a, rest)
  pick_complete a text rest k fits g stop
      = elim (one k fits) [ inl reader ↦ reader.complete a text rest g stop | inr limit ↦ absurd (limit.none a text g) ]

  stuck_by : (ts : List T) (halt : Halt) (k : K) → kind (first ts) ≡ k → Reads (G k) (StopsG k) (r k) → r k ts ≡ Err halt
      → Stuck H (pick_at kind r) ts halt
  stuck_by ts halt k is reader e =
      let f = reader.fault ts halt e in
      record {
        front = f.front;
        back = f.back;
        split = f.split;
        place = f.place;
        last = f.last;
        tail = f.tail;
        viable = to k f.last (f.front ++ f.tail) f.viable;
        dead = λ u more after at. rw (pick_cut kind ts f.front f.back u more after f.split at, is) (f.dead u more after at);
      }

  stuck_at : (ts : List T) (halt : Halt) (k : K) → kind (first ts) ≡ k → AtLimit (G k) (r k) → r k ts ≡ Err halt → Stuck H (pick_at kind r) ts halt
  stuck_at ts halt k is limit e =
      let here : TooDeep (length ts) ≡ halt = (let h : Err (TooDeep (length ts)) ≡ (let q : Read T A = Err halt in q)
      = sym (limit.deep ts) ∙ e in cc) in
      record {
        front = [];
        back = ts;
        split = refl;
        place = ap left_of here;
        last = some;
        tail = some_text;
        viable = some_spelled;
        dead = λ u more after at. rw (ap (λ us. kind (first us)) (sym at) ∙ is, limit.deep (u ∷ after), ← here) refl;
      }

  pick_fault : (ts : List T) (halt : Halt) (k : K) → Fits k → kind (first ts) ≡ k → r k ts ≡ Err halt → Stuck H (pick_at kind r) ts halt
  pick_fault ts halt k fits is e = elim (one k fits) [ inl reader ↦ stuck_by ts halt k is reader e | inr limit ↦ stuck_at ts halt k is limit e ]

  pub reads-pick : Reads H Stops (pick_at kind r)
  reads-pick = record {
    sound = λ ts a rest e. pick_sound ts a rest (kind (first ts)) (fitting (first ts)) refl e;
    complete = λ a text rest h stop. let g = back a text rest h stop
        in pick_complete a text rest (kind (first (text ++ rest))) (fitting (first (text ++ rest))) g.0 g.1;
    fault = λ ts halt e. pick_fault ts halt (kind (first ts)) (fitting (first ts)) refl e;
    some = some;
    some_text = some_text;
    some_spelled = some_spelled;
  }

-- ONE FOR EACH OF A LIST
module _ {B T A : Type 0} (G : B → A → List T → Type 0) (r : B → List T → Read T A) (one : (b : B) → Reads (G b) (λ a o. Unit {0}) (r b)) where
  each_to : (b : B) (bs : List B) (xs : List A) (text : List T)
      → Joined (G b) (λ a. Joined (AreEach G bs) (λ ys zs us. (zs ≡ a ∷ ys) × (us ≡ []))) xs text → AreEach G (b ∷ bs) xs text
  each_to b bs xs text j =
      let n = j.after in
      let P : List A → Type 0 = λ zs. AreEach G (b ∷ bs) zs text in
      let end : n.front ++ n.back ≡ n.front = rw n.after.1 (append-nil n.front) in
      subst P (sym n.after.0) (j.front, n.front, j.before, n.before, j.whole ∙ ap (λ us. j.front ++ us) (n.whole ∙ end))

  each_back : (b : B) (bs : List B) (xs : List A) (text : List T) → AreEach G (b ∷ bs) xs text
      → Joined (G b) (λ a. Joined (AreEach G bs) (λ ys zs us. (zs ≡ a ∷ ys) × (us ≡ []))) xs text
  each_back b bs [] text g = absurd g
  each_back b bs (x ∷ xs) text g = record {
    a = x;
    front = g.0;
    back = g.1;
    before = g.2;
    after = record { a = xs; front = g.1; back = []; before = g.3; after = (refl, refl); whole = sym (append-nil g.1) };
    whole = g.4;
  }

  pub reads-each : (bs : List B) → Reads (AreEach G bs) (λ xs o. Unit {0}) (each_at r bs)
  reads-each [] = reads-same _ (AreEach G []) (λ xs o. Unit {0}) (each_at r []) none_to none_back (reads-pure (λ xs o. Unit {0}) [] (λ o. tt)) where
    none_to : (xs : List A) (text : List T) → (xs ≡ []) × (text ≡ []) → AreEach G [] xs text
    none_to xs text g = rw g.0 g.1

    none_back : (xs : List A) (text : List T) → AreEach G [] xs text → (xs ≡ []) × (text ≡ [])
    none_back [] text g = (refl, g)
    none_back (x ∷ xs) text g = absurd g
  reads-each (b ∷ bs) = reads-same _ (AreEach G (b ∷ bs)) (λ xs o. Unit {0}) (each_at r (b ∷ bs)) (each_to b bs) (each_back b bs)
      (reads-then (G b) _ (λ a o. Unit {0}) (λ xs o. Unit {0}) (r b) (λ a. then_at (each_at r bs) (λ xs. pure_at (a ∷ xs))) (one b)
      (λ a. reads-then (AreEach G bs) _ (λ xs o. Unit {0}) (λ xs o. Unit {0}) (each_at r bs) (λ xs. pure_at (a ∷ xs)) (reads-each bs)
      (λ xs. reads-pure (λ zs o. Unit {0}) (a ∷ xs) (λ o. tt)) (λ ys zs us rest h stop. tt))
      (λ a zs us rest h stop. tt))
