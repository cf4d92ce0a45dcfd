-- The law of lists whose items depend on those before them.
use Rattle.std.proofs.Common.{◌≡◌, ℕ, zero, suc, ◌<◌, ◌≤◌, Bool, true, false, cond, List, [], ◌∷◌, ◌++◌, length, Option, None, Ok, Err, inl, inr}
use Rattle.std.proofs.Common.{refl, sym, ap, subst, ◌∙◌, arith, append_assoc, length-append}
use Rattle.std.specs.Prelude.{⊤}
use Rattle.grammar.specs.Reading.{Halt, left_of, with_left, Read, first, ◌>>=◌, from_at, all_from, AreFrom, Found, Reads}
use Rattle.grammar.proofs.Shared.Laws.{ok_parts, bind_ok, bind_err, test_cut}

-- items that end a list from a state
pub record Closing {S T A : Type 0} (test : S → Option T → Bool) (next : S → A → S) (G : S → A → List T → Type 0) (s : S) : Type 0 where
  pub items : List A
  pub text : List T
  pub spelled : AreFrom test next G s items text

-- the last item stops there
abbrev pub Last : {T A : Type 0} → (A → Option T → Type 0) → List A → Option T → Type 0
Last Gap [] o = ⊤
Last Gap (x ∷ []) o = Gap x o
Last Gap (x ∷ (y ∷ ys)) o = Last Gap (y ∷ ys) o

-- the state after items
abbrev pub after_all : {S A : Type 0} → (S → A → S) → S → List A → S
after_all next s [] = s
after_all next s (x ∷ xs) = after_all next (next s x) xs

module _ {S T A : Type 0} (test : S → Option T → Bool) (next : S → A → S) (G : S → A → List T → Type 0) (Gap : A → Option T → Type 0)
    (r : S → List T → Read T A) (one : (s : S) → Reads (G s) Gap (r s))
    (starts : (s : S) (a : A) (text rest : List T) → G s a text → test s (first (text ++ rest)) ≡ true)
    (grows : (s : S) (a : A) (text : List T) → G s a text → 0 < length text)
    (apart : (a : A) (s : S) (o : Option T) → test s o ≡ true → Gap a o)
    (ends : (s : S) (o : Option T) → test s o ≡ false → test s None ≡ false)
    (closing : (s : S) → Closing test next G s) where
  abbrev pub Stops : S → List A → Option T → Type 0
  Stops s xs o = (test (after_all next s xs) o ≡ false) × Last Gap xs o

  nil_of : (ts : List T) → length ts ≤ 0 → ts ≡ []
  nil_of [] h = refl
  nil_of (t ∷ ts) h = absurd (omega arith)

  -- what a repetition with enough turns finds
  abbrev pub Finds : ℕ → Type 0
  Finds n = (s : S) (ts : List T) (xs : List A) (rest : List T) → length ts < n → from_at test next r n s ts ≡ Ok (xs, rest)
      → Found (AreFrom test next G s) (Stops s) ts xs rest

  gap_after : (x : A) (xs : List A) (text rest ts : List T) (s : S) → AreFrom test next G s xs text → ts ≡ text ++ rest → Gap x (first ts)
      → Last Gap xs (first rest) → Last Gap (x ∷ xs) (first rest)
  gap_after x [] text rest ts s g split gap last = let same : ts ≡ rest = split ∙ ap (λ us. us ++ rest) g.0 in rw (← same) gap
  gap_after x (y ∷ ys) text rest ts s g split gap last = last

  sound_step : (n : ℕ) → Finds n → (s : S) (ts : List T) (xs : List A) (rest : List T) → length ts < suc n → (b : Bool) → test s (first ts) ≡ b →
      cond b (r s ts >>= λ x. from_at test next r n (next s x.0) x.1 >>= λ y. Ok (x.0 ∷ y.0, y.1)) (Ok ([], ts)) ≡ Ok (xs, rest)
      → Found (AreFrom test next G s) (Stops s) ts xs rest
  sound_step n more s ts xs rest h true t e =
      let x = bind_ok (r s ts) (λ x. from_at test next r n (next s x.0) x.1 >>= λ y. Ok (x.0 ∷ y.0, y.1)) (xs, rest) e in
      let f = (one s).sound ts x.x.0 x.x.1 x.one in
      let y = bind_ok (from_at test next r n (next s x.x.0) x.x.1) (λ y. Ok (x.x.0 ∷ y.0, y.1)) (xs, rest) x.two in
      let shorter : length x.x.1 < n = omega (arith, ap length f.split, length-append f.text x.x.1, grows s x.x.0 f.text f.spelled) in
      let g = more (next s x.x.0) x.x.1 y.x.0 y.x.1 shorter y.one in
      let p = ok_parts y.two in
      let Q : List A → Type 0 = λ bs. AreFrom test next G s bs (f.text ++ g.text) × Stops s bs (first y.x.1) in
      let q : Q xs = subst Q p.0 (
        (f.text, g.text, f.spelled, g.spelled, refl),
        (
          g.stops.0,
          gap_after x.x.0 y.x.0 g.text y.x.1 x.x.1 (next s
              x.x.0) g.spelled g.split f.stops g.stops.1,
        ),
      ) in
      record {
        text = f.text ++ g.text;
        spelled = q.0;
        split = f.split ∙ ap (λ us. f.text ++ us) (g.split ∙ ap (λ us. g.text ++ us) p.1) ∙ sym (append_assoc f.text g.text rest);
        stops = rw (← p.1) q.1;
      }
  sound_step n more s ts xs rest h false t e =
      let p = ok_parts e in
      let Q : List A → Type 0 = λ bs. AreFrom test next G s bs [] × Stops s bs (first ts) in
      let q : Q xs = subst Q p.0 ((refl, ends s (first ts) t), (t, tt)) in
      record { text = []; spelled = q.0; split = p.1; stops = rw (← p.1) q.1 }

  from-sound : (n : ℕ) → Finds n
  from-sound zero s ts xs rest h e = absurd (omega arith)
  from-sound (suc n) s ts xs rest h e = sound_step n (from-sound n) s ts xs rest h (test s (first ts)) refl e

  gap_before : (x : A) (xs : List A) (text rest : List T) (s : S) → AreFrom test next G s xs text → Last Gap (x ∷ xs) (first rest)
      → Gap x (first (text ++ rest))
  gap_before x [] text rest s g last = rw g.0 last
  gap_before x (y ∷ ys) text rest s g last = rw (g.4, append_assoc) (apart x s (first (g.0 ++ (g.1 ++ rest))) (starts s y g.0 (g.1 ++ rest) g.2))

  last_rest : (x : A) (xs : List A) (o : Option T) → Last Gap (x ∷ xs) o → Last Gap xs o
  last_rest x [] o last = tt
  last_rest x (y ∷ ys) o last = last

  from-complete : (xs : List A) (n : ℕ) (s : S) (text rest : List T) → length (text ++ rest) < n → AreFrom test next G s xs text
      → Stops s xs (first rest) → from_at test next r n s (text ++ rest) ≡ Ok (xs, rest)
  from-complete xs zero s text rest h g stop = absurd (omega arith)
  from-complete [] (suc n) s text rest h g stop = rw (g.0, stop.0) refl
  from-complete (x ∷ xs) (suc n) s text rest h g stop =
      let whole : text ++ rest ≡ g.0 ++ (g.1 ++ rest) = ap (λ us. us ++ rest) g.4 ∙ append_assoc g.0 g.1 rest in
      let shorter : length (g.1 ++ rest) < n = omega (arith, ap length whole, length-append g.0 (g.1 ++ rest), grows s x g.0 g.2) in
      let after : Stops (next s x) xs (first rest) = (stop.0, last_rest x xs (first rest) stop.1) in
      rw (
        whole,
        starts s x g.0 (g.1 ++ rest) g.2,
        (one s).complete x g.0 (g.1 ++ rest) g.2 (gap_before x xs g.1 rest
            (next s x) g.3 stop.1),
        from-complete xs n (next s x) g.1 rest shorter g.3 after,
      ) refl

  -- where a repetition stops, for any number of turns that is enough
  pub record Halts (s : S) (ts : List T) (halt : Halt) : Type 0 where
    pub front : List T
    pub back : List T
    pub split : ts ≡ front ++ back
    pub place : length back ≡ left_of halt
    pub last : List A
    pub tail : List T
    pub viable : AreFrom test next G s last (front ++ tail)
    pub dead : (n : ℕ) (t : T) (more after : List T) → length (front ++ t ∷ after) < n → back ≡ t ∷ more
        → from_at test next r n s (front ++ t ∷ after) ≡ Err (with_left halt (suc (length after)))

  abbrev pub HaltsFrom : ℕ → Type 0
  HaltsFrom n = (s : S) (ts : List T) (halt : Halt) → length ts < n → from_at test next r n s ts ≡ Err halt → Halts s ts halt

  dead_first : (s : S) (us : List T) (p : Halt) → test s (first us) ≡ true → r s us ≡ Err p → (n : ℕ) → length us < n
      → from_at test next r n s us ≡ Err p
  dead_first s us p t fails zero h = absurd (omega arith)
  dead_first s us p t fails (suc n) h = rw (t, fails) refl

  dead_next : (s : S) (x : A) (text us : List T) (p : Halt) → G s x text → Gap x (first us)
      → ((n : ℕ) → length us < n → from_at test next r n (next s x) us ≡ Err p) → (n : ℕ) → length (text ++ us) < n
      → from_at test next r n s (text ++ us) ≡ Err p
  dead_next s x text us p g gap fails zero h = absurd (omega arith)
  dead_next s x text us p g gap fails (suc n) h =
      let shorter : length us < n = omega (arith, length-append text us, grows s x text g) in
      rw (starts s x text us g, (one s).complete x text us g gap, fails n shorter) refl

  gap_cut : (x : A) (ts front back : List T) (t : T) (more after : List T) → ts ≡ front ++ back → back ≡ t ∷ more → Gap x (first ts)
      → Gap x (first (front ++ t ∷ after))
  gap_cut x ts [] back t more after split at gap = let same : ts ≡ t ∷ more = split ∙ at in let P : Option T → Type 0 = Gap x
      in subst P (ap first same) gap
  gap_cut x ts (u ∷ us) back t more after split at gap = let P : Option T → Type 0 = Gap x in subst P (ap first split) gap

  fault_step : (n : ℕ) → HaltsFrom n → (s : S) (ts : List T) (halt : Halt) → length ts < suc n → (b : Bool) → test s (first ts) ≡ b →
      cond b (r s ts >>= λ x. from_at test next r n (next s x.0) x.1 >>= λ y. Ok (x.0 ∷ y.0, y.1)) (Ok ([], ts)) ≡ Err halt → Halts s ts halt
  fault_step n more s ts halt h false t e = absurd (cc)
  fault_step n more s ts halt h true t e =
      elim (bind_err (r s ts) (λ x. from_at test next r n (next s x.0) x.1 >>= λ y. Ok (x.0 ∷ y.0, y.1)) halt e) [
        | inl first_fails ↦
            let f = (one s).fault ts halt first_fails in
            let c = closing (next s f.last) in
            record {
              front = f.front;
              back = f.back;
              split = f.split;
              place = f.place;
              last = f.last ∷ c.items;
              tail = f.tail ++ c.text;
              viable = (f.front ++ f.tail, c.text, f.viable, c.spelled, sym (append_assoc f.front f.tail c.text));
              dead = λ m u others after long at.
                  dead_first s (f.front ++ u ∷ after) (with_left halt (suc (length after))) (test_cut
                  (test s) ts f.front f.back u others after f.split at ∙ t) (f.dead u others after at) m long;
            }
        | inr q ↦
            let f = (one s).sound ts q.x.0 q.x.1 q.one in
            let shorter : length q.x.1 < n = omega (arith, ap length f.split, length-append f.text q.x.1, grows s q.x.0 f.text f.spelled) in
            elim (bind_err (from_at test next r n (next s q.x.0) q.x.1) (λ y. Ok (q.x.0 ∷ y.0, y.1)) halt q.two) [
              | inr w ↦ absurd (cc)
              | inl others_fail ↦
                  let g = more (next s q.x.0) q.x.1 halt shorter others_fail in
                  record {
                    front = f.text ++ g.front;
                    back = g.back;
                    split = f.split ∙ ap (λ us. f.text ++ us) g.split ∙ sym (append_assoc f.text g.front g.back);
                    place = g.place;
                    last = q.x.0 ∷ g.last;
                    tail = g.tail;
                    viable = (f.text, g.front ++ g.tail, f.spelled, g.viable, append_assoc f.text g.front g.tail);
                    dead = λ m u others after long at.
                        rw (append_assoc) (dead_next s q.x.0 f.text (g.front ++ u ∷ after) (with_left halt (suc (length after))) f.spelled
                        (gap_cut q.x.0 q.x.1 g.front g.back u others after g.split at f.stops) (λ k far. g.dead k u others after far at) m
                        (let P : List T → Type 0 = λ us. length us < m in subst P (append_assoc f.text g.front (u ∷ after)) long));
                  }
            ]
      ]

  from-fault : (n : ℕ) → HaltsFrom n
  from-fault zero s ts halt h e = absurd (omega arith)
  from-fault (suc n) s ts halt h e = fault_step n (from-fault n) s ts halt h (test s (first ts)) refl e

  pub reads-from : (s : S) → Reads (AreFrom test next G s) (Stops s) (all_from test next r s)
  reads-from s = record {
    sound = λ ts xs rest e. from-sound (suc (length ts)) s ts xs rest (omega arith) e;
    complete = λ xs text rest g stop. from-complete xs (suc (length (text ++ rest))) s text rest (omega arith) g stop;
    fault = λ ts halt e. let g = from-fault (suc (length ts)) s ts halt (omega arith) e in
        record {
          front = g.front;
          back = g.back;
          split = g.split;
          place = g.place;
          last = g.last;
          tail = g.tail;
          viable = g.viable;
          dead = λ t more after at. g.dead (suc (length (g.front ++ t ∷ after))) t more after (omega arith) at;
        };
    some = (closing s).items;
    some_text = (closing s).text;
    some_spelled = (closing s).spelled;
  }

  -- enough turns are as good as more
  same_step : (n m : ℕ) → ((s : S) (us : List T) → length us < n → length us < m → from_at test next r n s us ≡ from_at test next r m s us)
      → (s : S) (ts : List T) → length ts < suc n → length ts < suc m → (q : Read T A) → r s ts ≡ q →
      (q >>= λ x. from_at test next r n (next s x.0) x.1 >>= λ y. Ok (x.0 ∷ y.0, y.1))
      ≡ (q >>= λ x. from_at test next r m (next s x.0) x.1 >>= λ y. Ok (x.0 ∷ y.0, y.1))
  same_step n m more s ts h k (Ok x) e =
      let f = (one s).sound ts x.0 x.1 e in
      let shorter : (length x.1 < n) × (length x.1 < m)
      = (
        omega (arith, ap length f.split, length-append f.text x.1, grows s x.0 f.text f.spelled),
        omega
            (arith, ap length f.split, length-append f.text x.1, grows s x.0 f.text f.spelled),
      ) in
      rw (more (next s x.0) x.1 shorter.0 shorter.1) refl
  same_step n m more s ts h k (Err halt) e = refl

  from-same : (n m : ℕ) (s : S) (ts : List T) → length ts < n → length ts < m → from_at test next r n s ts ≡ from_at test next r m s ts
  from-same zero m s ts h k = absurd (omega arith)
  from-same (suc n) zero s ts h k = absurd (omega arith)
  from-same (suc n) (suc m) s ts h k =
      ap (λ a. cond (test s (first ts)) a (Ok ([], ts))) (same_step n m (from-same n m) s ts h k (r s ts) refl)

  -- the repetition as an equation
  pub from-turn : (s : S) (ts : List T) (x : A) (rest : List T) → test s (first ts) ≡ true → r s ts ≡ Ok (x, rest) →
      all_from test next r s ts ≡ (all_from test next r (next s x) rest >>= λ y. Ok (x ∷ y.0, y.1))
  from-turn s ts x rest t e =
      let f = (one s).sound ts x rest e in
      let far : length rest < length ts = omega (arith, ap length f.split, length-append f.text rest, grows s x f.text f.spelled) in
      rw (t, e, from-same (length ts) (suc (length rest)) (next s x) rest far (omega arith)) refl

  pub from-fails : (s : S) (ts : List T) (halt : Halt) → test s (first ts) ≡ true → r s ts ≡ Err halt → all_from test next r s ts ≡ Err halt
  from-fails s ts halt t e = rw (t, e) refl

  pub from-ends : (s : S) (ts : List T) → test s (first ts) ≡ false → all_from test next r s ts ≡ Ok ([], ts)
  from-ends s ts t = rw t refl
