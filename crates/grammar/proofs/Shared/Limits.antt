-- The law of readers with a limit that is reached.
use Rattle.std.proofs.Common.{◌≡◌, Bool, true, false, cond, List, [], ◌++◌, length, Option, None, Ok, Err, refl, sym, ap, ◌∙◌}
use Rattle.grammar.specs.Reading.{Halt, TooDeep, left_of, Read, first, choose_at, deep_at, Stuck, Found, Reads}
use Rattle.grammar.proofs.Shared.Laws.{test_cut}

-- A LIMIT, where the next token would go over it
module _ {T A : Type 0} (test : Option T → Bool) (H : A → List T → Type 0) (StopsH Stops : A → Option T → Type 0)
    (s : List T → Read T A) (two : Reads H StopsH s) (never : test None ≡ false)
    (no : (a : A) (text rest : List T) → H a text → Stops a (first rest) → (test (first (text ++ rest)) ≡ false) × StopsH a (first rest))
    (stops_no : (a : A) (text rest : List T) → H a text → test (first (text ++ rest)) ≡ false → StopsH a (first rest) → Stops a (first rest)) where
  limit-sound : (ts : List T) (a : A) (rest : List T) (b : Bool) → test (first ts) ≡ b → cond b (deep_at ts) (s ts) ≡ Ok (a, rest)
      → Found H Stops ts a rest
  limit-sound ts a rest true t e = absurd (cc)
  limit-sound ts a rest false t e = let f = two.sound ts a rest e
      in record {
        text = f.text;
        spelled = f.spelled;
        split = f.split;
        stops = stops_no a f.text rest f.spelled (ap (λ us. test (first us)) (sym f.split) ∙ t) f.stops;
      }

  limit-complete : (a : A) (text rest : List T) → H a text → Stops a (first rest) → choose_at test deep_at s (text ++ rest) ≡ Ok (a, rest)
  limit-complete a text rest h stop = let n = no a text rest h stop in rw n.0 (two.complete a text rest h n.1)

  limit-fault : (ts : List T) (halt : Halt) (b : Bool) → test (first ts) ≡ b → cond b (deep_at ts) (s ts) ≡ Err halt
      → Stuck H (choose_at test deep_at s) ts halt
  limit-fault ts halt true t e =
      let same : TooDeep (length ts) ≡ halt = (let h : Err (TooDeep (length ts)) ≡ (let q : Read T A = Err halt in q) = e in cc) in
      record {
        front = [];
        back = ts;
        split = refl;
        place = ap left_of same;
        last = two.some;
        tail = two.some_text;
        viable = two.some_spelled;
        dead = λ u more after at. rw (ap (λ us. test (first us)) (sym at) ∙ t, ← same) refl;
      }
  limit-fault ts halt false t e =
      let f = two.fault ts halt e in
      record {
        front = f.front;
        back = f.back;
        split = f.split;
        place = f.place;
        last = f.last;
        tail = f.tail;
        viable = f.viable;
        dead = λ u more after at. rw (test_cut test ts f.front f.back u more after f.split at, t) (f.dead u more after at);
      }

  pub reads-limit : Reads H Stops (choose_at test deep_at s)
  reads-limit = record {
    sound = λ ts a rest e. limit-sound ts a rest (test (first ts)) refl e;
    complete = limit-complete;
    fault = λ ts halt e. limit-fault ts halt (test (first ts)) refl e;
    some = two.some;
    some_text = two.some_text;
    some_spelled = two.some_spelled;
  }
