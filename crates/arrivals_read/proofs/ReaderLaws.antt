-- The readers of arrivals read their grammar.
use Rattle.std.proofs.Common.{◌≡◌, ℕ, ◌<◌, Bool, true, false, List, [], ◌∷◌, ◌++◌, length, Option, Some, None, Ok, Err, suc, codes, flat_map}
use Rattle.std.proofs.Common.{refl, sym, ap, subst, ◌∙◌, arith, append-nil, ◌⊎◌, inl, inr}
use Rattle.grammar.specs.Reading.{Halt, Syntax, left_of, Read, first, token_at, then_at, pure_at, many_at, Found, Stuck, Reads, Joined, AreMany}
use Rattle.grammar.proofs.Shared.Laws.{reads-same, reads-then, reads-pure, reads-token, reads-choose, reads-map, ok_parts, IsToken, joins-part}
use Rattle.grammar.proofs.Shared.Many.{reads-items}
use Rattle.seq_tree.specs.Names.{Name}
use Rattle.seq_tree.specs.declared.token.Token.{Token}
use Rattle.seq_tree.specs.declared.token.Token.TheVariants.{Word, Number, Sign}
use Rattle.seq_tree.specs.declared.token.Mark.TheVariants.{Comma, Semicolon}
use Rattle.token_read.specs.Readers.{sees_word, word_at, next_is, next_is_number}
use Rattle.token_read.proofs.Shared.TokenLaws.{Any, andthen, reads-fixed, reads-number, joins-fixed, joins-number}
use Rattle.arrivals_tree.specs.ArrivalTexts.{ArrivalText, WorkText, AtText, other_tokens, work_tokens, value_tokens, request_tokens, arrival_tokens}
use Rattle.arrivals_read.specs.Readers.{other_at, others_at, work_at, works_at, some_at, none_at, value_at, request_at, requests_at, until_at}
use Rattle.arrivals_read.specs.Readers.{end_at, arrivals_at}

-- a word
abbrev pub IsWord : Name → List Token → Type 0
IsWord name text = text ≡ Word name ∷ []

word_seen : (t : Token) (n : Name) → sees_word t ≡ Some n → t ≡ Word n
word_seen (Word m) n e = ap Word (let h : Some m ≡ Some n = e in cc)
word_seen (Sign m) n e = absurd (cc)
word_seen (Number m) n e = absurd (cc)

reads-word : Reads IsWord Any word_at
unfolding word_at
reads-word = reads-same (IsToken sees_word) IsWord Any (token_at sees_word)
    (λ n text g. g.whole ∙ ap (λ t. t ∷ []) (word_seen g.token n g.seen))
    (λ n text g. record { token = Word n; seen = refl; whole = g })
    (reads-token sees_word (codes "a") (Word (codes "a")) refl)

joins-word : {B : Type 0} (H : Name → B → List Token → Type 0) (n : Name) (b : B) (rest : List Token) → H n b rest → Joined IsWord H b (Word n ∷ rest)
joins-word H n b rest h = record { a = n; front = Word n ∷ []; back = rest; before = refl; after = h; whole = refl }

-- what is spelled in one way
abbrev pub IsSpelled : {A : Type 0} → (A → List Token) → A → List Token → Type 0
IsSpelled spell a text = text ≡ spell a

-- as many as there are, each spelled in one way
module _ {A : Type 0} (spell : A → List Token) (test : Option Token → Bool) (r : List Token → Read Token A) (one : Reads (IsSpelled spell) Any r)
    (starts : (a : A) (rest : List Token) → test (first (spell a ++ rest)) ≡ true) (grows : (a : A)
    → 0 < length (spell a)) (ends : test None ≡ false) where
  each_to : (xs : List A) (text : List Token) → AreMany (IsSpelled spell) xs text → text ≡ flat_map spell xs
  each_to [] text g = g
  each_to (x ∷ xs) text g = let h = each_to xs g.1 g.3 in rw (g.4, g.2, h) refl

  each_back : (xs : List A) (text : List Token) → text ≡ flat_map spell xs → AreMany (IsSpelled spell) xs text
  each_back [] text h = h
  each_back (x ∷ xs) text h = (spell x, flat_map spell xs, refl, each_back xs (flat_map spell xs) refl, h)

  pub starts_spelled : (a : A) (text rest : List Token) → IsSpelled spell a text → test (first (text ++ rest)) ≡ true
  starts_spelled a text rest g = rw g (starts a rest)

  pub grows_spelled : (a : A) (text : List Token) → IsSpelled spell a text → 0 < length text
  grows_spelled a text g = rw g (grows a)

  pub reads-spelled : Reads (IsSpelled (flat_map spell)) (λ xs o. test o ≡ false) (many_at test r)
  reads-spelled = reads-same (AreMany (IsSpelled spell)) (IsSpelled (flat_map spell)) (λ xs o. test o ≡ false) (many_at test r) each_to each_back
      (reads-items test (IsSpelled spell) r one starts_spelled grows_spelled ends)

-- durations
abbrev pub other_text : ℕ → List Token
other_text n = Sign Comma ∷ Number n ∷ []

pub reads-other : Reads (IsSpelled other_text) Any other_at
unfolding other_at
reads-other = reads-same _ (IsSpelled other_text) Any other_at
    (λ n text g. rw (g.whole, g.before, g.after) refl)
    (λ n text h. rw h (joins-fixed _ (Sign Comma) n _ refl))
    (andthen (reads-fixed (Sign Comma)) (λ _. reads-number))

reads-others : Reads (IsSpelled other_tokens) (λ ns o. next_is (Sign Comma) o ≡ false) others_at
unfolding others_at
reads-others = reads-spelled other_text (next_is (Sign Comma)) other_at reads-other (λ n rest. refl) (λ n. omega arith) refl

-- the end of an item, behind a part that stops at it
abbrev pub IsEnd : Unit {0} → List Token → Type 0
IsEnd a text = text ≡ Sign Semicolon ∷ []

behind : {A B : Type 0} {G : A → List Token → Type 0} {H : A → B → List Token → Type 0} {r : List Token → Read Token A} {f : A → List Token
    → Read Token B} (stop : Option Token → Bool) →
    stop (Some (Sign Semicolon)) ≡ false → Reads G (λ a o. stop o ≡ false) r → ((a : A) → Reads (Joined IsEnd (λ _. H a)) Any (f a))
    → Reads (Joined G (λ a. Joined IsEnd (λ _. H a))) Any (then_at r f)
behind {A} {B} {G} {H} {r} {f} stop halts one two =
    reads-then G (λ a. Joined IsEnd (λ _. H a)) (λ a o. stop o ≡ false) Any r f one two (λ a b back rest h end. rw (h.whole, h.before) halts)

pub reads-work : Reads (IsSpelled work_tokens) Any work_at
unfolding work_at
reads-work = reads-same _ (IsSpelled work_tokens) Any work_at
    (λ w text g1.
    let g2 = g1.after in let g3 = g2.after in let g4 = g3.after in let g5 = g4.after in
    let P : WorkText → Type 0 = λ v. text ≡ work_tokens v in
    subst P (sym g5.after.0) (rw (
      g1.whole,
      g1.before,
      g2.whole,
      g2.before,
      g3.whole,
      g3.before,
      g4.whole,
      g4.before,
      g5.whole,
      g5.before,
      g5.after.1,
    ) refl))
    (λ w text h. rw h (joins-fixed _ (Word (codes "work")) w _
    (joins-word _ w.name w _ (joins-number _ w.first w _ (joins-part _ w.others (other_tokens w.others) w _ refl
    (joins-fixed _ (Sign Semicolon) w [] (refl, refl)))))))
    (andthen (reads-fixed (Word (codes "work")))
    (λ _. andthen reads-word (λ name. andthen reads-number (λ n. behind (next_is (Sign Comma)) refl reads-others (λ ns.
    andthen (reads-fixed (Sign Semicolon)) (λ _. reads-pure Any (record { name = name; first = n; others = ns }) (λ _. tt)))))))

pub reads-works : Reads (IsSpelled (flat_map work_tokens)) (λ ws o. next_is (Word (codes "work")) o ≡ false) works_at
unfolding works_at
reads-works = reads-spelled work_tokens (next_is (Word (codes "work"))) work_at reads-work (λ w rest. refl) (λ w. omega arith) refl

-- a value, where there is one, and the end of a request
abbrev pub value_text : Option ℕ → List Token
value_text v = value_tokens v ++ Sign Semicolon ∷ []

abbrev IsSomeValue : Option ℕ → List Token → Type 0
IsSomeValue v text = (n : ℕ) × (v ≡ Some n) × (text ≡ Number n ∷ Sign Semicolon ∷ [])

abbrev IsNoValue : Option ℕ → List Token → Type 0
IsNoValue v text = (v ≡ None) × (text ≡ Sign Semicolon ∷ [])

reads-some : Reads IsSomeValue Any some_at
unfolding some_at
reads-some = reads-same _ IsSomeValue Any some_at
    (λ v text g1. let g2 = g1.after in (g1.a, g2.after.0, rw (g1.whole, g1.before, g2.whole, g2.before, g2.after.1) refl))
    (λ v text h. rw h.2 (joins-number _ h.0 v _ (joins-fixed _ (Sign Semicolon) v [] (h.1, refl))))
    (andthen reads-number (λ n. andthen (reads-fixed (Sign Semicolon)) (λ _. reads-pure Any (Some n) (λ _. tt))))

reads-none : Reads IsNoValue Any none_at
unfolding none_at
reads-none = reads-same _ IsNoValue Any none_at
    (λ v text g. (g.after.0, rw (g.whole, g.before, g.after.1) refl))
    (λ v text h. rw h.1 (joins-fixed _ (Sign Semicolon) v [] (h.0, refl)))
    (andthen (reads-fixed (Sign Semicolon)) (λ _. reads-pure Any None (λ _. tt)))

value_to : (v : Option ℕ) (text : List Token) → IsSomeValue v text ⊎ IsNoValue v text → text ≡ value_text v
value_to v text (inl g) = rw (g.1, g.2) refl
value_to v text (inr g) = rw (g.0, g.1) refl

value_back : (v : Option ℕ) (text : List Token) → text ≡ value_text v → IsSomeValue v text ⊎ IsNoValue v text
value_back (Some n) text h = inl (n, refl, h)
value_back None text h = inr (refl, h)

reads-value : Reads (IsSpelled value_text) Any value_at
unfolding value_at
reads-value = reads-same _ (IsSpelled value_text) Any value_at value_to value_back
    (reads-choose next_is_number IsSomeValue IsNoValue Any some_at none_at reads-some reads-none (λ v text rest h stop. rw h.2 refl)
    (λ v text rest h stop. rw h.1 refl))

-- requests
pub reads-request : Reads (IsSpelled request_tokens) Any request_at
unfolding request_at
reads-request = reads-same _ (IsSpelled request_tokens) Any request_at
    (λ r text g1.
    let g2 = g1.after in let g3 = g2.after in let g4 = g3.after in
    let P : AtText → Type 0 = λ q. text ≡ request_tokens q in
    subst P (sym g4.after.0) (rw (g1.whole, g1.before, g2.whole, g2.before, g3.whole, g3.before, g4.whole, g4.before, g4.after.1, append-nil) refl))
    (λ r text h. rw (h, ← append-nil (value_text r.value)) (joins-fixed _ (Word (codes "at")) r _
    (joins-number _ r.time r _ (joins-word _ r.name r _ (joins-part _ r.value (value_text r.value) r [] refl (refl, refl))))))
    (andthen (reads-fixed (Word (codes "at"))) (λ _. andthen reads-number (λ time. andthen reads-word (λ name. andthen reads-value (λ value.
    reads-pure Any (record { time = time; name = name; value = value }) (λ _. tt))))))

pub reads-requests : Reads (IsSpelled (flat_map request_tokens)) (λ rs o. next_is (Word (codes "at")) o ≡ false) requests_at
unfolding requests_at
reads-requests = reads-spelled request_tokens (next_is (Word (codes "at"))) request_at reads-request (λ r rest. refl) (λ r. omega arith) refl

-- a horizon
abbrev until_text : ℕ → List Token
until_text n = Word (codes "until") ∷ Number n ∷ Sign Semicolon ∷ []

reads-until : Reads (IsSpelled until_text) Any until_at
unfolding until_at
reads-until = reads-same _ (IsSpelled until_text) Any until_at
    (λ n text g1.
    let g2 = g1.after in let g3 = g2.after in
    let P : ℕ → Type 0 = λ m. text ≡ until_text m in
    subst P (sym g3.after.0) (rw (g1.whole, g1.before, g2.whole, g2.before, g3.whole, g3.before, g3.after.1) refl))
    (λ n text h. rw h (joins-fixed _ (Word (codes "until")) n _ (joins-number _ n n _ (joins-fixed _ (Sign Semicolon) n [] (refl, refl)))))
    (andthen (reads-fixed (Word (codes "until")))
    (λ _. andthen reads-number (λ n. andthen (reads-fixed (Sign Semicolon)) (λ _. reads-pure Any n (λ _. tt)))))

-- the end of a text
abbrev IsNothing : Unit {0} → List Token → Type 0
IsNothing a text = text ≡ []

abbrev pub AtEnd : {A : Type 0} → A → Option Token → Type 0
AtEnd a o = o ≡ None

nothing_left : (rest : List Token) → first rest ≡ None → rest ≡ []
nothing_left [] e = refl
nothing_left (t ∷ ts) e = absurd (cc)

reads-end : Reads IsNothing AtEnd end_at
unfolding end_at
reads-end = record { sound = sound; complete = complete; fault = fault; some = tt; some_text = []; some_spelled = refl } where
  sound : (ts : List Token) (a : Unit {0}) (rest : List Token) → end_at ts ≡ Ok (a, rest) → Found IsNothing AtEnd ts a rest
  sound [] a rest e = let p = ok_parts e in record { text = []; spelled = refl; split = p.1; stops = ap first (sym p.1) }
  sound (t ∷ ts) a rest e = absurd (cc)

  complete : (a : Unit {0}) (text rest : List Token) → IsNothing a text → AtEnd a (first rest) → end_at (text ++ rest) ≡ Ok (a, rest)
  complete a text rest g stop = rw (g, nothing_left rest stop) refl

  fault : (ts : List Token) (halt : Halt) → end_at ts ≡ Err halt → Stuck IsNothing end_at ts halt
  fault [] halt e = absurd (cc)
  fault (t ∷ ts) halt e =
      let same : Syntax (suc (length ts)) ≡ halt = (let h : Err (Syntax (suc (length ts))) ≡ (let q : Read Token (Unit {0}) = Err halt in q)
      = e in cc) in
      record {
        front = [];
        back = t ∷ ts;
        split = refl;
        place = ap left_of same;
        last = tt;
        tail = [];
        viable = refl;
        dead = λ u more after at. rw (← same) refl;
      }

-- arrivals
abbrev pub IsArrivals : ArrivalText → List Token → Type 0
IsArrivals = IsSpelled arrival_tokens

-- arrivals behind a horizon, with durations, and with requests
abbrev text_with : ℕ → List WorkText → List AtText → ArrivalText
text_with until works requests = record { until = until; works = works; requests = requests }

IsWhole : ℕ → List WorkText → List AtText → ArrivalText → List Token → Type 0
IsWhole until works requests t text = (t ≡ text_with until works requests) × (text ≡ [])

IsRequested : ℕ → List WorkText → ArrivalText → List Token → Type 0
IsRequested until works t text = (rs : List AtText) × (t ≡ text_with until works rs) × (text ≡ flat_map request_tokens rs)

IsWorked : ℕ → ArrivalText → List Token → Type 0
IsWorked until t text = (ws : List WorkText) × (rs : List AtText) × (t ≡ text_with until ws rs)
    × (text ≡ flat_map work_tokens ws ++ flat_map request_tokens rs)

reads-whole : (until : ℕ) (works : List WorkText) (requests : List AtText)
    → Reads (IsWhole until works requests) AtEnd (then_at end_at (λ _. pure_at (text_with until works requests)))
unfolding IsWhole
reads-whole until works requests = reads-map IsNothing (IsWhole until works requests) AtEnd AtEnd end_at
    (λ _. text_with until works requests) reads-end
    (λ a text g. (refl, g)) (λ t text h. (tt, h.1, sym h.0)) (λ a o h. h) (λ a o h. h)

reads-requested : (until : ℕ) (works : List WorkText)
    → Reads (IsRequested until works) AtEnd (then_at requests_at (λ requests. then_at end_at (λ _. pure_at (text_with until works requests))))
unfolding IsWhole IsRequested
reads-requested until works = reads-same _ (IsRequested until works) AtEnd _
    (λ t text g. (g.a, g.after.0, rw (g.whole, g.before, g.after.1, append-nil) refl))
    (λ t text h. record {
      a = h.0;
      front = flat_map request_tokens h.0;
      back = [];
      before = refl;
      after = (h.1, refl);
      whole = h.2 ∙ sym (append-nil (flat_map request_tokens h.0));
    })
    (reads-then (IsSpelled (flat_map request_tokens)) (λ rs. IsWhole until works rs) (λ rs o. next_is (Word (codes "at")) o
    ≡ false) AtEnd requests_at _ reads-requests (reads-whole until works)
    (λ rs t back rest h end. rw (h.1, end) refl))

-- what follows durations begins no further ones
apart_from : (rs : List AtText) (rest : List Token) → first rest ≡ None
    → next_is (Word (codes "work")) (first (flat_map request_tokens rs ++ rest)) ≡ false
apart_from [] rest e = rw e refl
apart_from (r ∷ rs) rest e = refl

reads-worked : (until : ℕ) → Reads (IsWorked until) AtEnd
    (then_at works_at (λ works. then_at requests_at (λ requests. then_at end_at (λ _. pure_at (text_with until works requests)))))
unfolding IsRequested IsWorked
reads-worked until = reads-same _ (IsWorked until) AtEnd _
    (λ t text g. (g.a, g.after.0, g.after.1, rw (g.whole, g.before, g.after.2) refl))
    (λ t text h. record {
      a = h.0;
      front = flat_map work_tokens h.0;
      back = flat_map request_tokens h.1;
      before = refl;
      after = (h.1, h.2, refl);
      whole = h.3;
    })
    (reads-then (IsSpelled (flat_map work_tokens)) (λ ws. IsRequested until ws) (λ ws o. next_is (Word (codes "work")) o
    ≡ false) AtEnd works_at _ reads-works (reads-requested until)
    (λ ws t back rest h end. rw h.2 (apart_from h.0 rest end)))

pub reads-arrivals : Reads IsArrivals AtEnd arrivals_at
unfolding arrivals_at IsWorked
reads-arrivals = reads-same _ IsArrivals AtEnd arrivals_at
    (λ t text g.
    let P : ArrivalText → Type 0 = λ u. text ≡ arrival_tokens u in
    subst P (sym g.after.2) (rw (g.whole, g.before, g.after.3) refl))
    (λ t text h. rw h (joins-part _ t.until (until_text t.until) t _ refl (t.works, t.requests, refl, refl)))
    (andthen reads-until reads-worked)
