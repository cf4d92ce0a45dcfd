-- The laws of lists and sections whose items are each spelled in one way, of what may be left out, and of words that stand for a value.
use Rattle.std.proofs.Common.{◌≡◌, ℕ, ◌<◌, Bool, true, false, cond, List, [], ◌∷◌, ◌++◌, length, Option, None, Some, codes, flat_map, refl, sym}
use Rattle.std.proofs.Common.{ap, subst, ◌∙◌, ◌⊎◌, inl, inr}
use Rattle.std.specs.Prelude.{⊤}
use Rattle.std.proofs.lemmas.Slice.Eq.{bytes_eq-Decides}
use Rattle.grammar.specs.Reading.{Read, first, then_at, pure_at, choose_at, token_at, many_at, Reads, Joined}
use Rattle.grammar.proofs.Shared.Laws.{IsOnly, IsToken, reads-same, reads-then, reads-branch, reads-pure, reads-token, reads-map}
use Rattle.seq_tree.specs.Lists.{Each}
use Rattle.seq_tree.specs.Names.{Name, same_name}
use Rattle.seq_tree.specs.declared.token.Token.{Token}
use Rattle.seq_tree.specs.declared.token.Token.TheVariants.{Word, Number, Sign}
use Rattle.seq_tree.specs.declared.token.Mark.TheVariants.{Semicolon}
use Rattle.token_read.specs.Readers.{next_is}
use Rattle.token_read.proofs.Shared.TokenLaws.{Any, IsPhrase, andthen, same_self, reads-fixed, reads-phrase}
use Rattle.seq_read.specs.Statements.{word}
use Rattle.seq_read.specs.Parts.{sees_by, named_at, end_tokens}
use Rattle.seq_read.proofs.Shared.Spelled.{IsSpelled, AreSpelled, reads-spelled}
use Rattle.ods_read.specs.Readers.{end_at, some_at, section_at}

-- a reader that answers the same
pub reads-equal : {A : Type 0} {G : A → List Token → Type 0} {Stops : A → Option Token → Type 0} {r : List Token → Read Token A} (s : List Token
    → Read Token A) → ((ts : List Token) → s ts ≡ r ts) → Reads G Stops r → Reads G Stops s
reads-equal s same one = record {
  sound = λ ts a rest e. one.sound ts a rest (sym (same ts) ∙ e);
  complete = λ a text rest g stop. same (text ++ rest) ∙ one.complete a text rest g stop;
  fault = λ ts halt e. let f = one.fault ts halt (sym (same ts) ∙ e) in
      record {
        front = f.front;
        back = f.back;
        split = f.split;
        place = f.place;
        last = f.last;
        tail = f.tail;
        viable = f.viable;
        dead = λ t more after at. same (f.front ++ t ∷ after) ∙ f.dead t more after at;
      };
  some = one.some;
  some_text = one.some_text;
  some_spelled = one.some_spelled;
}

-- WORDS THAT STAND FOR A VALUE
-- one word of those that are tried in turn
pub tried : {A : Type 0} (word_of : A → List ℕ) (name own_word : Name) (own : A) (others : Option A) (a : A) → own_word ≡ word_of own
    → (others ≡ Some a → name ≡ word_of a) →
    (b : Bool) → same_name name own_word ≡ b → cond b (Some own) others ≡ Some a → name ≡ word_of a
tried word_of name own_word own others a spelled rest true e h
    = (bytes_eq-Decides name own_word).0 e ∙ spelled ∙ ap word_of (let k : Some own ≡ Some a = h in cc)
tried word_of name own_word own others a spelled rest false e h = rest h

-- a word that stands for this
abbrev pub IsWordOf : {A : Type 0} → (A → List ℕ) → A → List Token → Type 0
IsWordOf word_of a text = text ≡ Word (word_of a) ∷ []

module _ {A : Type 0} (named : Name → Option A) (word_of : A → List ℕ) (only : (name : Name) (a : A) → named name ≡ Some a
    → name ≡ word_of a) (sees : (a : A) → named (word_of a) ≡ Some a) (some : A) where
  word_seen : (t : Token) (a : A) → sees_by named t ≡ Some a → t ≡ Word (word_of a)
  word_seen (Word name) a e = ap Word (only name a e)
  word_seen (Number n) a e = absurd (cc)
  word_seen (Sign m) a e = absurd (cc)

  pub reads-named : Reads (IsWordOf word_of) Any (named_at named)
  unfolding named_at
  reads-named = reads-same (IsToken (sees_by named)) (IsWordOf word_of) Any (token_at (sees_by named))
      (λ a text g. g.whole ∙ ap (λ t. t ∷ []) (word_seen g.token a g.seen))
      (λ a text h. record { token = Word (word_of a); seen = sees a; whole = h })
      (reads-token (sees_by named) some (Word (word_of some)) (sees some))

-- WHAT MAY BE LEFT OUT
module _ {A : Type 0} (test : Option Token → Bool) (G : A → List Token → Type 0) (StopsG Stops : A → Option Token → Type 0) (r : List Token
    → Read Token A) (one : Reads G StopsG r) (none : A)
    (begins : (a : A) (text rest : List Token) → G a text → test (first (text ++ rest)) ≡ true)
    (to : (a : A) (text : List Token) (o : Option Token) → G a text → StopsG a o → Stops a o)
    (back : (a : A) (text : List Token) (o : Option Token) → G a text → Stops a o → StopsG a o)
    (none_to : (o : Option Token) → test o ≡ false → Stops none o)
    (none_back : (o : Option Token) → Stops none o → test o ≡ false) where
  no : (a : A) (text rest : List Token) → IsOnly none a text → Stops a (first rest) → (test (first (text ++ rest)) ≡ false) × Unit {0}
  no a text rest h stop = let P : A → Type 0 = λ b. Stops b (first rest) in (rw h.1 (none_back (first rest) (subst P h.0 stop)), tt)

  stops_no : (a : A) (text rest : List Token) → IsOnly none a text → test (first (text ++ rest)) ≡ false → Unit {0} → Stops a (first rest)
  stops_no a text rest h t stop =
      let P : A → Type 0 = λ b. Stops b (first rest) in
      subst P (sym h.0) (none_to (first rest) (ap (λ us. test (first (us ++ rest))) (sym h.1) ∙ t))

  pub reads-optional : Reads (λ a text. G a text ⊎ IsOnly none a text) Stops (choose_at test r (pure_at none))
  reads-optional = reads-branch test G (IsOnly none) StopsG Any Stops r (pure_at none) one (reads-pure Any none (λ o. tt))
      (λ a text rest g stop. (begins a text rest g, back a text (first rest) g stop)) no
      (λ a text rest g t stop. to a text (first rest) g stop) stops_no

-- LISTS AND SECTIONS
-- one at least
abbrev pub IsSome : {A : Type 0} → List A → Type 0
IsSome [] = ⊥
IsSome (a ∷ more) = ⊤

-- a section: its word and its items, or nothing where it has none
abbrev pub section_tokens : {A : Type 0} → List ℕ → (A → List Token) → List A → List Token
section_tokens head spell [] = []
section_tokens head spell (x ∷ xs) = Word head ∷ flat_map spell (x ∷ xs)

-- where a section ends
abbrev pub EndsSection : {A : Type 0} → List ℕ → (Option Token → Bool) → List A → Option Token → Type 0
EndsSection head test [] o = next_is (Word head) o ≡ false
EndsSection head test (x ∷ xs) o = test o ≡ false

module _ {A : Type 0} (P : A → Type 0) (spell : A → List Token) (test : Option Token → Bool) (r : List Token
    → Read Token A) (one : Reads (IsSpelled P spell) Any r)
    (starts : (a : A) (rest : List Token) → P a → test (first (spell a ++ rest)) ≡ true) (grows : (a : A)
    → 0 < length (spell a)) (ends : test None ≡ false) where
  abbrev Ends : List A → Option Token → Type 0
  Ends xs o = test o ≡ false

  -- items that begin with this one
  abbrev AreFirst : A → List A → List Token → Type 0
  AreFirst a xs text = (more : List A) × (xs ≡ a ∷ more) × Each P more × (text ≡ flat_map spell more)

  reads-more : (a : A) → Reads (AreFirst a) Ends (then_at (many_at test r) (λ more. pure_at (a ∷ more)))
  reads-more a = reads-map (AreSpelled P spell) (AreFirst a) Ends Ends (many_at test r) (λ more. a ∷ more)
      (reads-spelled P spell test r one starts grows ends)
      (λ more text g. (more, refl, g.0, g.1)) (λ xs text h. (h.0, (h.2, h.3), sym h.1)) (λ more o h. h) (λ more o h. h)

  abbrev pub AreSome : List A → List Token → Type 0
  AreSome xs text = IsSome xs × Each P xs × (text ≡ flat_map spell xs)

  some_to : (xs : List A) (text : List Token) → Joined (IsSpelled P spell) AreFirst xs text → AreSome xs text
  some_to xs text g =
      let b = g.after in
      let Q : List A → Type 0 = λ ys. AreSome ys text in
      subst Q (sym b.1) (tt, (g.before.0, b.2), rw (g.whole, g.before.1, b.3) refl)

  some_back : (xs : List A) (text : List Token) → AreSome xs text → Joined (IsSpelled P spell) AreFirst xs text
  some_back [] text h = absurd h.0
  some_back (x ∷ xs) text h = record {
    a = x;
    front = spell x;
    back = flat_map spell xs;
    before = (h.1.0, refl);
    after = (xs, refl, h.1.1, refl);
    whole = h.2;
  }

  pub reads-some : Reads AreSome Ends (some_at test r)
  reads-some = reads-same (Joined (IsSpelled P spell) AreFirst) AreSome Ends (some_at test r) some_to some_back (andthen one reads-more)

  -- A SECTION, by its list
  module _ (head : List ℕ) (list : List Token → Read Token (List A)) (lists : Reads AreSome Ends list) where
    abbrev IsHeaded : List A → List Token → Type 0
    IsHeaded xs text = IsSome xs × Each P xs × (text ≡ Word head ∷ flat_map spell xs)

    reads-headed : Reads IsHeaded Ends (then_at (word head) (λ _. list))
    reads-headed = reads-same _ IsHeaded Ends (then_at (word head) (λ _. list))
        (λ xs text g. (g.after.0, g.after.1, rw (g.whole, g.before, g.after.2) refl))
        (λ xs text h. record { a = tt; front = Word head ∷ []; back = flat_map spell xs; before = refl; after = (h.0, h.1, refl); whole = h.2 })
        (andthen (reads-fixed (Word head)) (λ _. lists))

    ends_to : (xs : List A) (o : Option Token) → IsSome xs → test o ≡ false → EndsSection head test xs o
    ends_to [] o h t = absurd h
    ends_to (x ∷ xs) o h t = t

    ends_back : (xs : List A) (o : Option Token) → IsSome xs → EndsSection head test xs o → test o ≡ false
    ends_back [] o h t = absurd h
    ends_back (x ∷ xs) o h t = t

    abbrev pub AreSection : List A → List Token → Type 0
    AreSection xs text = Each P xs × (text ≡ section_tokens head spell xs)

    section_to : (xs : List A) (text : List Token) → IsHeaded xs text ⊎ IsOnly [] xs text → AreSection xs text
    section_to [] text e = elim e [ inl h ↦ absurd h.0 | inr h ↦ (tt, h.1) ]
    section_to (x ∷ xs) text e = elim e [ inl h ↦ (h.1, h.2) | inr h ↦ absurd (let no = h.0 in cc) ]

    section_back : (xs : List A) (text : List Token) → AreSection xs text → IsHeaded xs text ⊎ IsOnly [] xs text
    section_back [] text h = inr (refl, h.1)
    section_back (x ∷ xs) text h = inl (tt, h.0, h.1)

    pub reads-section : Reads AreSection (EndsSection head test) (section_at head list)
    reads-section = reads-same _ AreSection (EndsSection head test) (section_at head list) section_to section_back
        (reads-optional (next_is (Word head)) IsHeaded Ends (EndsSection head test) (then_at (word head) (λ _. list)) reads-headed []
        (λ xs text rest h. rw h.2 (same_self (Word head))) (λ xs text o h t. ends_to xs o h.0 t) (λ xs text o h t. ends_back xs o h.0 t) (λ o t. t)
        (λ o t. t))

-- PARTS THAT BEGIN WITH A WORD, one after another
abbrev pub Among : List ℕ → List (List ℕ) → Type 0
Among u [] = ⊥
Among u (v ∷ vs) = (u ≡ v) ⊎ Among u vs

-- a text that begins with one of these words
pub record Leads (ws : List (List ℕ)) (text : List Token) : Type 0 where
  pub head : List ℕ
  pub more : List Token
  pub among : Among head ws
  pub whole : text ≡ Word head ∷ more

among_each : (P : List ℕ → Type 0) (u : List ℕ) (ws : List (List ℕ)) → Each P ws → Among u ws → P u
among_each P u [] h a = absurd a
among_each P u (v ∷ vs) h a = elim a [ inl e ↦ subst P (sym e) h.0 | inr b ↦ among_each P u vs h.1 b ]

-- nothing, or a text that begins with this word
abbrev pub IsHeadedBy : List ℕ → List Token → Type 0
IsHeadedBy head text = (text ≡ []) ⊎ ((more : List Token) × (text ≡ Word head ∷ more))

-- a reader that any token may follow, of texts that begin with one of these words
pub record On {A : Type 0} (ws : List (List ℕ)) (G : A → List Token → Type 0) (r : List Token → Read Token A) : Type 0 where
  pub reads : Reads G Any r
  pub leads : (a : A) (text : List Token) → G a text → Leads ws text

pub on-then : {A B : Type 0} {G : A → List Token → Type 0} {H : A → B → List Token → Type 0} {StopsG : A → Option Token → Type 0} {r : List Token
    → Read Token A} {f : A → List Token → Read Token B} (head : List ℕ) (ws : List (List ℕ)) →
    Reads G StopsG r → ((a : A) (text : List Token) → G a text → IsHeadedBy head text) → ((a : A) → Each (λ u. StopsG a (Some (Word u))) ws)
    → ((a : A) → On ws (H a) (f a)) → On (head ∷ ws) (Joined G H) (then_at r f)
on-then {A} {B} {G} {H} {StopsG} {r} {f} head ws one headed stops two = record {
  reads = reads-then G H StopsG Any r f one (λ a. (two a).reads)
      (λ a b back rest h stop. let l = (two a).leads b back h in rw l.whole (among_each (λ u. StopsG a (Some (Word u))) l.head ws (stops a) l.among));
  leads = λ b text j.
      elim (headed j.a j.front j.before) [
        | inl nil ↦
            let l = (two j.a).leads b j.back j.after in
            record { head = l.head; more = l.more; among = inr l.among; whole = j.whole ∙ ap (λ us. us ++ j.back) nil ∙ l.whole }
        | inr m ↦ record { head = head; more = m.0 ++ j.back; among = inl refl; whole = j.whole ∙ ap (λ us. us ++ j.back) m.1 }
      ];
}

pub on-end : {B : Type 0} (name : Name) (b : B)
    → On (codes "end" ∷ []) (Joined (IsPhrase (end_tokens name)) (λ _. IsOnly b)) (then_at (end_at name) (λ _. pure_at b))
on-end name b = record {
  reads = andthen (reads-phrase (end_tokens name)) (λ _. reads-pure Any b (λ _. tt));
  leads = λ c text j. record {
    head = codes "end";
    more = Word name ∷ Sign Semicolon ∷ j.back;
    among = inl refl;
    whole = j.whole ∙ ap (λ us. us ++ j.back) j.before;
  };
}

pub section_headed : {A : Type 0} (head : List ℕ) (spell : A → List Token) (xs : List A) (text : List Token) → text ≡ section_tokens head spell xs
    → IsHeadedBy head text
section_headed head spell [] text h = inl h
section_headed head spell (x ∷ xs) text h = inr (flat_map spell (x ∷ xs), h)

pub section_stops : {A : Type 0} (head : List ℕ) (test : Option Token → Bool) (ws : List (List ℕ)) (xs : List A)
    → Each (λ u. next_is (Word head) (Some (Word u)) ≡ false) ws → Each (λ u. test (Some (Word u)) ≡ false) ws →
    Each (λ u. EndsSection head test xs (Some (Word u))) ws
section_stops head test ws [] a b = a
section_stops head test ws (x ∷ xs) a b = b
