-- The readers of the specifications of units read their grammar.
use Rattle.std.proofs.Common.{◌≡◌, ℕ, Bool, true, false, List, [], ◌∷◌, ◌++◌, codes, flat_map, refl, sym, subst, arith, ◌⊎◌, inl, inr}
use Rattle.std.specs.Prelude.{⊤}
use Rattle.seq_tree.specs.Lists.{Each}
use Rattle.grammar.specs.Reading.{choose_at, first, Reads}
use Rattle.grammar.proofs.Shared.Laws.{reads-same, reads-pure, reads-choose, joins-part}
use Rattle.seq_tree.specs.Names.{Name}
use Rattle.seq_tree.specs.Operations.{Signature}
use Rattle.seq_tree.specs.declared.tree.Datum.{Datum}
use Rattle.seq_tree.specs.declared.token.Token.{Token}
use Rattle.seq_tree.specs.declared.token.Token.TheVariants.{Word, Number, Sign}
use Rattle.seq_tree.specs.declared.token.Mark.TheVariants.{Semicolon}
use Rattle.ada_tree.specs.Spelling.{truth_token}
use Rattle.ada_tree.specs.Words.{is_ada_name}
use Rattle.token_read.specs.Readers.{next_is}
use Rattle.token_read.proofs.Shared.TokenLaws.{Any, andthen, reads-fixed, reads-phrase, reads-number, joins-fixed, joins-phrase, joins-number}
use Rattle.token_read.proofs.Shared.TokenLaws.{joins-name}
use Rattle.seq_read.specs.Parts.{end_tokens}
use Rattle.seq_read.specs.Statements.{next_is_name}
use Rattle.seq_read.proofs.Shared.Spelled.{IsSpelled, reads-spelled}
use Rattle.ada_read.specs.declared.fixed_text.FixedText.TheVariants as fixed
use Rattle.ada_read.specs.FixedTexts.{fixed_tokens}
use Rattle.ada_read.specs.Heads.{Head, PassiveHead, SharedHead, CyclicHead, SporadicHead, head_name}
use Rattle.ada_read.specs.Readers.{constants_at, cyclic_head_at, head_at, heads_at, inner_at, object_head_at, passive_head_at, shared_head_at}
use Rattle.ada_read.specs.Readers.{sporadic_head_at}
use Rattle.ada_read.proofs.ParamLaws.{and_until, IsNamedHead, declaration_tokens, reads-text, joins-text, reads-ada_name}
use Rattle.ada_read.proofs.ParamLaws.{reads-declarations}
use Rattle.ada_read.proofs.DataLaws.{IsDatum, datum_tokens, EndsData, reads-data}
use Rattle.ada_read.proofs.RequestLaws.{IsNamedRequest, renaming_tokens, request_renaming_tokens, reads-renamings, reads-request}
use Rattle.ada_read.proofs.RequestLaws.{reads-request_renaming, reads-truth}

-- WHAT STANDS IN A SPECIFICATION
-- a protected one, behind `protected`
abbrev shared_text : Name → ℕ → List Signature → List Datum → List Token
shared_text name ceiling sigs vars =
    fixed_tokens fixed.ObjectHead ++ Number ceiling
    ∷ (fixed_tokens fixed.Close ++ (flat_map declaration_tokens sigs ++ Word (codes "private") ∷ (flat_map datum_tokens vars
    ++ (fixed_tokens fixed.ObjectEnd ++ (flat_map renaming_tokens sigs ++ end_tokens name)))))

-- the constants of a sporadic one, from its priority on
abbrev constants_text : Name → ℕ → ℕ → ℕ → Bool → List Token
constants_text name priority separation jitter external =
    fixed_tokens fixed.TaskHead ++ Number priority ∷ (fixed_tokens fixed.Separation ++ Number separation ∷ (fixed_tokens fixed.Jitter ++ Number jitter
    ∷ (fixed_tokens fixed.External ++ truth_token external ∷ Sign Semicolon ∷ end_tokens name)))

-- a sporadic one, behind `protected`
abbrev sporadic_text : Name → ℕ → ℕ → Signature → ℕ → ℕ → Bool → List Token
sporadic_text name priority ceiling op separation jitter external =
    fixed_tokens fixed.RequestHead ++ Number ceiling ∷ (fixed_tokens fixed.Close ++ (declaration_tokens op
    ++ (fixed_tokens fixed.Entry ++ (request_renaming_tokens op ++ constants_text name priority separation jitter external))))

-- what stands in a specification behind its first `is`
abbrev pub inner_tokens : Head → List Token
inner_tokens (PassiveHead name sigs) = flat_map declaration_tokens sigs ++ end_tokens name
inner_tokens (SharedHead name ceiling sigs vars) = Word (codes "protected") ∷ shared_text name ceiling sigs vars
inner_tokens (CyclicHead name priority) = fixed_tokens fixed.TaskHead ++ Number priority ∷ (fixed_tokens fixed.TaskEnd ++ end_tokens name)
inner_tokens (SporadicHead name priority ceiling op separation jitter external)
    = Word (codes "protected") ∷ sporadic_text name priority ceiling op separation jitter external

-- the names in a specification may stand where they stand
abbrev pub AreNamedHeads : Head → Type 0
AreNamedHeads (PassiveHead name sigs) = Each IsNamedHead sigs
AreNamedHeads (SharedHead name ceiling sigs vars) = Each IsNamedHead sigs × Each IsDatum vars
AreNamedHeads (CyclicHead name priority) = ⊤
AreNamedHeads (SporadicHead name priority ceiling op separation jitter external) = IsNamedRequest op

-- a specification, behind its name
abbrev IsInner : Name → Head → List Token → Type 0
IsInner name h text = (head_name h ≡ name) × AreNamedHeads h × (text ≡ inner_tokens h)

-- with a cyclic task
abbrev IsCyclicHead : Name → Head → List Token → Type 0
IsCyclicHead name h text = (priority : ℕ) × (h ≡ CyclicHead name priority) × (text ≡ inner_tokens (CyclicHead name priority))

reads-cyclic_head : (name : Name) → Reads (IsCyclicHead name) Any (cyclic_head_at name)
unfolding cyclic_head_at
reads-cyclic_head name = reads-same _ (IsCyclicHead name) Any (cyclic_head_at name)
    (λ h text g1.
    let g2 = g1.after in let g3 = g2.after in let g4 = g3.after in
    (g2.a, g4.after.0, rw (g1.whole, g1.before, g2.whole, g2.before, g3.whole, g3.before, g4.whole, g4.before, g4.after.1) refl))
    (λ h text k. rw k.2 (joins-text _ fixed.TaskHead h _
    (joins-number _ k.0 h _ (joins-text _ fixed.TaskEnd h _ (joins-phrase _ (end_tokens name) h [] (k.1, refl))))))
    (andthen (reads-text fixed.TaskHead)
    (λ _. andthen reads-number (λ priority. andthen (reads-text fixed.TaskEnd) (λ _. andthen (reads-phrase (end_tokens name)) (λ _.
    reads-pure Any (CyclicHead name priority) (λ _. tt))))))

-- with operations alone
abbrev IsPassiveHead : Name → Head → List Token → Type 0
IsPassiveHead name h text = (sigs : List Signature) × (h ≡ PassiveHead name sigs) × Each IsNamedHead sigs
    × (text ≡ inner_tokens (PassiveHead name sigs))

reads-passive_head : (name : Name) → Reads (IsPassiveHead name) Any (passive_head_at name)
unfolding passive_head_at
reads-passive_head name = reads-same _ (IsPassiveHead name) Any (passive_head_at name)
    (λ h text g1. let g2 = g1.after in (g1.a, g2.after.0, g1.before.0, rw (g1.whole, g1.before.1, g2.whole, g2.before, g2.after.1) refl))
    (λ h text k. rw k.3 (joins-part _ k.0 (flat_map declaration_tokens k.0) h _ (k.2, refl) (joins-phrase _ (end_tokens name) h [] (k.1, refl))))
    (and_until (λ o. next_is (Word (codes "procedure")) o ≡ false) (end_tokens name) (λ rest. refl) reads-declarations
    (λ sigs. andthen (reads-phrase (end_tokens name)) (λ _.
    reads-pure Any (PassiveHead name sigs) (λ _. tt))))

-- with a protected object
abbrev IsSharedHead : Name → Head → List Token → Type 0
IsSharedHead name h text =
    (ceiling : ℕ) × (sigs : List Signature) × (vars : List Datum) × (h ≡ SharedHead name ceiling sigs vars) × Each IsNamedHead sigs
    × Each IsDatum vars × (text ≡ shared_text name ceiling sigs vars)

object_ends_data : (rest : List Token) → EndsData (first (fixed_tokens fixed.ObjectEnd ++ rest))
unfolding fixed_tokens next_is_name is_ada_name
object_ends_data rest = refl

reads-shared_head : (name : Name) → Reads (IsSharedHead name) Any (shared_head_at name)
unfolding shared_head_at
reads-shared_head name = reads-same _ (IsSharedHead name) Any (shared_head_at name)
    (λ h text g1.
    let g2 = g1.after in let g3 = g2.after in let g4 = g3.after in let g5 = g4.after in let g6 = g5.after in let g7 = g6.after in let g8 = g7.after
    in let g9 = g8.after in (
      g2.a,
      g4.a,
      g6.a,
      g9.after.0,
      g4.before.0,
      g6.before.0,
      rw (
        g1.whole,
        g1.before,
        g2.whole,
        g2.before,
        g3.whole,
        g3.before,
        g4.whole,
        g4.before.1,
        g5.whole,
        g5.before,
        g6.whole,
        g6.before.1,
        g7.whole,
        g7.before,
        g8.whole,
        g8.before,
        g9.whole,
        g9.before,
        g9.after.1,
      ) refl,
    ))
    (λ h text k.
    rw k.6 (joins-text _ fixed.ObjectHead h _
    (joins-number _ k.0 h _ (joins-text _ fixed.Close h _ (joins-part _ k.1 (flat_map declaration_tokens k.1) h _ (k.4, refl)
    (joins-fixed _ (Word (codes "private")) h _ (joins-part _ k.2 (flat_map datum_tokens k.2) h _ (k.5, refl) (joins-text _ fixed.ObjectEnd h _
    (joins-part _ tt (flat_map renaming_tokens k.1) h _ refl (joins-phrase _ (end_tokens name) h [] (k.3, refl)))))))))))
    (andthen (reads-text fixed.ObjectHead) (λ _. andthen reads-number (λ ceiling. andthen (reads-text fixed.Close) (λ _.
    and_until (λ o. next_is (Word (codes "procedure")) o ≡ false) (Word (codes "private") ∷ []) (λ rest. refl) reads-declarations
    (λ sigs. andthen (reads-fixed (Word (codes "private"))) (λ _.
    and_until EndsData (fixed_tokens fixed.ObjectEnd) object_ends_data reads-data
    (λ vars. andthen (reads-text fixed.ObjectEnd) (λ _. andthen (reads-renamings sigs) (λ _. andthen (reads-phrase (end_tokens name)) (λ _.
    reads-pure Any (SharedHead name ceiling sigs vars) (λ _. tt)))))))))))

-- the constants of a sporadic unit
abbrev IsConstants : Name → ℕ → Signature → Head → List Token → Type 0
IsConstants name ceiling op h text =
    (priority : ℕ) × (separation : ℕ) × (jitter : ℕ) × (external : Bool) × (h ≡ SporadicHead name priority ceiling op separation jitter external)
    × (text ≡ constants_text name priority separation jitter external)

reads-constants : (name : Name) (ceiling : ℕ) (op : Signature) → Reads (IsConstants name ceiling op) Any (constants_at name ceiling op)
unfolding constants_at
reads-constants name ceiling op = reads-same _ (IsConstants name ceiling op) Any (constants_at name ceiling op)
    (λ h text g1.
    let g2 = g1.after in let g3 = g2.after in let g4 = g3.after in let g5 = g4.after in let g6 = g5.after in let g7 = g6.after in let g8 = g7.after
    in let g9 = g8.after in let g10 = g9.after in (
      g2.a,
      g4.a,
      g6.a,
      g8.a,
      g10.after.0,
      rw (
        g1.whole,
        g1.before,
        g2.whole,
        g2.before,
        g3.whole,
        g3.before,
        g4.whole,
        g4.before,
        g5.whole,
        g5.before,
        g6.whole,
        g6.before,
        g7.whole,
        g7.before,
        g8.whole,
        g8.before,
        g9.whole,
        g9.before,
        g10.whole,
        g10.before,
        g10.after.1,
      ) refl,
    ))
    (λ h text k.
    rw k.5 (joins-text _ fixed.TaskHead h _
    (joins-number _ k.0 h _ (joins-text _ fixed.Separation h _ (joins-number _ k.1 h _ (joins-text _ fixed.Jitter h _ (joins-number _ k.2 h _
    (joins-text _ fixed.External h _ (joins-part _ k.3 (truth_token k.3 ∷ []) h _ refl
    (joins-fixed _ (Sign Semicolon) h _ (joins-phrase _ (end_tokens name) h [] (k.4, refl))))))))))))
    (andthen (reads-text fixed.TaskHead)
    (λ _. andthen reads-number (λ priority. andthen (reads-text fixed.Separation) (λ _. andthen reads-number (λ separation.
    andthen (reads-text fixed.Jitter) (λ _. andthen reads-number (λ jitter. andthen (reads-text fixed.External) (λ _. andthen reads-truth (λ external.
    andthen (reads-fixed (Sign Semicolon)) (λ _. andthen (reads-phrase (end_tokens name))
    (λ _. reads-pure Any (SporadicHead name priority ceiling op separation jitter external) (λ _. tt))))))))))))

-- with a task that waits for requests
abbrev IsSporadicHead : Name → Head → List Token → Type 0
IsSporadicHead name h text =
    (ceiling : ℕ) × (op : Signature) × (inner : List Token) × IsNamedRequest op × IsConstants name ceiling op h inner
    × (text ≡ fixed_tokens fixed.RequestHead ++ Number ceiling
    ∷ (fixed_tokens fixed.Close ++ (declaration_tokens op ++ (fixed_tokens fixed.Entry ++ (request_renaming_tokens op ++ inner)))))

reads-sporadic_head : (name : Name) → Reads (IsSporadicHead name) Any (sporadic_head_at name)
unfolding sporadic_head_at
reads-sporadic_head name = reads-same _ (IsSporadicHead name) Any (sporadic_head_at name)
    (λ h text g1.
    let g2 = g1.after in let g3 = g2.after in let g4 = g3.after in let g5 = g4.after in let g6 = g5.after in (
      g2.a,
      g4.a,
      g6.back,
      g4.before.0,
      g6.after,
      rw (g1.whole, g1.before, g2.whole, g2.before, g3.whole, g3.before, g4.whole, g4.before.1, g5.whole, g5.before, g6.whole, g6.before) refl,
    ))
    (λ h text k.
    rw k.5 (joins-text _ fixed.RequestHead h _
    (joins-number _ k.0 h _ (joins-text _ fixed.Close h _ (joins-part _ k.1 (declaration_tokens k.1) h _ (k.3, refl)
    (joins-text _ fixed.Entry h _ (joins-part _ tt (request_renaming_tokens k.1) h _ refl k.4)))))))
    (andthen (reads-text fixed.RequestHead) (λ _. andthen reads-number (λ ceiling. andthen (reads-text fixed.Close) (λ _. andthen reads-request (λ op.
    andthen (reads-text fixed.Entry) (λ _. andthen (reads-request_renaming op) (λ _. reads-constants name ceiling op)))))))

-- with either object
abbrev IsObjectHead : Name → Head → List Token → Type 0
IsObjectHead name h text = (back : List Token) × (IsSharedHead name h back ⊎ IsSporadicHead name h back) × (text ≡ Word (codes "protected") ∷ back)

shared_first : (name : Name) (h : Head) (text rest : List Token) → IsSharedHead name h text
    → next_is (Word (codes "hrt_object")) (first (text ++ rest)) ≡ true
unfolding fixed_tokens
shared_first name h text rest k = rw k.6 refl

sporadic_first : (name : Name) (h : Head) (text rest : List Token) → IsSporadicHead name h text
    → next_is (Word (codes "hrt_object")) (first (text ++ rest)) ≡ false
unfolding fixed_tokens
sporadic_first name h text rest k = rw k.5 refl

reads-object_head : (name : Name) → Reads (IsObjectHead name) Any (object_head_at name)
unfolding object_head_at
reads-object_head name = reads-same _ (IsObjectHead name) Any (object_head_at name)
    (λ h text g. (g.back, g.after, rw (g.whole, g.before) refl))
    (λ h text k. rw k.2 (joins-fixed _ (Word (codes "protected")) h _ k.1))
    (andthen (reads-fixed (Word (codes "protected"))) (λ _.
    reads-choose (next_is (Word (codes "hrt_object"))) (IsSharedHead name) (IsSporadicHead name) Any (shared_head_at name) (sporadic_head_at name)
    (reads-shared_head name) (reads-sporadic_head name)
    (λ h text rest k stop. shared_first name h text rest k) (λ h text rest k stop. sporadic_first name h text rest k)))

-- ALL SPECIFICATIONS
cyclic_inner : (name : Name) (h : Head) (text : List Token) → IsCyclicHead name h text → IsInner name h text
cyclic_inner name h text k = let P : Head → Type 0 = λ q. IsInner name q text in subst P (sym k.1) (refl, tt, k.2)

passive_inner : (name : Name) (h : Head) (text : List Token) → IsPassiveHead name h text → IsInner name h text
passive_inner name h text k = let P : Head → Type 0 = λ q. IsInner name q text in subst P (sym k.1) (refl, k.2, k.3)

shared_inner : (name : Name) (h : Head) (back text : List Token) → IsSharedHead name h back → text ≡ Word (codes "protected") ∷ back
    → IsInner name h text
shared_inner name h back text k e = let P : Head → Type 0 = λ q. IsInner name q text in subst P (sym k.3) (refl, (k.4, k.5), rw (e, k.6) refl)

sporadic_inner : (name : Name) (h : Head) (back text : List Token) → IsSporadicHead name h back → text ≡ Word (codes "protected") ∷ back
    → IsInner name h text
sporadic_inner name h back text k e =
    let c = k.4 in
    let P : Head → Type 0 = λ q. IsInner name q text in
    subst P (sym c.4) (refl, k.3, rw (e, k.5, c.5) refl)

object_inner : (name : Name) (h : Head) (text : List Token) → IsObjectHead name h text → IsInner name h text
object_inner name h text k = elim k.1 [ inl s ↦ shared_inner name h k.0 text s k.2 | inr s ↦ sporadic_inner name h k.0 text s k.2 ]

-- a specification by its first token
abbrev IsChosen : Name → Head → List Token → Type 0
IsChosen name h text = IsCyclicHead name h text ⊎ (IsObjectHead name h text ⊎ IsPassiveHead name h text)

inner_to : (name : Name) (h : Head) (text : List Token) → IsChosen name h text → IsInner name h text
inner_to name h text e = elim e [
  | inl k ↦ cyclic_inner name h text k
  | inr f ↦ elim f
      [ inl k ↦ object_inner name h text k | inr k ↦ passive_inner name h text k ]
]

inner_back : (name : Name) (h : Head) (text : List Token) → IsInner name h text → IsChosen name h text
inner_back name (PassiveHead own sigs) text k =
    let P : Name → Type 0 = λ n. IsChosen n (PassiveHead own sigs) text in subst P k.0 (inr (inr (sigs, refl, k.1, k.2)))
inner_back name (SharedHead own ceiling sigs vars) text k =
    let P : Name → Type 0 = λ n. IsChosen n (SharedHead own ceiling sigs vars) text in
    subst P k.0 (inr (inl (shared_text own ceiling sigs vars, inl (ceiling, sigs, vars, refl, k.1.0, k.1.1, refl), k.2)))
inner_back name (CyclicHead own priority) text k =
    let P : Name → Type 0 = λ n. IsChosen n (CyclicHead own priority) text in subst P k.0 (inl (priority, refl, k.2))
inner_back name (SporadicHead own priority ceiling op separation jitter external) text k =
    let P : Name → Type 0 = λ n. IsChosen n (SporadicHead own priority ceiling op separation jitter external) text in
    subst P k.0 (inr (inl (
      sporadic_text own priority ceiling op separation jitter external,
      inr (ceiling, op, constants_text own priority separation jitter external, k.1, (priority, separation, jitter, external, refl, refl), refl),
      k.2,
    )))

passive_first : (sigs : List Signature) (name : Name) (rest : List Token)
    → next_is (Word (codes "task")) (first ((flat_map declaration_tokens sigs ++ end_tokens name) ++ rest)) ≡ false
passive_first [] name rest = refl
passive_first (s ∷ ss) name rest = refl

passive_next : (sigs : List Signature) (name : Name) (rest : List Token)
    → next_is (Word (codes "protected")) (first ((flat_map declaration_tokens sigs ++ end_tokens name) ++ rest)) ≡ false
passive_next [] name rest = refl
passive_next (s ∷ ss) name rest = refl

cyclic_first : (name : Name) (priority : ℕ) (rest : List Token)
    → next_is (Word (codes "task")) (first (inner_tokens (CyclicHead name priority) ++ rest)) ≡ true
unfolding fixed_tokens
cyclic_first name priority rest = refl

other_first : (name : Name) (h : Head) (text rest : List Token) → IsObjectHead name h text ⊎ IsPassiveHead name h text
    → next_is (Word (codes "task")) (first (text ++ rest)) ≡ false
other_first name h text rest e = elim e [ inl k ↦ rw k.2 refl | inr k ↦ rw k.3 (passive_first k.0 name rest) ]

reads-inner : (name : Name) → Reads (IsInner name) Any (inner_at name)
unfolding inner_at
reads-inner name = reads-same _ (IsInner name) Any (inner_at name) (inner_to name) (inner_back name)
    (reads-choose (next_is (Word (codes "task"))) (IsCyclicHead name) (λ h text. IsObjectHead name h text
    ⊎ IsPassiveHead name h text) Any (cyclic_head_at name)
    (choose_at (next_is (Word (codes "protected"))) (object_head_at name) (passive_head_at name)) (reads-cyclic_head name)
    (reads-choose (next_is (Word (codes "protected"))) (IsObjectHead name) (IsPassiveHead name) Any (object_head_at name) (passive_head_at name)
    (reads-object_head name) (reads-passive_head name)
    (λ h text rest k stop. rw k.2 refl) (λ h text rest k stop. rw k.3 (passive_next k.0 name rest)))
    (λ h text rest k stop. rw k.2 (cyclic_first name k.0 rest)) (λ h text rest k stop. other_first name h text rest k))

-- a specification
abbrev pub head_text : Head → List Token
head_text h = Word (codes "package") ∷ Word (head_name h) ∷ Word (codes "is") ∷ inner_tokens h

abbrev pub IsGoodHead : Head → Type 0
IsGoodHead h = (is_ada_name (head_name h) ≡ true) × AreNamedHeads h

head_to : (name : Name) (h : Head) (text inner : List Token) → is_ada_name name ≡ true → IsInner name h inner
    → text ≡ Word (codes "package") ∷ Word name ∷ Word (codes "is") ∷ inner → IsSpelled IsGoodHead head_text h text
head_to name h text inner named k e =
    let P : Name → Type 0 = λ n. (is_ada_name n ≡ true) × (text ≡ Word (codes "package") ∷ Word n ∷ Word (codes "is") ∷ inner) in
    let q : P (head_name h) = subst P (sym k.0) (named, e) in
    ((q.0, k.1), rw (q.1, k.2) refl)

pub reads-head : Reads (IsSpelled IsGoodHead head_text) Any head_at
unfolding head_at
reads-head = reads-same _ (IsSpelled IsGoodHead head_text) Any head_at
    (λ h text g1.
    let g2 = g1.after in let g3 = g2.after in
    head_to g2.a h text g3.back g2.before.0 g3.after (rw (g1.whole, g1.before, g2.whole, g2.before.1, g3.whole, g3.before) refl))
    (λ h text k.
    rw k.1 (joins-fixed _ (Word (codes "package")) h _ (joins-name is_ada_name _ (head_name h) h _ k.0.0
    (joins-fixed _ (Word (codes "is")) h _ (refl, k.0.1, refl)))))
    (andthen (reads-fixed (Word (codes "package")))
    (λ _. andthen reads-ada_name (λ name. andthen (reads-fixed (Word (codes "is"))) (λ _. reads-inner name))))

-- the specifications of all units
abbrev pub AreHeads : List Head → List Token → Type 0
AreHeads hs text = Each IsGoodHead hs × (text ≡ flat_map head_text hs)

pub reads-heads : Reads AreHeads (λ hs o. next_is (Word (codes "package")) o ≡ false) heads_at
unfolding heads_at
reads-heads = reads-spelled IsGoodHead head_text (next_is (Word (codes "package"))) head_at reads-head (λ h rest k. refl) (λ h. omega arith) refl
