-- The readers of requests, truth values and renamings read their grammar.
use Rattle.std.proofs.Common.{◌≡◌, Bool, true, false, cond, List, [], ◌∷◌, ◌++◌, None, Some, codes, flat_map, refl, sym, ap, subst, ◌∙◌}
use Rattle.std.proofs.Common.{append-nil, ◌⊎◌, inl, inr, length, arith}
use Rattle.seq_tree.specs.Lists.{Each}
use Rattle.grammar.specs.Reading.{choose_at, token_at, Reads}
use Rattle.grammar.proofs.Shared.Laws.{reads-same, reads-pure, reads-token, reads-choose, IsToken, joins-part}
use Rattle.seq_tree.specs.Names.{Name, same_name}
use Rattle.seq_tree.specs.Operations.{Signature}
use Rattle.seq_tree.specs.declared.tree.Mode.{Mode}
use Rattle.seq_tree.specs.declared.tree.Mode.TheVariants.{In}
use Rattle.seq_tree.specs.declared.tree.Param.{Param}
use Rattle.seq_tree.specs.declared.token.Token.{Token}
use Rattle.seq_tree.specs.declared.token.Token.TheVariants.{Word, Number, Sign}
use Rattle.seq_tree.specs.declared.token.Mark.TheVariants.{LeftParen, Semicolon}
use Rattle.ada_tree.specs.Proper.{IsRequest}
use Rattle.ada_tree.specs.Spelling.{head_tokens, params_tokens, truth_token}
use Rattle.ada_tree.specs.Words.{is_ada_name}
use Rattle.token_read.specs.Readers.{next_is}
use Rattle.token_read.proofs.Shared.TokenLaws.{Any, andthen, same_is, reads-fixed, reads-phrase, joins-fixed, joins-phrase, joins-name}
use Rattle.seq_read.specs.Parts.{sees_by, named_at}
use Rattle.seq_read.proofs.Shared.Spelled.{IsSpelled}
use Rattle.ada_read.specs.declared.fixed_text.FixedText.TheVariants as fixed
use Rattle.ada_read.specs.FixedTexts.{fixed_tokens}
use Rattle.ada_read.specs.Readers.{renaming_at, renamings_at, request_renaming_at, request_param_at, request_at, unlisted_at, truth_named}
use Rattle.ada_read.proofs.ParamLaws.{AreUnlisted, IsNamed, IsNamedHead, declaration_tokens, reads-text, joins-text}
use Rattle.ada_read.proofs.ParamLaws.{reads-ada_name, reads-unlisted}

-- RENAMINGS
-- the name by which an operation of a protected unit is called
abbrev pub renaming_tokens : Signature → List Token
renaming_tokens sig = head_tokens sig ++ (fixed_tokens fixed.Renames ++ Word sig.name ∷ Sign Semicolon ∷ [])

reads-renaming : (sig : Signature) → Reads (λ _ text. text ≡ renaming_tokens sig) Any (renaming_at sig)
unfolding renaming_at
reads-renaming sig = reads-same _ (λ _ text. text ≡ renaming_tokens sig) Any (renaming_at sig)
    (λ u text g1. let g2 = g1.after in rw (g1.whole, g1.before, g2.whole, g2.before, g2.after) refl)
    (λ u text h. rw h (joins-phrase _ (head_tokens sig) tt _ (joins-text _ fixed.Renames tt _ refl)))
    (andthen (reads-phrase (head_tokens sig)) (λ _. andthen (reads-text fixed.Renames) (λ _. reads-phrase (Word sig.name ∷ Sign Semicolon ∷ []))))

pub reads-renamings : (sigs : List Signature) → Reads (λ _ text. text ≡ flat_map renaming_tokens sigs) Any (renamings_at sigs)
reads-renamings [] = reads-phrase []
reads-renamings (sig ∷ sigs) = reads-same _ (λ _ text. text ≡ flat_map renaming_tokens (sig ∷ sigs)) Any (renamings_at (sig ∷ sigs))
    (λ u text g. rw (g.whole, g.before, g.after) refl)
    (λ u text h. rw h (joins-part _ tt (renaming_tokens sig) tt _ refl refl))
    (andthen (reads-renaming sig) (λ _. reads-renamings sigs))

-- the name by which the request of a sporadic unit is called
abbrev pub request_renaming_tokens : Signature → List Token
request_renaming_tokens sig = head_tokens sig ++ (fixed_tokens fixed.RequestRenames ++ Word sig.name ∷ Sign Semicolon ∷ [])

pub reads-request_renaming : (sig : Signature) → Reads (λ _ text. text ≡ request_renaming_tokens sig) Any (request_renaming_at sig)
unfolding request_renaming_at
reads-request_renaming sig = reads-same _ (λ _ text. text ≡ request_renaming_tokens sig) Any (request_renaming_at sig)
    (λ u text g1. let g2 = g1.after in rw (g1.whole, g1.before, g2.whole, g2.before, g2.after) refl)
    (λ u text h. rw h (joins-phrase _ (head_tokens sig) tt _ (joins-text _ fixed.RequestRenames tt _ refl)))
    (andthen (reads-phrase (head_tokens sig)) (λ _. andthen (reads-text fixed.RequestRenames)
    (λ _. reads-phrase (Word sig.name ∷ Sign Semicolon ∷ []))))

-- REQUESTS
-- one parameter, which hands a value in
abbrev IsOneParam : List Param → List Token → Type 0
IsOneParam ps text = (name : Name) × (ps ≡ record { name = name; mode = In } ∷ []) × (is_ada_name name ≡ true)
    × (text ≡ Sign LeftParen ∷ Word name ∷ fixed_tokens fixed.RequestParam)

reads-request_param : Reads IsOneParam Any request_param_at
unfolding request_param_at fixed_tokens
reads-request_param = reads-same _ IsOneParam Any request_param_at
    (λ ps text g1. let g2 = g1.after in let g3 = g2.after
    in (g2.a, g3.after.0, g2.before.0, rw (g1.whole, g1.before, g2.whole, g2.before.1, g3.whole, g3.before, g3.after.1) refl))
    (λ ps text h. rw h.3 (joins-fixed _ (Sign LeftParen) ps _ (joins-name is_ada_name _ h.0 ps _ h.2
    (joins-text _ fixed.RequestParam ps [] (h.1, refl)))))
    (andthen (reads-fixed (Sign LeftParen))
    (λ _. andthen reads-ada_name (λ name. andthen (reads-text fixed.RequestParam)
    (λ _. reads-pure Any (record { name = name; mode = In } ∷ []) (λ _. tt)))))

-- the parameters of a request, and the end of its declaration
abbrev AreRequested : List Param → List Token → Type 0
AreRequested ps text = Each IsNamed ps × IsRequest ps × (text ≡ params_tokens ps ++ Sign Semicolon ∷ [])

requested_one : (ps : List Param) (text : List Token) → IsOneParam ps text → AreRequested ps text
unfolding fixed_tokens
requested_one ps text h = let P : List Param → Type 0 = λ qs. AreRequested qs text in subst P (sym h.1) ((h.2, tt), refl, h.3)

requested_none : (ps : List Param) (text : List Token) → AreUnlisted ps text → AreRequested ps text
requested_none ps text h = let P : List Param → Type 0 = λ qs. AreRequested qs text in subst P (sym h.0) (tt, tt, h.1)

requested_to : (ps : List Param) (text : List Token) → IsOneParam ps text ⊎ AreUnlisted ps text → AreRequested ps text
requested_to ps text e = elim e [ inl h ↦ requested_one ps text h | inr h ↦ requested_none ps text h ]

one_back : (name : Name) (mode : Mode) (text : List Token) → is_ada_name name ≡ true → mode ≡ In
    → text ≡ params_tokens (record { name = name; mode = mode } ∷ []) ++ Sign Semicolon ∷ []
    → IsOneParam (record { name = name; mode = mode } ∷ []) text
unfolding fixed_tokens
one_back name mode text named is e =
    let P : Mode → Type 0 = λ m. text ≡ params_tokens (record { name = name; mode = m } ∷ []) ++ Sign Semicolon ∷ [] in
    (name, ap (λ (m : Mode). let p : Param = record { name = name; mode = m } in p ∷ []) is, named, subst P is e)

requested_back : (ps : List Param) (text : List Token) → AreRequested ps text → IsOneParam ps text ⊎ AreUnlisted ps text
requested_back [] text h = inr (refl, h.2)
requested_back (p ∷ []) text h = inl (one_back p.name p.mode text h.0.0 h.1 h.2)
requested_back (p ∷ q ∷ ps) text h = absurd h.1

reads-requested : Reads AreRequested Any (choose_at (next_is (Sign LeftParen)) request_param_at unlisted_at)
reads-requested = reads-same _ AreRequested Any (choose_at (next_is (Sign LeftParen)) request_param_at unlisted_at) requested_to requested_back
    (reads-choose (next_is (Sign LeftParen)) IsOneParam AreUnlisted Any request_param_at unlisted_at reads-request_param reads-unlisted
    (λ ps text rest h stop. rw h.3 refl) (λ ps text rest h stop. rw h.1 refl))

-- the declaration of a request
abbrev pub IsNamedRequest : Signature → Type 0
IsNamedRequest s = IsNamedHead s × IsRequest s.params

pub reads-request : Reads (IsSpelled IsNamedRequest declaration_tokens) Any request_at
unfolding request_at
reads-request = reads-same _ (IsSpelled IsNamedRequest declaration_tokens) Any request_at
    (λ s text g1.
    let g2 = g1.after in let g3 = g2.after in
    let P : Signature → Type 0 = λ q. IsSpelled IsNamedRequest declaration_tokens q text in
    subst P (sym g3.after.0) (
      ((g2.before.0, g3.before.0), g3.before.1),
      rw
          (g1.whole, g1.before, g2.whole, g2.before.1, g3.whole, g3.before.2, g3.after.1, append-nil) refl,
    ))
    (λ s text h.
    rw (h.1, sym (append-nil (params_tokens s.params ++ Sign Semicolon ∷ [])))
    (joins-fixed _ (Word (codes "procedure")) s _ (joins-name is_ada_name _ s.name s _ h.0.0.0
    (joins-part _ s.params (params_tokens s.params ++ Sign Semicolon ∷ []) s [] (h.0.0.1, h.0.1, refl) (refl, refl)))))
    (andthen (reads-fixed (Word (codes "procedure")))
    (λ _. andthen reads-ada_name (λ name. andthen reads-requested (λ params. reads-pure Any (record { name = name; params = params }) (λ _. tt)))))

-- TRUTH VALUES
abbrev pub IsTruth : Bool → List Token → Type 0
IsTruth b text = text ≡ truth_token b ∷ []

truth_named_by : (name : Name) (v : Bool) → truth_named name ≡ Some v → Word name ≡ truth_token v
unfolding truth_named
truth_named_by name v e = by (same_name name (codes "true")) (same_name name (codes "false")) refl refl e where
  by : (b c : Bool) → same_name name (codes "true") ≡ b → same_name name (codes "false") ≡ c → cond b (Some true) (cond c (Some false) None) ≡ Some v
      → Word name ≡ truth_token v
  by true c p q e = let same : true ≡ v = cc in let P : Bool → Type 0 = λ k. Word name ≡ truth_token k
      in subst P same (same_is (Word name) (Word (codes "true")) p)
  by false true p q e = let same : false ≡ v = cc in let P : Bool → Type 0 = λ k. Word name ≡ truth_token k
      in subst P same (same_is (Word name) (Word (codes "false")) q)
  by false false p q e = absurd (cc)

truth_seen : (t : Token) (v : Bool) → sees_by truth_named t ≡ Some v → t ≡ truth_token v
truth_seen (Word name) v e = truth_named_by name v e
truth_seen (Number n) v e = absurd (cc)
truth_seen (Sign k) v e = absurd (cc)

truth_sees : (v : Bool) → sees_by truth_named (truth_token v) ≡ Some v
unfolding truth_named
truth_sees true = refl
truth_sees false = refl

pub reads-truth : Reads IsTruth Any (named_at truth_named)
unfolding named_at truth_named
reads-truth = reads-same (IsToken (sees_by truth_named)) IsTruth Any (token_at (sees_by truth_named))
    (λ v text g. g.whole ∙ ap (λ t. t ∷ []) (truth_seen g.token v g.seen))
    (λ v text h. record { token = truth_token v; seen = truth_sees v; whole = h })
    (reads-token (sees_by truth_named) true (Word (codes "true")) refl)

-- parameters of which there are none
pub none-left : (ps : List Param) → length ps ≡ 0 → [] ≡ ps
none-left [] e = refl
none-left (p ∷ ps) e = absurd (omega (arith, e))
