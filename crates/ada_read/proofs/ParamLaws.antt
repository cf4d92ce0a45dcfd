-- The readers of costs, names, parameters and declarations read their grammar.
use Rattle.std.proofs.Common.{◌≡◌, ℕ, Bool, true, false, cond, List, [], ◌∷◌, ◌++◌, Option, None, Some, codes, flat_map, refl, sym}
use Rattle.std.proofs.Common.{ap, subst, ◌∙◌, arith, append_assoc, append-nil, ◌⊎◌, inl, inr}
use Rattle.seq_tree.specs.Lists.{Each}
use Rattle.grammar.specs.Reading.{Read, first, then_at, token_at, many_at, Reads, Joined}
use Rattle.grammar.proofs.Shared.Laws.{reads-same, reads-then, reads-pure, reads-token, reads-choose, reads-map, IsToken, joins-part}
use Rattle.seq_tree.specs.Names.{Name, same_name}
use Rattle.seq_tree.specs.Operations.{Signature}
use Rattle.seq_tree.specs.declared.tree.Costs.{Costs}
use Rattle.seq_tree.specs.declared.tree.Mode.{Mode}
use Rattle.seq_tree.specs.declared.tree.Mode.TheVariants.{In, Out}
use Rattle.seq_tree.specs.declared.tree.Param.{Param}
use Rattle.seq_tree.specs.declared.token.Token.{Token}
use Rattle.seq_tree.specs.declared.token.Token.TheVariants.{Word, Number, Sign}
use Rattle.seq_tree.specs.declared.token.Mark.TheVariants.{LeftParen, RightParen, Semicolon, Colon}
use Rattle.ada_tree.specs.Spelling.{mode_token, param_tokens, params_tokens, head_tokens}
use Rattle.ada_tree.specs.Words.{is_ada_name}
use Rattle.token_read.specs.Readers.{name_at, next_is}
use Rattle.token_read.proofs.Shared.TokenLaws.{Any, IsPhrase, IsName, andthen, same_is, reads-fixed, reads-phrase, reads-number, reads-name}
use Rattle.token_read.proofs.Shared.TokenLaws.{joins-fixed, joins-phrase, joins-number, joins-name}
use Rattle.seq_read.specs.Parts.{sees_by, named_at, mode_named, param_at, more_param_at, params_from_at}
use Rattle.seq_read.proofs.Shared.Spelled.{IsSpelled, reads-spelled}
use Rattle.seq_read.proofs.Shared.CostLaws.{all_costs, reads-all_costs}
use Rattle.ada_read.specs.declared.fixed_text.FixedText.{FixedText}
use Rattle.ada_read.specs.declared.fixed_text.FixedText.TheVariants as fixed
use Rattle.ada_read.specs.declared.fixed_text.CostName.{CostName}
use Rattle.ada_read.specs.declared.fixed_text.CostName.TheVariants as cost
use Rattle.ada_read.specs.FixedTexts.{fixed_tokens, cost_name, more_tokens}
use Rattle.ada_read.specs.Readers.{text_at, cost_at, costs_at, listed_at, unlisted_at, params_at, declaration_at, declarations_at}

-- a fixed text, read and joined
pub reads-text : (text : FixedText) → Reads (IsPhrase (fixed_tokens text)) Any (text_at text)
reads-text text = reads-phrase (fixed_tokens text)

pub joins-text : {B : Type 0} (H : Unit {0} → B → List Token → Type 0) (text : FixedText) (b : B) (rest : List Token) → H tt b rest
    → Joined (IsPhrase (fixed_tokens text)) H b (fixed_tokens text ++ rest)
joins-text H text b rest h = joins-phrase H (fixed_tokens text) b rest h

-- a part that stops at some tokens, which come next
pub and_until : {A B : Type 0} {G : A → List Token → Type 0} {H : A → B → List Token → Type 0} {r : List Token → Read Token A} {f : A → List Token
    → Read Token B} (stop : Option Token → Type 0) (us : List Token) →
    ((rest : List Token) → stop (first (us ++ rest))) → Reads G (λ a o. stop o) r → ((a : A) → Reads (Joined (IsPhrase us) (λ _. H a)) Any (f a))
    → Reads (Joined G (λ a. Joined (IsPhrase us) (λ _. H a))) Any (then_at r f)
and_until {A} {B} {G} {H} {r} {f} stop us halts one two =
    reads-then G (λ a. Joined (IsPhrase us) (λ _. H a)) (λ a o. stop o) Any r f one two
    (λ a b back rest h end. rw (h.whole, h.before, append_assoc) (halts (h.back ++ rest)))

-- the cost of a kind of statement
abbrev cost_text : CostName → ℕ → List Token
cost_text c n = Word (cost_name c) ∷ (fixed_tokens fixed.Constant ++ Number n ∷ Sign Semicolon ∷ [])

abbrev IsCost : CostName → ℕ → List Token → Type 0
IsCost c n text = text ≡ cost_text c n

reads-cost : (c : CostName) → Reads (IsCost c) Any (cost_at c)
unfolding cost_at
reads-cost c = reads-same _ (IsCost c) Any (cost_at c)
    (λ n text g.
    let a = g.after in let b = a.after in let d = b.after in
    rw (d.after.0, g.whole, g.before, a.whole, a.before, b.whole, b.before, d.whole, d.before, d.after.1) refl)
    (λ n text h. rw h (joins-fixed _ (Word (cost_name c)) n _
    (joins-text _ fixed.Constant n _ (joins-number _ n n _ (joins-fixed _ (Sign Semicolon) n [] (refl, refl))))))
    (andthen (reads-fixed (Word (cost_name c))) (λ _. andthen (reads-text fixed.Constant)
    (λ _. andthen reads-number (λ n. andthen (reads-fixed (Sign Semicolon)) (λ _. reads-pure Any n (λ _. tt))))))

-- all costs
abbrev pub costs_text : Costs → List Token
costs_text = all_costs cost_text cost.Assign cost.Test cost.Turn cost.Call cost.Null cost.Put cost.Finish

pub reads-costs : Reads (λ c text. text ≡ costs_text c) Any costs_at
unfolding costs_at
reads-costs = reads-all_costs cost_text cost.Assign cost.Test cost.Turn cost.Call cost.Null cost.Put cost.Finish cost_at reads-cost

-- some word is a name
pub reads-ada_name : Reads (IsName is_ada_name) Any (name_at is_ada_name)
unfolding is_ada_name
reads-ada_name = reads-name is_ada_name (codes "a") refl

-- a mode
abbrev IsMode : Mode → List Token → Type 0
IsMode m text = text ≡ mode_token m ∷ []

mode_named_by : (name : Name) (m : Mode) → mode_named name ≡ Some m → Word name ≡ mode_token m
unfolding mode_named
mode_named_by name m e = by (same_name name (codes "in")) (same_name name (codes "out")) refl refl e where
  by : (b c : Bool) → same_name name (codes "in") ≡ b → same_name name (codes "out") ≡ c → cond b (Some In) (cond c (Some Out) None) ≡ Some m
      → Word name ≡ mode_token m
  by true c p q e = let same : In ≡ m = cc in let P : Mode → Type 0 = λ k. Word name ≡ mode_token k
      in subst P same (same_is (Word name) (Word (codes "in")) p)
  by false true p q e = let same : Out ≡ m = cc in let P : Mode → Type 0 = λ k. Word name ≡ mode_token k
      in subst P same (same_is (Word name) (Word (codes "out")) q)
  by false false p q e = absurd (cc)

mode_seen : (t : Token) (m : Mode) → sees_by mode_named t ≡ Some m → t ≡ mode_token m
mode_seen (Word name) m e = mode_named_by name m e
mode_seen (Number n) m e = absurd (cc)
mode_seen (Sign k) m e = absurd (cc)

mode_sees : (m : Mode) → sees_by mode_named (mode_token m) ≡ Some m
unfolding mode_named
mode_sees In = refl
mode_sees Out = refl

reads-mode : Reads IsMode Any (named_at mode_named)
unfolding named_at mode_named
reads-mode = reads-same (IsToken (sees_by mode_named)) IsMode Any (token_at (sees_by mode_named))
    (λ m text g. g.whole ∙ ap (λ t. t ∷ []) (mode_seen g.token m g.seen))
    (λ m text h. record { token = mode_token m; seen = mode_sees m; whole = h })
    (reads-token (sees_by mode_named) In (Word (codes "in")) refl)

-- a parameter
abbrev pub IsNamed : Param → Type 0
IsNamed p = is_ada_name p.name ≡ true

joins-mode : {B : Type 0} (H : Mode → B → List Token → Type 0) (m : Mode) (b : B) (rest : List Token) → H m b rest
    → Joined IsMode H b (mode_token m ∷ rest)
joins-mode H m b rest h = record { a = m; front = mode_token m ∷ []; back = rest; before = refl; after = h; whole = refl }

reads-param : Reads (IsSpelled IsNamed param_tokens) Any (param_at is_ada_name)
unfolding param_at
reads-param = reads-same _ (IsSpelled IsNamed param_tokens) Any (param_at is_ada_name)
    (λ p text g1.
    let g2 = g1.after in let g3 = g2.after in let g4 = g3.after in
    let P : Param → Type 0 = λ q. IsSpelled IsNamed param_tokens q text in
    subst P (sym g4.after.0) (
      g1.before.0,
      rw
          (g1.whole, g1.before.1, g2.whole, g2.before, g3.whole, g3.before, g4.whole, g4.before, g4.after.1) refl,
    ))
    (λ p text h. rw h.1 (joins-name is_ada_name _ p.name p _ h.0
    (joins-fixed _ (Sign Colon) p _ (joins-mode _ p.mode p _ (joins-fixed _ (Word (codes "word")) p [] (refl, refl))))))
    (andthen reads-ada_name (λ name. andthen (reads-fixed (Sign Colon))
    (λ _. andthen reads-mode (λ mode. andthen (reads-fixed (Word (codes "word")))
    (λ _. reads-pure Any (record { name = name; mode = mode }) (λ _. tt))))))

pub reads-more_param : Reads (IsSpelled IsNamed more_tokens) Any (more_param_at is_ada_name)
unfolding more_param_at
reads-more_param = reads-same _ (IsSpelled IsNamed more_tokens) Any (more_param_at is_ada_name)
    (λ p text g. (g.after.0, rw (g.whole, g.before, g.after.1) refl))
    (λ p text h. rw h.1 (joins-fixed _ (Sign Semicolon) p _ (h.0, refl)))
    (andthen (reads-fixed (Sign Semicolon)) (λ _. reads-param))

reads-more_params : Reads (λ ps text. Each IsNamed ps × (text ≡ flat_map more_tokens ps)) (λ ps o. next_is (Sign Semicolon) o
    ≡ false) (many_at (next_is (Sign Semicolon)) (more_param_at is_ada_name))
reads-more_params = reads-spelled IsNamed more_tokens (next_is (Sign Semicolon)) (more_param_at is_ada_name) reads-more_param (λ p rest h. refl)
    (λ p. omega arith) refl

-- parameters, and the end of their declaration
abbrev AreParams : List Param → List Token → Type 0
AreParams ps text = Each IsNamed ps × (text ≡ params_tokens ps ++ Sign Semicolon ∷ [])

-- some parameters
abbrev AreListed : List Param → List Token → Type 0
AreListed [] text = ⊥
AreListed (p ∷ ps) text = Each IsNamed (p ∷ ps) × (text ≡ Sign LeftParen ∷ (param_tokens p ++ (flat_map more_tokens ps ++ fixed_tokens fixed.Close)))

listed_back : (xs : List Param) (text : List Token) → AreListed xs text → (p : Param) × (ps : List Param) × (xs ≡ p ∷ ps) × Each IsNamed (p ∷ ps)
    × (text ≡ Sign LeftParen ∷ (param_tokens p ++ (flat_map more_tokens ps ++ fixed_tokens fixed.Close)))
listed_back [] text h = absurd h
listed_back (p ∷ ps) text h = (p, ps, refl, h.0, h.1)

close_stops : (rest : List Token) → next_is (Sign Semicolon) (first (fixed_tokens fixed.Close ++ rest)) ≡ false
unfolding fixed_tokens
close_stops rest = refl

-- parameters that begin with this one
abbrev AreFirst : Param → List Param → List Token → Type 0
AreFirst p xs text = (ps : List Param) × (xs ≡ p ∷ ps) × Each IsNamed ps × (text ≡ flat_map more_tokens ps)

reads-params_from : (p : Param) → Reads (AreFirst p) (λ ps o. next_is (Sign Semicolon) o ≡ false) (params_from_at is_ada_name p)
unfolding params_from_at
reads-params_from p = reads-map (λ ps text. Each IsNamed ps × (text ≡ flat_map more_tokens ps)) (AreFirst p) (λ ps o. next_is (Sign Semicolon) o
    ≡ false) (λ ps o. next_is (Sign Semicolon) o ≡ false) (many_at (next_is (Sign Semicolon)) (more_param_at is_ada_name))
    (λ ps. p ∷ ps) reads-more_params
    (λ ps text g. (ps, refl, g.0, g.1)) (λ xs text h. (h.0, (h.2, h.3), sym h.1)) (λ ps o h. h) (λ ps o h. h)

reads-listed : Reads AreListed Any listed_at
unfolding listed_at fixed_tokens
reads-listed = reads-same _ AreListed Any listed_at
    (λ xs text g1.
    let g2 = g1.after in let g3 = g2.after in let g4 = g3.after in let b = g3.before in
    let P : List Param → Type 0 = λ q. AreListed q text in
    subst P (sym (g4.after.0 ∙ b.1))
    ((g2.before.0, b.2), rw (g1.whole, g1.before, g2.whole, g2.before.1, g3.whole, b.3, g4.whole, g4.before, g4.after.1) refl))
    (λ xs text h.
    let b = listed_back xs text h in
    rw b.4 (joins-fixed _ (Sign LeftParen) xs _ (joins-part _ b.0 (param_tokens b.0) xs _ (b.3.0, refl)
    (joins-part _ xs (flat_map more_tokens b.1) xs _ (b.1, b.2, b.3.1, refl)
    (joins-text _ fixed.Close xs [] (refl, refl))))))
    (andthen (reads-fixed (Sign LeftParen))
    (λ _. andthen reads-param (λ p. and_until (λ o. next_is (Sign Semicolon) o ≡ false) (fixed_tokens fixed.Close) close_stops
    (reads-params_from p) (λ ps.
    andthen (reads-text fixed.Close) (λ _. reads-pure Any ps (λ _. tt))))))

abbrev pub AreUnlisted : List Param → List Token → Type 0
AreUnlisted xs text = (xs ≡ []) × (text ≡ Sign Semicolon ∷ [])

pub reads-unlisted : Reads AreUnlisted Any unlisted_at
unfolding unlisted_at
reads-unlisted = reads-same _ AreUnlisted Any unlisted_at
    (λ xs text g. (g.after.0, rw (g.whole, g.before, g.after.1) refl))
    (λ xs text h. rw h.1 (joins-fixed _ (Sign Semicolon) xs [] (h.0, refl)))
    (andthen (reads-fixed (Sign Semicolon)) (λ _. reads-pure Any [] (λ _. tt)))

listed_first : (xs : List Param) (text rest : List Token) → AreListed xs text → next_is (Sign LeftParen) (first (text ++ rest)) ≡ true
listed_first [] text rest h = absurd h
listed_first (p ∷ ps) text rest h = rw h.1 refl

params_text : (p : Param) (ps : List Param) → params_tokens (p ∷ ps) ++ Sign Semicolon ∷ []
    ≡ Sign LeftParen ∷ (param_tokens p ++ (flat_map more_tokens ps ++ fixed_tokens fixed.Close))
unfolding fixed_tokens
params_text p ps = ap (λ us. Sign LeftParen ∷ (param_tokens p ++ us))
    (append_assoc (flat_map more_tokens ps) (Sign RightParen ∷ []) (Sign Semicolon ∷ []))

params_to : (xs : List Param) (text : List Token) → AreListed xs text ⊎ AreUnlisted xs text → AreParams xs text
params_to [] text e = elim e [ inl h ↦ absurd h | inr h ↦ (tt, h.1) ]
params_to (p ∷ ps) text e = elim e [ inl h ↦ (h.0, h.1 ∙ sym (params_text p ps)) | inr h ↦ absurd (let no = h.0 in cc) ]

params_back : (xs : List Param) (text : List Token) → AreParams xs text → AreListed xs text ⊎ AreUnlisted xs text
params_back [] text h = inr (refl, h.1)
params_back (p ∷ ps) text h = inl (h.0, h.1 ∙ params_text p ps)

reads-params : Reads AreParams Any params_at
unfolding params_at
reads-params = reads-same _ AreParams Any params_at params_to params_back
    (reads-choose (next_is (Sign LeftParen)) AreListed AreUnlisted Any listed_at unlisted_at reads-listed reads-unlisted
    (λ xs text rest h stop. listed_first xs text rest h) (λ xs text rest h stop. rw h.1 refl))

-- the declaration of an operation
abbrev pub IsNamedHead : Signature → Type 0
IsNamedHead s = (is_ada_name s.name ≡ true) × Each IsNamed s.params

abbrev pub declaration_tokens : Signature → List Token
declaration_tokens s = head_tokens s ++ Sign Semicolon ∷ []

pub reads-declaration : Reads (IsSpelled IsNamedHead declaration_tokens) Any declaration_at
unfolding declaration_at
reads-declaration = reads-same _ (IsSpelled IsNamedHead declaration_tokens) Any declaration_at
    (λ s text g1.
    let g2 = g1.after in let g3 = g2.after in
    let P : Signature → Type 0 = λ q. IsSpelled IsNamedHead declaration_tokens q text in
    subst P (sym g3.after.0) (
      (g2.before.0, g3.before.0),
      rw
          (g1.whole, g1.before, g2.whole, g2.before.1, g3.whole, g3.before.1, g3.after.1, append-nil) refl,
    ))
    (λ s text h.
    rw (h.1, sym (append-nil (params_tokens s.params ++ Sign Semicolon ∷ [])))
    (joins-fixed _ (Word (codes "procedure")) s _ (joins-name is_ada_name _ s.name s _ h.0.0
    (joins-part _ s.params (params_tokens s.params ++ Sign Semicolon ∷ []) s [] (h.0.1, refl) (refl, refl)))))
    (andthen (reads-fixed (Word (codes "procedure")))
    (λ _. andthen reads-ada_name (λ name. andthen reads-params (λ params. reads-pure Any (record { name = name; params = params }) (λ _. tt)))))

-- declarations of operations
pub reads-declarations : Reads (λ ss text. Each IsNamedHead ss × (text ≡ flat_map declaration_tokens ss))
    (λ ss o. next_is (Word (codes "procedure")) o ≡ false) declarations_at
unfolding declarations_at
reads-declarations = reads-spelled IsNamedHead declaration_tokens (next_is (Word (codes "procedure"))) declaration_at reads-declaration
    (λ s rest h. refl) (λ s. omega arith) refl
