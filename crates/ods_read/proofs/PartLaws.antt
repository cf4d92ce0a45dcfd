-- The readers of costs and of the parts of an object read their grammar, where the reader of blocks reads exactly blocks.
use Rattle.std.proofs.Common.{◌≡◌, ℕ, Bool, true, false, List, [], ◌∷◌, ◌++◌, Option, None, Some, is_some, codes, flat_map, refl, sym, ap, subst}
use Rattle.std.proofs.Common.{◌∙◌, arith, ◌⊎◌, inl, inr, append_assoc}
use Rattle.grammar.specs.Reading.{first, then_at, pure_at, many_at, Reads, Joined}
use Rattle.grammar.proofs.Shared.Laws.{IsOnly, reads-same, reads-then, reads-pure, reads-map, joins-part}
use Rattle.seq_tree.specs.Lists.{Each}
use Rattle.seq_tree.specs.Names.{Name}
use Rattle.seq_tree.specs.Statements.{Statements}
use Rattle.seq_tree.specs.Proper.{Limits, IsProperBlock}
use Rattle.seq_tree.specs.declared.tree.Costs.{Costs}
use Rattle.seq_tree.specs.declared.tree.Datum.{Datum}
use Rattle.seq_tree.specs.declared.tree.OpName.{OpName}
use Rattle.seq_tree.specs.declared.tree.Mode.{Mode}
use Rattle.seq_tree.specs.declared.tree.Mode.TheVariants.{In, Out}
use Rattle.seq_tree.specs.declared.tree.Param.{Param}
use Rattle.seq_tree.specs.declared.token.Token.{Token}
use Rattle.seq_tree.specs.declared.token.Token.TheVariants.{Word, Number, Sign}
use Rattle.seq_tree.specs.declared.token.Mark.TheVariants.{LeftParen, RightParen, Semicolon, Colon, Dot, Equal}
use Rattle.ods_tree.specs.Designs.{Provided, Body}
use Rattle.ods_tree.specs.Words.{is_design_name}
use Rattle.ods_tree.specs.Proper.{IsProperAttribute, IsProperThread}
use Rattle.ods_tree.specs.declared.design.Kind.{Kind}
use Rattle.ods_tree.specs.declared.design.Kind.TheVariants.{Passive, Active, Protected, Cyclic, Sporadic}
use Rattle.ods_tree.specs.declared.design.Constraint.{Constraint}
use Rattle.ods_tree.specs.declared.design.Constraint.TheVariants.{Aser, Hser, Pser, Paer}
use Rattle.ods_tree.specs.declared.design.AttrKey.{AttrKey}
use Rattle.ods_tree.specs.declared.design.AttrKey.TheVariants.{Period, Offset, Separation, Deadline, ThreadBudget, ArrivalJitter}
use Rattle.ods_tree.specs.declared.design.TickUnit.{TickUnit}
use Rattle.ods_tree.specs.declared.design.TickUnit.TheVariants.{Us, Ms, S}
use Rattle.ods_tree.specs.declared.design.VersionTwo.{VersionTwo}
use Rattle.ods_tree.specs.declared.design.Attr.{Attr}
use Rattle.ods_tree.specs.declared.design.Link.{Link}
use Rattle.token_read.specs.Readers.{next_is}
use Rattle.token_read.proofs.Shared.TokenLaws.{Any, IsPhrase, IsName, andthen, reads-fixed, reads-phrase, reads-number, reads-name, joins-fixed}
use Rattle.token_read.proofs.Shared.TokenLaws.{joins-phrase, joins-number, joins-name}
use Rattle.seq_read.specs.Statements.{BlockReader, begins_statement, kind_of, next_is_name}
use Rattle.seq_read.proofs.Shared.StatementLaws.{before-token}
use Rattle.seq_read.proofs.Shared.StatementTokens.{block_toks}
use Rattle.seq_read.specs.Parts.{named_at, mode_named, end_tokens}
use Rattle.seq_read.proofs.Shared.Spelled.{IsSpelled, reads-spelled}
use Rattle.seq_read.proofs.Shared.CostLaws.{all_costs, reads-all_costs}
use Rattle.seq_read.proofs.Shared.DatumLaws.{datum_tokens}
use Rattle.seq_read.proofs.Shared.DatumLaws as variables
use Rattle.ods_read.specs.Readers.{next_by, kind_named, constraint_named, key_named, unit_named, design_name_at, next_is_design_name, end_at}
use Rattle.ods_read.specs.Readers.{op_name_at, cost_at, cost_list_at, costs_at, next_is_unit, unit_at, attribute_at, attribute_list_at}
use Rattle.ods_read.specs.Readers.{attributes_at, param_at, more_param_at, param_list_at, enclosed_at, params_at, constraint_at, provided_at}
use Rattle.ods_read.specs.Readers.{provided_list_at, provides_at, needed_at, needed_list_at, requires_at, datum_at, locals_at, datum_list_at}
use Rattle.ods_read.specs.Readers.{data_at, body_at, bodies_at, activation_at, thread_at, link_at, link_list_at, implements_at}
use Rattle.ods_read.proofs.SpelledLaws.{reads-equal, tried, IsWordOf, reads-named, reads-optional, section_tokens}
use Rattle.ods_read.proofs.SpelledLaws.{EndsSection, reads-some, reads-section}

-- WORDS
abbrev pub kind_word : Kind → List ℕ
kind_word Passive = codes "passive"
kind_word Active = codes "active"
kind_word Protected = codes "protected"
kind_word Cyclic = codes "cyclic"
kind_word Sporadic = codes "sporadic"

abbrev pub constraint_word : Constraint → List ℕ
constraint_word Aser = codes "aser"
constraint_word Hser = codes "hser"
constraint_word Pser = codes "pser"
constraint_word Paer = codes "paer"

abbrev pub key_word : AttrKey → List ℕ
key_word Period = codes "period"
key_word Offset = codes "offset"
key_word Separation = codes "separation"
key_word Deadline = codes "deadline"
key_word ThreadBudget = codes "thread_budget"
key_word ArrivalJitter = codes "arrival_jitter"

abbrev pub unit_word : TickUnit → List ℕ
unit_word Us = codes "us"
unit_word Ms = codes "ms"
unit_word S = codes "s"

abbrev pub mode_word : Mode → List ℕ
mode_word In = codes "in"
mode_word Out = codes "out"

kind_only : (name : Name) (a : Kind) → kind_named name ≡ Some a → name ≡ kind_word a
unfolding kind_named
kind_only name a e =
    tried kind_word name (codes "passive") Passive _ a refl
    (tried kind_word name (codes "active") Active _ a refl
    (tried kind_word name (codes "protected") Protected _ a refl
    (tried kind_word name (codes "cyclic") Cyclic _ a refl
    (tried kind_word name (codes "sporadic") Sporadic None a refl (λ h. absurd (cc)) _ refl) _ refl) _ refl) _ refl) _ refl e

kind_sees : (a : Kind) → kind_named (kind_word a) ≡ Some a
unfolding kind_named
kind_sees Passive = refl
kind_sees Active = refl
kind_sees Protected = refl
kind_sees Cyclic = refl
kind_sees Sporadic = refl

pub reads-kind : Reads (IsWordOf kind_word) Any (named_at kind_named)
reads-kind = reads-named kind_named kind_word kind_only kind_sees Passive

constraint_only : (name : Name) (a : Constraint) → constraint_named name ≡ Some a → name ≡ constraint_word a
unfolding constraint_named
constraint_only name a e =
    tried constraint_word name (codes "aser") Aser _ a refl
    (tried constraint_word name (codes "hser") Hser _ a refl
    (tried constraint_word name (codes "pser") Pser _ a refl
    (tried constraint_word name (codes "paer") Paer None a refl (λ h. absurd (cc)) _ refl) _ refl) _ refl) _ refl e

constraint_sees : (a : Constraint) → constraint_named (constraint_word a) ≡ Some a
unfolding constraint_named
constraint_sees Aser = refl
constraint_sees Hser = refl
constraint_sees Pser = refl
constraint_sees Paer = refl

reads-a_constraint : Reads (IsWordOf constraint_word) Any (named_at constraint_named)
reads-a_constraint = reads-named constraint_named constraint_word constraint_only constraint_sees Aser

key_only : (name : Name) (a : AttrKey) → key_named name ≡ Some a → name ≡ key_word a
unfolding key_named
key_only name a e =
    tried key_word name (codes "period") Period _ a refl
    (tried key_word name (codes "offset") Offset _ a refl
    (tried key_word name (codes "separation") Separation _ a refl
    (tried key_word name (codes "deadline") Deadline _ a refl
    (tried key_word name (codes "thread_budget") ThreadBudget _ a refl
    (tried key_word name (codes "arrival_jitter") ArrivalJitter None a refl (λ h. absurd (cc)) _ refl) _ refl) _ refl) _ refl) _ refl) _ refl e

key_sees : (a : AttrKey) → key_named (key_word a) ≡ Some a
unfolding key_named
key_sees Period = refl
key_sees Offset = refl
key_sees Separation = refl
key_sees Deadline = refl
key_sees ThreadBudget = refl
key_sees ArrivalJitter = refl

reads-key : Reads (IsWordOf key_word) Any (named_at key_named)
reads-key = reads-named key_named key_word key_only key_sees Period

unit_only : (name : Name) (a : TickUnit) → unit_named name ≡ Some a → name ≡ unit_word a
unfolding unit_named
unit_only name a e =
    tried unit_word name (codes "us") Us _ a refl
    (tried unit_word name (codes "ms") Ms _ a refl
    (tried unit_word name (codes "s") S None a refl (λ h. absurd (cc)) _ refl) _ refl) _ refl e

unit_sees : (a : TickUnit) → unit_named (unit_word a) ≡ Some a
unfolding unit_named
unit_sees Us = refl
unit_sees Ms = refl
unit_sees S = refl

pub reads-a_unit : Reads (IsWordOf unit_word) Any (named_at unit_named)
reads-a_unit = reads-named unit_named unit_word unit_only unit_sees Us

mode_only : (name : Name) (a : Mode) → mode_named name ≡ Some a → name ≡ mode_word a
unfolding mode_named
mode_only name a e =
    tried mode_word name (codes "in") In _ a refl (tried mode_word name (codes "out") Out None a refl (λ h. absurd (cc)) _ refl) _ refl e

mode_sees : (a : Mode) → mode_named (mode_word a) ≡ Some a
unfolding mode_named
mode_sees In = refl
mode_sees Out = refl

reads-mode : Reads (IsWordOf mode_word) Any (named_at mode_named)
reads-mode = reads-named mode_named mode_word mode_only mode_sees In

-- some word is a name
pub reads-design_name : Reads (IsName is_design_name) Any design_name_at
unfolding is_design_name
reads-design_name = reads-name is_design_name (codes "a") refl

-- COSTS
abbrev pub cost_tokens : List ℕ → ℕ → List Token
cost_tokens statement n = Word statement ∷ Sign Equal ∷ Number n ∷ Sign Semicolon ∷ []

reads-cost : (statement : List ℕ) → Reads (λ n text. text ≡ cost_tokens statement n) Any (cost_at statement)
unfolding cost_at
reads-cost statement = reads-same _ (λ n text. text ≡ cost_tokens statement n) Any (cost_at statement)
    (λ n text g.
    let a = g.after in let b = a.after in let d = b.after in
    rw (d.after.0, g.whole, g.before, a.whole, a.before, b.whole, b.before, d.whole, d.before, d.after.1) refl)
    (λ n text h. rw h (joins-fixed _ (Word statement) n _
    (joins-fixed _ (Sign Equal) n _ (joins-number _ n n _ (joins-fixed _ (Sign Semicolon) n [] (refl, refl))))))
    (andthen (reads-fixed (Word statement)) (λ _. andthen (reads-fixed (Sign Equal))
    (λ _. andthen reads-number (λ n. andthen (reads-fixed (Sign Semicolon)) (λ _. reads-pure Any n (λ _. tt))))))

abbrev pub cost_list_tokens : Costs → List Token
cost_list_tokens =
    all_costs cost_tokens (codes "assign") (codes "test") (codes "turn") (codes "call") (codes "null") (codes "put") (codes "finish")

reads-cost_list : Reads (λ c text. text ≡ cost_list_tokens c) Any cost_list_at
unfolding cost_list_at
reads-cost_list =
    reads-all_costs cost_tokens (codes "assign") (codes "test") (codes "turn") (codes "call") (codes "null") (codes "put") (codes "finish")
    cost_at reads-cost

abbrev pub costs_tokens : Costs → List Token
costs_tokens c = Word (codes "costs") ∷ (cost_list_tokens c ++ (end_tokens (codes "costs") ++ []))

pub reads-costs : Reads (λ c text. text ≡ costs_tokens c) Any costs_at
unfolding costs_at
reads-costs = reads-same _ (λ c text. text ≡ costs_tokens c) Any costs_at
    (λ c text g. let a = g.after in let b = a.after in rw (b.after.0, g.whole, g.before, a.whole, a.before, b.whole, b.before, b.after.1) refl)
    (λ c text h. rw h (joins-fixed _ (Word (codes "costs")) c _ (joins-part _ c (cost_list_tokens c) c _ refl
    (joins-phrase _ (end_tokens (codes "costs")) c [] (refl, refl)))))
    (andthen (reads-fixed (Word (codes "costs")))
    (λ _. andthen reads-cost_list (λ c. andthen (reads-phrase (end_tokens (codes "costs"))) (λ _. reads-pure Any c (λ _. tt)))))

-- ATTRIBUTES
abbrev pub unit_tokens : Option TickUnit → List Token
unit_tokens None = []
unit_tokens (Some u) = Word (unit_word u) ∷ []

-- an attribute with this unit alone
abbrev with_unit : Option TickUnit → Attr
with_unit u = record { key = Period; value = 0; unit = u }

abbrev IsUnit : Option VersionTwo → Option TickUnit → List Token → Type 0
IsUnit v u text = IsProperAttribute v (with_unit u) × (text ≡ unit_tokens u)

abbrev EndsUnit : Bool → Option TickUnit → Option Token → Type 0
EndsUnit units None o = next_is_unit units o ≡ false
EndsUnit units (Some u) o = Unit {0}

-- a unit that is there
abbrev IsStated : Option TickUnit → List Token → Type 0
IsStated u text = (k : TickUnit) × (u ≡ Some k) × (text ≡ Word (unit_word k) ∷ [])

reads-stated : Reads IsStated Any (then_at (named_at unit_named) (λ u. pure_at (Some u)))
reads-stated = reads-same _ IsStated Any (then_at (named_at unit_named) (λ u. pure_at (Some u)))
    (λ u text g. (g.a, g.after.0, rw (g.whole, g.before, g.after.1) refl))
    (λ u text h. rw h.2 (joins-part _ h.0 (Word (unit_word h.0) ∷ []) u [] refl (h.1, refl)))
    (andthen reads-a_unit (λ u. reads-pure Any (Some u) (λ _. tt)))

reads-unit : (v : Option VersionTwo) → Reads (IsUnit v) (EndsUnit (is_some v)) (unit_at (is_some v))
unfolding unit_at unit_named
reads-unit None = reads-equal (unit_at false) (λ ts. refl)
    (reads-same (IsOnly None) (IsUnit None) (EndsUnit false) (pure_at None)
    (λ u text g. (g.0, rw (g.0, g.1) refl)) (λ u text h. (h.0, h.1 ∙ ap unit_tokens h.0)) (reads-pure (EndsUnit false) None (λ o. refl)))
reads-unit (Some v) = reads-same _ (IsUnit (Some v)) (EndsUnit true) (unit_at true) to back
    (reads-optional (next_is_unit true) IsStated Any (EndsUnit true) (then_at (named_at unit_named) (λ u. pure_at (Some u))) reads-stated None
    (λ u text rest h. rw (h.2, unit_sees h.0) refl) (λ u text o h s. ends u text o h) (λ u text o h s. tt) (λ o t. t) (λ o t. t))
  where
    ends : (u : Option TickUnit) (text : List Token) (o : Option Token) → IsStated u text → EndsUnit true u o
    ends None text o h = absurd (let no = h.1 in cc)
    ends (Some u) text o h = tt

    to : (u : Option TickUnit) (text : List Token) → IsStated u text ⊎ IsOnly None u text → IsUnit (Some v) u text
    to u text e = elim e [ inl h ↦ (tt, rw (h.1, h.2) refl) | inr h ↦ (tt, rw (h.0, h.1) refl) ]

    back : (u : Option TickUnit) (text : List Token) → IsUnit (Some v) u text → IsStated u text ⊎ IsOnly None u text
    back None text h = inr (refl, h.1)
    back (Some u) text h = inl (u, refl, h.1)

-- an attribute
abbrev pub attribute_tokens : Attr → List Token
attribute_tokens a = Word (key_word a.key) ∷ Sign Equal ∷ Number a.value ∷ (unit_tokens a.unit ++ Sign Semicolon ∷ [])

unit_alone : (v : Option VersionTwo) (a b : Attr) → a.unit ≡ b.unit → IsProperAttribute v a → IsProperAttribute v b
unit_alone None a b e h = sym e ∙ h
unit_alone (Some v) a b e h = tt

unit_ends : (v : Option VersionTwo) (u : Option TickUnit) → EndsUnit (is_some v) u (Some (Sign Semicolon))
unit_ends None None = refl
unit_ends (Some v) None = refl
unit_ends v (Some u) = tt

pub reads-attribute : (v : Option VersionTwo) → Reads (IsSpelled (IsProperAttribute v) attribute_tokens) Any (attribute_at (is_some v))
unfolding attribute_at
reads-attribute v = reads-same _ (IsSpelled (IsProperAttribute v) attribute_tokens) Any (attribute_at (is_some v))
    (λ a text g1.
    let g2 = g1.after in let g3 = g2.after in let g4 = g3.after in let g5 = g4.after in
    let P : Attr → Type 0 = λ b. IsSpelled (IsProperAttribute v) attribute_tokens b text in
    subst P (sym g5.after.0) (
      unit_alone v (with_unit g4.a) (record { key = g1.a; value = g3.a; unit = g4.a }) refl g4.before.0,
      rw (g1.whole, g1.before, g2.whole, g2.before, g3.whole, g3.before, g4.whole, g4.before.1, g5.whole, g5.before, g5.after.1) refl,
    ))
    (λ a text h.
    rw h.1 (joins-part _ a.key (Word (key_word a.key) ∷ []) a _ refl (joins-fixed _ (Sign Equal) a _ (joins-number _ a.value a _
    (joins-part _ a.unit (unit_tokens a.unit) a _ (unit_alone v a (with_unit a.unit) refl h.0, refl)
    (joins-fixed _ (Sign Semicolon) a [] (refl, refl)))))))
    (andthen reads-key (λ key. andthen (reads-fixed (Sign Equal))
    (λ _. andthen reads-number (λ n. before-token (Sign Semicolon) (unit_ends v) (reads-unit v) (λ u.
    reads-pure Any (record { key = key; value = n; unit = u }) (λ _. tt))))))

starts_attribute : (a : Attr) (rest : List Token) → next_by key_named (first (attribute_tokens a ++ rest)) ≡ true
starts_attribute a rest = rw (key_sees a.key) refl

pub reads-attributes : (v : Option VersionTwo) → Reads (λ xs text. Each (IsProperAttribute v) xs
    × (text ≡ section_tokens (codes "attributes") attribute_tokens xs)) (EndsSection (codes "attributes") (next_by key_named))
    (attributes_at (is_some v))
unfolding attributes_at attribute_list_at
reads-attributes v =
    reads-section (IsProperAttribute v) attribute_tokens (next_by key_named) (attribute_at (is_some v)) (reads-attribute v)
    (λ a rest h. starts_attribute a rest) (λ a. omega arith) refl
    (codes "attributes") (attribute_list_at (is_some v)) (reads-some (IsProperAttribute v) attribute_tokens (next_by key_named)
    (attribute_at (is_some v)) (reads-attribute v) (λ a rest h. starts_attribute a rest) (λ a. omega arith) refl)

-- PARAMETERS AND PROVIDED OPERATIONS
abbrev pub param_tokens : Param → List Token
param_tokens p = Word p.name ∷ Sign Colon ∷ Word (mode_word p.mode) ∷ Word (codes "word") ∷ []

abbrev pub more_tokens : Param → List Token
more_tokens p = Sign Semicolon ∷ param_tokens p

abbrev pub params_tokens : List Param → List Token
params_tokens [] = []
params_tokens (p ∷ ps) = Sign LeftParen ∷ (param_tokens p ++ (flat_map more_tokens ps ++ Sign RightParen ∷ []))

abbrev pub IsNamedParam : Param → Type 0
IsNamedParam p = is_design_name p.name ≡ true

reads-param : Reads (IsSpelled IsNamedParam param_tokens) Any param_at
unfolding param_at
reads-param = reads-same _ (IsSpelled IsNamedParam param_tokens) Any param_at
    (λ p text g1.
    let g2 = g1.after in let g3 = g2.after in let g4 = g3.after in
    let P : Param → Type 0 = λ q. IsSpelled IsNamedParam param_tokens q text in
    subst P (sym g4.after.0) (
      g1.before.0,
      rw
          (g1.whole, g1.before.1, g2.whole, g2.before, g3.whole, g3.before, g4.whole, g4.before, g4.after.1) refl,
    ))
    (λ p text h. rw h.1 (joins-name is_design_name _ p.name p _ h.0
    (joins-fixed _ (Sign Colon) p _ (joins-part _ p.mode (Word (mode_word p.mode) ∷ []) p _ refl
    (joins-fixed _ (Word (codes "word")) p [] (refl, refl))))))
    (andthen reads-design_name (λ name. andthen (reads-fixed (Sign Colon))
    (λ _. andthen reads-mode (λ mode. andthen (reads-fixed (Word (codes "word")))
    (λ _. reads-pure Any (record { name = name; mode = mode }) (λ _. tt))))))

pub reads-more_param : Reads (IsSpelled IsNamedParam more_tokens) Any more_param_at
unfolding more_param_at
reads-more_param = reads-same _ (IsSpelled IsNamedParam more_tokens) Any more_param_at
    (λ p text g. (g.after.0, rw (g.whole, g.before, g.after.1) refl))
    (λ p text h. rw h.1 (joins-fixed _ (Sign Semicolon) p _ (h.0, refl)))
    (andthen (reads-fixed (Sign Semicolon)) (λ _. reads-param))

-- whether parameters end
abbrev EndsParams : List Param → Option Token → Type 0
EndsParams ps o = next_is (Sign Semicolon) o ≡ false

pub reads-more_params : Reads (λ ps text. Each IsNamedParam ps × (text ≡ flat_map more_tokens ps)) EndsParams
    (many_at (next_is (Sign Semicolon)) more_param_at)
reads-more_params = reads-spelled IsNamedParam more_tokens (next_is (Sign Semicolon)) more_param_at reads-more_param (λ p rest h. refl)
    (λ p. omega arith) refl

-- parameters, one at least
abbrev AreListed : List Param → List Token → Type 0
AreListed xs text = (p : Param) × (ps : List Param) × (xs ≡ p ∷ ps) × IsNamedParam p × Each IsNamedParam ps
    × (text ≡ param_tokens p ++ flat_map more_tokens ps)

-- parameters that begin with this one
abbrev AreBehind : Param → List Param → List Token → Type 0
AreBehind p xs text = (ps : List Param) × (xs ≡ p ∷ ps) × Each IsNamedParam ps × (text ≡ flat_map more_tokens ps)

reads-params_behind : (p : Param)
    → Reads (AreBehind p) EndsParams (then_at (many_at (next_is (Sign Semicolon)) more_param_at) (λ ps. pure_at (p ∷ ps)))
reads-params_behind p = reads-map (λ ps text. Each IsNamedParam ps × (text ≡ flat_map more_tokens ps)) (AreBehind p) EndsParams EndsParams
    (many_at (next_is (Sign Semicolon)) more_param_at) (λ ps. p ∷ ps) reads-more_params
    (λ ps text g. (ps, refl, g.0, g.1)) (λ xs text h. (h.0, (h.2, h.3), sym h.1)) (λ ps o h. h) (λ ps o h. h)

reads-param_list : Reads AreListed EndsParams param_list_at
unfolding param_list_at
reads-param_list = reads-same _ AreListed EndsParams param_list_at
    (λ xs text g. let b = g.after in (g.a, b.0, b.1, g.before.0, b.2, rw (g.whole, g.before.1, b.3) refl))
    (λ xs text h. record {
      a = h.0;
      front = param_tokens h.0;
      back = flat_map more_tokens h.1;
      before = (h.3, refl);
      after = (h.1, h.2, h.4, refl);
      whole = h.5;
    })
    (andthen reads-param reads-params_behind)

-- parameters in parentheses
abbrev AreEnclosed : List Param → List Token → Type 0
AreEnclosed xs text = (p : Param) × (ps : List Param) × (xs ≡ p ∷ ps) × IsNamedParam p × Each IsNamedParam ps
    × (text ≡ Sign LeftParen ∷ (param_tokens p ++ (flat_map more_tokens ps ++ Sign RightParen ∷ [])))

reads-enclosed : Reads AreEnclosed Any enclosed_at
unfolding enclosed_at
reads-enclosed = reads-same _ AreEnclosed Any enclosed_at
    (λ xs text g1.
    let g2 = g1.after in let g3 = g2.after in let b = g2.before in
    (b.0, b.1, g3.after.0 ∙ b.2, b.3, b.4, rw (g1.whole, g1.before, g2.whole, b.5, g3.whole, g3.before, g3.after.1) refl))
    (λ xs text h.
    rw h.5 (joins-fixed _ (Sign LeftParen) xs _ (joins-part _ xs (param_tokens h.0 ++ flat_map more_tokens h.1) xs _ (h.0, h.1, h.2, h.3, h.4, refl)
    (joins-fixed _ (Sign RightParen) xs [] (refl, refl)))))
    (andthen (reads-fixed (Sign LeftParen)) (λ _. before-token (Sign RightParen) (λ ps. refl) reads-param_list (λ ps. reads-pure Any ps (λ _. tt))))

abbrev pub AreParams : List Param → List Token → Type 0
AreParams ps text = Each IsNamedParam ps × (text ≡ params_tokens ps)

abbrev EndsOpening : List Param → Option Token → Type 0
EndsOpening [] o = next_is (Sign LeftParen) o ≡ false
EndsOpening (p ∷ ps) o = Unit {0}

opening_ends : (xs : List Param) (text : List Token) (o : Option Token) → AreEnclosed xs text → EndsOpening xs o
opening_ends [] text o h = absurd (let no = h.2 in cc)
opening_ends (p ∷ ps) text o h = tt

params_to : (xs : List Param) (text : List Token) → AreEnclosed xs text ⊎ IsOnly [] xs text → AreParams xs text
params_to xs text e = elim e [
  | inl h ↦ let P : List Param → Type 0 = λ ys. AreParams ys text in subst P (sym h.2) ((h.3, h.4), h.5)
  | inr h ↦ let P : List Param → Type 0 = λ ys. AreParams ys text in subst P (sym h.0) (tt, h.1)
]

params_back : (xs : List Param) (text : List Token) → AreParams xs text → AreEnclosed xs text ⊎ IsOnly [] xs text
params_back [] text h = inr (refl, h.1)
params_back (p ∷ ps) text h = inl (p, ps, refl, h.0.0, h.0.1, h.1)

pub reads-params : Reads AreParams EndsOpening params_at
unfolding params_at
reads-params = reads-same _ AreParams EndsOpening params_at params_to params_back
    (reads-optional (next_is (Sign LeftParen)) AreEnclosed Any EndsOpening enclosed_at reads-enclosed [] (λ xs text rest h. rw h.5 refl)
    (λ xs text o h s. opening_ends xs text o h) (λ xs text o h s. tt) (λ o t. t) (λ o t. t))

abbrev pub constraint_tokens : Option Constraint → List Token
constraint_tokens None = []
constraint_tokens (Some c) = Word (constraint_word c) ∷ []

abbrev IsConstraint : Option Constraint → List Token → Type 0
IsConstraint c text = text ≡ constraint_tokens c

abbrev EndsConstraint : Option Constraint → Option Token → Type 0
EndsConstraint None o = next_by constraint_named o ≡ false
EndsConstraint (Some c) o = Unit {0}

abbrev IsConstrained : Option Constraint → List Token → Type 0
IsConstrained c text = (k : Constraint) × (c ≡ Some k) × (text ≡ Word (constraint_word k) ∷ [])

reads-constrained : Reads IsConstrained Any (then_at (named_at constraint_named) (λ c. pure_at (Some c)))
reads-constrained = reads-same _ IsConstrained Any (then_at (named_at constraint_named) (λ c. pure_at (Some c)))
    (λ c text g. (g.a, g.after.0, rw (g.whole, g.before, g.after.1) refl))
    (λ c text h. rw h.2 (joins-part _ h.0 (Word (constraint_word h.0) ∷ []) c [] refl (h.1, refl)))
    (andthen reads-a_constraint (λ c. reads-pure Any (Some c) (λ _. tt)))

constraint_ends : (c : Option Constraint) (text : List Token) (o : Option Token) → IsConstrained c text → EndsConstraint c o
constraint_ends None text o h = absurd (let no = h.1 in cc)
constraint_ends (Some c) text o h = tt

constraint_to : (c : Option Constraint) (text : List Token) → IsConstrained c text ⊎ IsOnly None c text → IsConstraint c text
constraint_to c text e = elim e [ inl h ↦ rw (h.1, h.2) refl | inr h ↦ rw (h.0, h.1) refl ]

constraint_back : (c : Option Constraint) (text : List Token) → IsConstraint c text → IsConstrained c text ⊎ IsOnly None c text
constraint_back None text h = inr (refl, h)
constraint_back (Some c) text h = inl (c, refl, h)

pub reads-constraint : Reads IsConstraint EndsConstraint constraint_at
unfolding constraint_at
reads-constraint = reads-same _ IsConstraint EndsConstraint constraint_at constraint_to constraint_back
    (reads-optional (next_by constraint_named) IsConstrained Any EndsConstraint (then_at (named_at constraint_named) (λ c. pure_at (Some c)))
    reads-constrained None
    (λ c text rest h. rw (h.2, constraint_sees h.0) refl) (λ c text o h s. constraint_ends c text o h) (λ c text o h s. tt) (λ o t. t) (λ o t. t))

-- a provided operation
abbrev pub IsProvided : Provided → Type 0
IsProvided p = (is_design_name p.sig.name ≡ true) × Each IsNamedParam p.sig.params

abbrev pub provided_tokens : Provided → List Token
provided_tokens p = Word p.sig.name ∷ (params_tokens p.sig.params ++ (constraint_tokens p.constraint ++ Sign Semicolon ∷ []))

constraint_stops : (c : Option Constraint) → EndsConstraint c (Some (Sign Semicolon))
constraint_stops None = refl
constraint_stops (Some c) = tt

opening_stops : (ps : List Param) (c : Option Constraint) (rest : List Token) → EndsOpening ps (first (constraint_tokens c ++ Sign Semicolon ∷ rest))
opening_stops [] None rest = refl
opening_stops [] (Some c) rest = refl
opening_stops (p ∷ ps) c rest = tt

pub reads-provided : Reads (IsSpelled IsProvided provided_tokens) Any provided_at
unfolding provided_at
reads-provided = reads-same _ (IsSpelled IsProvided provided_tokens) Any provided_at
    (λ p text g1.
    let g2 = g1.after in let g3 = g2.after in let g4 = g3.after in
    let P : Provided → Type 0 = λ q. IsSpelled IsProvided provided_tokens q text in
    subst P (sym g4.after.0) (
      (g1.before.0, g2.before.0),
      rw
          (g1.whole, g1.before.1, g2.whole, g2.before.1, g3.whole, g3.before, g4.whole, g4.before, g4.after.1) refl,
    ))
    (λ p text h.
    rw h.1 (joins-name is_design_name _ p.sig.name p _ h.0.0 (joins-part _ p.sig.params (params_tokens p.sig.params) p _ (h.0.1, refl)
    (joins-part _ p.constraint (constraint_tokens p.constraint) p _ refl (joins-fixed _ (Sign Semicolon) p [] (refl, refl))))))
    (andthen reads-design_name (λ name. reads-then AreParams _ EndsOpening Any params_at _ reads-params
    (λ params. before-token (Sign Semicolon) constraint_stops reads-constraint
    (λ c. reads-pure Any (record { sig = record { name = name; params = params }; constraint = c }) (λ _. tt)))
    (λ ps p back rest h stop. rw (h.whole, h.before, h.after.whole, h.after.before, append_assoc) (opening_stops ps h.a (h.after.back ++ rest)))))

pub reads-provides : Reads (λ xs text. Each IsProvided xs × (text ≡ section_tokens (codes "provides") provided_tokens xs))
    (EndsSection (codes "provides") next_is_design_name) provides_at
unfolding provides_at provided_list_at next_is_name
reads-provides =
    reads-section IsProvided provided_tokens next_is_design_name provided_at reads-provided (λ p rest h. h.0) (λ p. omega arith) refl
    (codes "provides") provided_list_at (reads-some IsProvided provided_tokens next_is_design_name provided_at reads-provided (λ p rest h. h.0)
    (λ p. omega arith) refl)

-- REQUIRED OPERATIONS
abbrev pub IsOpName : OpName → Type 0
IsOpName o = (is_design_name o.object ≡ true) × (is_design_name o.op ≡ true)

abbrev pub op_name_tokens : OpName → List Token
op_name_tokens o = Word o.object ∷ Sign Dot ∷ Word o.op ∷ []

reads-op_name : Reads (IsSpelled IsOpName op_name_tokens) Any op_name_at
unfolding op_name_at
reads-op_name = reads-same _ (IsSpelled IsOpName op_name_tokens) Any op_name_at
    (λ o text g1.
    let g2 = g1.after in let g3 = g2.after in
    let P : OpName → Type 0 = λ q. IsSpelled IsOpName op_name_tokens q text in
    subst P (sym g3.after.0) ((g1.before.0, g3.before.0), rw (g1.whole, g1.before.1, g2.whole, g2.before, g3.whole, g3.before.1, g3.after.1) refl))
    (λ o text h. rw h.1 (joins-name is_design_name _ o.object o _ h.0.0
    (joins-fixed _ (Sign Dot) o _ (joins-name is_design_name _ o.op o [] h.0.1 (refl, refl)))))
    (andthen reads-design_name (λ object. andthen (reads-fixed (Sign Dot))
    (λ _. andthen reads-design_name (λ op. reads-pure Any (record { object = object; op = op }) (λ _. tt)))))

abbrev pub needed_tokens : OpName → List Token
needed_tokens o = op_name_tokens o ++ Sign Semicolon ∷ []

pub reads-needed : Reads (IsSpelled IsOpName needed_tokens) Any needed_at
unfolding needed_at
reads-needed = reads-same _ (IsSpelled IsOpName needed_tokens) Any needed_at
    (λ o text g1.
    let g2 = g1.after in
    let P : OpName → Type 0 = λ q. IsSpelled IsOpName needed_tokens q text in
    subst P (sym g2.after.0) (g1.before.0, rw (g1.whole, g1.before.1, g2.whole, g2.before, g2.after.1) refl))
    (λ o text h. rw h.1 (joins-part _ o (op_name_tokens o) o _ (h.0, refl) (joins-fixed _ (Sign Semicolon) o [] (refl, refl))))
    (andthen reads-op_name (λ o. andthen (reads-fixed (Sign Semicolon)) (λ _. reads-pure Any o (λ _. tt))))

pub reads-requires : Reads (λ xs text. Each IsOpName xs × (text ≡ section_tokens (codes "requires") needed_tokens xs))
    (EndsSection (codes "requires") next_is_design_name) requires_at
unfolding requires_at needed_list_at next_is_name
reads-requires =
    reads-section IsOpName needed_tokens next_is_design_name needed_at reads-needed (λ o rest h. h.0) (λ o. omega arith) refl
    (codes "requires") needed_list_at (reads-some IsOpName needed_tokens next_is_design_name needed_at reads-needed (λ o rest h. h.0)
    (λ o. omega arith) refl)

-- DATA
abbrev pub IsDatum : Datum → Type 0
IsDatum = variables.IsDatum is_design_name

pub reads-datum : Reads (IsSpelled IsDatum datum_tokens) Any datum_at
unfolding datum_at is_design_name
reads-datum = variables.reads-datum is_design_name (codes "a") refl

-- whether no name follows
abbrev EndsData : List Datum → Option Token → Type 0
EndsData ds o = next_is_design_name o ≡ false

pub reads-locals : Reads (λ ds text. Each IsDatum ds × (text ≡ flat_map datum_tokens ds)) EndsData locals_at
unfolding locals_at is_design_name
reads-locals = variables.reads-data is_design_name (codes "a") refl

pub reads-data : Reads (λ xs text. Each IsDatum xs × (text ≡ section_tokens (codes "data") datum_tokens xs))
    (EndsSection (codes "data") next_is_design_name) data_at
unfolding data_at datum_list_at next_is_name
reads-data =
    reads-section IsDatum datum_tokens next_is_design_name datum_at reads-datum (λ d rest h. h) (λ d. omega arith) refl
    (codes "data") datum_list_at (reads-some IsDatum datum_tokens next_is_design_name datum_at reads-datum (λ d rest h. h) (λ d. omega arith) refl)

begin_ends_data : (ds : List Datum) → EndsData ds (Some (Word (codes "begin")))
unfolding next_is_name is_design_name
begin_ends_data ds = refl

-- LINKS
abbrev pub IsLink : Link → Type 0
IsLink k = (is_design_name k.op ≡ true) × IsOpName k.to

abbrev pub link_tokens : Link → List Token
link_tokens k = Word k.op ∷ Word (codes "by") ∷ (op_name_tokens k.to ++ Sign Semicolon ∷ [])

pub reads-link : Reads (IsSpelled IsLink link_tokens) Any link_at
unfolding link_at
reads-link = reads-same _ (IsSpelled IsLink link_tokens) Any link_at
    (λ k text g1.
    let g2 = g1.after in let g3 = g2.after in let g4 = g3.after in
    let P : Link → Type 0 = λ q. IsSpelled IsLink link_tokens q text in
    subst P (sym g4.after.0) (
      (g1.before.0, g3.before.0),
      rw
          (g1.whole, g1.before.1, g2.whole, g2.before, g3.whole, g3.before.1, g4.whole, g4.before, g4.after.1) refl,
    ))
    (λ k text h.
    rw h.1 (joins-name is_design_name _ k.op k _ h.0.0 (joins-fixed _ (Word (codes "by")) k _
    (joins-part _ k.to (op_name_tokens k.to) k _ (h.0.1, refl) (joins-fixed _ (Sign Semicolon) k [] (refl, refl))))))
    (andthen reads-design_name (λ op. andthen (reads-fixed (Word (codes "by")))
    (λ _. andthen reads-op_name (λ to. andthen (reads-fixed (Sign Semicolon)) (λ _.
    reads-pure Any (record { op = op; to = to }) (λ _. tt))))))

pub reads-implements : Reads (λ xs text. Each IsLink xs × (text ≡ section_tokens (codes "implements") link_tokens xs))
    (EndsSection (codes "implements") next_is_design_name) implements_at
unfolding implements_at link_list_at next_is_name
reads-implements =
    reads-section IsLink link_tokens next_is_design_name link_at reads-link (λ k rest h. h.0) (λ k. omega arith) refl
    (codes "implements") link_list_at (reads-some IsLink link_tokens next_is_design_name link_at reads-link (λ k rest h. h.0) (λ k. omega arith) refl)

-- BODIES AND THREADS, over a reader of blocks
abbrev pub EndsBlock : Statements → Option Token → Type 0
EndsBlock b o = begins_statement is_design_name o ≡ false

end_ends_block : (b : Statements) (name : Name) (rest : List Token) → EndsBlock b (first (end_tokens name ++ rest))
unfolding begins_statement kind_of next_is_name is_design_name
end_ends_block b name rest = refl

-- a block within limits, at a nesting
abbrev pub IsBlock : Limits → ℕ → Statements → List Token → Type 0
IsBlock l d b text = IsProperBlock l d b × (text ≡ block_toks b)

abbrev pub body_tokens : Body → List Token
body_tokens b =
    Word (codes "operation") ∷ Word b.name ∷ Word (codes "is") ∷ (flat_map datum_tokens b.locals ++ Word (codes "begin")
    ∷ (block_toks b.block ++ end_tokens b.name))

abbrev pub IsBody : Limits → ℕ → Body → Type 0
IsBody l d b = (is_design_name b.name ≡ true) × Each IsDatum b.locals × IsProperBlock l d b.block

-- the thread, where there is one
abbrev pub thread_tokens : Option Statements → List Token
thread_tokens None = []
thread_tokens (Some b) = Word (codes "thread") ∷ (block_toks b ++ end_tokens (codes "thread"))

abbrev pub EndsThread : Option Statements → Option Token → Type 0
EndsThread None o = next_is (Word (codes "thread")) o ≡ false
EndsThread (Some b) o = Unit {0}

module _ (l : Limits) (d : ℕ) (block : BlockReader) (blocks : Reads (IsBlock l d) EndsBlock block) where
  -- a block and the end behind it
  reads-ended : {B : Type 0} (name : Name) (f : Statements → B)
      → Reads (Joined (IsBlock l d) (λ b. Joined (IsPhrase (end_tokens name)) (λ _. IsOnly (f b)))) Any
      (then_at block (λ b. then_at (end_at name) (λ _. pure_at (f b))))
  reads-ended name f = reads-then (IsBlock l d) (λ b. Joined (IsPhrase (end_tokens name)) (λ _. IsOnly (f b))) EndsBlock Any block
      (λ b. then_at (end_at name) (λ _. pure_at (f b))) blocks
      (λ b. andthen (reads-phrase (end_tokens name)) (λ _. reads-pure Any (f b) (λ _. tt)))
      (λ b c back rest h stop. rw (h.whole, h.before) (end_ends_block b name (h.back ++ rest)))

  pub reads-body : Reads (IsSpelled (IsBody l d) body_tokens) Any (body_at block)
  unfolding body_at
  reads-body = reads-same _ (IsSpelled (IsBody l d) body_tokens) Any (body_at block)
      (λ b text g1.
      let g2 = g1.after in let g3 = g2.after in let g4 = g3.after in let g5 = g4.after in let g6 = g5.after in let g7 = g6.after in
      let P : Body → Type 0 = λ q. IsSpelled (IsBody l d) body_tokens q text in
      subst P (sym g7.after.0) (
        (g2.before.0, g4.before.0, g6.before.0),
        rw (
          g1.whole,
          g1.before,
          g2.whole,
          g2.before.1,
          g3.whole,
          g3.before,
          g4.whole,
          g4.before.1,
          g5.whole,
          g5.before,
          g6.whole,
          g6.before.1,
          g7.whole,
          g7.before,
          g7.after.1,
        ) refl,
      ))
      (λ b text h.
      rw h.1 (joins-fixed _ (Word (codes "operation")) b _ (joins-name is_design_name _ b.name b _ h.0.0 (joins-fixed _ (Word (codes "is")) b _
      (joins-part _ b.locals (flat_map datum_tokens b.locals) b _ (h.0.1, refl) (joins-fixed _ (Word (codes "begin")) b _
      (joins-part _ b.block (block_toks b.block) b _ (h.0.2, refl) (joins-phrase _ (end_tokens b.name) b [] (refl, refl)))))))))
      (andthen (reads-fixed (Word (codes "operation"))) (λ _. andthen reads-design_name (λ name. andthen (reads-fixed (Word (codes "is"))) (λ _.
      before-token (Word (codes "begin")) begin_ends_data reads-locals
      (λ locals. reads-ended name (λ b. record { name = name; locals = locals; block = b }))))))

  pub reads-bodies : Reads (λ bs text. Each (IsBody l d) bs × (text ≡ flat_map body_tokens bs)) (λ bs o. next_is (Word (codes "operation")) o
      ≡ false) (bodies_at block)
  unfolding bodies_at
  reads-bodies = reads-spelled (IsBody l d) body_tokens (next_is (Word (codes "operation"))) (body_at block) reads-body (λ b rest h. refl)
      (λ b. omega arith) refl

  abbrev IsActivation : Option Statements → List Token → Type 0
  IsActivation t text = (b : Statements) × (t ≡ Some b) × IsProperBlock l d b
      × (text ≡ Word (codes "thread") ∷ (block_toks b ++ end_tokens (codes "thread")))

  reads-activation : Reads IsActivation Any (activation_at block)
  unfolding activation_at
  reads-activation = reads-same _ IsActivation Any (activation_at block)
      (λ t text g1. let g2 = g1.after in let g3 = g2.after
      in (g2.a, g3.after.0, g2.before.0, rw (g1.whole, g1.before, g2.whole, g2.before.1, g3.whole, g3.before, g3.after.1) refl))
      (λ t text h.
      rw h.3 (joins-fixed _ (Word (codes "thread")) t _ (joins-part _ h.0 (block_toks h.0) t _ (h.2, refl)
      (joins-phrase _ (end_tokens (codes "thread")) t [] (h.1, refl)))))
      (andthen (reads-fixed (Word (codes "thread"))) (λ _. reads-ended (codes "thread") Some))

  thread_ends : (t : Option Statements) (text : List Token) (o : Option Token) → IsActivation t text → EndsThread t o
  thread_ends None text o h = absurd (let no = h.1 in cc)
  thread_ends (Some b) text o h = tt

  thread_to : (t : Option Statements) (text : List Token) → IsActivation t text ⊎ IsOnly None t text → IsProperThread l d t × (text ≡ thread_tokens t)
  thread_to t text e =
      let P : Option Statements → Type 0 = λ u. IsProperThread l d u × (text ≡ thread_tokens u) in
      elim e [ inl h ↦ subst P (sym h.1) (h.2, h.3) | inr h ↦ subst P (sym h.0) (tt, h.1) ]

  thread_back : (t : Option Statements) (text : List Token) → IsProperThread l d t × (text ≡ thread_tokens t)
      → IsActivation t text ⊎ IsOnly None t text
  thread_back None text h = inr (refl, h.1)
  thread_back (Some b) text h = inl (b, refl, h.0, h.1)

  pub reads-thread : Reads (λ t text. IsProperThread l d t × (text ≡ thread_tokens t)) EndsThread (thread_at block)
  unfolding thread_at
  reads-thread = reads-same _ (λ t text. IsProperThread l d t × (text ≡ thread_tokens t)) EndsThread (thread_at block) thread_to thread_back
      (reads-optional (next_is (Word (codes "thread"))) IsActivation Any EndsThread (activation_at block) reads-activation None
      (λ t text rest h. rw h.3 refl) (λ t text o h s. thread_ends t text o h) (λ t text o h s. tt) (λ o t. t) (λ o t. t))
