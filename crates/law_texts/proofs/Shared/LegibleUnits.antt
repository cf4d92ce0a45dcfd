-- The text of a program can be read where its names and numbers can: line by line, for each kind of unit.
use Rattle.std.proofs.Common.{◌≡◌, ℕ, suc, Bool, true, false, List, [], ◌∷◌, ◌++◌, map, flat_map, codes, refl, inl, inr}
use Rattle.std.proofs.lemmas.Bool.{and_from}
use Rattle.seq_tree.specs.Names.{Name}
use Rattle.seq_tree.specs.Statements.{Statements}
use Rattle.seq_tree.specs.Operations.{Signature, Operation}
use Rattle.seq_tree.specs.Spelling.{Line, line, block_lines}
use Rattle.seq_tree.specs.declared.token.Token.{Token}
use Rattle.seq_tree.specs.declared.token.Token.TheVariants.{Word, Number, Sign}
use Rattle.seq_tree.specs.declared.token.Mark.TheVariants.{LeftParen, RightParen, Comma, Semicolon, Colon, Dot, Becomes}
use Rattle.seq_tree.specs.declared.tree.Mode.{Mode}
use Rattle.seq_tree.specs.declared.tree.Mode.TheVariants.{In, Out}
use Rattle.seq_tree.specs.declared.tree.Param.{Param}
use Rattle.seq_tree.specs.declared.tree.Datum.{Datum}
use Rattle.seq_tree.specs.declared.tree.Costs.{Costs}
use Rattle.seq_print.specs.Readable.{is_readable}
use Rattle.ada_tree.specs.Programs.{Form, Unit, Program, Passive, Shared, Cyclic, Sporadic}
use Rattle.ada_tree.specs.Spelling.{mode_token, param_tokens, params_tokens, head_tokens, datum_line, declaration_line, body_lines}
use Rattle.ada_tree.specs.Spelling.{renaming_line, constant_line, end_line, truth_token, task_lines, inner_specification}
use Rattle.ada_tree.specs.Spelling.{kept_token, request_token, loop_lines, inner_body, specification_lines, unit_body_lines, hrt_lines}
use Rattle.ada_print.specs.Parts as whole
use Rattle.ada_print.specs.Writable.{is_word, is_number, is_writable}
use Rattle.law_lists.proofs.Shared.Lists.{IsIn}
use Rattle.law_texts.proofs.Tokens.{AreLegible, HasLegible, both, lines-both, line-first, lines-map, lines-flat}

-- names of parameters, data, an operation and what a unit is, where a text can hold them
abbrev pub AreLegibleParams : List Param → Type 0
AreLegibleParams ps = (q : Param) → IsIn q ps → is_word q.name ≡ true

abbrev pub AreLegibleData : List Datum → Type 0
AreLegibleData ds = (d : Datum) → IsIn d ds → (is_word d.name ≡ true) × (is_number d.value ≡ true)

abbrev pub IsLegibleBlock : Statements → Type 0
IsLegibleBlock b = (level : ℕ) → HasLegible (block_lines level b)

pub record IsLegibleOperation (o : Operation) : Type 0 where
  pub name : is_word o.sig.name ≡ true
  pub params : AreLegibleParams o.sig.params
  pub locals : AreLegibleData o.locals
  pub block : IsLegibleBlock o.block

abbrev pub AreLegibleOperations : List Operation → Type 0
AreLegibleOperations ops = (o : Operation) → IsIn o ops → IsLegibleOperation o

abbrev pub IsLegibleForm : Form → Type 0
IsLegibleForm (Passive ops) = AreLegibleOperations ops
IsLegibleForm (Shared ceiling vars ops) = (is_number ceiling ≡ true) × AreLegibleData vars × AreLegibleOperations ops
IsLegibleForm (Cyclic priority offset period vars block) =
    (is_number priority ≡ true) × (is_number offset ≡ true) × (is_number period ≡ true) × AreLegibleData vars × IsLegibleBlock block
IsLegibleForm (Sporadic priority ceiling op separation jitter external vars block) =
    (is_number priority ≡ true) × (is_number ceiling ≡ true) × (is_number separation ≡ true) × (is_number jitter ≡ true)
    × (is_word op.name ≡ true) × AreLegibleParams op.params × AreLegibleData vars × IsLegibleBlock block

-- parameters
mode-legible : (m : Mode) → AreLegible (mode_token m ∷ Word (codes "word") ∷ [])
mode-legible In = refl
mode-legible Out = refl

param-legible : (q : Param) → is_word q.name ≡ true → AreLegible (param_tokens q)
param-legible q h = and_from _ _ h (mode-legible q.mode)

more-params : (ps : List Param) → AreLegibleParams ps → AreLegible (flat_map (λ q. Sign Semicolon ∷ param_tokens q) ps)
more-params [] h = refl
more-params (p ∷ ps) h =
    both (param_tokens p) (flat_map (λ (q : Param). Sign Semicolon ∷ param_tokens q) ps) (param-legible p (h p (inl refl)))
    (more-params ps (λ q k. h q (inr k)))

params-legible : (ps : List Param) → AreLegibleParams ps → AreLegible (params_tokens ps)
params-legible [] h = refl
params-legible (p ∷ ps) h =
    both (param_tokens p) (flat_map (λ (q : Param). Sign Semicolon ∷ param_tokens q) ps ++ Sign RightParen ∷ []) (param-legible p (h p (inl refl)))
    (both (flat_map (λ (q : Param). Sign Semicolon ∷ param_tokens q) ps) (Sign RightParen ∷ []) (more-params ps (λ q k. h q (inr k))) refl)

head-legible : (sig : Signature) → is_word sig.name ≡ true → AreLegibleParams sig.params → AreLegible (head_tokens sig)
head-legible sig n h = and_from _ _ n (params-legible sig.params h)

-- data
datum-legible : (level : ℕ) (d : Datum) → (is_word d.name ≡ true) × (is_number d.value ≡ true) → AreLegible (datum_line level d).tokens
datum-legible level d h = and_from _ _ h.0 (and_from _ _ h.1 refl)

data-legible : (level : ℕ) (ds : List Datum) → AreLegibleData ds → HasLegible (map (datum_line level) ds)
data-legible level ds h = lines-map (datum_line level) ds (λ d k. datum-legible level d (h d k))

-- operations
declaration-legible : (level : ℕ) (sig : Signature) → is_word sig.name ≡ true → AreLegibleParams sig.params
    → AreLegible (declaration_line level sig).tokens
declaration-legible level sig n h = both (head_tokens sig) (Sign Semicolon ∷ []) (head-legible sig n h) refl

renaming-legible : (level : ℕ) (inner : Name) (sig : Signature) → is_word inner ≡ true → is_word sig.name ≡ true → AreLegibleParams sig.params
    → AreLegible (renaming_line level inner sig).tokens
renaming-legible level inner sig i n h =
    both (head_tokens sig) (Word (codes "renames") ∷ Word inner ∷ Sign Dot ∷ Word sig.name ∷ Sign Semicolon ∷ []) (head-legible sig n h)
    (and_from _ _ i (and_from _ _ n refl))

body-legible : (level : ℕ) (o : Operation) → IsLegibleOperation o → HasLegible (body_lines level o)
body-legible level o h =
    let close : List Line = line level (Word (codes "end") ∷ Word o.sig.name ∷ Sign Semicolon ∷ []) ∷ [] in
    let inside : List Line = line level (Word (codes "begin") ∷ []) ∷ (block_lines (suc level) o.block ++ close) in
    line-first (line level (head_tokens o.sig ++ Word (codes "is") ∷ [])) (map (datum_line (suc level)) o.locals ++ inside)
    (both (head_tokens o.sig) (Word (codes "is") ∷ []) (head-legible o.sig h.name h.params) refl)
    (lines-both (map (datum_line (suc level)) o.locals) inside (data-legible (suc level) o.locals h.locals)
    (lines-both (block_lines (suc level) o.block) close (h.block (suc level)) (and_from _ _ h.name refl)))

-- the specification of a unit
truth-legible : (b : Bool) → AreLegible (truth_token b ∷ Sign Semicolon ∷ [])
truth-legible true = refl
truth-legible false = refl

specified : (form : Form) → IsLegibleForm form → HasLegible (inner_specification form)
specified (Passive ops) h = lines-map (λ o. declaration_line 2 o.sig) ops (λ o k. let r = h o k in declaration-legible 2 o.sig r.name r.params)
specified (Shared ceiling vars ops) h =
    let named : List Line = map (λ o. renaming_line 2 (codes "hrt_object") o.sig) ops in
    let behind : List Line = end_line 2 (codes "hrt_object") ∷ named in
    and_from _ _ h.0
    (lines-both (map (λ o. declaration_line 3 o.sig) ops) (line 2 (Word (codes "private") ∷ []) ∷ (map (datum_line 3) vars ++ behind))
    (lines-map (λ o. declaration_line 3 o.sig) ops (λ o k. let r = h.2 o k in declaration-legible 3 o.sig r.name r.params))
    (lines-both (map (datum_line 3) vars) behind (data-legible 3 vars h.1)
    (lines-map (λ o. renaming_line 2 (codes "hrt_object") o.sig) ops (λ o k. let r = h.2 o k
    in renaming-legible 2 (codes "hrt_object") o.sig refl r.name r.params))))
specified (Cyclic priority offset period vars block) h = and_from _ _ h.0 refl
specified (Sporadic priority ceiling op separation jitter external vars block) h =
    let constants : List Line =
    constant_line 2 (codes "hrt_separation") separation ∷ constant_line 2 (codes "hrt_jitter") jitter
    ∷ line 2 (Word (codes "hrt_external") ∷ Sign Colon ∷ Word (codes "constant") ∷ Word (codes "boolean") ∷ Sign Becomes ∷ truth_token external
    ∷ Sign Semicolon ∷ []) ∷ [] in
    let behind : List Line = renaming_line 2 (codes "hrt_obcs") op ∷ (task_lines priority ++ constants) in
    let inside : List Line =
    line 3 (Word (codes "entry") ∷ Word (codes "hrt_wait") ∷ Sign LeftParen ∷ Word (codes "hrt_request") ∷ Sign Colon ∷ Word (codes "out")
    ∷ Word (codes "word") ∷ Sign RightParen ∷ Sign Semicolon ∷ [])
    ∷ line 2 (Word (codes "private") ∷ [])
    ∷ line 3 (Word (codes "hrt_value") ∷ Sign Colon ∷ Word (codes "word") ∷ Sign Becomes ∷ Number 0 ∷ Sign Semicolon ∷ [])
    ∷ line 3 (Word (codes "hrt_open") ∷ Sign Colon ∷ Word (codes "boolean") ∷ Sign Becomes ∷ Word (codes "false") ∷ Sign Semicolon ∷ [])
    ∷ end_line 2 (codes "hrt_obcs") ∷ behind in
    and_from _ _ h.1
    (line-first (declaration_line 3 op) inside (declaration-legible 3 op h.4 h.5)
    (line-first (renaming_line 2 (codes "hrt_obcs") op) (task_lines priority ++ constants) (renaming-legible 2 (codes "hrt_obcs") op refl h.4 h.5)
    (and_from _ _ h.0 (and_from _ _ h.2 (and_from _ _ h.3 (truth-legible external))))))

-- the body of a unit
loop-legible : (variable : List Token) (first : List Line) (block : Statements) → AreLegible variable → HasLegible first → IsLegibleBlock block
    → HasLegible (loop_lines variable first block)
loop-legible variable first block v f b =
    let close : List Line =
    line 4 (Word (codes "activation_end") ∷ Sign Semicolon ∷ []) ∷ line 3 (Word (codes "end") ∷ Word (codes "loop") ∷ Sign Semicolon ∷ [])
    ∷ end_line 2 (codes "hrt_thread") ∷ [] in
    line-first (line 3 variable) (line 2 (Word (codes "begin") ∷ []) ∷ line 3 (Word (codes "loop") ∷ [])
    ∷ ((first ++ block_lines 4 block) ++ close)) v
    (lines-both (first ++ block_lines 4 block) close (lines-both first (block_lines 4 block) f (b 4)) refl)

kept-legible : (ps : List Param) → AreLegibleParams ps → is_readable (kept_token ps) ≡ true
kept-legible [] h = refl
kept-legible (p ∷ ps) h = h p (inl refl)

request-legible : (ps : List Param) → AreLegibleParams ps → is_readable (request_token ps) ≡ true
request-legible [] h = refl
request-legible (p ∷ ps) h = h p (inl refl)

-- what the tasks declare, and what they do before their statements
abbrev next_variable : ℕ → List Token
next_variable offset =
    Word (codes "hrt_next") ∷ Sign Colon ∷ Word (codes "hrt") ∷ Sign Dot ∷ Word (codes "moment") ∷ Sign Becomes ∷ Word (codes "hrt") ∷ Sign Dot
    ∷ Word (codes "after")
    ∷ Sign LeftParen ∷ Word (codes "hrt") ∷ Sign Dot ∷ Word (codes "epoch") ∷ Sign Comma ∷ Number offset ∷ Sign RightParen ∷ Sign Semicolon ∷ []

abbrev delay_lines : ℕ → List Line
delay_lines period =
    line 4 (Word (codes "delay") ∷ Word (codes "until") ∷ Word (codes "hrt_next") ∷ Sign Semicolon ∷ [])
    ∷ line 4 (Word (codes "hrt_next") ∷ Sign Becomes ∷ Word (codes "hrt") ∷ Sign Dot ∷ Word (codes "after") ∷ Sign LeftParen ∷ Word (codes "hrt_next")
    ∷ Sign Comma ∷ Number period
    ∷ Sign RightParen ∷ Sign Semicolon ∷ []) ∷ []

abbrev request_variable : List Param → List Token
request_variable ps = request_token ps ∷ Sign Colon ∷ Word (codes "word") ∷ Sign Becomes ∷ Number 0 ∷ Sign Semicolon ∷ []

abbrev wait_lines : List Param → List Line
wait_lines ps =
    line 4 (Word (codes "hrt_obcs") ∷ Sign Dot ∷ Word (codes "hrt_wait") ∷ Sign LeftParen ∷ request_token ps ∷ Sign RightParen
    ∷ Sign Semicolon ∷ []) ∷ []

embodied : (form : Form) → IsLegibleForm form → HasLegible (inner_body form)
embodied (Passive ops) h = lines-flat (body_lines 2) ops (λ o k. body-legible 2 o (h o k))
embodied (Shared ceiling vars ops) h =
    lines-both (flat_map (body_lines 3) ops) (end_line 2 (codes "hrt_object") ∷ [])
    (lines-flat (body_lines 3) ops (λ o k. body-legible 3 o (h.2 o k))) refl
embodied (Cyclic priority offset period vars block) h =
    lines-both (map (datum_line 2) vars) _ (data-legible 2 vars h.3)
    (loop-legible (next_variable offset) (delay_lines period) block (and_from _ _ h.1 refl) (and_from _ _ h.2 refl) h.4)
embodied (Sporadic priority ceiling op separation jitter external vars block) h =
    let k : is_readable (kept_token op.params) ≡ true = kept-legible op.params h.5 in
    let r : is_readable (request_token op.params) ≡ true = request-legible op.params h.5 in
    lines-both (map (datum_line 2) vars) _ (data-legible 2 vars h.6)
    (both (head_tokens op ++ Word (codes "is") ∷ []) _ (both (head_tokens op) (Word (codes "is") ∷ []) (head-legible op h.4 h.5) refl)
    (and_from _ _ k (and_from _ _ h.4 (loop-legible (request_variable op.params) (wait_lines op.params) block (and_from _ _ r refl)
    (and_from _ _ r refl) h.7))))

-- a unit with its name
pub record IsLegibleUnit (u : Unit) : Type 0 where
  pub name : is_word u.name ≡ true
  pub form : IsLegibleForm u.form

end-legible : (level : ℕ) (name : Name) → is_word name ≡ true → HasLegible (end_line level name ∷ [])
end-legible level name h = and_from _ _ h refl

specification-legible : (u : Unit) → IsLegibleUnit u → HasLegible (specification_lines u)
specification-legible u h =
    and_from _ _ h.name (lines-both (inner_specification u.form) (end_line 1 u.name ∷ []) (specified u.form h.form) (end-legible 1 u.name h.name))

unit_body-legible : (u : Unit) → IsLegibleUnit u → HasLegible (unit_body_lines u)
unit_body-legible u h =
    and_from _ _ h.name (lines-both (inner_body u.form) (end_line 1 u.name ∷ []) (embodied u.form h.form) (end-legible 1 u.name h.name))

-- the costs
pub record AreLegibleCosts (c : Costs) : Type 0 where
  pub assign : is_number c.assign ≡ true
  pub test : is_number c.test ≡ true
  pub turn : is_number c.turn ≡ true
  pub call : is_number c.call ≡ true
  pub nothing : is_number c.nothing ≡ true
  pub put : is_number c.put ≡ true
  pub finish : is_number c.finish ≡ true

hrt-legible : (c : Costs) → AreLegibleCosts c → HasLegible (hrt_lines c)
hrt-legible c h =
    and_from _ _ h.assign (and_from _ _ h.test
    (and_from _ _ h.turn (and_from _ _ h.call (and_from _ _ h.nothing (and_from _ _ h.put (and_from _ _ h.finish refl))))))

-- a program
pub program-legible : (p : Program) → is_word p.name ≡ true → AreLegibleCosts p.costs → ((u : Unit) → IsIn u p.units → IsLegibleUnit u)
    → is_writable p ≡ true
program-legible p n c us =
    let closing : List Line = whole.closing_lines p.name in
    let bodies : List Line = flat_map unit_body_lines p.units ++ closing in
    let middle : List Line = whole.body_lines p.name ++ bodies in
    let units : List Line = flat_map specification_lines p.units ++ middle in
    let front : List Line = whole.package_lines p.name ++ units in
    lines-both (hrt_lines p.costs) front (hrt-legible p.costs c)
    (lines-both (whole.package_lines p.name) units (and_from _ _ n refl)
    (lines-both (flat_map specification_lines p.units) middle (lines-flat specification_lines p.units (λ u k. specification-legible u (us u k)))
    (lines-both (whole.body_lines p.name) bodies (and_from _ _ n (and_from _ _ n refl))
    (lines-both (flat_map unit_body_lines p.units) closing (lines-flat unit_body_lines p.units (λ u k. unit_body-legible u (us u k)))
    (and_from _ _ n (and_from _ _ n refl))))))
