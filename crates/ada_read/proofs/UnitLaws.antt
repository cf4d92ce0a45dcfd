-- The specifications and bodies that were read are those of the units of a program.
use Rattle.std.proofs.Common.{◌≡◌, ℕ, suc, Bool, true, List, [], ◌∷◌, ◌++◌, map, flat_map, codes, refl, sym, ap, subst, ◌∙◌, append_assoc}
use Rattle.seq_tree.specs.Lists.{Each}
use Rattle.grammar.specs.Reading.{AreEach}
use Rattle.seq_tree.specs.Names.{Name}
use Rattle.seq_tree.specs.Operations.{Operation}
use Rattle.seq_tree.specs.Spelling.{Line, line, joined, block_lines, block_tokens}
use Rattle.seq_tree.specs.declared.tree.Datum.{Datum}
use Rattle.seq_tree.specs.declared.token.Token.{Token}
use Rattle.seq_tree.specs.declared.token.Token.TheVariants.{Word, Number, Sign}
use Rattle.seq_tree.specs.declared.token.Mark.TheVariants.{Becomes}
use Rattle.ada_tree.specs.Programs.{Form, Passive, Shared, Cyclic, Sporadic}
use Rattle.ada_tree.specs.Programs as programs
use Rattle.ada_tree.specs.Proper.{IsProperForm, IsProperOperation}
use Rattle.ada_tree.specs.Spelling.{head_tokens, params_tokens, kept_token, request_token, datum_line, declaration_line, body_lines, end_line}
use Rattle.ada_tree.specs.Spelling.{renaming_line, inner_body, specification_lines, unit_body_lines}
use Rattle.ada_tree.specs.Words.{is_ada_name}
use Rattle.seq_read.specs.Parts.{end_tokens}
use Rattle.ada_read.specs.declared.fixed_text.FixedText.TheVariants as fixed
use Rattle.ada_read.specs.FixedTexts.{fixed_tokens}
use Rattle.ada_read.specs.Heads.{Head, head_name}
use Rattle.ada_read.proofs.LevelLaws.{joined-append, block-level}
use Rattle.ada_read.proofs.ParamLaws.{IsNamedHead, declaration_tokens}
use Rattle.ada_read.proofs.DataLaws.{datum_tokens}
use Rattle.ada_read.proofs.RequestLaws.{renaming_tokens}
use Rattle.ada_read.proofs.HeadLaws.{IsGoodHead, head_text}
use Rattle.ada_read.proofs.BodyLaws.{operation_tokens, body_head_tokens, form_tokens, head_from, limits, HasBody, HasForm, IsBody}

-- THE TOKENS OF LINES
-- lines in front of others
glued : (lines others : List Line) (front back : List Token) → front ≡ joined lines → back ≡ joined others → front ++ back ≡ joined (lines ++ others)
glued lines others front back e f = rw (e, f) (sym (joined-append lines others))

-- data, declarations and bodies, at any level
data_joined : (level : ℕ) (ds : List Datum) → joined (map (datum_line level) ds) ≡ flat_map datum_tokens ds
unfolding fixed_tokens
data_joined level [] = refl
data_joined level (d ∷ ds) = ap (λ us. datum_tokens d ++ us) (data_joined level ds)

declarations_joined : (level : ℕ) (ops : List Operation) → joined (map (λ o. declaration_line level o.sig) ops)
    ≡ flat_map declaration_tokens (map (λ o. o.sig) ops)
declarations_joined level [] = refl
declarations_joined level (o ∷ ops) = ap (λ us. declaration_tokens o.sig ++ us) (declarations_joined level ops)

operation_joined : (level : ℕ) (o : Operation) → joined (body_lines level o) ≡ operation_tokens o
operation_joined level o =
    append_assoc (head_tokens o.sig) (Word (codes "is") ∷ []) _
    ∙ rw (
      joined-append (map (datum_line (suc level)) o.locals) _,
      data_joined (suc level) o.locals,
      joined-append (block_lines
          (suc level) o.block) _,
      block-level (suc level) 0 o.block,
    ) refl

operations_joined : (level : ℕ) (ops : List Operation) → joined (flat_map (body_lines level) ops) ≡ flat_map operation_tokens ops
operations_joined level [] = refl
operations_joined level (o ∷ ops)
    = sym (glued (body_lines level o) (flat_map (body_lines level) ops) (operation_tokens o) (flat_map operation_tokens ops)
    (sym (operation_joined level o)) (sym (operations_joined level ops)))

renamings_joined : (ops : List Operation) → joined (map (λ o. renaming_line 2 (codes "hrt_object") o.sig) ops)
    ≡ flat_map renaming_tokens (map (λ o. o.sig) ops)
unfolding fixed_tokens
renamings_joined [] = refl
renamings_joined (o ∷ ops) = ap (λ us. renaming_tokens o.sig ++ us) (renamings_joined ops)

-- the parts of a protected specification in another grouping
shared_grouped : (name : Name) (ceiling : ℕ) (declared stored renamed : List Token) →
    Word (codes "package") ∷ Word name ∷ Word (codes "is") ∷ Word (codes "protected")
    ∷ (fixed_tokens fixed.ObjectHead ++ Number ceiling ∷ (fixed_tokens fixed.Close
    ++ (declared ++ Word (codes "private") ∷ (stored ++ (fixed_tokens fixed.ObjectEnd ++ (renamed ++ end_tokens name))))))
    ≡ Word (codes "package") ∷ Word name ∷ Word (codes "is")
    ∷ ((Word (codes "protected") ∷ (fixed_tokens fixed.ObjectHead ++ Number ceiling ∷ (fixed_tokens fixed.Close
    ++ (declared ++ Word (codes "private") ∷ (stored ++ (fixed_tokens fixed.ObjectEnd ++ renamed)))))) ++ end_tokens name)
unfolding fixed_tokens
shared_grouped name ceiling declared stored renamed = simp append_assoc

-- the parts of a sporadic body in another grouping
sporadic_grouped : (name request : Name) (kept variable : Token) (params stored block : List Token) →
    body_head_tokens name ++ ((stored
    ++ ((fixed_tokens fixed.RequestBody ++ ((Word (codes "procedure") ∷ Word request ∷ params)
    ++ (fixed_tokens fixed.Keep ++ kept ∷ (fixed_tokens fixed.Opened
    ++ Word request ∷ fixed_tokens fixed.Wait)))) ++ ((variable ∷ (fixed_tokens fixed.Waiting ++ variable ∷ fixed_tokens fixed.Close))
    ++ (block ++ (fixed_tokens fixed.TaskLoop ++ []))))) ++ end_tokens name)
    ≡ body_head_tokens name ++ ((stored
    ++ (fixed_tokens fixed.RequestBody ++ (((Word (codes "procedure") ∷ Word request ∷ params) ++ Word (codes "is") ∷ [])
    ++ (Word (codes "begin") ∷ Word (codes "hrt_value") ∷ Sign Becomes ∷ kept
    ∷ (fixed_tokens fixed.Opened ++ Word request ∷ (fixed_tokens fixed.Wait ++ variable
    ∷ (fixed_tokens fixed.Waiting ++ variable ∷ (fixed_tokens fixed.Close ++ (block ++ (fixed_tokens fixed.TaskLoop ++ []))))))))))
    ++ end_tokens name)
unfolding fixed_tokens
sporadic_grouped name request kept variable params stored block =
    let keeps : List Token = fixed_tokens fixed.Keep ++ kept ∷ (fixed_tokens fixed.Opened ++ Word request ∷ fixed_tokens fixed.Wait) in
    let waits : List Token = (variable ∷ (fixed_tokens fixed.Waiting ++ variable ∷ fixed_tokens fixed.Close))
    ++ (block ++ (fixed_tokens fixed.TaskLoop ++ [])) in
    ap (λ us. body_head_tokens name ++ ((stored ++ (fixed_tokens fixed.RequestBody ++ Word (codes "procedure") ∷ Word request ∷ us))
    ++ end_tokens name))
    (append_assoc params keeps waits ∙ sym (append_assoc params (Word (codes "is") ∷ []) _))

-- A UNIT
-- its specification
specification_joined : (name : Name) (f : Form) → head_text (head_from name f) ≡ joined (specification_lines (record { name = name; form = f }))
unfolding fixed_tokens
specification_joined name (Passive ops) = rw (joined-append (map (λ o. declaration_line 2 o.sig) ops) _, declarations_joined 2 ops) refl
specification_joined name (Shared ceiling vars ops) =
    let declared : List Line = map (λ o. declaration_line 3 o.sig) ops in
    let stored : List Line = map (datum_line 3) vars in
    let renamed : List Line = map (λ o. renaming_line 2 (codes "hrt_object") o.sig) ops in
    let divider : Line = line 2 (Word (codes "private") ∷ []) in
    let last : Line = end_line 2 (codes "hrt_object") in
    rw (
      joined-append (declared ++ divider ∷ (stored ++ last ∷ renamed)) (end_line 1 name ∷ []),
      joined-append declared (divider ∷ (stored ++ last ∷ renamed)),
      declarations_joined 3 ops,
      joined-append stored (last ∷ renamed),
      data_joined 3 vars,
      renamings_joined ops,
    )
    (shared_grouped name ceiling (flat_map declaration_tokens (map (λ o. o.sig) ops)) (flat_map datum_tokens vars)
    (flat_map renaming_tokens (map (λ o. o.sig) ops)))
specification_joined name (Cyclic priority offset period vars b) = refl
specification_joined name (Sporadic priority ceiling op separation jitter external vars b) = refl

-- its body
body_joined : (name : Name) (f : Form) → body_head_tokens name ++ (form_tokens f ++ end_tokens name)
    ≡ joined (unit_body_lines (record { name = name; form = f }))
unfolding fixed_tokens
body_joined name (Passive ops) = rw (joined-append (flat_map (body_lines 2) ops) _, operations_joined 2 ops) refl
body_joined name (Shared ceiling vars ops) =
    let last : Line = end_line 2 (codes "hrt_object") in
    rw (
      joined-append (flat_map (body_lines 3) ops ++ last ∷ []) (end_line 1 name ∷ []),
      joined-append (flat_map (body_lines 3) ops) (last
          ∷ []),
      operations_joined 3 ops,
    ) refl
body_joined name (Cyclic priority offset period vars b) =
    rw (
      joined-append (inner_body (Cyclic priority offset period vars b)) _,
      joined-append (map
          (datum_line 2) vars) _,
      data_joined 2 vars,
      joined-append (block_lines 4 b) _,
      block-level 4 0 b,
    ) refl
body_joined name (Sporadic priority ceiling op separation jitter external vars b) =
    rw (
      joined-append (inner_body (Sporadic priority ceiling op separation jitter external vars b)) _,
      joined-append (map
          (datum_line 2) vars) _,
      data_joined 2 vars,
      joined-append (block_lines 4 b) _,
      block-level 4 0 b,
    )
    (sporadic_grouped name op.name (kept_token op.params) (request_token op.params) (params_tokens op.params) (flat_map datum_tokens vars)
    (block_tokens b))

module _ (nests chains : ℕ → Bool) where
  -- a unit that may be written and read
  abbrev pub IsGood : programs.Unit → Type 0
  IsGood u = (is_ada_name u.name ≡ true) × IsProperForm (limits nests chains) u.form

  operations_proper : (ops : List Operation) → Each IsNamedHead (map (λ o. o.sig) ops) → Each (HasBody nests chains) ops
      → Each (IsProperOperation (limits nests chains)) ops
  operations_proper [] h k = tt
  operations_proper (o ∷ ops) h k = ((h.0.0, h.0.1, k.0.0, k.0.1), operations_proper ops h.1 k.1)

  heads_named : (ops : List Operation) → Each (IsProperOperation (limits nests chains)) ops → Each IsNamedHead (map (λ o. o.sig) ops)
  heads_named [] h = tt
  heads_named (o ∷ ops) h = ((h.0.0, h.0.1), heads_named ops h.1)

  bodies_proper : (ops : List Operation) → Each (IsProperOperation (limits nests chains)) ops → Each (HasBody nests chains) ops
  bodies_proper [] h = tt
  bodies_proper (o ∷ ops) h = ((h.0.2, h.0.3), bodies_proper ops h.1)

  -- its parts are good where it is
  good_to : (name : Name) (f : Form) → IsGoodHead (head_from name f) → HasForm nests chains f → IsGood (record { name = name; form = f })
  good_to name (Passive ops) h k = (h.0, operations_proper ops h.1 k)
  good_to name (Shared ceiling vars ops) h k = (h.0, (h.1.1, operations_proper ops h.1.0 k))
  good_to name (Cyclic priority offset period vars b) h k = (h.0, k)
  good_to name (Sporadic priority ceiling op separation jitter external vars b) h k = (h.0, (h.1.0.0, h.1.0.1, h.1.1, k.0, k.1))

  good_head : (name : Name) (f : Form) → IsGood (record { name = name; form = f }) → IsGoodHead (head_from name f)
  good_head name (Passive ops) g = (g.0, heads_named ops g.1)
  good_head name (Shared ceiling vars ops) g = (g.0, (heads_named ops g.1.1, g.1.0))
  good_head name (Cyclic priority offset period vars b) g = (g.0, tt)
  good_head name (Sporadic priority ceiling op separation jitter external vars b) g = (g.0, ((g.1.0, g.1.1), g.1.2))

  good_form : (name : Name) (f : Form) → IsGood (record { name = name; form = f }) → HasForm nests chains f
  good_form name (Passive ops) g = bodies_proper ops g.1
  good_form name (Shared ceiling vars ops) g = bodies_proper ops g.1.1
  good_form name (Cyclic priority offset period vars b) g = g.1
  good_form name (Sporadic priority ceiling op separation jitter external vars b) g = (g.1.3, g.1.4)

  from_name : (name : Name) (f : Form) → head_name (head_from name f) ≡ name
  from_name name (Passive ops) = refl
  from_name name (Shared ceiling vars ops) = refl
  from_name name (Cyclic priority offset period vars b) = refl
  from_name name (Sporadic priority ceiling op separation jitter external vars b) = refl

  -- a body that was read
  record WasRead (h : Head) (u : programs.Unit) (text : List Token) : Type 0 where
    same : h ≡ head_from u.name u.form
    form : HasForm nests chains u.form
    whole : text ≡ joined (unit_body_lines u)

  was_read : (h : Head) (u : programs.Unit) (text : List Token) → IsBody nests chains h u text → WasRead h u text
  was_read h u text b =
      let P : Name → Type 0 = λ n. (h ≡ head_from n u.form) × (text ≡ body_head_tokens n ++ (b.1 ++ end_tokens n)) in
      let q : P u.name = subst P (sym b.0) (b.2.0, b.3) in
      record {
        same = q.0;
        form = b.2.1;
        whole = q.1 ∙ ap (λ inner. body_head_tokens u.name ++ (inner ++ end_tokens u.name)) b.2.2 ∙ body_joined u.name u.form;
      }

  -- UNITS
  -- units by their two texts
  abbrev pub AreUnits : List programs.Unit → List Token → List Token → Type 0
  AreUnits us one two = Each IsGood us × (one ≡ joined (flat_map specification_lines us)) × (two ≡ joined (flat_map unit_body_lines us))

  pub units_to : (hs : List Head) (us : List programs.Unit) (two : List Token) → Each IsGoodHead hs → AreEach (IsBody nests chains) hs us two
      → AreUnits us (flat_map head_text hs) two
  units_to [] [] two g b = (tt, refl, b)
  units_to [] (u ∷ us) two g b = absurd b
  units_to (h ∷ hs) [] two g b = absurd b
  units_to (h ∷ hs) (u ∷ us) two g b =
      let r = was_read h u b.0 b.2 in
      let k = units_to hs us b.1 g.1 b.3 in (
        (good_to u.name u.form (subst IsGoodHead r.same g.0) r.form, k.0),
        glued (specification_lines u) (flat_map specification_lines us) (head_text h) (flat_map head_text hs) (ap head_text r.same ∙
            specification_joined u.name u.form) k.1,
        b.4 ∙ glued (unit_body_lines u) (flat_map unit_body_lines us) b.0 b.1 r.whole k.2,
      )

  -- the specifications of units
  abbrev pub heads_from : List programs.Unit → List Head
  heads_from us = map (λ u. head_from u.name u.form) us

  pub heads_good : (us : List programs.Unit) → Each IsGood us → Each IsGoodHead (heads_from us)
  heads_good [] g = tt
  heads_good (u ∷ us) g = (good_head u.name u.form g.0, heads_good us g.1)

  pub heads_joined : (us : List programs.Unit) → joined (flat_map specification_lines us) ≡ flat_map head_text (heads_from us)
  heads_joined [] = refl
  heads_joined (u ∷ us) = sym (glued (specification_lines u) (flat_map specification_lines us) _ _ (specification_joined u.name u.form)
      (sym (heads_joined us)))

  body_back : (u : programs.Unit) → IsGood u → IsBody nests chains (head_from u.name u.form) u (joined (unit_body_lines u))
  body_back u g =
      let named = from_name u.name u.form in
      let P : Name → Type 0 = λ n. (u.name ≡ n) × (inner : List Token)
      × ((head_from u.name u.form ≡ head_from n u.form) × HasForm nests chains u.form × (inner ≡ form_tokens u.form))
      × (joined (unit_body_lines u) ≡ body_head_tokens n ++ (inner ++ end_tokens n)) in
      subst P (sym named) (refl, form_tokens u.form, (refl, good_form u.name u.form g, refl), sym (body_joined u.name u.form))

  pub bodies_back : (us : List programs.Unit) → Each IsGood us
      → AreEach (IsBody nests chains) (heads_from us) us (joined (flat_map unit_body_lines us))
  bodies_back [] g = refl
  bodies_back (u ∷ us) g = (
    joined (unit_body_lines u),
    joined (flat_map unit_body_lines us),
    body_back u g.0,
    bodies_back us g.1,
    joined-append (unit_body_lines
        u) (flat_map unit_body_lines us),
  )
