-- The readers of the bodies of units read their grammar, where the reader of blocks does.
use Rattle.std.proofs.Common.{◌≡◌, ℕ, Bool, false, List, [], ◌∷◌, ◌++◌, map, Option, codes, flat_map, refl, sym, ap, subst, ◌∙◌, append_assoc}
use Rattle.std.proofs.Common.{append-nil}
use Rattle.seq_tree.specs.Lists.{Each}
use Rattle.grammar.specs.Reading.{first, AreEach, Reads, Joined, then_at, pure_at}
use Rattle.grammar.proofs.Shared.Laws.{reads-same, reads-pure, reads-then, IsOnly, joins-part}
use Rattle.grammar.proofs.Shared.Picks.{reads-each}
use Rattle.seq_tree.specs.Names.{Name}
use Rattle.seq_tree.specs.Statements.{Statements}
use Rattle.seq_tree.specs.Operations.{Signature, Operation}
use Rattle.seq_tree.specs.Proper.{Limits, IsProperBlock}
use Rattle.seq_tree.specs.Spelling.{block_tokens}
use Rattle.seq_tree.specs.declared.tree.Datum.{Datum}
use Rattle.seq_tree.specs.declared.tree.Param.{Param}
use Rattle.seq_tree.specs.declared.token.Token.{Token}
use Rattle.seq_tree.specs.declared.token.Token.TheVariants.{Word, Number}
use Rattle.ada_tree.specs.Programs.{Form, Passive, Shared, Cyclic, Sporadic}
use Rattle.ada_tree.specs.Programs as programs
use Rattle.ada_tree.specs.Spelling.{head_tokens, kept_token, request_token}
use Rattle.ada_tree.specs.Words.{is_ada_name}
use Rattle.token_read.proofs.Shared.TokenLaws.{Any, andthen, reads-fixed, reads-phrase, reads-number, joins-fixed, joins-phrase, joins-number}
use Rattle.seq_read.specs.Statements.{BlockReader, next_is_name, begins_statement, kind_of}
use Rattle.seq_read.specs.Parts.{end_tokens, data_at}
use Rattle.ada_read.specs.declared.fixed_text.FixedText.TheVariants as fixed
use Rattle.ada_read.specs.FixedTexts.{fixed_tokens}
use Rattle.ada_read.specs.Heads.{Head, PassiveHead, SharedHead, CyclicHead, SporadicHead, head_name}
use Rattle.ada_read.specs.Readers.{operation_at, operations_at, cyclic_at, passive_at, shared_at, keeping_at, waiting_at, serving_at, form_at}
use Rattle.ada_read.specs.Readers.{body_head_at, body_at, bodies_at}
use Rattle.ada_read.proofs.ParamLaws.{and_until, reads-text, joins-text}
use Rattle.ada_read.proofs.DataLaws.{IsDatum, datum_tokens, EndsData, reads-data}

task_ends_data : (rest : List Token) → EndsData (first (fixed_tokens fixed.TaskBody ++ rest))
unfolding fixed_tokens next_is_name is_ada_name
task_ends_data rest = refl

begin_ends_data : (rest : List Token) → EndsData (first (Word (codes "begin") ∷ rest))
unfolding next_is_name is_ada_name
begin_ends_data rest = refl

-- what ends a block
abbrev pub EndsBlock : Option Token → Type 0
EndsBlock o = begins_statement is_ada_name o ≡ false

end_ends_block : (name : Name) (rest : List Token) → EndsBlock (first (end_tokens name ++ rest))
unfolding begins_statement kind_of next_is_name is_ada_name
end_ends_block name rest = refl

loop_ends_block : (rest : List Token) → EndsBlock (first (fixed_tokens fixed.TaskLoop ++ rest))
unfolding fixed_tokens begins_statement kind_of next_is_name is_ada_name
loop_ends_block rest = refl

-- the tokens of the body of an operation
abbrev pub operation_tokens : Operation → List Token
operation_tokens o =
    head_tokens o.sig ++ Word (codes "is") ∷ (flat_map datum_tokens o.locals ++ Word (codes "begin")
    ∷ (block_tokens o.block ++ end_tokens o.sig.name))

-- what stands in the body of a unit with a cyclic task
abbrev pub cyclic_tokens : ℕ → ℕ → List Datum → Statements → List Token
cyclic_tokens offset period vars block =
    flat_map datum_tokens vars ++ (fixed_tokens fixed.TaskBody ++ Number offset
    ∷ (fixed_tokens fixed.Delay ++ Number period ∷ (fixed_tokens fixed.Close
    ++ (block_tokens block ++ (fixed_tokens fixed.TaskLoop ++ [])))))

-- what stands in the body of a protected unit
abbrev pub shared_tokens : List Operation → List Token
shared_tokens ops = fixed_tokens fixed.ObjectBody ++ (flat_map operation_tokens ops ++ (fixed_tokens fixed.ObjectEnd ++ []))

-- the body of a request
abbrev pub keeping_tokens : Signature → List Token
keeping_tokens op =
    fixed_tokens fixed.RequestBody
    ++ (head_tokens op ++ (fixed_tokens fixed.Keep ++ kept_token op.params ∷ (fixed_tokens fixed.Opened ++ Word op.name ∷ fixed_tokens fixed.Wait)))

-- how a task waits for it
abbrev pub waiting_tokens : List Param → List Token
waiting_tokens ps = request_token ps ∷ (fixed_tokens fixed.Waiting ++ request_token ps ∷ fixed_tokens fixed.Close)

-- what stands in the body of a sporadic unit
abbrev pub sporadic_tokens : Signature → List Datum → Statements → List Token
sporadic_tokens op vars block =
    flat_map datum_tokens vars ++ (keeping_tokens op ++ (waiting_tokens op.params ++ (block_tokens block ++ (fixed_tokens fixed.TaskLoop ++ []))))

-- what stands in the body of a unit
abbrev pub form_tokens : Form → List Token
form_tokens (Passive ops) = flat_map operation_tokens ops
form_tokens (Shared ceiling vars ops) = shared_tokens ops
form_tokens (Cyclic priority offset period vars block) = cyclic_tokens offset period vars block
form_tokens (Sporadic priority ceiling op separation jitter external vars block) = sporadic_tokens op vars block

-- the specification of a unit of this name
abbrev pub head_from : Name → Form → Head
head_from name (Passive ops) = PassiveHead name (map (λ o. o.sig) ops)
head_from name (Shared ceiling vars ops) = SharedHead name ceiling (map (λ o. o.sig) ops) vars
head_from name (Cyclic priority offset period vars block) = CyclicHead name priority
head_from name (Sporadic priority ceiling op separation jitter external vars block) = SporadicHead name priority ceiling op separation jitter external

-- the beginning of a body
abbrev pub body_head_tokens : Name → List Token
body_head_tokens name = fixed_tokens fixed.PackageBody ++ Word name ∷ Word (codes "is") ∷ []

pub reads-body_head : (name : Name) → Reads (λ _ text. text ≡ body_head_tokens name) Any (body_head_at name)
unfolding body_head_at
reads-body_head name = reads-same _ (λ _ text. text ≡ body_head_tokens name) Any (body_head_at name)
    (λ u text g1. let g2 = g1.after in rw (g1.whole, g1.before, g2.whole, g2.before, g2.after) refl)
    (λ u text h. rw h (joins-text _ fixed.PackageBody tt _ (joins-fixed _ (Word name) tt _ refl)))
    (andthen (reads-text fixed.PackageBody) (λ _. andthen (reads-fixed (Word name)) (λ _. reads-fixed (Word (codes "is")))))

-- the body of a request
pub reads-keeping : (op : Signature) → Reads (λ _ text. text ≡ keeping_tokens op) Any (keeping_at op)
unfolding keeping_at
reads-keeping op = reads-same _ (λ _ text. text ≡ keeping_tokens op) Any (keeping_at op)
    (λ u text g1.
    let g2 = g1.after in let g3 = g2.after in let g4 = g3.after in let g5 = g4.after in let g6 = g5.after in
    rw (g1.whole, g1.before, g2.whole, g2.before, g3.whole, g3.before, g4.whole, g4.before, g5.whole, g5.before, g6.whole, g6.before, g6.after) refl)
    (λ u text h.
    rw h (joins-text _ fixed.RequestBody tt _ (joins-phrase _ (head_tokens op) tt _
    (joins-text _ fixed.Keep tt _ (joins-phrase _ (kept_token op.params ∷ []) tt _ (joins-text _ fixed.Opened tt _
    (joins-fixed _ (Word op.name) tt _ refl)))))))
    (andthen (reads-text fixed.RequestBody) (λ _. andthen (reads-phrase (head_tokens op))
    (λ _. andthen (reads-text fixed.Keep) (λ _. andthen (reads-phrase (kept_token op.params ∷ [])) (λ _.
    andthen (reads-text fixed.Opened) (λ _. andthen (reads-fixed (Word op.name)) (λ _. reads-text fixed.Wait)))))))

-- how a task waits for it
pub reads-waiting : (ps : List Param) → Reads (λ _ text. text ≡ waiting_tokens ps) Any (waiting_at ps)
unfolding waiting_at
reads-waiting ps = reads-same _ (λ _ text. text ≡ waiting_tokens ps) Any (waiting_at ps)
    (λ u text g1. let g2 = g1.after in let g3 = g2.after in rw (g1.whole, g1.before, g2.whole, g2.before, g3.whole, g3.before, g3.after) refl)
    (λ u text h. rw h (joins-fixed _ (request_token ps) tt _ (joins-text _ fixed.Waiting tt _ (joins-fixed _ (request_token ps) tt _ refl))))
    (andthen (reads-fixed (request_token ps)) (λ _. andthen (reads-text fixed.Waiting)
    (λ _. andthen (reads-fixed (request_token ps)) (λ _. reads-text fixed.Close))))

-- the limits of a text
abbrev pub limits : (ℕ → Bool) → (ℕ → Bool) → Limits
limits nests chains = record { is_name = is_ada_name; nests = nests; chains = chains }

-- a block within limits
abbrev pub IsBlock : (ℕ → Bool) → (ℕ → Bool) → Statements → List Token → Type 0
IsBlock nests chains b text = IsProperBlock (limits nests chains) 0 b × (text ≡ block_tokens b)

body_back : (h : Head) (u : programs.Unit) → u.name ≡ head_name h → u ≡ record { name = head_name h; form = u.form }
body_back h u e = ap (λ (n : Name). let v : programs.Unit = record { name = n; form = u.form } in v) e

module _ (nests chains : ℕ → Bool) where
  abbrev IsProper : Statements → Type 0
  IsProper b = IsProperBlock (limits nests chains) 0 b

  -- the body of an operation
  abbrev pub HasBody : Operation → Type 0
  HasBody o = Each IsDatum o.locals × IsProper o.block

  abbrev pub IsOperation : Signature → Operation → List Token → Type 0
  IsOperation sig o text = (o.sig ≡ sig) × HasBody o × (text ≡ operation_tokens o)

  operation_back : (sig : Signature) (o : Operation) (text : List Token) → IsOperation sig o text →
      (o ≡ record { sig = sig; locals = o.locals; block = o.block })
      × (text ≡ head_tokens sig ++ Word (codes "is") ∷ (flat_map datum_tokens o.locals ++ Word (codes "begin")
      ∷ (block_tokens o.block ++ (end_tokens sig.name ++ []))))
  operation_back sig o text h =
      let P : Signature → Type 0 = λ s.
      (o ≡ record { sig = s; locals = o.locals; block = o.block })
      × (text ≡ head_tokens s ++ Word (codes "is") ∷ (flat_map datum_tokens o.locals ++ Word (codes "begin")
      ∷ (block_tokens o.block ++ (end_tokens s.name ++ [])))) in
      subst P h.0 (refl, h.2)

  -- what stands in the body of a unit may be written
  abbrev pub HasForm : Form → Type 0
  HasForm (Passive ops) = Each HasBody ops
  HasForm (Shared ceiling vars ops) = Each HasBody ops
  HasForm (Cyclic priority offset period vars block) = Each IsDatum vars × IsProper block
  HasForm (Sporadic priority ceiling op separation jitter external vars block) = Each IsDatum vars × IsProper block

  -- what stands in the body of a unit with this specification
  abbrev pub IsForm : Head → Form → List Token → Type 0
  IsForm h f text = (h ≡ head_from (head_name h) f) × HasForm f × (text ≡ form_tokens f)

  operations_to : (sigs : List Signature) (ops : List Operation) (text : List Token) → AreEach IsOperation sigs ops text
      → (map (λ o. o.sig) ops ≡ sigs) × Each HasBody ops × (text ≡ flat_map operation_tokens ops)
  operations_to [] [] text g = (refl, tt, g)
  operations_to [] (o ∷ ops) text g = absurd g
  operations_to (s ∷ ss) [] text g = absurd g
  operations_to (s ∷ ss) (o ∷ ops) text g =
      let h = operations_to ss ops g.1 g.3 in (rw (g.2.0, h.0) refl, (g.2.1, h.1), rw (g.4, g.2.2, h.2) refl)

  operations_back : (ops : List Operation) → Each HasBody ops → AreEach IsOperation (map (λ o. o.sig) ops) ops (flat_map operation_tokens ops)
  operations_back [] h = refl
  operations_back (o ∷ ops) h = (operation_tokens o, flat_map operation_tokens ops, (refl, h.0, refl), operations_back ops h.1, refl)

  -- the parts of each form
  passive_back : (name : Name) (sigs : List Signature) (f : Form) (text : List Token) → IsForm (PassiveHead name sigs) f text →
      (ops : List Operation) × (f ≡ Passive ops) × AreEach IsOperation sigs ops (flat_map operation_tokens ops)
      × (text ≡ flat_map operation_tokens ops)
  passive_back name sigs (Passive ops) text h =
      let is : PassiveHead name sigs ≡ PassiveHead name (map (λ o. o.sig) ops) = h.0 in
      let same : map (λ o. o.sig) ops ≡ sigs = cc in
      let P : List Signature → Type 0 = λ ss. AreEach IsOperation ss ops (flat_map operation_tokens ops) in
      (ops, refl, subst P same (operations_back ops h.1), h.2)
  passive_back name sigs (Shared ceiling vars ops) text h = absurd (let no = h.0 in cc)
  passive_back name sigs (Cyclic own offset period vars b) text h = absurd (let no = h.0 in cc)
  passive_back name sigs (Sporadic own ceiling op separation jitter external vars b) text h = absurd (let no = h.0 in cc)

  shared_back : (name : Name) (ceiling : ℕ) (sigs : List Signature) (vars : List Datum) (f : Form) (text : List Token)
      → IsForm (SharedHead name ceiling sigs vars) f text →
      (ops : List Operation) × (f ≡ Shared ceiling vars ops) × AreEach IsOperation sigs ops (flat_map operation_tokens ops)
      × (text ≡ shared_tokens ops)
  shared_back name ceiling sigs vars (Shared own stored ops) text h =
      let is : SharedHead name ceiling sigs vars ≡ SharedHead name own (map (λ o. o.sig) ops) stored = h.0 in
      let same : map (λ o. o.sig) ops ≡ sigs = cc in
      let is_ceiling : own ≡ ceiling = cc in
      let is_data : stored ≡ vars = cc in
      let P : List Signature → Type 0 = λ ss. AreEach IsOperation ss ops (flat_map operation_tokens ops) in
      (ops, ap (λ c. Shared c stored ops) is_ceiling ∙ ap (λ ds. Shared ceiling ds ops) is_data, subst P same (operations_back ops h.1), h.2)
  shared_back name ceiling sigs vars (Passive ops) text h = absurd (let no = h.0 in cc)
  shared_back name ceiling sigs vars (Cyclic own offset period stored b) text h = absurd (let no = h.0 in cc)
  shared_back name ceiling sigs vars (Sporadic own bound op separation jitter external stored b) text h = absurd (let no = h.0 in cc)

  cyclic_back : (name : Name) (priority : ℕ) (f : Form) (text : List Token) → IsForm (CyclicHead name priority) f text →
      (offset : ℕ) × (period : ℕ) × (vars : List Datum) × (b : Statements) × (f ≡ Cyclic priority offset period vars b) × Each IsDatum vars
      × IsProper b × (text ≡ cyclic_tokens offset period vars b)
  cyclic_back name priority (Cyclic own offset period vars b) text h =
      let is : CyclicHead name priority ≡ CyclicHead name own = h.0 in
      let is_own : own ≡ priority = cc in
      (offset, period, vars, b, ap (λ p. Cyclic p offset period vars b) is_own, h.1.0, h.1.1, h.2)
  cyclic_back name priority (Passive ops) text h = absurd (let no = h.0 in cc)
  cyclic_back name priority (Shared ceiling vars ops) text h = absurd (let no = h.0 in cc)
  cyclic_back name priority (Sporadic own ceiling op separation jitter external vars b) text h = absurd (let no = h.0 in cc)

  -- the form with this specification, data and block
  abbrev form_by : List Datum → Statements → Head → Form
  form_by vars b (SporadicHead name priority ceiling op separation jitter external) = Sporadic priority ceiling op separation jitter external vars b
  form_by vars b _ = Passive []

  sporadic_back : (name : Name) (priority ceiling : ℕ) (op : Signature) (separation jitter : ℕ) (external : Bool) (f : Form) (text : List Token)
      → IsForm (SporadicHead name priority ceiling op separation jitter external) f text →
      (vars : List Datum) × (b : Statements) × (f ≡ Sporadic priority ceiling op separation jitter external vars b) × Each IsDatum vars × IsProper b
      × (text ≡ sporadic_tokens op vars b)
  sporadic_back name priority ceiling op separation jitter external (Sporadic p c o s j e vars b) text h =
      let is : SporadicHead name priority ceiling op separation jitter external ≡ SporadicHead name p c o s j e = h.0 in
      let same : Sporadic p c o s j e vars b ≡ Sporadic priority ceiling op separation jitter external vars b = sym (ap (form_by vars b) is) in
      let is_op : o ≡ op = cc in
      (vars, b, same, h.1.0, h.1.1, h.2 ∙ ap (λ q. sporadic_tokens q vars b) is_op)
  sporadic_back name priority ceiling op separation jitter external (Passive ops) text h = absurd (let no = h.0 in cc)
  sporadic_back name priority ceiling op separation jitter external (Shared c vars ops) text h = absurd (let no = h.0 in cc)
  sporadic_back name priority ceiling op separation jitter external (Cyclic own offset period vars b) text h = absurd (let no = h.0 in cc)

  -- the body of a unit
  abbrev pub IsBody : Head → programs.Unit → List Token → Type 0
  IsBody h u text = (u.name ≡ head_name h) × (inner : List Token) × IsForm h u.form inner
      × (text ≡ body_head_tokens (head_name h) ++ (inner ++ end_tokens (head_name h)))

module _ (nests chains : ℕ → Bool) (block : BlockReader) (blocks : Reads (IsBlock nests chains) (λ b o. EndsBlock o) block) where
  reads-operation : (sig : Signature) → Reads (IsOperation nests chains sig) Any (operation_at block sig)
  unfolding operation_at
  reads-operation sig = reads-same _ (IsOperation nests chains sig) Any (operation_at block sig)
      (λ o text g1.
      let g2 = g1.after in let g3 = g2.after in let g4 = g3.after in let g5 = g4.after in let g6 = g5.after in
      let P : Operation → Type 0 = λ q. IsOperation nests chains sig q text in
      subst P (sym g6.after.0) (
        refl,
        (g3.before.0, g5.before.0),
        rw (
          g1.whole,
          g1.before,
          g2.whole,
          g2.before,
          g3.whole,
          g3.before.1,
          g4.whole,
          g4.before,
          g5.whole,
          g5.before.1,
          g6.whole,
          g6.before,
          g6.after.1,
        ) refl,
      ))
      (λ o text h.
      let b = operation_back nests chains sig o text h in
      rw b.1 (joins-phrase _ (head_tokens sig) o _ (joins-fixed _ (Word (codes "is")) o _
      (joins-part _ o.locals (flat_map datum_tokens o.locals) o _ (h.1.0, refl)
      (joins-fixed _ (Word (codes "begin")) o _ (joins-part _ o.block (block_tokens o.block) o _ (h.1.1, refl)
      (joins-phrase _ (end_tokens sig.name) o [] (b.0, refl))))))))
      (andthen (reads-phrase (head_tokens sig)) (λ _. andthen (reads-fixed (Word (codes "is"))) (λ _.
      and_until EndsData (Word (codes "begin") ∷ []) begin_ends_data reads-data (λ locals. andthen (reads-fixed (Word (codes "begin"))) (λ _.
      and_until EndsBlock (end_tokens sig.name) (end_ends_block sig.name) blocks (λ b. andthen (reads-phrase (end_tokens sig.name)) (λ _.
      reads-pure Any (record { sig = sig; locals = locals; block = b }) (λ _. tt))))))))

  reads-operations : (sigs : List Signature) → Reads (AreEach (IsOperation nests chains) sigs) Any (operations_at block sigs)
  unfolding operations_at
  reads-operations sigs = reads-each (IsOperation nests chains) (operation_at block) reads-operation sigs

  reads-passive : (name : Name) (sigs : List Signature) → Reads (IsForm nests chains (PassiveHead name sigs)) Any (passive_at block sigs)
  unfolding passive_at
  reads-passive name sigs = reads-same _ (IsForm nests chains (PassiveHead name sigs)) Any (passive_at block sigs)
      (λ f text g.
      let h = operations_to nests chains sigs g.a g.front g.before in
      let P : Form → Type 0 = λ q. IsForm nests chains (PassiveHead name sigs) q text in
      subst P (sym g.after.0) (ap (PassiveHead name) (sym h.0), h.1, g.whole ∙ ap (λ us. g.front ++ us) g.after.1 ∙ append-nil g.front ∙ h.2))
      (λ f text h.
      let k = passive_back nests chains name sigs f text h in
      record {
        a = k.0;
        front = flat_map operation_tokens k.0;
        back = [];
        before = k.2;
        after = (k.1, refl);
        whole = k.3 ∙ sym (append-nil (flat_map operation_tokens k.0));
      })
      (andthen (reads-operations sigs) (λ ops. reads-pure Any (Passive ops) (λ _. tt)))

  reads-shared : (name : Name) (ceiling : ℕ) (sigs : List Signature) (vars : List Datum)
      → Reads (IsForm nests chains (SharedHead name ceiling sigs vars)) Any (shared_at block ceiling sigs vars)
  unfolding shared_at
  reads-shared name ceiling sigs vars = reads-same _ (IsForm nests chains (SharedHead name ceiling sigs vars)) Any (shared_at block ceiling sigs vars)
      (λ f text g1.
      let g2 = g1.after in let g3 = g2.after in
      let h = operations_to nests chains sigs g2.a g2.front g2.before in
      let P : Form → Type 0 = λ q. IsForm nests chains (SharedHead name ceiling sigs vars) q text in
      subst P (sym g3.after.0) (
        ap (λ ss. SharedHead name ceiling ss vars) (sym
            h.0),
        h.1,
        rw (g1.whole, g1.before, g2.whole, h.2, g3.whole, g3.before, g3.after.1) refl,
      ))
      (λ f text h.
      let k = shared_back nests chains name ceiling sigs vars f text h in
      rw k.3 (joins-text _ fixed.ObjectBody f _ (joins-part _ k.0 (flat_map operation_tokens k.0) f _ k.2
      (joins-text _ fixed.ObjectEnd f [] (k.1, refl)))))
      (andthen (reads-text fixed.ObjectBody) (λ _. andthen (reads-operations sigs)
      (λ ops. andthen (reads-text fixed.ObjectEnd) (λ _. reads-pure Any (Shared ceiling vars ops) (λ _. tt)))))

  reads-cyclic : (name : Name) (priority : ℕ) → Reads (IsForm nests chains (CyclicHead name priority)) Any (cyclic_at block priority)
  unfolding cyclic_at
  reads-cyclic name priority = reads-same _ (IsForm nests chains (CyclicHead name priority)) Any (cyclic_at block priority)
      (λ f text g1.
      let g2 = g1.after in let g3 = g2.after in let g4 = g3.after in let g5 = g4.after in let g6 = g5.after in let g7 = g6.after
      in let g8 = g7.after in
      let P : Form → Type 0 = λ q. IsForm nests chains (CyclicHead name priority) q text in
      subst P (sym g8.after.0) (
        refl,
        (g1.before.0, g7.before.0),
        rw (
          g1.whole,
          g1.before.1,
          g2.whole,
          g2.before,
          g3.whole,
          g3.before,
          g4.whole,
          g4.before,
          g5.whole,
          g5.before,
          g6.whole,
          g6.before,
          g7.whole,
          g7.before.1,
          g8.whole,
          g8.before,
          g8.after.1,
        ) refl,
      ))
      (λ f text h.
      let c = cyclic_back nests chains name priority f text h in
      rw c.7 (joins-part _ c.2 (flat_map datum_tokens c.2) f _ (c.5, refl)
      (joins-text _ fixed.TaskBody f _ (joins-number _ c.0 f _ (joins-text _ fixed.Delay f _
      (joins-number _ c.1 f _ (joins-text _ fixed.Close f _ (joins-part _ c.3 (block_tokens c.3) f _ (c.6, refl)
      (joins-text _ fixed.TaskLoop f [] (c.4, refl))))))))))
      (and_until EndsData (fixed_tokens fixed.TaskBody) task_ends_data reads-data
      (λ vars. andthen (reads-text fixed.TaskBody) (λ _. andthen reads-number (λ offset. andthen (reads-text fixed.Delay) (λ _.
      andthen reads-number (λ period. andthen (reads-text fixed.Close)
      (λ _. and_until EndsBlock (fixed_tokens fixed.TaskLoop) loop_ends_block blocks (λ b. andthen (reads-text fixed.TaskLoop) (λ _.
      reads-pure Any (Cyclic priority offset period vars b) (λ _. tt))))))))))

  -- the statements of a task that waits for a request, with what stands before and behind them
  abbrev IsServing : Signature → Statements → List Token → Type 0
  IsServing op b text = IsProperBlock (limits nests chains) 0 b
      × (text ≡ keeping_tokens op ++ (waiting_tokens op.params ++ (block_tokens b ++ (fixed_tokens fixed.TaskLoop ++ []))))

  reads-serving : (op : Signature) → Reads (IsServing op) Any (serving_at block op)
  unfolding serving_at
  reads-serving op = reads-same _ (IsServing op) Any (serving_at block op)
      (λ b text g1.
      let g2 = g1.after in let g3 = g2.after in let g4 = g3.after in
      let P : Statements → Type 0 = λ q. IsServing op q text in
      subst P (sym g4.after.0) (
        g3.before.0,
        rw
            (g1.whole, g1.before, g2.whole, g2.before, g3.whole, g3.before.1, g4.whole, g4.before, g4.after.1) refl,
      ))
      (λ b text h.
      rw h.1 (joins-part _ tt (keeping_tokens op) b _ refl (joins-part _ tt (waiting_tokens op.params) b _ refl
      (joins-part _ b (block_tokens b) b _ (h.0, refl) (joins-text _ fixed.TaskLoop b [] (refl, refl))))))
      (andthen (reads-keeping op) (λ _. andthen (reads-waiting op.params)
      (λ _. and_until EndsBlock (fixed_tokens fixed.TaskLoop) loop_ends_block blocks (λ b. andthen (reads-text fixed.TaskLoop) (λ _.
      reads-pure Any b (λ _. tt))))))

  serving_ends_data : (op : Signature) (b : Statements) (text rest : List Token) → IsServing op b text → EndsData (first (text ++ rest))
  unfolding fixed_tokens next_is_name is_ada_name
  serving_ends_data op b text rest h = rw h.1 refl

  -- data end where the protected object begins
  serving_stops : (op : Signature) (only : Statements → Form) (f : Form) (back rest : List Token)
      → Joined (IsServing op) (λ b. IsOnly (only b)) f back → EndsData (first (back ++ rest))
  serving_stops op only f back rest k =
      let P : List Token → Type 0 = λ us. EndsData (first us) in
      subst P (sym (ap (λ us. us ++ rest) k.whole ∙ append_assoc k.front k.back rest)) (serving_ends_data op k.a k.front (k.back ++ rest) k.before)

  reads-sporadic : (name : Name) (priority ceiling : ℕ) (op : Signature) (separation jitter : ℕ) (external : Bool)
      → Reads (IsForm nests chains (SporadicHead name priority ceiling op separation jitter external)) Any
      (form_at block (SporadicHead name priority ceiling op separation jitter external))
  unfolding form_at
  reads-sporadic name priority ceiling op separation jitter external =
      reads-same _ (IsForm nests chains (SporadicHead name priority ceiling op separation jitter external)) Any
      (form_at block (SporadicHead name priority ceiling op separation jitter external))
      (λ f text g1.
      let g2 = g1.after in
      let P : Form → Type 0 = λ q. IsForm nests chains (SporadicHead name priority ceiling op separation jitter external) q text in
      subst P (sym g2.after.0) (
        refl,
        (g1.before.0, g2.before.0),
        g1.whole ∙ ap (λ us. us ++ g1.back) g1.before.1 ∙ ap (λ us. flat_map datum_tokens g1.a
            ++ us) (g2.whole ∙ ap (λ us. g2.front ++ us) g2.after.1 ∙ append-nil g2.front ∙ g2.before.1),
      ))
      (λ f text h.
      let c = sporadic_back nests chains name priority ceiling op separation jitter external f text h in
      let inner : List Token = keeping_tokens op ++ (waiting_tokens op.params ++ (block_tokens c.1 ++ (fixed_tokens fixed.TaskLoop ++ []))) in
      record {
        a = c.0;
        front = flat_map datum_tokens c.0;
        back = inner;
        before = (c.3, refl);
        after = record { a = c.1; front = inner; back = []; before = (c.4, refl); after = (c.2, refl); whole = sym (append-nil inner) };
        whole = c.5;
      })
      (reads-then (λ ds text. Each IsDatum ds × (text ≡ flat_map datum_tokens ds))
      (λ vars. Joined (IsServing op) (λ b. IsOnly (Sporadic priority ceiling op separation jitter external vars b)))
      (λ ds o. EndsData o) Any (data_at is_ada_name) (λ vars. then_at (serving_at block op)
      (λ b. pure_at (Sporadic priority ceiling op separation jitter external vars b))) reads-data
      (λ vars. andthen (reads-serving op) (λ b. reads-pure Any (Sporadic priority ceiling op separation jitter external vars b) (λ _. tt)))
      (λ vars f back rest k stop. serving_stops op (Sporadic priority ceiling op separation jitter external vars) f back rest k))

  reads-form : (h : Head) → Reads (IsForm nests chains h) Any (form_at block h)
  unfolding form_at
  reads-form (PassiveHead name sigs) = reads-passive name sigs
  reads-form (SharedHead name ceiling sigs vars) = reads-shared name ceiling sigs vars
  reads-form (CyclicHead name priority) = reads-cyclic name priority
  reads-form (SporadicHead name priority ceiling op separation jitter external) = reads-sporadic name priority ceiling op separation jitter external

  reads-body : (h : Head) → Reads (IsBody nests chains h) Any (body_at block h)
  unfolding body_at
  reads-body h = reads-same _ (IsBody nests chains h) Any (body_at block h)
      (λ u text g1.
      let g2 = g1.after in let g3 = g2.after in
      let P : programs.Unit → Type 0 = λ q. IsBody nests chains h q text in
      subst P (sym g3.after.0) (refl, g2.front, g2.before, rw (g1.whole, g1.before, g2.whole, g3.whole, g3.before, g3.after.1) refl))
      (λ u text b.
      rw b.3 (joins-part _ tt (body_head_tokens (head_name h)) u _ refl
      (joins-part _ u.form b.1 u _ b.2 (joins-phrase _ (end_tokens (head_name h)) u [] (body_back h u b.0, refl)))))
      (andthen (reads-body_head (head_name h)) (λ _. andthen (reads-form h) (λ form. andthen (reads-phrase (end_tokens (head_name h))) (λ _.
      reads-pure Any (record { name = head_name h; form = form }) (λ _. tt)))))

  -- the bodies of all units
  pub reads-bodies : (hs : List Head) → Reads (AreEach (IsBody nests chains) hs) Any (bodies_at block hs)
  unfolding bodies_at
  reads-bodies hs = reads-each (IsBody nests chains) (body_at block) reads-body hs
