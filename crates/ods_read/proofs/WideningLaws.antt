-- A reader of designs with wider limits reads what one with narrower limits reads, and goes on where that one is at a limit.
use Rattle.std.proofs.Common.{◌≡◌, ℕ, zero, suc, ◌-◌, ◌<◌, ◌≤◌, Bool, true, false, cond, List, [], ◌∷◌, length, Option, Some, None, is_some, Ok}
use Rattle.std.proofs.Common.{Err, codes, refl, sym, ap, subst, arith, length-append}
use Rattle.grammar.specs.Reading.{Syntax, TooDeep, Read, first, then_at, pure_at, deep_at, GoesOn, IsWithin, Beyond, Widens, Reads}
use Rattle.grammar.proofs.Shared.Widening.{past_at, widens-fewer, widens-token, widens-pure, widens-then, widens-behind, widens-choose, widens-deep}
use Rattle.grammar.proofs.Shared.Widening.{deep-beyond, widens-past, widens-many}
use Rattle.seq_tree.specs.declared.token.Token.{Token}
use Rattle.seq_tree.specs.declared.token.Token.TheVariants.{Word, Number, Sign}
use Rattle.seq_tree.specs.declared.token.Mark.TheVariants.{LeftParen, RightParen, Semicolon, Colon, Dot, DotDot, Equal}
use Rattle.ods_tree.specs.Designs.{Tree, Trees, Node, Empty}
use Rattle.ods_tree.specs.Trees.{trees_of}
use Rattle.ods_tree.specs.Words.{is_design_name}
use Rattle.token_read.specs.Readers.{sees_fixed, fixed_at, sees_name, name_at, next_is}
use Rattle.seq_read.specs.Statements.{BlockReader, word, block_at}
use Rattle.seq_read.proofs.Shared.StatementWidening.{widens-block}
use Rattle.seq_read.specs.Parts.{named_at, mode_named, end_tokens}
use Rattle.seq_read.proofs.Shared.TokenWidening.{widens-fixed, widens-phrase, widens-number, widens-named}
use Rattle.seq_read.proofs.Shared.DatumLaws as variables
use Rattle.ods_read.specs.Readers.{next_by, kind_named, constraint_named, key_named, unit_named, design_name_at, next_is_design_name, end_at}
use Rattle.ods_read.specs.Readers.{some_at, op_name_at, cost_at, cost_list_at, costs_at, next_is_unit, unit_at, attribute_at, attribute_list_at}
use Rattle.ods_read.specs.Readers.{attributes_at, param_at, more_param_at, param_list_at, enclosed_at, params_at, constraint_at, provided_at}
use Rattle.ods_read.specs.Readers.{provided_list_at, provides_at, needed_at, needed_list_at, requires_at, datum_at, locals_at, datum_list_at}
use Rattle.ods_read.specs.Readers.{data_at, body_at, bodies_at, activation_at, thread_at, link_at, link_list_at, implements_at, section_at}
use Rattle.ods_read.specs.ObjectReaders.{TreeReader, TreesReader, next_is_object, tree_list_at, none_at, over_at, children_at, object_at, tree_with}
use Rattle.ods_read.specs.DesignReaders.{tick_at, range_at, priorities_at, two_at, version_at, design_with}
use Rattle.ods_read.proofs.TreeLaws.{closed_at, reads-block}

-- PAST EVERY LIMIT
past_goes : {A : Type 0} (q : Read Token A) (m left : ℕ) → IsWithin m q → suc m ≡ left → GoesOn left q
past_goes (Ok x) m left h e = omega (arith, h, e)
past_goes (Err halt) m left h e = omega (arith, h, e)

past-of : {A : Type 0} {n : ℕ} {r p : List Token → Read Token A} → Widens n r p → Widens n past_at p
past-of {A} {n} {r} {p} w ts = record {
  ok = λ x e. absurd (cc);
  syntax = λ left e. absurd (cc);
  deep = λ left e.
      let h : Err (TooDeep (suc (length ts))) ≡ (let q : Read Token A = Err (TooDeep left) in q) = e in
      let same : suc (length ts) ≡ left = cc in
      past_goes (p ts) (length ts) left (w ts).within same;
  within = (w ts).within;
  enough = (w ts).enough;
}

-- a reader that reads a grammar leaves no more tokens than there were
past-zero : {A : Type 0} {G : A → List Token → Type 0} {Stops : A → Option Token → Type 0} {p : List Token → Read Token A} → Reads G Stops p
    → Widens 0 past_at p
past-zero {A} {G} {Stops} {p} one ts = record {
  ok = λ x e. absurd (cc);
  syntax = λ left e. absurd (cc);
  deep = λ left e.
      let h : Err (TooDeep (suc (length ts))) ≡ (let q : Read Token A = Err (TooDeep left) in q) = e in
      let same : suc (length ts) ≡ left = cc in
      past_goes (p ts) (length ts) left (of (p ts) refl) same;
  within = of (p ts) refl;
  enough = λ left short e. omega (arith, short);
} where
  of : (q : Read Token A) → p ts ≡ q → IsWithin (length ts) q
  of (Ok x) e = let f = one.sound ts x.0 x.1 e in omega (arith, ap length f.split, length-append f.text x.1)
  of (Err halt) e = let f = one.fault ts halt e in omega (arith, ap length f.split, length-append f.front f.back, f.place)

-- a token, and what is past every limit behind it
abbrev opening_at : {A : Type 0} → Token → List Token → Read Token A
opening_at u = then_at (fixed_at u) (λ _. past_at)

opening : {A : Type 0} (u : Token) (ts : List Token) → next_is u (first ts) ≡ true → opening_at {A = A} u ts ≡ Err (TooDeep (length ts))
unfolding fixed_at
opening {A} u [] e = absurd (cc)
opening {A} u (t ∷ us) e = rw e refl

fails_at : (u : Token) (ts : List Token) → next_is u (first ts) ≡ false → fixed_at u ts ≡ Err (Syntax (length ts))
unfolding fixed_at
fails_at u [] e = refl
fails_at u (t ∷ us) e = rw e refl

module _ (n : ℕ) where
  -- TOKENS
  pub widens-name : Widens n design_name_at design_name_at
  unfolding name_at
  widens-name = widens-token n (sees_name is_design_name)

  widens-some : {A : Type 0} (test : Option Token → Bool) {r s : List Token → Read Token A} → Widens n r s
      → Widens n (some_at test r) (some_at test s)
  widens-some test one = widens-then one (λ a. widens-then (widens-many test one) (λ more. widens-pure n (a ∷ more)))

  widens-section : {A : Type 0} (head : List ℕ) {list : List Token → Read Token (List A)} → Widens n list list
      → Widens n (section_at head list) (section_at head list)
  widens-section head one = widens-choose (next_is (Word head)) (widens-then (widens-fixed (Word head)) (λ _. one)) (widens-pure n [])

  -- WHAT HAS NO LIMITS
  widens-op_name : Widens n op_name_at op_name_at
  unfolding op_name_at
  widens-op_name = widens-then widens-name (λ object. widens-then (widens-fixed (Sign Dot))
      (λ _. widens-then widens-name (λ op. widens-pure n (record { object = object; op = op }))))

  widens-cost : (statement : List ℕ) → Widens n (cost_at statement) (cost_at statement)
  unfolding cost_at
  widens-cost statement =
      widens-then (widens-fixed (Word statement)) (λ _. widens-then (widens-fixed (Sign Equal))
      (λ _. widens-then widens-number (λ k. widens-then (widens-fixed (Sign Semicolon)) (λ _. widens-pure n k))))

  widens-cost_list : Widens n cost_list_at cost_list_at
  unfolding cost_list_at
  widens-cost_list =
      widens-then (widens-cost (codes "assign")) (λ assign. widens-then (widens-cost (codes "test"))
      (λ test. widens-then (widens-cost (codes "turn")) (λ turn.
      widens-then (widens-cost (codes "call")) (λ call. widens-then (widens-cost (codes "null"))
      (λ nothing. widens-then (widens-cost (codes "put")) (λ put.
      widens-then (widens-cost (codes "finish")) (λ finish.
      widens-pure n (record { assign = assign; test = test; turn = turn; call = call; nothing = nothing; put = put; finish = finish }))))))))

  pub widens-costs : Widens n costs_at costs_at
  unfolding costs_at
  widens-costs = widens-then (widens-fixed (Word (codes "costs")))
      (λ _. widens-then widens-cost_list (λ c. widens-then (widens-phrase (end_tokens (codes "costs"))) (λ _. widens-pure n c)))

  widens-unit : (units : Bool) → Widens n (unit_at units) (unit_at units)
  unfolding unit_at
  widens-unit units = widens-choose (next_is_unit units) (widens-then (widens-named unit_named) (λ u. widens-pure n (Some u))) (widens-pure n None)

  pub widens-attributes : (units : Bool) → Widens n (attributes_at units) (attributes_at units)
  unfolding attributes_at attribute_list_at attribute_at
  widens-attributes units = widens-section (codes "attributes") (widens-some (next_by key_named)
      (widens-then (widens-named key_named) (λ key. widens-then (widens-fixed (Sign Equal))
      (λ _. widens-then widens-number (λ k. widens-then (widens-unit units) (λ u.
      widens-then (widens-fixed (Sign Semicolon)) (λ _. widens-pure n (record { key = key; value = k; unit = u }))))))))

  widens-param : Widens n param_at param_at
  unfolding param_at
  widens-param =
      widens-then widens-name (λ name. widens-then (widens-fixed (Sign Colon))
      (λ _. widens-then (widens-named mode_named) (λ mode. widens-then (widens-fixed (Word (codes "word"))) (λ _.
      widens-pure n (record { name = name; mode = mode })))))

  widens-param_list : Widens n param_list_at param_list_at
  unfolding param_list_at more_param_at
  widens-param_list = widens-then widens-param
      (λ p. widens-then (widens-many (next_is (Sign Semicolon)) (widens-then (widens-fixed (Sign Semicolon)) (λ _. widens-param)))
      (λ ps. widens-pure n (p ∷ ps)))

  widens-params : Widens n params_at params_at
  unfolding params_at enclosed_at
  widens-params = widens-choose (next_is (Sign LeftParen))
      (widens-then (widens-fixed (Sign LeftParen)) (λ _. widens-then widens-param_list
      (λ ps. widens-then (widens-fixed (Sign RightParen)) (λ _. widens-pure n ps)))) (widens-pure n [])

  widens-constraint : Widens n constraint_at constraint_at
  unfolding constraint_at
  widens-constraint = widens-choose (next_by constraint_named) (widens-then (widens-named constraint_named) (λ c. widens-pure n (Some c)))
      (widens-pure n None)

  pub widens-provides : Widens n provides_at provides_at
  unfolding provides_at provided_list_at provided_at
  widens-provides = widens-section (codes "provides") (widens-some next_is_design_name
      (widens-then widens-name (λ name. widens-then widens-params
      (λ params. widens-then widens-constraint (λ c. widens-then (widens-fixed (Sign Semicolon)) (λ _.
      widens-pure n (record { sig = record { name = name; params = params }; constraint = c })))))))

  pub widens-requires : Widens n requires_at requires_at
  unfolding requires_at needed_list_at needed_at
  widens-requires = widens-section (codes "requires")
      (widens-some next_is_design_name (widens-then widens-op_name (λ o. widens-then (widens-fixed (Sign Semicolon)) (λ _. widens-pure n o))))

  widens-datum : Widens n datum_at datum_at
  unfolding datum_at
  widens-datum = variables.widens-datum is_design_name

  pub widens-locals : Widens n locals_at locals_at
  unfolding locals_at
  widens-locals = variables.widens-data is_design_name

  pub widens-data : Widens n data_at data_at
  unfolding data_at datum_list_at
  widens-data = widens-section (codes "data") (widens-some next_is_design_name widens-datum)

  pub widens-implements : Widens n implements_at implements_at
  unfolding implements_at link_list_at link_at
  widens-implements = widens-section (codes "implements") (widens-some next_is_design_name
      (widens-then widens-name (λ op. widens-then (widens-fixed (Word (codes "by")))
      (λ _. widens-then widens-op_name (λ to. widens-then (widens-fixed (Sign Semicolon)) (λ _.
      widens-pure n (record { op = op; to = to })))))))

  pub widens-version : Widens n version_at version_at
  unfolding version_at two_at tick_at priorities_at range_at
  widens-version = widens-choose (next_is (Word (codes "version")))
      (widens-then (widens-fixed (Word (codes "version"))) (λ _. widens-then (widens-fixed (Number 2))
      (λ _. widens-then (widens-fixed (Word (codes "is"))) (λ _.
      widens-then (widens-then (widens-fixed (Word (codes "tick")))
      (λ _. widens-then (widens-fixed (Sign Equal)) (λ _. widens-then widens-number (λ k. widens-then (widens-named unit_named) (λ u.
      widens-then (widens-fixed (Sign Semicolon)) (λ _. widens-pure n (k, u))))))) (λ tick.
      widens-then (widens-choose (next_is (Word (codes "priorities")))
      (widens-then (widens-fixed (Word (codes "priorities")))
      (λ _. widens-then widens-number (λ low. widens-then (widens-fixed (Sign DotDot)) (λ _. widens-then widens-number (λ high.
      widens-then (widens-fixed (Sign Semicolon)) (λ _. widens-pure n (Some (low, high))))))))
      (widens-pure n None)) (λ range. widens-pure n (Some (record { tick = tick.0; unit = tick.1; priorities = range }))))))))
      (widens-then (widens-fixed (Word (codes "is"))) (λ _. widens-pure n None))

  -- WHAT HAS THE LIMITS OF BLOCKS
  module _ (block wider : BlockReader) (widens : Widens n block wider) where
    widens-bodies : Widens n (bodies_at block) (bodies_at wider)
    unfolding bodies_at body_at
    widens-bodies = widens-many (next_is (Word (codes "operation")))
        (widens-then (widens-fixed (Word (codes "operation")))
        (λ _. widens-then widens-name (λ name. widens-then (widens-fixed (Word (codes "is"))) (λ _.
        widens-then widens-locals
        (λ locals. widens-then (widens-fixed (Word (codes "begin"))) (λ _. widens-then widens (λ b.
        widens-then (widens-phrase (end_tokens name)) (λ _. widens-pure n (record { name = name; locals = locals; block = b })))))))))

    widens-thread : Widens n (thread_at block) (thread_at wider)
    unfolding thread_at activation_at
    widens-thread = widens-choose (next_is (Word (codes "thread")))
        (widens-then (widens-fixed (Word (codes "thread")))
        (λ _. widens-then widens (λ b. widens-then (widens-phrase (end_tokens (codes "thread"))) (λ _. widens-pure n (Some b))))) (widens-pure n None)

  -- an object behind its first word
  abbrev behind_at : Bool → BlockReader → TreesReader → TreeReader
  behind_at units block children =
      then_at design_name_at (λ name. then_at (word (codes "is")) (λ _. then_at (named_at kind_named) (λ kind.
      then_at (attributes_at units) (λ attrs. then_at provides_at (λ provides. then_at requires_at (λ needs. then_at data_at (λ vars.
      then_at (bodies_at block) (λ bodies. then_at (thread_at block) (λ thread. then_at children (λ trees. then_at implements_at (λ links.
      then_at (end_at name) (λ _. pure_at (Node (record {
        name = name;
        kind = kind;
        attrs = attrs;
        provides = provides;
        needs = needs;
        vars = vars;
        bodies = bodies;
        thread = thread;
        links = links;
      }) trees)))))))))))))

  module _ (units : Bool) (block wider : BlockReader) (one : Widens n block wider) (children others : TreesReader)
      (two : Widens n children others) where
    widens-rest : Widens n (behind_at units block children) (behind_at units wider others)
    widens-rest =
        widens-then widens-name (λ name. widens-then (widens-fixed (Word (codes "is"))) (λ _. widens-then (widens-named kind_named) (λ kind.
        widens-then (widens-attributes units) (λ attrs. widens-then widens-provides
        (λ provides. widens-then widens-requires (λ needs. widens-then widens-data (λ vars.
        widens-then (widens-bodies block wider one) (λ bodies. widens-then (widens-thread block wider one)
        (λ thread. widens-then two (λ trees. widens-then widens-implements (λ links.
        widens-then (widens-phrase (end_tokens name)) (λ _. widens-pure n (Node (record {
          name = name;
          kind = kind;
          attrs = attrs;
          provides = provides;
          needs = needs;
          vars = vars;
          bodies = bodies;
          thread = thread;
          links = links;
        }) trees)))))))))))))

    widens-object : Widens n (object_at units block children) (object_at units wider others)
    unfolding object_at
    widens-object = widens-then (widens-fixed (Word (codes "object"))) (λ _. widens-rest)

    -- the reader with the wider limits takes the first word
    object-opens : Widens n (opening_at (Word (codes "object"))) (object_at units wider others)
    unfolding object_at
    object-opens = widens-then (widens-fixed (Word (codes "object"))) (λ _. past-of widens-rest)

  widens-list : (tree wider : TreeReader) → Widens n tree wider → Widens n (tree_list_at tree) (tree_list_at wider)
  unfolding tree_list_at
  widens-list tree wider one = widens-then (widens-some next_is_object one) (λ ts. widens-pure n (trees_of ts))

  -- a section of objects, by its list
  widens-opened : (list wider : TreesReader) → Widens (n - 1) list wider
      → Widens n (then_at (word (codes "objects")) (λ _. list)) (then_at (word (codes "objects")) (λ _. wider))
  unfolding fixed_at
  widens-opened list wider one = widens-fewer (suc (n - 1)) n (omega arith) (widens-behind (sees_fixed (Word (codes "objects"))) (λ _. one))

  widens-children : (list wider : TreesReader) → Widens (n - 1) list wider → Widens n (children_at list) (children_at wider)
  unfolding children_at
  widens-children list wider one = widens-choose (next_is (Word (codes "objects"))) (widens-opened list wider one) (widens-pure n Empty)

-- BLOCKS AND TREES, past every limit but for as many tokens
block-past : (more deeper n : ℕ) → 0 < more → n ≤ deeper → n ≤ more → Widens n past_at (block_at is_design_name more deeper)
block-past more zero n room a b = widens-fewer 0 n a (past-zero (reads-block 0 more 0 0 room refl))
block-past more (suc deeper) n room a b = past-of (widens-block is_design_name 0 more room 0 (suc deeper) n (omega arith) a b)

closed-past : Widens 0 past_at closed_at
closed-past = past-of (widens-choose (next_is (Word (codes "objects"))) widens-past (widens-pure 0 Empty))

module _ (more : ℕ) (room : 0 < more) (units : Bool) where
  abbrev tree : ℕ → TreeReader
  tree deeper = tree_with closed_at units more deeper

  tree-opens : (deeper n : ℕ) → n ≤ deeper → n ≤ more → Widens n (opening_at (Word (codes "object"))) (tree deeper)
  unfolding tree_with
  tree-opens zero n a b =
      widens-fewer 0 n a (object-opens 0 units past_at (block_at is_design_name more zero) (block-past more zero 0 room (omega arith) (omega arith))
      past_at closed_at closed-past)
  tree-opens (suc deeper) n a b =
      let list = widens-list (n - 1) (opening_at (Word (codes "object"))) (tree deeper) (tree-opens deeper (n - 1) (omega arith) (omega arith)) in
      object-opens n units past_at (block_at is_design_name more (suc deeper)) (block-past more (suc deeper) n room a b)
      past_at (children_at (tree_list_at (tree deeper))) (past-of (widens-children n past_at (tree_list_at (tree deeper)) (past-of list)))

  -- WHERE NO OBJECT MAY NEST ANY MORE, against a reader that goes on
  abbrev Last : TreesReader → Type 0
  Last last = (further n : ℕ) → n ≤ suc further → n ≤ more → Widens n last (children_at (tree_list_at (tree further)))

  list-opens : (further n : ℕ) → n ≤ further → n ≤ more → Widens n (tree_list_at (opening_at (Word (codes "object")))) (tree_list_at (tree further))
  list-opens further n a b = widens-list n (opening_at (Word (codes "object"))) (tree further) (tree-opens further n a b)

  pub closed-last : Last closed_at
  unfolding children_at
  closed-last further n a b =
      let list = tree_list_at (tree further) in
      let one : Widens n (opening_at (Word (codes "objects"))) (then_at (word (codes "objects")) (λ _. list))
      = widens-opened n past_at list (past-of (list-opens further (n - 1) (omega arith) (omega arith))) in
      widens-deep (next_is (Word (codes "objects"))) (λ ts t. (one ts).deep (length ts) (opening (Word (codes "objects")) ts t)) one
      (widens-pure n Empty)

  list_opening : (ts : List Token) → next_is_object (first ts) ≡ true → tree_list_at (opening_at (Word (codes "object"))) ts
      ≡ Err (TooDeep (length ts))
  unfolding tree_list_at
  list_opening ts t = rw (opening {A = Tree} (Word (codes "object")) ts t) refl

  tree_fails : (further : ℕ) (ts : List Token) → next_is_object (first ts) ≡ false → tree further ts ≡ Err (Syntax (length ts))
  unfolding tree_with object_at
  tree_fails zero ts t = rw (fails_at (Word (codes "object")) ts t) refl
  tree_fails (suc further) ts t = rw (fails_at (Word (codes "object")) ts t) refl

  list_fails : (further : ℕ) (ts : List Token) → next_is_object (first ts) ≡ false → tree_list_at (tree further) ts ≡ Err (Syntax (length ts))
  unfolding tree_list_at
  list_fails further ts t = rw (tree_fails further ts t) refl

  -- the same fault of syntax
  same_fault : (n k : ℕ) (p : Read Token Trees) → p ≡ Err (Syntax k) → Beyond n k (Err (Syntax k)) p
  same_fault n k p h =
      let P : Read Token Trees → Type 0 = λ q. Beyond n k (Err (Syntax k)) q in
      subst P (sym h) (record {
        ok = λ x e. e;
        syntax = λ left e. e;
        deep = λ left e. absurd (cc);
        within = omega arith;
        enough = λ left short e. cc;
      })

  over-beyond : (further n : ℕ) → n ≤ further → n ≤ more → Widens n over_at (tree_list_at (tree further))
  unfolding over_at
  over-beyond further n a b ts = of (next_is_object (first ts)) refl where
    of : (c : Bool) → next_is_object (first ts) ≡ c → Beyond n (length ts) (cond c (deep_at ts) (none_at ts)) (tree_list_at (tree further) ts)
    of true t =
        let w = list-opens further n a b ts in
        deep-beyond ts (tree_list_at (opening_at (Word (codes "object")))) (tree_list_at (tree further)) (w.deep (length ts) (list_opening ts t)) w
    of false t = same_fault n (length ts) (tree_list_at (tree further) ts) (list_fails further ts t)

  pub over-last : Last (children_at over_at)
  over-last further n a b = widens-children n over_at (tree_list_at (tree further)) (over-beyond further (n - 1) (omega arith) (omega arith))

  module _ (last : TreesReader) (limit : Last last) (most : ℕ) (h : most < more) where
    pub widens-tree : (deeper further n : ℕ) → deeper < further → n ≤ further → n ≤ more → Widens n (tree_with last units most deeper) (tree further)
    unfolding tree_with
    widens-tree deeper zero n a b c = absurd (omega arith)
    widens-tree zero (suc further) n a b c =
        widens-object n units (block_at is_design_name most zero) (block_at is_design_name more (suc further))
        (widens-block is_design_name most more h zero (suc further) n a b c)
        last (children_at (tree_list_at (tree further))) (limit further n b c)
    widens-tree (suc deeper) (suc further) n a b c =
        widens-object n units (block_at is_design_name most (suc deeper)) (block_at is_design_name more (suc further))
        (widens-block is_design_name most more h (suc deeper) (suc further) n a b c)
        (children_at (tree_list_at (tree_with last units most deeper))) (children_at (tree_list_at (tree further)))
        (widens-children n (tree_list_at (tree_with last units most deeper)) (tree_list_at (tree further))
        (widens-list (n - 1) (tree_with last units most deeper) (tree further)
        (widens-tree deeper further (n - 1) (omega arith) (omega arith) (omega arith))))

-- DESIGNS
pub widens-design : (last : TreesReader) (most more : ℕ) (h : most < more) (room : 0 < more) → ((units : Bool) → Last more room units last)
    → (deeper further n : ℕ) → deeper < further → n ≤ further → n ≤ more →
    Widens n (design_with last most deeper) (design_with closed_at more further)
unfolding design_with
widens-design last most more h room limit deeper further n a b c =
    widens-then (widens-fixed (Word (codes "design")))
    (λ _. widens-then (widens-name n) (λ name. widens-then (widens-version n) (λ version. widens-then (widens-costs n) (λ costs.
    widens-then (widens-tree more room (is_some version) last (limit (is_some version)) most h deeper further n a b c)
    (λ root. widens-then (widens-phrase (end_tokens name)) (λ _.
    widens-pure n (record { name = name; version = version; costs = costs; root = root })))))))
