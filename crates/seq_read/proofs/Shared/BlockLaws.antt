-- The reader of blocks reads the proper blocks within its limits.
use Rattle.std.proofs.Common.{◌≡◌, ℕ, zero, suc, ◌+◌, ◌<◌, nat_le, Bool, true, false, cond, List, [], ◌∷◌, ◌++◌, length, codes, Option, Some}
use Rattle.std.proofs.Common.{◌⊎◌, inl, inr, refl, sym, ap, subst, ◌∙◌, arith, length-append}
use Rattle.std.proofs.lemmas.Bool.{le-leb, lt-leb}
use Rattle.grammar.specs.Reading.{first, then_at, pure_at, pick_at, many_at, deep_at, Reads, Joined, AreMany}
use Rattle.grammar.proofs.Shared.Laws.{reads-same, reads-map}
use Rattle.grammar.proofs.Shared.Picks.{reads-pick, AtLimit}
use Rattle.grammar.proofs.Shared.From.{Last}
use Rattle.grammar.proofs.Shared.Many.{reads-many}
use Rattle.seq_tree.specs.Names.{Name}
use Rattle.seq_tree.specs.Expressions.{Expression}
use Rattle.seq_tree.specs.Statements.{Statement, Statements, Branches, Null, Assign, If, For, ExitWhen, Call, Work, Put, End, Then, Nothing}
use Rattle.seq_tree.specs.Statements.{Else, When}
use Rattle.seq_tree.specs.Trees.{statements_of}
use Rattle.seq_tree.specs.Spelling.{expression_tokens, actual_tokens}
use Rattle.seq_tree.specs.Proper.{Limits, IsProperExpression, AreProperActuals, IsProperIf, IsProperStatement, IsProperBlock, AreProperStatements}
use Rattle.seq_tree.specs.declared.token.Token.{Token}
use Rattle.seq_tree.specs.declared.token.Token.TheVariants as token
use Rattle.seq_tree.specs.declared.token.Mark.TheVariants.{Semicolon, Dot, Becomes}
use Rattle.token_read.proofs.Shared.TokenLaws.{Any, andthen}
use Rattle.seq_read.specs.declared.statements.Kind.{Kind}
use Rattle.seq_read.specs.declared.statements.Kind.TheVariants as kind
use Rattle.seq_read.specs.Expressions.{ExpressionReader, expression_at}
use Rattle.seq_read.specs.Statements.{StatementReader, BlockReader, kind_of, next_is_name, has_word, begins_statement, null_at, work_at, put_at}
use Rattle.seq_read.specs.Statements.{exit_at, named_at, if_at, for_at, statement_with, block_with, statement_at, block_at}
use Rattle.seq_read.proofs.Stopping.{StopsWhole}
use Rattle.seq_read.proofs.Shared.ChainLevels.{bounds}
use Rattle.seq_read.proofs.Shared.ExpressionLaws.{not_word, reads-expression}
use Rattle.seq_read.proofs.Shared.StatementTokens.{w, statement_toks, block_toks, branch_toks}
use Rattle.seq_read.proofs.Shared.StatementLaws.{Reserves, reads-null, reads-work, reads-put, reads-exit, reads-named, reads-if, reads-for}

-- the kind of a statement
abbrev pub kind_by : Statement → Kind
kind_by Null = kind.Null
kind_by (Assign target value) = kind.Named
kind_by (If branches) = kind.If
kind_by (For name low high body) = kind.For
kind_by (ExitWhen condition) = kind.Exit
kind_by (Call object op actuals) = kind.Named
kind_by (Work ticks) = kind.Work
kind_by (Put value) = kind.Put

-- statements as a list and as a tree
list_of : Statements → List Statement
list_of End = []
list_of (Then s ss) = s ∷ list_of ss

of_list : (b : Statements) → statements_of (list_of b) ≡ b
unfolding list_of
of_list End = refl
of_list (Then s ss) = ap (Then s) (of_list ss)

module _ (is_name : Name → Bool) (reserves : Reserves is_name) (some_name : Name) (some_is : is_name some_name
    ≡ true) (nests most : ℕ) (room : 0 < most) where
  abbrev l : Limits
  l = bounds is_name nests most

  abbrev pub IsStatement : ℕ → Statement → List Token → Type 0
  IsStatement d s text = IsProperStatement l d s × (text ≡ statement_toks s)

  abbrev IsOf : ℕ → Kind → Statement → List Token → Type 0
  IsOf d k s text = IsStatement d s text × (kind_by s ≡ k)

  -- a name begins no other statement
  name_kind : (name : Name) → is_name name ≡ true → kind_of (Some (token.Word name)) ≡ kind.Named
  unfolding kind_of
  name_kind name h =
      rw (
        not_word is_name (codes "null") name reserves.null_ h,
        not_word is_name (codes "if") name reserves.if_ h,
        not_word is_name (codes "for") name reserves.for_ h,
        not_word is_name (codes "exit") name reserves.exit_ h,
        not_word is_name (codes "work") name reserves.work_ h,
        not_word is_name (codes "put") name reserves.put_ h,
      ) refl

  first_kind : (d : ℕ) (s : Statement) (text rest : List Token) → IsStatement d s text → kind_of (first (text ++ rest)) ≡ kind_by s
  unfolding kind_of
  first_kind d Null text rest h = rw h.1 refl
  first_kind d (Assign target value) text rest h = rw h.1 (name_kind target h.0.0)
  first_kind d (If Nothing) text rest h = absurd h.0.1
  first_kind d (If (Else b)) text rest h = absurd h.0.1
  first_kind d (If (When c b others)) text rest h = rw h.1 refl
  first_kind d (For name low high body) text rest h = rw h.1 refl
  first_kind d (ExitWhen condition) text rest h = rw h.1 refl
  first_kind d (Call object op actuals) text rest h = rw h.1 (name_kind object h.0.0)
  first_kind d (Work ticks) text rest h = rw h.1 refl
  first_kind d (Put value) text rest h = rw h.1 refl

  first_named : (d : ℕ) (s : Statement) (text rest : List Token) → IsStatement d s text → kind_by s ≡ kind.Named
      → next_is_name is_name (first (text ++ rest)) ≡ true
  unfolding next_is_name
  first_named d (Assign target value) text rest h k = rw h.1 h.0.0
  first_named d (Call object op actuals) text rest h k = rw h.1 h.0.0
  first_named d Null text rest h k = absurd (cc)
  first_named d (If branches) text rest h k = absurd (cc)
  first_named d (For name low high body) text rest h k = absurd (cc)
  first_named d (ExitWhen condition) text rest h k = absurd (cc)
  first_named d (Work ticks) text rest h k = absurd (cc)
  first_named d (Put value) text rest h k = absurd (cc)

  starts : (d : ℕ) (s : Statement) (text rest : List Token) → IsStatement d s text → begins_statement is_name (first (text ++ rest)) ≡ true
  unfolding begins_statement
  starts d s text rest h = rw (first_kind d s text rest h) (of (kind_by s) refl) where
    of : (k : Kind) → kind_by s ≡ k → cond (has_word k) true (next_is_name is_name (first (text ++ rest))) ≡ true
    of kind.Null e = refl
    of kind.If e = refl
    of kind.For e = refl
    of kind.Exit e = refl
    of kind.Work e = refl
    of kind.Put e = refl
    of kind.Named e = first_named d s text rest h e

  grows : (d : ℕ) (s : Statement) (text : List Token) → IsStatement d s text → 0 < length text
  grows d Null text h = rw h.1 (omega arith)
  grows d (Assign target value) text h = rw h.1 (omega arith)
  grows d (If branches) text h = rw h.1
      (omega (arith, length-append (branch_toks (codes "if") branches) (w (codes "end") ∷ w (codes "if") ∷ token.Sign Semicolon ∷ [])))
  grows d (For name low high body) text h = rw h.1 (omega arith)
  grows d (ExitWhen condition) text h = rw h.1 (omega arith)
  grows d (Call object op actuals) text h = rw h.1 (omega arith)
  grows d (Work ticks) text h = rw h.1 (omega arith)
  grows d (Put value) text h = rw h.1 (omega arith)

  -- A STATEMENT, over readers of expressions and of what nests
  module _ (d : ℕ) (expression : ExpressionReader) (expressions : Reads (λ e text. IsProperExpression l d e
      × (text ≡ expression_tokens e)) StopsWhole expression) where
    of_null : Reads (IsOf d kind.Null) Any null_at
    of_null = reads-same _ (IsOf d kind.Null) Any null_at (λ s text h. rw (h.0, h.1) ((tt, refl), refl)) back
        (reads-null is_name reserves some_name some_is l (λ n. refl) d expression expressions) where
          back : (s : Statement) (text : List Token) → IsOf d kind.Null s text → (s ≡ Null) × (text ≡ statement_toks Null)
          back Null text h = (refl, h.0.1)
          back (Assign target value) text h = absurd (let k = h.1 in cc)
          back (If branches) text h = absurd (let k = h.1 in cc)
          back (For name low high body) text h = absurd (let k = h.1 in cc)
          back (ExitWhen condition) text h = absurd (let k = h.1 in cc)
          back (Call object op actuals) text h = absurd (let k = h.1 in cc)
          back (Work ticks) text h = absurd (let k = h.1 in cc)
          back (Put value) text h = absurd (let k = h.1 in cc)

    of_work : Reads (IsOf d kind.Work) Any work_at
    of_work = reads-same _ (IsOf d kind.Work) Any work_at (λ s text h. rw (h.1, h.2) ((tt, refl), refl)) back
        (reads-work is_name reserves some_name some_is l (λ n. refl) d expression expressions) where
          back : (s : Statement) (text : List Token) → IsOf d kind.Work s text → (n : ℕ) × (s ≡ Work n) × (text ≡ statement_toks (Work n))
          back (Work n) text h = (n, refl, h.0.1)
          back Null text h = absurd (let k = h.1 in cc)
          back (Assign target value) text h = absurd (let k = h.1 in cc)
          back (If branches) text h = absurd (let k = h.1 in cc)
          back (For name low high body) text h = absurd (let k = h.1 in cc)
          back (ExitWhen condition) text h = absurd (let k = h.1 in cc)
          back (Call object op actuals) text h = absurd (let k = h.1 in cc)
          back (Put value) text h = absurd (let k = h.1 in cc)

    of_put : Reads (IsOf d kind.Put) Any (put_at expression)
    of_put = reads-same _ (IsOf d kind.Put) Any (put_at expression) (λ s text h. rw (h.2, h.3) ((h.1, refl), refl)) back
        (reads-put is_name reserves some_name some_is l (λ n. refl) d expression expressions) where
          back : (s : Statement) (text : List Token) → IsOf d kind.Put s text → (e : Expression) × IsProperExpression l d e × (s ≡ Put e)
              × (text ≡ statement_toks (Put e))
          back (Put e) text h = (e, h.0.0, refl, h.0.1)
          back Null text h = absurd (let k = h.1 in cc)
          back (Assign target value) text h = absurd (let k = h.1 in cc)
          back (If branches) text h = absurd (let k = h.1 in cc)
          back (For name low high body) text h = absurd (let k = h.1 in cc)
          back (ExitWhen condition) text h = absurd (let k = h.1 in cc)
          back (Call object op actuals) text h = absurd (let k = h.1 in cc)
          back (Work ticks) text h = absurd (let k = h.1 in cc)

    of_exit : Reads (IsOf d kind.Exit) Any (exit_at expression)
    of_exit = reads-same _ (IsOf d kind.Exit) Any (exit_at expression) (λ s text h. rw (h.2, h.3) ((h.1, refl), refl)) back
        (reads-exit is_name reserves some_name some_is l (λ n. refl) d expression expressions) where
          back : (s : Statement) (text : List Token) → IsOf d kind.Exit s text → (e : Expression) × IsProperExpression l d e × (s ≡ ExitWhen e)
              × (text ≡ statement_toks (ExitWhen e))
          back (ExitWhen e) text h = (e, h.0.0, refl, h.0.1)
          back Null text h = absurd (let k = h.1 in cc)
          back (Assign target value) text h = absurd (let k = h.1 in cc)
          back (If branches) text h = absurd (let k = h.1 in cc)
          back (For name low high body) text h = absurd (let k = h.1 in cc)
          back (Call object op actuals) text h = absurd (let k = h.1 in cc)
          back (Work ticks) text h = absurd (let k = h.1 in cc)
          back (Put value) text h = absurd (let k = h.1 in cc)

    abbrev Named : Statement → List Token → Type 0
    Named s text = (name : Name) × (tail : List Token) × (is_name name ≡ true)
        × (((e : Expression) × IsProperExpression l d e × (s ≡ Assign name e)
        × (tail ≡ token.Sign Becomes ∷ (expression_tokens e ++ token.Sign Semicolon ∷ [])))
        ⊎ ((op : Name) × (es : List Expression) × (is_name op ≡ true) × AreProperActuals l d es × (s ≡ Call name op es)
        × (tail ≡ token.Sign Dot ∷ token.Word op ∷ (actual_tokens es ++ token.Sign Semicolon ∷ []))))
        × (text ≡ token.Word name ∷ tail)

    of_named : Reads (IsOf d kind.Named) Any (named_at is_name expression)
    of_named = reads-same _ (IsOf d kind.Named) Any (named_at is_name expression)
        (λ s text h. elim h.3 [ inl a ↦ rw (a.2, h.4, a.3) (((h.2, a.1), refl), refl) | inr c ↦ rw (c.4, h.4, c.5) (((h.2, c.2, c.3), refl), refl) ])
        back (reads-named is_name reserves some_name some_is l (λ n. refl) d expression expressions) where
          back : (s : Statement) (text : List Token) → IsOf d kind.Named s text → Named s text
          back (Assign target value) text h
              = (
                target,
                token.Sign Becomes ∷ (expression_tokens value ++ token.Sign Semicolon
                    ∷ []),
                h.0.0.0,
                inl (value, h.0.0.1, refl, refl),
                h.0.1,
              )
          back (Call object op actuals) text h
              = (
                object,
                token.Sign Dot ∷ token.Word op ∷ (actual_tokens actuals ++ token.Sign Semicolon
                    ∷ []),
                h.0.0.0,
                inr (op, actuals, h.0.0.1, h.0.0.2, refl, refl),
                h.0.1,
              )
          back Null text h = absurd (let k = h.1 in cc)
          back (If branches) text h = absurd (let k = h.1 in cc)
          back (For name low high body) text h = absurd (let k = h.1 in cc)
          back (ExitWhen condition) text h = absurd (let k = h.1 in cc)
          back (Work ticks) text h = absurd (let k = h.1 in cc)
          back (Put value) text h = absurd (let k = h.1 in cc)

    abbrev Branching : StatementReader → Type 0
    Branching r = Reads (IsOf d kind.If) Any r ⊎ AtLimit (IsOf d kind.If) r

    abbrev Looping : StatementReader → Type 0
    Looping r = Reads (IsOf d kind.For) Any r ⊎ AtLimit (IsOf d kind.For) r

    of_kind : (branching looping : StatementReader) → Branching branching → Looping looping → (k : Kind) → Unit {0} →
        Reads (IsOf d k) Any (statement_with is_name expression branching looping k)
        ⊎ AtLimit (IsOf d k) (statement_with is_name expression branching looping k)
    unfolding statement_with
    of_kind branching looping b f kind.Null fits = inl of_null
    of_kind branching looping b f kind.If fits = b
    of_kind branching looping b f kind.For fits = f
    of_kind branching looping b f kind.Exit fits = inl of_exit
    of_kind branching looping b f kind.Work fits = inl of_work
    of_kind branching looping b f kind.Put fits = inl of_put
    of_kind branching looping b f kind.Named fits = inl of_named

    pub reads-kinds : (branching looping : StatementReader) → Branching branching → Looping looping
        → Reads (IsStatement d) Any (pick_at kind_of (statement_with is_name expression branching looping))
    reads-kinds branching looping b f =
        reads-pick kind_of (IsOf d) (λ k. Any) (IsStatement d) Any (λ k. Unit {0}) (λ o. tt) (statement_with is_name expression branching looping)
        (of_kind branching looping b f)
        (λ k s text h. h.0) (λ k s text rest h at stop. tt) (λ s text rest h stop. ((h, sym (first_kind d s text rest h)), tt)) Null
        (statement_toks Null) (tt, refl)

  -- A BLOCK, over a reader of statements
  abbrev pub IsBlock : ℕ → Statements → List Token → Type 0
  IsBlock d b text = IsProperBlock l d b × (text ≡ block_toks b)

  abbrev pub EndsBlock : Statements → Option Token → Type 0
  EndsBlock b o = begins_statement is_name o ≡ false

  module _ (d : ℕ) (statement : StatementReader) (statements : Reads (IsStatement d) Any statement) where
    many_to : (ss : List Statement) (text : List Token) → AreMany (IsStatement d) ss text
        → AreProperStatements l d (statements_of ss) × (text ≡ block_toks (statements_of ss))
    many_to [] text g = (tt, g)
    many_to (s ∷ ss) text g = let h = many_to ss g.1 g.3 in ((g.2.0, h.0), rw (g.4, g.2.1, h.1) refl)

    many_back : (b : Statements) → AreProperStatements l d b → AreMany (IsStatement d) (list_of b) (block_toks b)
    unfolding list_of
    many_back End h = refl
    many_back (Then s ss) h = (statement_toks s, block_toks ss, (h.0, refl), many_back ss h.1, refl)

    abbrev IsRest : Statement → Statements → List Token → Type 0
    IsRest s b text = (ss : Statements) × (b ≡ Then s ss) × AreProperStatements l d ss × (text ≡ block_toks ss)

    last_any : (xs : List Statement) (o : Option Token) → Last {T = Token} Any xs o
    last_any [] o = tt
    last_any (x ∷ []) o = tt
    last_any (x ∷ (y ∷ ys)) o = last_any (y ∷ ys) o

    reads-rest : (s : Statement) → Reads (IsRest s) EndsBlock (then_at (many_at (begins_statement is_name) statement)
        (λ ss. pure_at (statements_of (s ∷ ss))))
    unfolding list_of begins_statement kind_of next_is_name
    reads-rest s = reads-map (AreMany (IsStatement d)) (IsRest s) (λ xs o. (begins_statement is_name o ≡ false)
        × Last Any xs o) EndsBlock (many_at (begins_statement is_name) statement) (λ ss. statements_of (s ∷ ss))
        (reads-many (begins_statement is_name) (IsStatement d) Any statement statements (starts d) (grows d) (λ a o t. tt) refl)
        (λ ss text g. let h = many_to ss text g in (statements_of ss, refl, h.0, h.1))
        (λ b text h. (list_of h.0, rw h.3 (many_back h.0 h.2), ap (Then s) (of_list h.0) ∙ sym h.1))
        (λ a o h. h.0) (λ a o h. (h, last_any a o))

    block_to : (b : Statements) (text : List Token) → Joined (IsStatement d) IsRest b text → IsBlock d b text
    block_to b text g =
        let r = g.after in
        let P : Statements → Type 0 = λ c. IsBlock d c text in
        subst P (sym r.1) ((g.before.0, r.2), rw (g.whole, g.before.1, r.3) refl)

    block_back : (b : Statements) (text : List Token) → IsBlock d b text → Joined (IsStatement d) IsRest b text
    block_back End text h = absurd h.0
    block_back (Then s ss) text h = record {
      a = s;
      front = statement_toks s;
      back = block_toks ss;
      before = (h.0.0, refl);
      after = (ss, refl, h.0.1, refl);
      whole = h.1;
    }

    pub reads-block-with : Reads (IsBlock d) EndsBlock (block_with is_name statement)
    unfolding block_with
    reads-block-with = reads-same _ (IsBlock d) EndsBlock (block_with is_name statement) block_to block_back (andthen statements reads-rest)

  -- NESTING
  closed_if : (d : ℕ) → nat_le (suc d) nests ≡ false → AtLimit (IsOf d kind.If) deep_at
  closed_if d full = record { deep = λ ts. refl; none = none } where
    none : (s : Statement) (text : List Token) → IsOf d kind.If s text → ⊥
    none (If branches) text h = let opens = h.0.0.0 in cc
    none Null text h = let k = h.1 in cc
    none (Assign target value) text h = let k = h.1 in cc
    none (For name low high body) text h = let k = h.1 in cc
    none (ExitWhen condition) text h = let k = h.1 in cc
    none (Call object op actuals) text h = let k = h.1 in cc
    none (Work ticks) text h = let k = h.1 in cc
    none (Put value) text h = let k = h.1 in cc

  closed_for : (d : ℕ) → nat_le (suc d) nests ≡ false → AtLimit (IsOf d kind.For) deep_at
  closed_for d full = record { deep = λ ts. refl; none = none } where
    none : (s : Statement) (text : List Token) → IsOf d kind.For s text → ⊥
    none (For name low high body) text h = let opens = h.0.0.0 in cc
    none Null text h = let k = h.1 in cc
    none (Assign target value) text h = let k = h.1 in cc
    none (If branches) text h = let k = h.1 in cc
    none (ExitWhen condition) text h = let k = h.1 in cc
    none (Call object op actuals) text h = let k = h.1 in cc
    none (Work ticks) text h = let k = h.1 in cc
    none (Put value) text h = let k = h.1 in cc

  module _ (d : ℕ) (opens : nat_le (suc d) nests ≡ true) (expression : ExpressionReader)
      (expressions : Reads (λ e text. IsProperExpression l (suc d) e × (text ≡ expression_tokens e)) StopsWhole expression)
      (block : BlockReader) (blocks : Reads (IsBlock (suc d)) EndsBlock block) where
    open_if : Reads (IsOf d kind.If) Any (if_at expression block)
    open_if = reads-same _ (IsOf d kind.If) Any (if_at expression block) (λ s text h. rw (h.1, h.3) (((opens, h.2), refl), refl)) back
        (reads-if is_name reserves some_name some_is l (λ n. refl) (suc d) expression expressions block blocks) where
          back : (s : Statement) (text : List Token) → IsOf d kind.If s text → (bs : Branches) × (s ≡ If bs) × IsProperIf l (suc d) bs
              × (text ≡ branch_toks (codes "if") bs ++ w (codes "end") ∷ w (codes "if") ∷ token.Sign Semicolon ∷ [])
          back (If bs) text h = (bs, refl, h.0.0.1, h.0.1)
          back Null text h = absurd (let k = h.1 in cc)
          back (Assign target value) text h = absurd (let k = h.1 in cc)
          back (For name low high body) text h = absurd (let k = h.1 in cc)
          back (ExitWhen condition) text h = absurd (let k = h.1 in cc)
          back (Call object op actuals) text h = absurd (let k = h.1 in cc)
          back (Work ticks) text h = absurd (let k = h.1 in cc)
          back (Put value) text h = absurd (let k = h.1 in cc)

    open_for : Reads (IsOf d kind.For) Any (for_at is_name block)
    open_for = reads-same _ (IsOf d kind.For) Any (for_at is_name block) (λ s text h. rw (h.6, h.7) (((opens, h.4, h.5), refl), refl)) back
        (reads-for is_name reserves some_name some_is l (λ n. refl) (suc d) expression expressions block blocks) where
          back : (s : Statement) (text : List Token) → IsOf d kind.For s text → (name : Name) × (low high : ℕ) × (b : Statements)
              × (is_name name ≡ true) × IsProperBlock l (suc d) b × (s ≡ For name low high b) × (text ≡ statement_toks (For name low high b))
          back (For name low high b) text h = (name, low, high, b, h.0.0.1, h.0.0.2, refl, h.0.1)
          back Null text h = absurd (let k = h.1 in cc)
          back (Assign target value) text h = absurd (let k = h.1 in cc)
          back (If branches) text h = absurd (let k = h.1 in cc)
          back (ExitWhen condition) text h = absurd (let k = h.1 in cc)
          back (Call object op actuals) text h = absurd (let k = h.1 in cc)
          back (Work ticks) text h = absurd (let k = h.1 in cc)
          back (Put value) text h = absurd (let k = h.1 in cc)

  expressions_at : (deeper d : ℕ) → d + deeper ≡ nests
      → Reads (λ e text. IsProperExpression l d e × (text ≡ expression_tokens e)) StopsWhole (expression_at is_name most deeper)
  expressions_at = reads-expression is_name reserves.not_ some_name some_is nests most room

  pub reads-statement : (deeper d : ℕ) → d + deeper ≡ nests → Reads (IsStatement d) Any (statement_at is_name most deeper)
  unfolding statement_at
  reads-statement zero d at =
      let full : nat_le (suc d) nests ≡ false = lt-leb (suc d) nests (omega (arith, at)) in
      reads-kinds d (expression_at is_name most zero) (expressions_at zero d at) deep_at deep_at (inr (closed_if d full)) (inr (closed_for d full))
  reads-statement (suc deeper) d at =
      let opens : nat_le (suc d) nests ≡ true = le-leb (suc d) nests (omega (arith, at)) in
      let further : suc d + deeper ≡ nests = omega (arith, at) in
      let inner = reads-block-with (suc d) (statement_at is_name most deeper) (reads-statement deeper (suc d) further) in
      reads-kinds d (expression_at is_name most (suc deeper)) (expressions_at (suc deeper) d at)
      (if_at (expression_at is_name most deeper) (block_with is_name (statement_at is_name most deeper)))
      (for_at is_name (block_with is_name (statement_at is_name most deeper)))
      (inl (open_if d opens (expression_at is_name most deeper) (expressions_at deeper (suc d) further)
      (block_with is_name (statement_at is_name most deeper)) inner))
      (inl (open_for d opens (expression_at is_name most deeper) (expressions_at deeper (suc d) further)
      (block_with is_name (statement_at is_name most deeper)) inner))

  pub reads-block : (deeper d : ℕ) → d + deeper ≡ nests → Reads (IsBlock d) EndsBlock (block_at is_name most deeper)
  reads-block deeper d at = reads-block-with d (statement_at is_name most deeper) (reads-statement deeper d at)
