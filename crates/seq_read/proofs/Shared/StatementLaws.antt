-- The reader of statements reads the proper statements within its limits.
use Rattle.std.proofs.Common.{◌≡◌, ℕ, Bool, true, false, List, [], ◌∷◌, ◌++◌, codes, Option, Some, None, ◌⊎◌, inl, inr, refl, sym, ap, subst}
use Rattle.std.proofs.Common.{◌∙◌, arith, append_assoc}
use Rattle.std.specs.Prelude.{⊤}
use Rattle.grammar.specs.Reading.{Read, first, then_at, pure_at, many_at, Reads, Joined, AreMany}
use Rattle.grammar.proofs.Shared.Laws.{IsOnly, reads-pure, reads-same, reads-then, reads-branch, reads-choose, reads-map, joins-part}
use Rattle.grammar.proofs.Shared.From.{Last}
use Rattle.grammar.proofs.Shared.Many.{reads-many}
use Rattle.seq_tree.specs.Names.{Name}
use Rattle.seq_tree.specs.Expressions.{Expression}
use Rattle.seq_tree.specs.Statements.{Statement, Statements, Branches, Null, Assign, If, For, ExitWhen, Call, Work, Put, Nothing, Else, When}
use Rattle.seq_tree.specs.Trees.{branches_of}
use Rattle.seq_tree.specs.Spelling.{expression_tokens, actual_tokens, more_actuals}
use Rattle.seq_tree.specs.Proper.{Limits, IsProperExpression, AreProperActuals, IsProperBlock, IsProperIf, AreProperBranches}
use Rattle.seq_tree.specs.declared.token.Token.{Token}
use Rattle.seq_tree.specs.declared.token.Token.TheVariants as token
use Rattle.seq_tree.specs.declared.token.Mark.TheVariants.{LeftParen, RightParen, Comma, Dot, DotDot, Becomes}
use Rattle.token_read.specs.Readers.{fixed_at, next_is}
use Rattle.token_read.proofs.Shared.TokenLaws.{Any, andthen, same_is, IsFixed, reads-fixed, reads-number, reads-name, joins-fixed, joins-name}
use Rattle.token_read.proofs.Shared.TokenLaws.{joins-number}
use Rattle.seq_read.specs.declared.operators.Class.{Class}
use Rattle.seq_read.specs.declared.operators.Class.TheVariants as class
use Rattle.seq_read.specs.Operators.{sees_operator, begins}
use Rattle.seq_read.specs.Expressions.{ExpressionReader}
use Rattle.seq_read.specs.Statements.{BlockReader, kind_of, next_is_name, begins_statement, null_at, work_at, put_at, exit_at, assignment_at}
use Rattle.seq_read.specs.Statements.{further_at, list_at, actuals_at, call_at, named_at, guarded_at, arm_at, else_at, otherwise_at, if_at}
use Rattle.seq_read.specs.Statements.{for_at}
use Rattle.seq_read.proofs.Stopping.{StopsWhole, stops_whole}
use Rattle.seq_read.proofs.Shared.StatementTokens.{w, semicolon, statement_toks, block_toks, branch_toks}

-- words that are no names
pub record Reserves (is_name : Name → Bool) : Type 0 where
  pub not_ : is_name (codes "not") ≡ false
  pub null_ : is_name (codes "null") ≡ false
  pub if_ : is_name (codes "if") ≡ false
  pub for_ : is_name (codes "for") ≡ false
  pub exit_ : is_name (codes "exit") ≡ false
  pub work_ : is_name (codes "work") ≡ false
  pub put_ : is_name (codes "put") ≡ false
  pub end_ : is_name (codes "end") ≡ false
  pub elsif_ : is_name (codes "elsif") ≡ false
  pub else_ : is_name (codes "else") ≡ false

-- a reader before a token at which it stops
pub before-token : {A B : Type 0} {G : A → List Token → Type 0} {StopsG : A → Option Token → Type 0} {K : A → B → List Token → Type 0} {Stops : B
    → Option Token → Type 0} {r : List Token → Read Token A} {k : A → List Token → Read Token B} (u : Token) →
    ((a : A) → StopsG a (Some u)) → Reads G StopsG r → ((a : A) → Reads (K a) Stops (k a))
    → Reads (Joined G (λ a. Joined (IsFixed u) (λ _. K a))) Stops (then_at r (λ a. then_at (fixed_at u) (λ _. k a)))
before-token {G = G} {StopsG = StopsG} {K = K} {Stops = Stops} {r = r} {k = k} u at one two =
    reads-then G (λ a. Joined (IsFixed u) (λ _. K a)) StopsG Stops r (λ a. then_at (fixed_at u) (λ _. k a)) one
    (λ a. andthen (reads-fixed u) (λ _. two a))
    (λ a b back rest h stop. rw (h.whole, h.before) (at a))

-- tokens that are no operators
no_mark : (c : Class) → (begins c (Some semicolon) ≡ false) × (begins c (Some (token.Sign RightParen)) ≡ false)
    × (begins c (Some (token.Sign Comma)) ≡ false) × (begins c (Some (w (codes "then"))) ≡ false)
unfolding sees_operator
no_mark class.And = (refl, refl, refl, refl)
no_mark class.Or = (refl, refl, refl, refl)
no_mark class.Xor = (refl, refl, refl, refl)
no_mark class.Relational = (refl, refl, refl, refl)
no_mark class.Adding = (refl, refl, refl, refl)
no_mark class.Multiplying = (refl, refl, refl, refl)

at_semicolon : (e : Expression) → StopsWhole e (Some semicolon)
at_semicolon e = stops_whole e (Some semicolon) (λ c. (no_mark c).0)

at_right : (e : Expression) → StopsWhole e (Some (token.Sign RightParen))
at_right e = stops_whole e (Some (token.Sign RightParen)) (λ c. (no_mark c).1)

at_comma : (e : Expression) → StopsWhole e (Some (token.Sign Comma))
at_comma e = stops_whole e (Some (token.Sign Comma)) (λ c. (no_mark c).2)

at_then : (e : Expression) → StopsWhole e (Some (w (codes "then")))
at_then e = stops_whole e (Some (w (codes "then"))) (λ c. (no_mark c).3)

module _ (is_name : Name → Bool) (reserves : Reserves is_name) (some_name : Name) (some_is : is_name some_name
    ≡ true) (l : Limits) (named : (n : Name) → l.is_name n ≡ is_name n) where
  -- SIMPLE STATEMENTS, over a reader of expressions at a nesting
  module _ (d : ℕ) (expression : ExpressionReader) (expressions : Reads (λ e text. IsProperExpression l d e
      × (text ≡ expression_tokens e)) StopsWhole expression) where
    abbrev IsExpr : Expression → List Token → Type 0
    IsExpr e text = IsProperExpression l d e × (text ≡ expression_tokens e)

    abbrev pub IsNull : Statement → List Token → Type 0
    IsNull s text = (s ≡ Null) × (text ≡ statement_toks Null)

    pub reads-null : Reads IsNull Any null_at
    unfolding null_at
    reads-null = reads-same _ IsNull Any null_at
        (λ s text g. let b = g.after in (b.after.0, rw (g.whole, g.before, b.whole, b.before, b.after.1) refl))
        (λ s text h. rw h.1 (joins-fixed _ (w (codes "null")) s _ (joins-fixed _ semicolon s [] (h.0, refl))))
        (andthen (reads-fixed (w (codes "null"))) (λ _. andthen (reads-fixed semicolon) (λ _. reads-pure Any Null (λ _. tt))))

    abbrev pub IsWork : Statement → List Token → Type 0
    IsWork s text = (n : ℕ) × (s ≡ Work n) × (text ≡ statement_toks (Work n))

    pub reads-work : Reads IsWork Any work_at
    unfolding work_at
    reads-work = reads-same _ IsWork Any work_at
        (λ s text g. let b = g.after in let c = b.after in let e = c.after in let f = e.after in
        (c.a, f.after.0, rw (g.whole, g.before, b.whole, b.before, c.whole, c.before, e.whole, e.before, f.whole, f.before, f.after.1) refl))
        (λ s text h. rw h.2 (joins-fixed _ (w (codes "work")) s _
        (joins-fixed _ (token.Sign LeftParen) s _ (joins-part _ h.0 (token.Number h.0 ∷ []) s _ refl
        (joins-fixed _ (token.Sign RightParen) s _ (joins-fixed _ semicolon s [] (h.1, refl)))))))
        (andthen (reads-fixed (w (codes "work"))) (λ _. andthen (reads-fixed (token.Sign LeftParen))
        (λ _. andthen reads-number (λ n. andthen (reads-fixed (token.Sign RightParen)) (λ _.
        andthen (reads-fixed semicolon) (λ _. reads-pure Any (Work n) (λ _. tt)))))))

    abbrev pub IsPut : Statement → List Token → Type 0
    IsPut s text = (e : Expression) × IsProperExpression l d e × (s ≡ Put e) × (text ≡ statement_toks (Put e))

    pub reads-put : Reads IsPut Any (put_at expression)
    unfolding put_at
    reads-put = reads-same _ IsPut Any (put_at expression)
        (λ s text g. let b = g.after in let c = b.after in let e = c.after in let f = e.after in (
          c.a,
          c.before.0,
          f.after.0,
          rw
              (g.whole, g.before, b.whole, b.before, c.whole, c.before.1, e.whole, e.before, f.whole, f.before, f.after.1) refl,
        ))
        (λ s text h. rw h.3 (joins-fixed _ (w (codes "put")) s _ (joins-fixed _ (token.Sign LeftParen) s _
        (joins-part _ h.0 (expression_tokens h.0) s _ (h.1, refl)
        (joins-fixed _ (token.Sign RightParen) s _ (joins-fixed _ semicolon s [] (h.2, refl)))))))
        (andthen (reads-fixed (w (codes "put"))) (λ _. andthen (reads-fixed (token.Sign LeftParen))
        (λ _. before-token (token.Sign RightParen) at_right expressions (λ e.
        andthen (reads-fixed semicolon) (λ _. reads-pure Any (Put e) (λ _. tt))))))

    abbrev pub IsExit : Statement → List Token → Type 0
    IsExit s text = (e : Expression) × IsProperExpression l d e × (s ≡ ExitWhen e) × (text ≡ statement_toks (ExitWhen e))

    pub reads-exit : Reads IsExit Any (exit_at expression)
    unfolding exit_at
    reads-exit = reads-same _ IsExit Any (exit_at expression)
        (λ s text g. let b = g.after in let c = b.after in let e = c.after in
        (c.a, c.before.0, e.after.0, rw (g.whole, g.before, b.whole, b.before, c.whole, c.before.1, e.whole, e.before, e.after.1) refl))
        (λ s text h. rw h.3 (joins-fixed _ (w (codes "exit")) s _
        (joins-fixed _ (w (codes "when")) s _ (joins-part _ h.0 (expression_tokens h.0) s _ (h.1, refl)
        (joins-fixed _ semicolon s [] (h.2, refl))))))
        (andthen (reads-fixed (w (codes "exit"))) (λ _. andthen (reads-fixed (w (codes "when")))
        (λ _. before-token semicolon at_semicolon expressions (λ e. reads-pure Any (ExitWhen e) (λ _. tt)))))

    -- an assignment behind its target
    abbrev IsAssignment : Name → Statement → List Token → Type 0
    IsAssignment target s text = (e : Expression) × IsProperExpression l d e × (s ≡ Assign target e)
        × (text ≡ token.Sign Becomes ∷ (expression_tokens e ++ semicolon ∷ []))

    reads-assignment : (target : Name) → Reads (IsAssignment target) Any (assignment_at expression target)
    unfolding assignment_at
    reads-assignment target = reads-same _ (IsAssignment target) Any (assignment_at expression target)
        (λ s text g. let b = g.after in let c = b.after
        in (b.a, b.before.0, c.after.0, rw (g.whole, g.before, b.whole, b.before.1, c.whole, c.before, c.after.1) refl))
        (λ s text h. rw h.3 (joins-fixed _ (token.Sign Becomes) s _
        (joins-part _ h.0 (expression_tokens h.0) s _ (h.1, refl) (joins-fixed _ semicolon s [] (h.2, refl)))))
        (andthen (reads-fixed (token.Sign Becomes)) (λ _. before-token semicolon at_semicolon expressions
        (λ e. reads-pure Any (Assign target e) (λ _. tt))))

    -- ACTUALS
    abbrev IsFurther : Expression → List Token → Type 0
    IsFurther e text = IsProperExpression l d e × (text ≡ token.Sign Comma ∷ expression_tokens e)

    reads-further : Reads IsFurther StopsWhole (further_at expression)
    unfolding further_at
    reads-further = reads-same _ IsFurther StopsWhole (further_at expression)
        (λ e text g. (g.after.0, rw (g.whole, g.before, g.after.1) refl))
        (λ e text h. rw h.1 (joins-fixed _ (token.Sign Comma) e (expression_tokens e) (h.0, refl)))
        (andthen (reads-fixed (token.Sign Comma)) (λ _. expressions))

    StopsList : List Expression → Option Token → Type 0
    StopsList xs o = (next_is (token.Sign Comma) o ≡ false) × Last StopsWhole xs o

    comma : (e : Expression) (o : Option Token) → next_is (token.Sign Comma) o ≡ true → StopsWhole e o
    comma e None h = absurd (cc)
    comma e (Some t) h = let P : Token → Type 0 = λ u. StopsWhole e (Some u) in subst P (sym (same_is t (token.Sign Comma) h)) (at_comma e)

    reads-more : Reads (AreMany IsFurther) StopsList (many_at (next_is (token.Sign Comma)) (further_at expression))
    unfolding StopsList
    reads-more = reads-many (next_is (token.Sign Comma)) IsFurther StopsWhole (further_at expression) reads-further (λ e text rest g. rw g.1 refl)
        (λ e text g. rw g.1 (omega arith)) comma refl

    last_right : (xs : List Expression) → Last StopsWhole xs (Some (token.Sign RightParen))
    last_right [] = tt
    last_right (x ∷ []) = at_right x
    last_right (x ∷ (y ∷ ys)) = last_right (y ∷ ys)

    more_to : (xs : List Expression) (text : List Token) → AreMany IsFurther xs text → AreProperActuals l d xs × (text ≡ more_actuals xs)
    more_to [] text g = (tt, g)
    more_to (x ∷ xs) text g = let h = more_to xs g.1 g.3 in ((g.2.0, h.0), g.4 ∙ rw (g.2.1, h.1) refl)

    more_back : (xs : List Expression) → AreProperActuals l d xs → AreMany IsFurther xs (more_actuals xs)
    more_back [] h = refl
    more_back (x ∷ xs) h = (token.Sign Comma ∷ expression_tokens x, more_actuals xs, (h.0, refl), more_back xs h.1, refl)

    abbrev IsList : List Expression → List Token → Type 0
    IsList es text = (e : Expression) × (xs : List Expression) × (es ≡ e ∷ xs) × AreProperActuals l d (e ∷ xs) × (text ≡ actual_tokens (e ∷ xs))

    -- what follows an actual
    after_actual : (e : Expression) (xs : List Expression) (text rest : List Token) → AreMany IsFurther xs text
        → StopsWhole e (first (text ++ token.Sign RightParen ∷ rest))
    after_actual e [] text rest g = rw g (at_right e)
    after_actual e (x ∷ xs) text rest g = rw (g.4, g.2.1) (at_comma e)

    reads-list : Reads IsList Any (list_at expression)
    unfolding list_at StopsList
    reads-list = reads-same _ IsList Any (list_at expression)
        (λ es text g.
        let b = g.after in let c = b.after in let m = more_to c.a c.front c.before in let e = c.after in
        (b.a, c.a, e.after.0, (b.before.0, m.0), rw (g.whole, g.before, b.whole, b.before.1, c.whole, m.1, e.whole, e.before, e.after.1) refl))
        (λ es text h. rw h.4 (joins-fixed _ (token.Sign LeftParen) es _
        (joins-part _ h.0 (expression_tokens h.0) es _ (h.3.0, refl) (joins-part _ h.1 (more_actuals h.1) es _ (more_back h.1 h.3.1)
        (joins-fixed _ (token.Sign RightParen) es [] (h.2, refl))))))
        (andthen (reads-fixed (token.Sign LeftParen)) (λ _. reads-then IsExpr _ StopsWhole Any expression _ expressions
        (λ e. before-token (token.Sign RightParen) (λ xs. (refl, last_right xs)) reads-more (λ xs. reads-pure Any (e ∷ xs) (λ _. tt)))
        (λ e es back rest h stop. let j = h.after
        in rw (h.whole, j.whole, j.before, append_assoc) (after_actual e h.a h.front (j.back ++ rest) h.before))))

    abbrev AreActuals : List Expression → List Token → Type 0
    AreActuals es text = AreProperActuals l d es × (text ≡ actual_tokens es)

    StopsActuals : List Expression → Option Token → Type 0
    StopsActuals es o = es ≡ [] → next_is (token.Sign LeftParen) o ≡ false

    actuals_to : (es : List Expression) (text : List Token) → IsList es text ⊎ IsOnly {T = Token} [] es text → AreActuals es text
    actuals_to es text (inl h) = rw (h.2, h.4) (h.3, refl)
    actuals_to es text (inr h) = rw (h.0, h.1) (tt, refl)

    actuals_back : (es : List Expression) (text : List Token) → AreActuals es text → IsList es text ⊎ IsOnly {T = Token} [] es text
    actuals_back [] text h = inr (refl, h.1)
    actuals_back (e ∷ es) text h = inl (e, es, refl, h.0, h.1)

    reads-actuals : Reads AreActuals StopsActuals (actuals_at expression)
    unfolding actuals_at StopsActuals
    reads-actuals = reads-same _ AreActuals StopsActuals (actuals_at expression) actuals_to actuals_back
        (reads-branch (next_is (token.Sign LeftParen)) IsList (IsOnly {T = Token} []) Any Any StopsActuals (list_at expression)
        (pure_at []) reads-list (reads-pure Any [] (λ _. tt))
        (λ es text rest h stop. (rw h.4 refl, tt))
        (λ es text rest h stop. (rw h.1 (stop h.0), tt))
        (λ es text rest h t stop. λ none. absurd (let no : es ≡ h.0 ∷ h.1 = h.2 in cc))
        (λ es text rest h t stop. λ none. let P : List Token → Type 0 = λ us. next_is (token.Sign LeftParen) (first (us ++ rest)) ≡ false
        in subst P h.1 t))

    -- a call behind the name of its object
    abbrev IsCall : Name → Statement → List Token → Type 0
    IsCall object s text = (op : Name) × (es : List Expression) × (is_name op ≡ true) × AreProperActuals l d es × (s ≡ Call object op es)
        × (text ≡ token.Sign Dot ∷ token.Word op ∷ (actual_tokens es ++ semicolon ∷ []))

    reads-call : (object : Name) → Reads (IsCall object) Any (call_at is_name expression object)
    unfolding call_at StopsActuals
    reads-call object = reads-same _ (IsCall object) Any (call_at is_name expression object)
        (λ s text g. let b = g.after in let c = b.after in let e = c.after in (
          b.a,
          c.a,
          b.before.0,
          c.before.0,
          e.after.0,
          rw
              (g.whole, g.before, b.whole, b.before.1, c.whole, c.before.1, e.whole, e.before, e.after.1) refl,
        ))
        (λ s text h. rw h.5 (joins-fixed _ (token.Sign Dot) s _
        (joins-name is_name _ h.0 s _ h.2 (joins-part _ h.1 (actual_tokens h.1) s _ (h.3, refl) (joins-fixed _ semicolon s [] (h.4, refl))))))
        (andthen (reads-fixed (token.Sign Dot)) (λ _. andthen (reads-name is_name some_name some_is)
        (λ op. before-token semicolon (λ es. λ none. refl) reads-actuals (λ es. reads-pure Any (Call object op es) (λ _. tt)))))

    abbrev pub IsNamed : Statement → List Token → Type 0
    IsNamed s text = (name : Name) × (tail : List Token) × (is_name name ≡ true) × (IsAssignment name s tail ⊎ IsCall name s tail)
        × (text ≡ token.Word name ∷ tail)

    pub reads-named : Reads IsNamed Any (named_at is_name expression)
    unfolding named_at
    reads-named = reads-same _ IsNamed Any (named_at is_name expression)
        (λ s text g. (g.a, g.back, g.before.0, g.after, rw (g.whole, g.before.1) refl))
        (λ s text h. rw h.4 (joins-name is_name _ h.0 s h.1 h.2 h.3))
        (andthen (reads-name is_name some_name some_is) (λ name. reads-choose (next_is (token.Sign Becomes)) (IsAssignment name) (IsCall name) Any
        (assignment_at expression name) (call_at is_name expression name)
        (reads-assignment name) (reads-call name) (λ s text rest g stop. rw g.3 refl) (λ s text rest g stop. rw g.5 refl)))

  -- CONSTRUCTS, over readers of expressions and blocks inside them
  module _ (d : ℕ) (expression : ExpressionReader) (expressions : Reads (λ e text. IsProperExpression l d e
      × (text ≡ expression_tokens e)) StopsWhole expression)
      (block : BlockReader) (blocks : Reads (λ b text. IsProperBlock l d b × (text ≡ block_toks b)) (λ b o. begins_statement is_name o
      ≡ false) block) where
    abbrev IsInner : Statements → List Token → Type 0
    IsInner b text = IsProperBlock l d b × (text ≡ block_toks b)

    abbrev StopsInner : {A : Type 0} → A → Option Token → Type 0
    StopsInner a o = begins_statement is_name o ≡ false

    -- a condition, `then` and a block
    abbrev guarded_toks : Expression × Statements → List Token
    guarded_toks a = expression_tokens a.0 ++ w (codes "then") ∷ block_toks a.1

    abbrev IsGuarded : Expression × Statements → List Token → Type 0
    IsGuarded a text = IsProperExpression l d a.0 × IsProperBlock l d a.1 × (text ≡ guarded_toks a)

    abbrev Behind : Expression → Expression × Statements → List Token → Type 0
    Behind e a text = (b : Statements) × (a ≡ (e, b)) × IsProperBlock l d b × (text ≡ block_toks b)

    guarded_to : (a : Expression × Statements) (text : List Token)
        → Joined (λ e us. IsProperExpression l d e × (us ≡ expression_tokens e)) (λ e. Joined (IsFixed (w (codes "then"))) (λ _. Behind e)) a text
        → IsGuarded a text
    guarded_to a text g =
        let b = g.after in let c = b.after in
        let P : Expression × Statements → Type 0 = λ x. IsGuarded x text in
        subst P (sym c.1) (g.before.0, c.2, rw (g.whole, g.before.1, b.whole, b.before, c.3) refl)

    reads-guarded : Reads IsGuarded StopsInner (guarded_at expression block)
    unfolding guarded_at
    reads-guarded = reads-same _ IsGuarded StopsInner (guarded_at expression block) guarded_to
        (λ a text h. rw h.2 (joins-part _ a.0 (expression_tokens a.0) a _ (h.0, refl)
        (joins-fixed _ (w (codes "then")) a (block_toks a.1) (a.1, refl, h.1, refl))))
        (before-token (w (codes "then")) at_then expressions (λ e. reads-map IsInner (Behind e) StopsInner StopsInner block (λ b. (e, b)) blocks
        (λ b text g. (b, refl, g.0, g.1)) (λ a text h. (h.0, (h.2, h.3), sym h.1)) (λ b o h. h) (λ b o h. h)))

    -- `elsif`
    abbrev IsArm : Expression × Statements → List Token → Type 0
    IsArm a text = IsProperExpression l d a.0 × IsProperBlock l d a.1 × (text ≡ w (codes "elsif") ∷ guarded_toks a)

    reads-arm : Reads IsArm StopsInner (arm_at expression block)
    unfolding arm_at
    reads-arm = reads-same _ IsArm StopsInner (arm_at expression block)
        (λ a text g. (g.after.0, g.after.1, rw (g.whole, g.before, g.after.2) refl))
        (λ a text h. rw h.2 (joins-fixed _ (w (codes "elsif")) a (guarded_toks a) (h.0, h.1, refl)))
        (andthen (reads-fixed (w (codes "elsif"))) (λ _. reads-guarded))

    -- words that begin no statement
    stop_elsif : begins_statement is_name (Some (w (codes "elsif"))) ≡ false
    unfolding begins_statement kind_of next_is_name
    stop_elsif = reserves.elsif_

    stop_else : begins_statement is_name (Some (w (codes "else"))) ≡ false
    unfolding begins_statement kind_of next_is_name
    stop_else = reserves.else_

    stop_end : begins_statement is_name (Some (w (codes "end"))) ≡ false
    unfolding begins_statement kind_of next_is_name
    stop_end = reserves.end_

    elsif_next : (a : Expression × Statements) (o : Option Token) → next_is (w (codes "elsif")) o ≡ true → StopsInner a o
    elsif_next a None h = absurd (cc)
    elsif_next a (Some t) h = let P : Token → Type 0 = λ u. begins_statement is_name (Some u) ≡ false
        in subst P (sym (same_is t (w (codes "elsif")) h)) stop_elsif

    StopsArms : List (Expression × Statements) → Option Token → Type 0
    StopsArms xs o = (next_is (w (codes "elsif")) o ≡ false) × Last StopsInner xs o

    reads-arms : Reads (AreMany IsArm) StopsArms (many_at (next_is (w (codes "elsif"))) (arm_at expression block))
    unfolding StopsArms
    reads-arms = reads-many (next_is (w (codes "elsif"))) IsArm StopsInner (arm_at expression block) reads-arm (λ a text rest g. rw g.2 refl)
        (λ a text g. rw g.2 (omega arith)) elsif_next refl

    last_stops : (xs : List (Expression × Statements)) (o : Option Token) → begins_statement is_name o ≡ false → Last StopsInner xs o
    last_stops [] o h = tt
    last_stops (x ∷ []) o h = h
    last_stops (x ∷ (y ∷ ys)) o h = last_stops (y ∷ ys) o h

    -- `else`
    abbrev IsElse : Branches → List Token → Type 0
    IsElse o text = (b : Statements) × (o ≡ Else b) × IsProperBlock l d b × (text ≡ w (codes "else") ∷ block_toks b)

    reads-else : Reads IsElse StopsInner (else_at block)
    unfolding else_at
    reads-else = reads-same _ IsElse StopsInner (else_at block)
        (λ o text g. let b = g.after in (b.0, b.1, b.2, rw (g.whole, g.before, b.3) refl))
        (λ o text h. rw h.3 (joins-fixed _ (w (codes "else")) o (block_toks h.0) (h.0, h.1, h.2, refl)))
        (andthen (reads-fixed (w (codes "else"))) (λ _. reads-map IsInner Inner StopsInner StopsInner block Else blocks
        (λ b text g. (b, refl, g.0, g.1)) (λ o text h. (h.0, (h.2, h.3), sym h.1)) (λ b o h. h) (λ b o h. h))) where
          Inner : Branches → List Token → Type 0
          Inner o text = (b : Statements) × (o ≡ Else b) × IsProperBlock l d b × (text ≡ block_toks b)

    StopsOther : Branches → Option Token → Type 0
    StopsOther Nothing o = next_is (w (codes "else")) o ≡ false
    StopsOther (Else b) o = begins_statement is_name o ≡ false
    StopsOther (When c b others) o = ⊤

    else_stops : (o : Branches) (b : Statements) (t : Option Token) → o ≡ Else b → begins_statement is_name t ≡ false → StopsOther o t
    unfolding StopsOther
    else_stops o b t same h = let P : Branches → Type 0 = λ x. StopsOther x t in subst P (sym same) h

    else_stopped : (o : Branches) (b : Statements) (t : Option Token) → o ≡ Else b → StopsOther o t → begins_statement is_name t ≡ false
    unfolding StopsOther
    else_stopped o b t same h = let P : Branches → Type 0 = λ x. StopsOther x t in let k : P (Else b) = subst P same h in k

    none_stops : (o : Branches) (t : Option Token) → o ≡ Nothing → next_is (w (codes "else")) t ≡ false → StopsOther o t
    unfolding StopsOther
    none_stops o t same h = let P : Branches → Type 0 = λ x. StopsOther x t in subst P (sym same) h

    none_stopped : (o : Branches) (t : Option Token) → o ≡ Nothing → StopsOther o t → next_is (w (codes "else")) t ≡ false
    unfolding StopsOther
    none_stopped o t same h = let P : Branches → Type 0 = λ x. StopsOther x t in let k : P Nothing = subst P same h in k

    abbrev IsOther : Branches → List Token → Type 0
    IsOther o text = IsElse o text ⊎ IsOnly {T = Token} Nothing o text

    reads-other : Reads IsOther StopsOther (otherwise_at block)
    unfolding otherwise_at
    reads-other = reads-branch (next_is (w (codes "else"))) IsElse (IsOnly {T = Token} Nothing) StopsInner Any StopsOther (else_at block)
        (pure_at Nothing) reads-else (reads-pure Any Nothing (λ _. tt))
        (λ o text rest h stop. (rw h.3 refl, else_stopped o h.0 (first rest) h.1 stop))
        (λ o text rest h stop. (rw h.1 (none_stopped o (first rest) h.0 stop), tt))
        (λ o text rest h t stop. else_stops o h.0 (first rest) h.1 stop)
        (λ o text rest h t stop. none_stops o (first rest) h.0 (let P : List Token
        → Type 0 = λ us. next_is (w (codes "else")) (first (us ++ rest)) ≡ false in subst P h.1 t))

    -- THE BRANCHES AS A LIST AND AS A TREE
    tail_to : (arms : List (Expression × Statements)) (o : Branches) (text more : List Token) → AreMany IsArm arms text → IsOther o more →
        AreProperBranches l d (branches_of arms o) × (text ++ more ≡ branch_toks (codes "elsif") (branches_of arms o))
    tail_to [] o text more g (inl h) = rw (g, h.1, h.3) (h.2, refl)
    tail_to [] o text more g (inr h) = rw (g, h.0, h.1) (tt, refl)
    tail_to (a ∷ arms) o text more g h =
        let t = tail_to arms o g.1 more g.3 h in (
          (g.2.0, g.2.1, t.0),
          ap (λ us. us ++ more) g.4 ∙ append_assoc g.0 g.1 more ∙ rw (g.2.2, t.1) (ap (λ us. w (codes "elsif") ∷ us)
              (append_assoc (expression_tokens a.0) (w (codes "then") ∷ block_toks a.1) (branch_toks (codes "elsif") (branches_of arms o)))),
        )

    pub record Listed (bs : Branches) : Type 0 where
      pub arms : List (Expression × Statements)
      pub other : Branches
      pub same : branches_of arms other ≡ bs
      pub text : List Token
      pub more : List Token
      pub many : AreMany IsArm arms text
      pub rest : IsOther other more
      pub spelled : branch_toks (codes "elsif") bs ≡ text ++ more

    listed : (bs : Branches) → AreProperBranches l d bs → Listed bs
    listed Nothing h = record { arms = []; other = Nothing; same = refl; text = []; more = []; many = refl; rest = inr (refl, refl); spelled = refl }
    listed (Else b) h = record {
      arms = [];
      other = Else b;
      same = refl;
      text = [];
      more = w (codes "else") ∷ block_toks b;
      many = refl;
      rest = inl (b, refl, h, refl);
      spelled = refl;
    }
    listed (When c b others) h =
        let x = listed others h.2 in
        let front : List Token = w (codes "elsif") ∷ guarded_toks (c, b) in
        record {
          arms = (c, b) ∷ x.arms;
          other = x.other;
          same = ap (When c b) x.same;
          text = front ++ x.text;
          more = x.more;
          many = (front, x.text, (h.0, h.1, refl), x.many, refl);
          rest = x.rest;
          spelled = ap (λ us. w (codes "elsif") ∷ us) (ap (λ us. expression_tokens c ++ w (codes "then") ∷ (block_toks b ++ us)) x.spelled
              ∙ sym (append_assoc (expression_tokens c) (w (codes "then") ∷ block_toks b) (x.text ++ x.more)))
              ∙ sym (append_assoc front x.text x.more);
        }

    -- AN `if`
    abbrev close_toks : List Token
    close_toks = w (codes "end") ∷ w (codes "if") ∷ semicolon ∷ []

    abbrev pub IsIf : Statement → List Token → Type 0
    IsIf s text = (bs : Branches) × (s ≡ If bs) × IsProperIf l d bs × (text ≡ branch_toks (codes "if") bs ++ close_toks)

    -- what follows an arm begins no statement
    after_other : (o : Branches) (text rest : List Token) → IsOther o text → begins_statement is_name (first (text ++ w (codes "end") ∷ rest)) ≡ false
    after_other o text rest (inl h) = rw h.3 stop_else
    after_other o text rest (inr h) = rw h.1 stop_end

    other_no_elsif : (o : Branches) (text rest : List Token) → IsOther o text
        → next_is (w (codes "elsif")) (first (text ++ w (codes "end") ∷ rest)) ≡ false
    other_no_elsif o text rest (inl h) = rw h.3 refl
    other_no_elsif o text rest (inr h) = rw h.1 refl

    after_arms : (arms : List (Expression × Statements)) (o : Branches) (text more rest : List Token) → AreMany IsArm arms text → IsOther o more
        → begins_statement is_name (first (text ++ (more ++ w (codes "end") ∷ rest))) ≡ false
    after_arms [] o text more rest g h = rw g (after_other o more rest h)
    after_arms (a ∷ arms) o text more rest g h = rw (g.4, g.2.2) stop_elsif

    other_at_end : (o : Branches) → StopsOther o (Some (w (codes "end")))
    unfolding StopsOther
    other_at_end Nothing = refl
    other_at_end (Else b) = stop_end
    other_at_end (When c b others) = tt

    abbrev Closed : (Expression × Statements) → List (Expression × Statements) → Branches → Statement → List Token → Type 0
    Closed a arms o = Joined (IsFixed (w (codes "if"))) (λ _. Joined (IsFixed semicolon) (λ _. IsOnly (If (branches_of (a ∷ arms) o))))

    abbrev Rest : (Expression × Statements) → List (Expression × Statements) → Statement → List Token → Type 0
    Rest a arms = Joined IsOther (λ o. Joined (IsFixed (w (codes "end"))) (λ _. Closed a arms o))

    if_to : (s : Statement) (text : List Token)
        → Joined (IsFixed (w (codes "if"))) (λ _. Joined IsGuarded (λ a. Joined (AreMany IsArm) (Rest a))) s text → IsIf s text
    if_to s text g =
        let b = g.after in let c = b.after in let e = c.after in let f = e.after in let h = f.after in let i = h.after in
        let a = b.a in
        let t = tail_to c.a e.a c.front e.front c.before e.before in (
          branches_of (a ∷ c.a) e.a,
          i.after.0,
          (b.before.0, b.before.1, t.0),
          g.whole ∙ rw (g.before, b.whole, b.before.2, c.whole, e.whole, f.whole, f.before, h.whole, h.before, i.whole, i.before, i.after.1)
              (ap (λ us. w (codes "if") ∷ us)
              (ap (λ us. guarded_toks a ++ us) (sym (append_assoc c.front e.front close_toks) ∙ ap (λ us. us ++ close_toks) t.1)
              ∙ append_assoc (expression_tokens a.0) (w (codes "then") ∷ block_toks a.1)
              (branch_toks (codes "elsif") (branches_of c.a e.a) ++ close_toks)
              ∙ ap (λ us. expression_tokens a.0 ++ w (codes "then") ∷ us)
              (sym (append_assoc (block_toks a.1) (branch_toks (codes "elsif") (branches_of c.a e.a)) close_toks))
              ∙ sym (append_assoc (expression_tokens a.0) (w (codes "then") ∷ (block_toks a.1 ++ branch_toks (codes "elsif") (branches_of c.a e.a)))
              close_toks))),
        )

    if_spelled : (c : Expression) (b : Statements) (others : Branches) (x : Listed others)
        → branch_toks (codes "if") (When c b others) ++ close_toks ≡ w (codes "if") ∷ (guarded_toks (c, b) ++ (x.text ++ (x.more ++ close_toks)))
    if_spelled c b others x =
        ap (λ us. w (codes "if") ∷ us)
        (append_assoc (expression_tokens c) (w (codes "then") ∷ (block_toks b ++ branch_toks (codes "elsif") others)) close_toks
        ∙ ap (λ us. expression_tokens c ++ w (codes "then") ∷ us) (append_assoc (block_toks b) (branch_toks (codes "elsif") others) close_toks
        ∙ ap (λ us. block_toks b ++ us) (ap (λ us. us ++ close_toks) x.spelled ∙ append_assoc x.text x.more close_toks))
        ∙ sym (append_assoc (expression_tokens c) (w (codes "then") ∷ block_toks b) (x.text ++ (x.more ++ close_toks))))

    if_back : (s : Statement) (bs : Branches) (text : List Token) → s ≡ If bs → IsProperIf l d bs → text ≡ branch_toks (codes "if") bs ++ close_toks →
        Joined (IsFixed (w (codes "if"))) (λ _. Joined IsGuarded (λ a. Joined (AreMany IsArm) (Rest a))) s text
    if_back s Nothing text e h t = absurd h
    if_back s (Else b) text e h t = absurd h
    if_back s (When c b others) text e h t =
        let x = listed others h.2 in
        rw (t, if_spelled c b others x)
        (joins-fixed _ (w (codes "if")) s _ (joins-part _ (c, b) (guarded_toks (c, b)) s _ (h.0, h.1, refl)
        (joins-part _ x.arms x.text s _ x.many (joins-part _ x.other x.more s _ x.rest
        (joins-fixed _ (w (codes "end")) s _ (joins-fixed _ (w (codes "if")) s _
        (joins-fixed _ semicolon s [] (e ∙ ap (λ y. If (When c b y)) (sym x.same), refl))))))))

    pub reads-if : Reads IsIf Any (if_at expression block)
    unfolding if_at StopsArms
    reads-if = reads-same _ IsIf Any (if_at expression block) if_to (λ s text h. if_back s h.0 text h.1 h.2 h.3)
        (andthen (reads-fixed (w (codes "if"))) (λ _. reads-then IsGuarded (λ a. Joined (AreMany IsArm) (Rest a)) StopsInner Any
        (guarded_at expression block) _ reads-guarded
        (λ a. reads-then (AreMany IsArm) (Rest a) StopsArms Any (many_at (next_is (w (codes "elsif"))) (arm_at expression block)) _ reads-arms
        (λ arms. before-token (w (codes "end")) other_at_end reads-other
        (λ o. andthen (reads-fixed (w (codes "if"))) (λ _. andthen (reads-fixed semicolon)
        (λ _. reads-pure Any (If (branches_of (a ∷ arms) o)) (λ _. tt)))))
        (λ arms s back rest h stop. let f = h.after
        in rw (h.whole, f.whole, f.before, append_assoc)
        (other_no_elsif h.a h.front (f.back ++ rest) h.before, last_stops arms _ (after_other h.a h.front (f.back ++ rest) h.before))))
        (λ a s back rest h stop. let e = h.after in let f = e.after
        in rw (h.whole, e.whole, f.whole, f.before, append_assoc, append_assoc)
        (after_arms h.a e.a h.front e.front (f.back ++ rest) h.before e.before))))

    -- A LOOP
    abbrev pub IsFor : Statement → List Token → Type 0
    IsFor s text = (name : Name) × (low high : ℕ) × (b : Statements) × (is_name name ≡ true) × IsProperBlock l d b × (s ≡ For name low high b)
        × (text ≡ statement_toks (For name low high b))

    pub reads-for : Reads IsFor Any (for_at is_name block)
    unfolding for_at
    reads-for = reads-same _ IsFor Any (for_at is_name block)
        (λ s text g.
        let g1 = g.after in let g2 = g1.after in let g3 = g2.after in let g4 = g3.after in let g5 = g4.after in let g6 = g5.after in let g7 = g6.after
        in let g8 = g7.after in let g9 = g8.after in
        let h1 = g9.after in let h2 = h1.after in let h3 = h2.after in (
          g1.a,
          g5.a,
          g7.a,
          g9.a,
          g1.before.0,
          g9.before.0,
          h3.after.0,
          rw (
            g.whole,
            g.before,
            g1.whole,
            g1.before.1,
            g2.whole,
            g2.before,
            g3.whole,
            g3.before,
            g4.whole,
            g4.before,
            g5.whole,
            g5.before,
            g6.whole,
            g6.before,
            g7.whole,
            g7.before,
            g8.whole,
            g8.before,
            g9.whole,
            g9.before.1,
            h1.whole,
            h1.before,
            h2.whole,
            h2.before,
            h3.whole,
            h3.before,
            h3.after.1,
          ) refl,
        ))
        (λ s text h. rw h.7 (joins-fixed _ (w (codes "for")) s _
        (joins-name is_name _ h.0 s _ h.4 (joins-fixed _ (w (codes "in")) s _
        (joins-fixed _ (w (codes "word")) s _ (joins-fixed _ (w (codes "range")) s _
        (joins-number _ h.1 s _ (joins-fixed _ (token.Sign DotDot) s _
        (joins-number _ h.2 s _ (joins-fixed _ (w (codes "loop")) s _ (joins-part _ h.3 (block_toks h.3) s _ (h.5, refl)
        (joins-fixed _ (w (codes "end")) s _ (joins-fixed _ (w (codes "loop")) s _ (joins-fixed _ semicolon s [] (h.6, refl)))))))))))))))
        (andthen (reads-fixed (w (codes "for"))) (λ _. andthen (reads-name is_name some_name some_is)
        (λ name. andthen (reads-fixed (w (codes "in"))) (λ _. andthen (reads-fixed (w (codes "word"))) (λ _.
        andthen (reads-fixed (w (codes "range")))
        (λ _. andthen reads-number (λ low. andthen (reads-fixed (token.Sign DotDot))
        (λ _. andthen reads-number (λ high. andthen (reads-fixed (w (codes "loop"))) (λ _.
        before-token (w (codes "end")) (λ b. stop_end) blocks (λ b. andthen (reads-fixed (w (codes "loop")))
        (λ _. andthen (reads-fixed semicolon) (λ _. reads-pure Any (For name low high b) (λ _. tt))))))))))))))
