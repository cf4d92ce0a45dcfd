-- Examples: the tokens of texts, how lines are laid out, and what the first fault of a list of tokens is.
use Rattle.std.specs.Prelude.{◌≡◌, ◌≤◌, ◌<◌, ℕ, zero, suc, true, false, List, [], ◌∷◌, ◌++◌, map, replicate, length, take, Some, None}
use Rattle.std.specs.Prelude.{Ok, Err, codes, refl}
use Rattle.std.proofs.Common.{lit≤, arith, ◌⊎◌, inl, inr}
use Rattle.seq_tree.specs.Names.{is_named, are_distinct}
use Rattle.seq_tree.specs.Lists.{change, first_where, Each}
use Rattle.seq_tree.specs.Layout.{tokens_text, line_text}
use Rattle.seq_tree.specs.Lexis.{Stray, Great, tokens, plain, tokens_after, front_by, start_of, name_front, number_front, longest}
use Rattle.seq_tree.specs.Marks.{mark_of}
use Rattle.seq_tree.specs.Reach.{Begins, IsReach, IsSyntaxFault, IsDepthFault}
use Rattle.seq_tree.specs.Rings.{LeadsTo, IsOnRing}
use Rattle.seq_tree.specs.declared.token.Token.{Token}
use Rattle.seq_tree.specs.declared.token.Token.TheVariants.{Word, Sign}
use Rattle.seq_tree.specs.declared.token.Mark.TheVariants as mark

-- each mark, the longest first
all_marks : plain (tokens (codes "( ) , ; : . .. := = /= < <= > >= + - * / ** ::=..."))
    ≡ Ok (map Sign (mark.LeftParen ∷ mark.RightParen ∷ mark.Comma ∷ mark.Semicolon ∷ mark.Colon ∷ mark.Dot ∷ mark.DotDot ∷ mark.Becomes
    ∷ mark.Equal ∷ mark.NotEqual ∷ mark.Less ∷ mark.LessEqual ∷ mark.Greater ∷ mark.GreaterEqual ∷ mark.Plus ∷ mark.Minus ∷ mark.Star
    ∷ mark.Slash ∷ mark.StarStar ∷ mark.Colon ∷ mark.Becomes ∷ mark.DotDot ∷ mark.Dot ∷ []))
unfolding tokens tokens_after front_by start_of name_front number_front longest mark_of
all_marks = refl

-- white space is space and the bytes from tab to carriage return; a comment goes up to the line's end, or the text's
spaces : plain (tokens (32 ∷ 9 ∷ 10 ∷ 11 ∷ 12 ∷ 13 ∷ 97 ∷ codes "--x;\n;--")) ≡ Ok (Word (codes "a") ∷ Sign mark.Semicolon ∷ [])
unfolding tokens tokens_after front_by start_of name_front number_front longest mark_of
spaces = refl

no_space : map (λ (c : ℕ). tokens (c ∷ [])) (8 ∷ 14 ∷ 31 ∷ 127 ∷ 160 ∷ []) ≡ replicate 5 (Err (Stray (record { line = 1; column = 1 })))
unfolding tokens tokens_after front_by start_of name_front number_front longest mark_of
no_space = refl

-- only a line feed begins a line
carriage_return : tokens (codes "a" ++ 13 ∷ codes "&") ≡ Err (Stray (record { line = 1; column = 3 }))
unfolding tokens tokens_after front_by start_of name_front number_front longest mark_of
carriage_return = refl

-- underscores stand between two parts, one at a time
underscore_first : tokens (codes "_a") ≡ Err (Stray (record { line = 1; column = 1 }))
unfolding tokens tokens_after front_by start_of name_front number_front longest mark_of
underscore_first = refl

underscore_last : tokens (codes "a_") ≡ Err (Stray (record { line = 1; column = 2 }))
unfolding tokens tokens_after front_by start_of name_front number_front longest mark_of
underscore_last = refl

underscore_after_number : tokens (codes "1_") ≡ Err (Stray (record { line = 1; column = 2 }))
unfolding tokens tokens_after front_by start_of name_front number_front longest mark_of
underscore_after_number = refl

underscores_in_number : tokens (codes "1__0") ≡ Err (Stray (record { line = 1; column = 2 }))
unfolding tokens tokens_after front_by start_of name_front number_front longest mark_of
underscores_in_number = refl

digits_in_names : plain (tokens (codes "A1 b_2c")) ≡ Ok (Word (codes "a1") ∷ Word (codes "b_2c") ∷ [])
unfolding tokens tokens_after front_by start_of name_front number_front longest mark_of
digits_in_names = refl

-- a number that is too great is told before the letter after it, at its first byte; a long name before the underscore after it
great_first : tokens (codes " 4294967296x") ≡ Err (Great (record { line = 1; column = 2 }))
unfolding tokens tokens_after front_by start_of name_front number_front longest mark_of
great_first = refl

name_of_64 : plain (tokens (replicate 64 97)) ≡ Ok (Word (replicate 64 97) ∷ [])
unfolding tokens tokens_after front_by start_of name_front number_front longest mark_of
name_of_64 = refl

-- one space between most tokens: none before `;`, `,`, `)` and `.`, none after `(` and `.`
spaced : tokens_text (Word (codes "p") ∷ Sign mark.Dot ∷ Word (codes "f") ∷ Sign mark.LeftParen ∷ Word (codes "x") ∷ Sign mark.Comma
    ∷ Sign mark.LeftParen ∷ Word (codes "y") ∷ Sign mark.RightParen ∷ Sign mark.RightParen ∷ Sign mark.Semicolon ∷ Word (codes "z")
    ∷ Sign mark.Colon ∷ Word (codes "word") ∷ Sign mark.Becomes ∷ Word (codes "a") ∷ Sign mark.Minus ∷ Word (codes "b") ∷ [])
    ≡ codes "p.f (x, (y)); z : word := a - b"
spaced = refl

-- three spaces a level, at most thirty
levels : map (λ n. length (line_text (record { level = n; tokens = Sign mark.Semicolon ∷ [] }))) (0 ∷ 1 ∷ 10 ∷ 11 ∷ []) ≡ 2 ∷ 5 ∷ 32 ∷ 32 ∷ []
levels = refl

ended : line_text (record { level = 1; tokens = Sign mark.Semicolon ∷ [] }) ≡ codes "   ;\n"
ended = refl

-- lists and names
changed : map (λ n. change n suc (1 ∷ 5 ∷ 9 ∷ [])) (0 ∷ 2 ∷ 3 ∷ []) ≡ (2 ∷ 5 ∷ 9 ∷ []) ∷ (1 ∷ 5 ∷ 10 ∷ []) ∷ (1 ∷ 5 ∷ 9 ∷ []) ∷ []
changed = refl

first_true : map (λ bs. first_where (λ b. b) bs) ((false ∷ true ∷ true ∷ []) ∷ (false ∷ []) ∷ []) ≡ Some (1, true) ∷ None ∷ []
first_true = refl

each_one : Each (λ (n : ℕ). n ≡ 1) (1 ∷ 1 ∷ [])
each_one = (refl, (refl, tt))

not_each : Each (λ (n : ℕ). n ≡ 1) (1 ∷ 2 ∷ []) → ⊥
not_each h = (let second : ◌≡◌ {A = ℕ} 2 1 = h.1.0 in omega (arith, second))

named : map (is_named (codes "a" ∷ codes "b" ∷ [])) (codes "b" ∷ codes "c" ∷ codes "" ∷ []) ≡ true ∷ false ∷ false ∷ []
named = refl

distinct : map are_distinct ((codes "a" ∷ codes "b" ∷ []) ∷ (codes "a" ∷ codes "b" ∷ codes "a" ∷ []) ∷ []) ≡ true ∷ false ∷ []
distinct = refl

-- the texts `a;` and `a;;`, of which the first alone is within the limits
abbrev a : Token
a = Word (codes "a")

abbrev semicolon : Token
semicolon = Sign mark.Semicolon

abbrev Limited : List Token → Type 0
Limited ts = ts ≡ a ∷ semicolon ∷ []

-- `a a` is wrong at its second token, and at no other
reached : IsReach Limited (a ∷ a ∷ []) 1
reached = record { within = lit≤ tt; begins = (semicolon ∷ [], refl); greatest = greatest }
  where
    greatest : (n : ℕ) → n ≤ 2 → Begins Limited (take n (a ∷ a ∷ [])) → n ≤ 1
    greatest zero h b = lit≤ tt
    greatest (suc zero) h b = lit≤ tt
    greatest (suc (suc n)) h b = absurd (wrong b.1)
      where
        wrong : {more : List Token} → ◌≡◌ (a ∷ a ∷ more) (a ∷ semicolon ∷ []) → ⊥
        wrong e = cc

not_sooner : IsReach Limited (a ∷ a ∷ []) 0 → ⊥
not_sooner r = (let most : 1 ≤ 0 = r.greatest 1 (lit≤ tt) (semicolon ∷ [], refl) in omega (arith, most))

not_later : IsReach Limited (a ∷ a ∷ []) 2 → ⊥
not_later r = wrong r.begins.1
  where
    wrong : {more : List Token} → ◌≡◌ (a ∷ a ∷ more) (a ∷ semicolon ∷ []) → ⊥
    wrong e = cc

past_the_end : IsReach Limited (a ∷ []) 2 → ⊥
past_the_end r = (let most : 2 ≤ 1 = r.within in omega (arith, most))

fault : IsSyntaxFault Limited Limited (a ∷ a ∷ []) 1
fault = record { reach = reached; limited = reached; none = λ (e : ◌≡◌ (a ∷ a ∷ []) (a ∷ semicolon ∷ [])). cc }

no_fault_of_text : (n : ℕ) → IsSyntaxFault Limited Limited (a ∷ semicolon ∷ []) n → ⊥
no_fault_of_text n f = f.none refl

no_depth_without_text : IsDepthFault Limited Limited (a ∷ a ∷ []) 1 → ⊥
no_depth_without_text f =
    (let further : f.goes_on.0
    ≤ 1 = reached.greatest f.goes_on.0 f.goes_on.1.within f.goes_on.1.begins in let past = f.goes_on.2 in omega (arith, further, past))

-- a ring leads back to where it began, in a step or in more
abbrev Next : ℕ → ℕ → Type 0
Next n m = (suc n ≡ m) ⊎ ((n ≡ 2) × (m ≡ 0))

round : IsOnRing Next 0
round = (1 ∷ 2 ∷ [], (inl refl, (inl refl, inr (refl, refl))))

led_through : LeadsTo Next 0 (1 ∷ []) 2
led_through = (inl refl, inl refl)

no_ring : IsOnRing (λ (n m : ℕ). n < m) 0 → ⊥
no_ring r = rises r.0 0 r.1
  where
    climbs : (path : List ℕ) (n m : ℕ) → LeadsTo (λ (k l : ℕ). k < l) n path m → n < m
    climbs [] n m h = h
    climbs (via ∷ path) n m h = let later = climbs path via m h.1 in let first = h.0 in omega (arith, later, first)

    rises : (path : List ℕ) (n : ℕ) → LeadsTo (λ (k l : ℕ). k < l) n path n → ⊥
    rises path n h = let up = climbs path n n h in omega (arith, up)
