-- The front of a text, by what its first byte begins.
use Rattle.std.proofs.Common.{◌≡◌, ℕ, ◌+◌, ◌<◌, Bool, true, false, cond, List, [], ◌∷◌, take, drop, None, Ok, eqb, refl, sym, ap, ◌∙◌, arith}
use Rattle.std.specs.Char.{is_ascii_alphabetic, is_ascii_alphanumeric, is_ascii_digit}
use Rattle.std.specs.List.{prefix_len}
use Rattle.std.proofs.lemmas.Bool.{and_parts, eqb-true}
use Rattle.seq_tree.specs.declared.token.Place.{Place}
use Rattle.seq_tree.specs.Lexis.{Start, Space, Comment, Name, Numeral, Other, start_of, is_space, begins_comment, is_not_line_feed, longest}
use Rattle.seq_tree.specs.Lexis.{goes_on, is_name, is_numeral, front_by, name_front, number_front}
use Rattle.seq_tree.proofs.Shared.Longest.{longest-led}

-- the choice of start_of, by the four tests
abbrev choice : Bool → Bool → Bool → Bool → Start
choice s a d m = cond s Space (cond a Name (cond d Numeral (cond m Comment Other)))

choice-space : (s a d m : Bool) → s ≡ true → choice s a d m ≡ Space
choice-space true a d m e = refl
choice-space false a d m e = absurd cc

choice-name : (s a d m : Bool) → choice s a d m ≡ Name → a ≡ true
choice-name true a d m e = cc
choice-name false true d m e = refl
choice-name false false true m e = cc
choice-name false false false true e = cc
choice-name false false false false e = cc

choice-numeral : (s a d m : Bool) → choice s a d m ≡ Numeral → d ≡ true
choice-numeral true a d m e = cc
choice-numeral false true d m e = cc
choice-numeral false false true m e = refl
choice-numeral false false false true e = cc
choice-numeral false false false false e = cc

choice-comment : (s a d m : Bool) → choice s a d m ≡ Comment → m ≡ true
choice-comment true a d m e = cc
choice-comment false true d m e = cc
choice-comment false false true m e = cc
choice-comment false false false true e = refl
choice-comment false false false false e = cc

start-space : (c : ℕ) (cs : List ℕ) → is_space c ≡ true → start_of c cs ≡ Space
unfolding start_of
start-space c cs e = choice-space (is_space c) (is_ascii_alphabetic c) (is_ascii_digit c) (begins_comment c cs) e

space-alone : (place : Place) (text : List ℕ) → front_by Space place text ≡ Ok (record { token = None; len = 1 })
unfolding front_by
space-alone place text = refl

-- white space is one byte, and no token
pub space-front : (c : ℕ) (cs : List ℕ) (place : Place) (text : List ℕ) → is_space c ≡ true
    → front_by (start_of c cs) place text ≡ Ok (record { token = None; len = 1 })
space-front c cs place text e = ap (λ s. front_by s place text) (start-space c cs e) ∙ space-alone place text

start-name : (c : ℕ) (cs : List ℕ) → start_of c cs ≡ Name → is_ascii_alphabetic c ≡ true
unfolding start_of
start-name c cs e = choice-name (is_space c) (is_ascii_alphabetic c) (is_ascii_digit c) (begins_comment c cs) e

start-numeral : (c : ℕ) (cs : List ℕ) → start_of c cs ≡ Numeral → is_ascii_digit c ≡ true
unfolding start_of
start-numeral c cs e = choice-numeral (is_space c) (is_ascii_alphabetic c) (is_ascii_digit c) (begins_comment c cs) e

start-comment : (c : ℕ) (cs : List ℕ) → start_of c cs ≡ Comment → begins_comment c cs ≡ true
unfolding start_of
start-comment c cs e = choice-comment (is_space c) (is_ascii_alphabetic c) (is_ascii_digit c) (begins_comment c cs) e

longest-name : (c : ℕ) (cs : List ℕ) → is_ascii_alphabetic c ≡ true → longest is_name (c ∷ cs) ≡ 1 + longest (goes_on is_ascii_alphanumeric false) cs
longest-name c cs e = longest-led is_name (goes_on is_ascii_alphanumeric false) c cs (rw e refl) (simp e refl)

longest-numeral : (c : ℕ) (cs : List ℕ) → is_ascii_digit c ≡ true → longest is_numeral (c ∷ cs) ≡ 1 + longest (goes_on is_ascii_digit false) cs
longest-numeral c cs e = longest-led is_numeral (goes_on is_ascii_digit false) c cs (rw e refl) (simp e refl)

comment-hyphen : (c : ℕ) (cs : List ℕ) → begins_comment c cs ≡ true → c ≡ 45
comment-hyphen c [] e = cc
comment-hyphen c (d ∷ ds) e = eqb-true c 45 (and_parts (eqb c 45) (eqb d 45) e).0

-- a comment isn't empty
pub comment-some : (c : ℕ) (cs : List ℕ) → Comment ≡ start_of c cs → 0 < prefix_len is_not_line_feed (c ∷ cs)
comment-some c cs e = rw (comment-hyphen c cs (start-comment c cs (sym e))) (omega arith)

-- white space at the front
pub front-space : (place : Place) (c : ℕ) (cs : List ℕ) → Space ≡ start_of c cs
    → front_by (start_of c cs) place (c ∷ cs) ≡ Ok (record { token = None; len = 1 })
unfolding front_by
front-space place c cs e = rw (← e) refl

-- a comment at the front
pub front-comment : (place : Place) (c : ℕ) (cs : List ℕ) → Comment ≡ start_of c cs
    → front_by (start_of c cs) place (c ∷ cs) ≡ Ok (record { token = None; len = prefix_len is_not_line_feed (c ∷ cs) })
unfolding front_by
front-comment place c cs e = rw (← e) refl

-- the name at the front
pub front-name : (place : Place) (c : ℕ) (cs : List ℕ) → Name ≡ start_of c cs
    → front_by (start_of c cs) place (c ∷ cs) ≡ name_front place (take (1 + longest (goes_on is_ascii_alphanumeric false) cs) (c ∷ cs))
unfolding front_by
front-name place c cs e = let h = longest-name c cs (start-name c cs (sym e)) in rw (← e, h) refl

-- the digits at the front
pub front-numeral : (place : Place) (c : ℕ) (cs : List ℕ) → Numeral ≡ start_of c cs
    → front_by (start_of c cs) place (c ∷ cs) ≡ number_front place (take (1 + longest (goes_on is_ascii_digit false) cs) (c ∷ cs))
    (drop (1 + longest (goes_on is_ascii_digit false) cs) (c ∷ cs))
unfolding front_by
front-numeral place c cs e = let h = longest-numeral c cs (start-numeral c cs (sym e)) in rw (← e, h) refl

pub ruleset fronts = (comment-some, front-space, front-comment, front-name, front-numeral)
