-- A text has no more tokens than bytes, and a design no more objects than tokens: so few that each can be counted.
use Rattle.std.proofs.Common.{◌≡◌, ℕ, zero, suc, ◌+◌, ◌-◌, ◌≤◌, ◌<◌, List, [], ◌∷◌, ◌++◌, map, length, Option, Some, None, Result, Ok, Err, refl}
use Rattle.std.proofs.Common.{ap, arith, length-append}
use Rattle.std.proofs.lemmas.List.{length-map}
use Rattle.std.specs.Prelude.{codes, flat_map}
use Prim.Native.String.{String}
use Rattle.seq_tree.specs.Lexis.{Front, Misread, front_by, start_of, place_after, with_token, then_others, behind, tokens_after, tokens, plain}
use Rattle.seq_tree.specs.declared.token.Token.{Token}
use Rattle.seq_tree.specs.declared.token.Token.TheVariants.{Word, Sign}
use Rattle.seq_tree.specs.declared.token.Mark.TheVariants.{Semicolon}
use Rattle.seq_tree.specs.declared.token.Place.{Place}
use Rattle.seq_tree.specs.declared.token.Spanned.{Spanned}
use Rattle.ods_tree.specs.Designs.{Object, Tree, Node, Trees, Empty, With, Design}
use Rattle.ods_tree.specs.Reading.{Reads}
use Rattle.ods_tree.specs.Spelling.{Capital, Plain, DesignLine, line, part_token, section, front_lines, back_lines, tree_lines, trees_lines}
use Rattle.ods_tree.specs.Spelling.{head_lines, cost_lines, design_tokens}
use Rattle.ods_tree.specs.Walk.{own_of, roots, standings, inner_standings, objects}

-- TOKENS
with_few : (token : Option Token) (place : Place) (others : List Spanned) → length (with_token token place others) ≤ suc (length others)
with_few None place others = omega arith
with_few (Some token) place others = omega arith

then_few : (place : Place) (others : Result (List Spanned) Misread) (token : Option Token) (n : ℕ)
    → ((ts : List Spanned) → others ≡ Ok ts → length ts ≤ n) →
    (ts : List Spanned) → then_others place others token ≡ Ok ts → length ts ≤ suc n
then_few place (Err fault) token n few ts e = absurd cc
then_few place (Ok others) token n few ts e =
    let same : with_token token place others ≡ ts = cc in
    let within = few others refl in
    omega (arith, ap length same, with_few token place others, within)

behind_few : (place : Place) (others : ℕ → Result (List Spanned) Misread) (front : Result Front Misread) (n : ℕ)
    → ((skip : ℕ) (ts : List Spanned) → others skip ≡ Ok ts → length ts ≤ n) →
    (ts : List Spanned) → behind place others front ≡ Ok ts → length ts ≤ suc n
behind_few place others (Err fault) n few ts e = absurd cc
behind_few place others (Ok front) n few ts e = then_few place (others (front.len - 1)) front.token n (few (front.len - 1)) ts e

after_few : (skip : ℕ) (place : Place) (cs : List ℕ) (ts : List Spanned) → tokens_after skip place cs ≡ Ok ts → length ts ≤ length cs
unfolding tokens_after
after_few skip place [] ts e = let same : [] ≡ ts = cc in omega (arith, ap length same)
after_few (suc skip) place (c ∷ cs) ts e = let within = after_few skip (place_after place c) cs ts e in omega (arith, within)
after_few zero place (c ∷ cs) ts e =
    behind_few place (λ skip. tokens_after skip (place_after place c) cs) (front_by (start_of c cs) place (c ∷ cs)) (length cs)
    (λ skip others h. after_few skip (place_after place c) cs others h) ts e

plain_few : (bytes : List ℕ) (found : Result (List Spanned) Misread) (text : List Token)
    → ((ts : List Spanned) → found ≡ Ok ts → length ts ≤ length bytes) → plain found ≡ Ok text → length text ≤ length bytes
plain_few bytes (Err fault) text few e = absurd cc
plain_few bytes (Ok ts) text few e =
    let same : map (λ (s : Spanned). s.token) ts ≡ text = cc in
    let within = few ts refl in
    omega (arith, ap length same, length-map ts (λ (s : Spanned). s.token), within)

pub tokens-few : (bytes : List ℕ) (text : List Token) → plain (tokens bytes) ≡ Ok text → length text ≤ length bytes
unfolding tokens
tokens-few bytes text e = plain_few bytes (tokens bytes) text (λ ts h. after_few 0 (record { line = 1; column = 1 }) bytes ts h) e

-- OBJECTS
-- the tokens of lines, counted
abbrev count : List DesignLine → ℕ
count ls = length (flat_map (λ (l : DesignLine). map part_token l.parts) ls)

count_append : (a b : List DesignLine) → count (a ++ b) ≡ count a + count b
count_append [] b = omega arith
count_append (l ∷ a) b =
    let rest = count_append a b in
    omega (
      arith,
      rest,
      length-append (map part_token l.parts) (flat_map (λ (k : DesignLine). map part_token k.parts) (a ++ b)),
      length-append (map part_token l.parts) (flat_map (λ (k : DesignLine). map part_token k.parts) a),
    )

count_cons : (l : DesignLine) (ls : List DesignLine) → count ls ≤ count (l ∷ ls)
count_cons l ls = omega (arith, length-append (map part_token l.parts) (flat_map (λ (k : DesignLine). map part_token k.parts) ls))

count_section : (level : ℕ) (word : String) (items : List DesignLine) → count items ≤ count (section level word items)
count_section level word [] = omega arith
count_section level word (item ∷ items) = count_cons (line level (Capital (codes word) ∷ [])) (item ∷ items)

front_counts : (level : ℕ) (own : Object) → 1 ≤ count (front_lines level own)
front_counts level own = omega arith

mutual
  tree_counts : (level : ℕ) (parent : Option Object) (siblings : List Object) (t : Tree)
      → length (standings parent siblings t) ≤ count (tree_lines level t)
  tree_counts level parent siblings (Node own children) =
      let inner = trees_count (suc (suc level)) (Some own) (roots children) children in
      let section' = section (suc level) "objects" (trees_lines (suc (suc level)) children) in
      omega (
        arith,
        inner,
        front_counts level own,
        count_section (suc level) "objects" (trees_lines (suc (suc level)) children),
        count_append (front_lines level own) (section' ++ back_lines level own),
        count_append section' (back_lines level own),
      )

  trees_count : (level : ℕ) (parent : Option Object) (siblings : List Object) (ts : Trees)
      → length (inner_standings parent siblings ts) ≤ count (trees_lines level ts)
  trees_count level parent siblings Empty = omega arith
  trees_count level parent siblings (With first rest) =
      let one = tree_counts level parent siblings first in
      let more = trees_count level parent siblings rest in
      omega (
        arith,
        one,
        more,
        length-append (standings parent siblings first) (inner_standings parent siblings rest),
        count_append (tree_lines level
            first) (trees_lines level rest),
      )

count_within : (a b c d : List DesignLine) → count c ≤ count (a ++ (b ++ (c ++ d)))
count_within a b c d = omega (arith, count_append a (b ++ (c ++ d)), count_append b (c ++ d), count_append c d)

objects_counted : (x : Design) → length (objects x) ≤ length (design_tokens x)
objects_counted x =
    let root = tree_counts 1 None (own_of x.root ∷ []) x.root in
    let inside = count_within (head_lines x.name x.version) (cost_lines x.costs) (tree_lines 1 x.root)
    (line 0 (Capital (codes "end") ∷ Plain (Word x.name) ∷ Plain (Sign Semicolon) ∷ []) ∷ []) in
    omega (arith, root, inside)

-- a design that was read has at most as many objects as its text may have bytes
pub objects-few : (bytes : List ℕ) (x : Design) → Reads bytes x → length (objects x) < 4294967296
objects-few bytes x r =
    let short = r.within in
    let some = tokens-few bytes (design_tokens x) r.spelled in
    let few = objects_counted x in
    omega (arith, short, some, few)
