-- The reader of trees that stops at the word of a section of objects where none may nest any more reads the proper trees within its limits.
use Rattle.std.proofs.Common.{◌≡◌, ℕ, zero, suc, ◌+◌, ◌<◌, ◌≤◌, nat_le, true, false, List, [], ◌∷◌, ◌++◌, length, Option, is_some, codes}
use Rattle.std.proofs.Common.{flat_map, refl, sym, ap, subst, ◌∙◌, arith, ◌⊎◌, inl, inr}
use Rattle.std.specs.Prelude.{⊤}
use Rattle.std.proofs.lemmas.Bool.{le-leb}
use Rattle.std.proofs.lemmas.Bool.Decides.{leb_tells}
use Rattle.grammar.specs.Reading.{first, then_at, pure_at, choose_at, deep_at, Reads}
use Rattle.grammar.proofs.Shared.Laws.{IsOnly, reads-same, reads-pure, reads-map}
use Rattle.grammar.proofs.Shared.Limits.{reads-limit}
use Rattle.seq_tree.specs.Lists.{Each}
use Rattle.seq_tree.specs.Proper.{Limits}
use Rattle.seq_tree.specs.declared.token.Token.{Token}
use Rattle.seq_tree.specs.declared.token.Token.TheVariants.{Word}
use Rattle.ods_tree.specs.Designs.{Tree, Trees, Node, Empty, With}
use Rattle.ods_tree.specs.Trees.{trees_of}
use Rattle.ods_tree.specs.Words.{is_design_name}
use Rattle.ods_tree.specs.Proper.{IsProperTree, AreProperTrees}
use Rattle.ods_tree.specs.declared.design.VersionTwo.{VersionTwo}
use Rattle.token_read.specs.Readers.{next_is}
use Rattle.token_read.proofs.Shared.TokenLaws.{Any, andthen, reads-fixed}
use Rattle.seq_read.specs.Statements.{word, block_at}
use Rattle.seq_read.proofs.Shared.ChainLevels.{bounds}
use Rattle.seq_read.proofs.Shared.StatementLaws.{Reserves}
use Rattle.seq_read.proofs.Shared.BlockLaws as blocks
use Rattle.seq_read.proofs.Shared.Spelled.{IsSpelled}
use Rattle.ods_read.specs.Readers.{some_at}
use Rattle.ods_read.specs.ObjectReaders.{TreeReader, TreesReader, next_is_object, tree_list_at, children_at, tree_with}
use Rattle.ods_read.proofs.SpelledLaws.{IsSome, reads-some, reads-optional}
use Rattle.ods_read.proofs.PartLaws.{EndsBlock, IsBlock}
use Rattle.ods_read.proofs.ObjectLaws.{tree_tokens, trees_tokens, children_tokens, EndsChildren, IsWhole, reads-object}

-- where no object may nest any more, the word of their section is told
abbrev pub closed_at : TreesReader
closed_at = choose_at (next_is (Word (codes "objects"))) deep_at (pure_at Empty)

-- LISTS OF TREES
abbrev pub list_of : Trees → List Tree
list_of Empty = []
list_of (With t ts) = t ∷ list_of ts

list_same : (ts : Trees) → trees_of (list_of ts) ≡ ts
list_same Empty = refl
list_same (With t ts) = ap (With t) (list_same ts)

tree_first : (t : Tree) (rest : List Token) → next_is_object (first (tree_tokens t ++ rest)) ≡ true
tree_first (Node o kids) rest = refl

tree_grows : (t : Tree) → 0 < length (tree_tokens t)
tree_grows (Node o kids) = omega arith

trees_spelled : (xs : List Tree) → trees_tokens (trees_of xs) ≡ flat_map tree_tokens xs
trees_spelled [] = refl
trees_spelled (t ∷ ts) = ap (λ us. tree_tokens t ++ us) (trees_spelled ts)

-- one at least
abbrev pub HasTree : Trees → Type 0
HasTree Empty = ⊥
HasTree (With t ts) = ⊤

module _ (l : Limits) (v : Option VersionTwo) (d : ℕ) where
  trees_to : (xs : List Tree) → Each (IsProperTree l v d) xs → AreProperTrees l v d (trees_of xs)
  trees_to [] h = tt
  trees_to (t ∷ ts) h = (h.0, trees_to ts h.1)

  trees_back : (ts : Trees) → AreProperTrees l v d ts → Each (IsProperTree l v d) (list_of ts)
  trees_back Empty h = tt
  trees_back (With t ts) h = (h.0, trees_back ts h.1)

  some_to : (xs : List Tree) → IsSome xs → HasTree (trees_of xs)
  some_to [] h = absurd h
  some_to (t ∷ ts) h = tt

  some_back : (ts : Trees) → HasTree ts → IsSome (list_of ts)
  some_back Empty h = absurd h
  some_back (With t ts) h = tt

  module _ (tree : TreeReader) (one : Reads (IsSpelled (IsProperTree l v d) tree_tokens) Any tree) where
    abbrev IsList : Trees → List Token → Type 0
    IsList ts text = HasTree ts × AreProperTrees l v d ts × (text ≡ trees_tokens ts)

    abbrev EndsList : Trees → Option Token → Type 0
    EndsList ts o = next_is_object o ≡ false

    reads-tree_list : Reads IsList EndsList (tree_list_at tree)
    unfolding tree_list_at
    reads-tree_list = reads-map (λ xs text. IsSome xs × Each (IsProperTree l v d) xs
        × (text ≡ flat_map tree_tokens xs)) IsList (λ xs o. next_is_object o ≡ false) EndsList (some_at next_is_object tree) trees_of
        (reads-some (IsProperTree l v d) tree_tokens next_is_object tree one (λ t rest h. tree_first t rest) tree_grows refl)
        (λ xs text g. (some_to xs g.0, trees_to xs g.1, g.2 ∙ sym (trees_spelled xs)))
        (λ ts text h. (
          list_of ts,
          (
            some_back ts h.0,
            trees_back ts h.1,
            h.2 ∙ sym (ap trees_tokens
                (list_same ts)) ∙ trees_spelled (list_of ts),
          ),
          list_same ts,
        ))
        (λ xs o h. h) (λ xs o h. h)

    abbrev IsOpened : Trees → List Token → Type 0
    IsOpened ts text = HasTree ts × AreProperTrees l v d ts × (text ≡ Word (codes "objects") ∷ trees_tokens ts)

    reads-opened : Reads IsOpened EndsList (then_at (word (codes "objects")) (λ _. tree_list_at tree))
    reads-opened = reads-same _ IsOpened EndsList (then_at (word (codes "objects")) (λ _. tree_list_at tree))
        (λ ts text g. (g.after.0, g.after.1, rw (g.whole, g.before, g.after.2) refl))
        (λ ts text h. record {
          a = tt;
          front = Word (codes "objects") ∷ [];
          back = trees_tokens ts;
          before = refl;
          after = (h.0, h.1, refl);
          whole = h.2;
        })
        (andthen (reads-fixed (Word (codes "objects"))) (λ _. reads-tree_list))

    ends_to : (ts : Trees) (o : Option Token) → HasTree ts → next_is_object o ≡ false → EndsChildren ts o
    ends_to Empty o h e = absurd h
    ends_to (With t ts) o h e = e

    ends_back : (ts : Trees) (o : Option Token) → HasTree ts → EndsChildren ts o → next_is_object o ≡ false
    ends_back Empty o h e = absurd h
    ends_back (With t ts) o h e = e

    children_to : (ts : Trees) (text : List Token) → IsOpened ts text ⊎ IsOnly Empty ts text
        → IsSpelled (AreProperTrees l v d) children_tokens ts text
    children_to Empty text e = elim e [ inl h ↦ absurd h.0 | inr h ↦ (tt, h.1) ]
    children_to (With t ts) text e = elim e [ inl h ↦ (h.1, h.2) | inr h ↦ absurd (let no = h.0 in cc) ]

    children_back : (ts : Trees) (text : List Token) → IsSpelled (AreProperTrees l v d) children_tokens ts text
        → IsOpened ts text ⊎ IsOnly Empty ts text
    children_back Empty text h = inr (refl, h.1)
    children_back (With t ts) text h = inl (tt, h.0, h.1)

    pub reads-children : Reads (IsSpelled (AreProperTrees l v d) children_tokens) EndsChildren (children_at (tree_list_at tree))
    unfolding children_at
    reads-children = reads-same _ (IsSpelled (AreProperTrees l v d) children_tokens) EndsChildren
        (children_at (tree_list_at tree)) children_to children_back
        (reads-optional (next_is (Word (codes "objects"))) IsOpened EndsList EndsChildren (then_at (word (codes "objects")) (λ _. tree_list_at tree))
        reads-opened Empty
        (λ ts text rest h. rw h.2 refl) (λ ts text o h e. ends_to ts o h.0 e) (λ ts text o h e. ends_back ts o h.0 e) (λ o e. e) (λ o e. e))

-- WHERE NO OBJECT MAY NEST ANY MORE
module _ (l : Limits) (v : Option VersionTwo) (d : ℕ) (none : l.nests (suc d) ≡ true → ⊥) where
  no_trees : (ts : Trees) → AreProperTrees l v d ts → ts ≡ Empty
  no_trees Empty h = refl
  no_trees (With (Node o kids) ts) h = let deep = h.0.0.nests in absurd (none deep)

  closed_to : (ts : Trees) (text : List Token) → IsOnly Empty ts text → IsSpelled (AreProperTrees l v d) children_tokens ts text
  closed_to ts text h = let P : Trees → Type 0 = λ us. IsSpelled (AreProperTrees l v d) children_tokens us text in subst P (sym h.0) (tt, h.1)

  closed_back : (ts : Trees) (text : List Token) → IsSpelled (AreProperTrees l v d) children_tokens ts text → IsOnly Empty ts text
  closed_back ts text h = let e = no_trees ts h.0 in (e, h.1 ∙ ap children_tokens e)

  closed_no : (ts : Trees) (text rest : List Token) → IsOnly Empty ts text → EndsChildren ts (first rest)
      → (next_is (Word (codes "objects")) (first (text ++ rest)) ≡ false) × Unit {0}
  closed_no ts text rest h stop = let P : Trees → Type 0 = λ us. EndsChildren us (first rest) in (rw h.1 (subst P h.0 stop), tt)

  closed_stops : (ts : Trees) (text rest : List Token) → IsOnly Empty ts text → next_is (Word (codes "objects")) (first (text ++ rest)) ≡ false
      → Unit {0} → EndsChildren ts (first rest)
  closed_stops ts text rest h e stop =
      let P : Trees → Type 0 = λ us. EndsChildren us (first rest) in
      subst P (sym h.0) (ap (λ us. next_is (Word (codes "objects")) (first (us ++ rest))) (sym h.1) ∙ e)

  pub reads-closed : Reads (IsSpelled (AreProperTrees l v d) children_tokens) EndsChildren closed_at
  reads-closed = reads-same (IsOnly Empty) (IsSpelled (AreProperTrees l v d) children_tokens) EndsChildren closed_at closed_to closed_back
      (reads-limit (next_is (Word (codes "objects"))) (IsOnly Empty) Any EndsChildren (pure_at Empty)
      (reads-pure Any Empty (λ o. tt)) refl closed_no closed_stops)

-- TREES
reserves : Reserves is_design_name
unfolding is_design_name
reserves = record {
  not_ = refl;
  null_ = refl;
  if_ = refl;
  for_ = refl;
  exit_ = refl;
  work_ = refl;
  put_ = refl;
  end_ = refl;
  elsif_ = refl;
  else_ = refl;
}

some_name : is_design_name (codes "a") ≡ true
unfolding is_design_name
some_name = refl

pub reads-block : (nests most deeper d : ℕ) → 0 < most → d + deeper ≡ nests
    → Reads (IsBlock (bounds is_design_name nests most) d) EndsBlock (block_at is_design_name most deeper)
reads-block nests most deeper d room e = blocks.reads-block is_design_name reserves (codes "a") some_name nests most room deeper d e

over : (n : ℕ) → nat_le (suc n) n ≡ true → ⊥
over n e = elim (leb_tells (suc n) n) [ inl h ↦ omega (arith, h.1) | inr h ↦ let no = h.0 in cc ]

module _ (nests most : ℕ) (room : 0 < most) (v : Option VersionTwo) where
  abbrev l : Limits
  l = bounds is_design_name nests most

  whole_to : (e : ℕ) → suc e ≤ nests → (t : Tree) (text : List Token)
      → IsSpelled (IsWhole l v (suc e) (AreProperTrees l v (suc e))) tree_tokens t text → IsSpelled (IsProperTree l v e) tree_tokens t text
  whole_to e h (Node o kids) text g =
      let p = g.0.0 in (
        (
          record {
            nests = le-leb (suc e) nests h;
            name = p.name;
            attrs = p.attrs;
            provides = p.provides;
            needs = p.needs;
            vars = p.vars;
            bodies = p.bodies;
            thread = p.thread;
            links = p.links;
          },
          g.0.1,
        ),
        g.1,
      )

  whole_back : (e : ℕ) (t : Tree) (text : List Token) → IsSpelled (IsProperTree l v e) tree_tokens t text
      → IsSpelled (IsWhole l v (suc e) (AreProperTrees l v (suc e))) tree_tokens t text
  whole_back e (Node o kids) text g =
      let p = g.0.0 in (
        (
          record {
            name = p.name;
            attrs = p.attrs;
            provides = p.provides;
            needs = p.needs;
            vars = p.vars;
            bodies = p.bodies;
            thread = p.thread;
            links = p.links;
          },
          g.0.1,
        ),
        g.1,
      )

  pub reads-tree : (deeper e : ℕ) → suc e + deeper ≡ nests
      → Reads (IsSpelled (IsProperTree l v e) tree_tokens) Any (tree_with closed_at (is_some v) most deeper)
  unfolding tree_with
  reads-tree zero e at =
      let here : suc e ≡ nests = omega (arith, at) in
      let none : nat_le (suc (suc e)) nests ≡ true → ⊥ = (let P : ℕ → Type 0 = λ n. nat_le (suc (suc e)) n ≡ true → ⊥
      in subst P here (over (suc e))) in
      reads-same _ (IsSpelled (IsProperTree l v e) tree_tokens) Any _ (whole_to e (omega (arith, at))) (whole_back e)
      (reads-object l v (suc e) (block_at is_design_name most zero) (reads-block nests most zero (suc e) room at)
      (AreProperTrees l v (suc e)) closed_at (reads-closed l v (suc e) none))
  reads-tree (suc deeper) e at =
      reads-same _ (IsSpelled (IsProperTree l v e) tree_tokens) Any _ (whole_to e (omega (arith, at))) (whole_back e)
      (reads-object l v (suc e) (block_at is_design_name most (suc deeper)) (reads-block nests most (suc deeper) (suc e) room at)
      (AreProperTrees l v (suc e))
      (children_at (tree_list_at (tree_with closed_at (is_some v) most deeper)))
      (reads-children l v (suc e) (tree_with closed_at (is_some v) most deeper) (reads-tree deeper (suc e) (omega (arith, at)))))
