-- The reader of objects that stops where none may nest any more reads the proper trees within its limits.
use Rattle.std.proofs.Common.{◌≡◌, ℕ, true, false, List, [], ◌∷◌, ◌++◌, Option, None, Some, is_some, codes, flat_map, refl, sym, subst, ◌∙◌, inl, inr}
use Rattle.grammar.specs.Reading.{Reads}
use Rattle.grammar.proofs.Shared.Laws.{reads-same, joins-part}
use Rattle.seq_tree.specs.Lists.{Each}
use Rattle.seq_tree.specs.Names.{Name}
use Rattle.seq_tree.specs.Statements.{Statements}
use Rattle.seq_tree.specs.Proper.{Limits}
use Rattle.seq_tree.specs.declared.token.Token.{Token}
use Rattle.seq_tree.specs.declared.token.Token.TheVariants.{Word}
use Rattle.ods_tree.specs.Designs.{Provided, Body, Object, Tree, Trees, Node, Empty, With}
use Rattle.ods_tree.specs.Words.{is_design_name}
use Rattle.ods_tree.specs.Proper.{IsProperAttribute, IsProperThread}
use Rattle.ods_tree.specs.declared.design.Kind.{Kind}
use Rattle.ods_tree.specs.declared.design.VersionTwo.{VersionTwo}
use Rattle.ods_tree.specs.declared.design.Attr.{Attr}
use Rattle.ods_tree.specs.declared.design.Link.{Link}
use Rattle.seq_tree.specs.declared.tree.Datum.{Datum}
use Rattle.seq_tree.specs.declared.tree.OpName.{OpName}
use Rattle.token_read.specs.Readers.{next_is}
use Rattle.token_read.proofs.Shared.TokenLaws.{Any, andthen, reads-fixed, joins-fixed, joins-phrase, joins-name}
use Rattle.seq_read.specs.Statements.{BlockReader, next_is_name}
use Rattle.seq_read.specs.Parts.{end_tokens}
use Rattle.seq_read.proofs.Shared.Spelled.{IsSpelled}
use Rattle.seq_read.proofs.Shared.DatumLaws.{datum_tokens}
use Rattle.ods_read.specs.Readers.{key_named, next_by, next_is_design_name}
use Rattle.ods_read.specs.ObjectReaders.{TreesReader, next_is_object, object_at}
use Rattle.ods_read.proofs.SpelledLaws.{section_tokens, EndsSection, IsHeadedBy, on-then, on-end, section_headed}
use Rattle.ods_read.proofs.SpelledLaws.{section_stops}
use Rattle.ods_read.proofs.PartLaws.{kind_word, reads-kind, reads-design_name, attribute_tokens, reads-attributes, IsProvided, provided_tokens}
use Rattle.ods_read.proofs.PartLaws.{reads-provides, IsOpName, needed_tokens, reads-requires, IsDatum, reads-data, IsLink}
use Rattle.ods_read.proofs.PartLaws.{link_tokens, reads-implements, EndsBlock, IsBlock, IsBody, body_tokens, reads-bodies, thread_tokens}
use Rattle.ods_read.proofs.PartLaws.{EndsThread, reads-thread}

-- the tokens of an object, by those of the objects inside it
abbrev pub object_tokens : Object → List Token → List Token
object_tokens o inner =
    Word (codes "object") ∷ Word o.name ∷ Word (codes "is") ∷ Word (kind_word o.kind) ∷ (section_tokens (codes "attributes") attribute_tokens o.attrs
    ++ (section_tokens (codes "provides") provided_tokens o.provides ++ (section_tokens (codes "requires") needed_tokens o.needs
    ++ (section_tokens (codes "data") datum_tokens o.vars ++ (flat_map body_tokens o.bodies ++ (thread_tokens o.thread
    ++ (inner ++ (section_tokens (codes "implements") link_tokens o.links ++ end_tokens o.name))))))))

-- the tokens of a tree, of trees, and of a section of them
abbrev mutual
  pub tree_tokens : Tree → List Token
  tree_tokens (Node o kids) = object_tokens o (children_tokens kids)

  pub trees_tokens : Trees → List Token
  trees_tokens Empty = []
  trees_tokens (With t ts) = tree_tokens t ++ trees_tokens ts

  pub children_tokens : Trees → List Token
  children_tokens Empty = []
  children_tokens (With t ts) = Word (codes "objects") ∷ (tree_tokens t ++ trees_tokens ts)

-- where a section of objects ends
abbrev pub EndsChildren : Trees → Option Token → Type 0
EndsChildren Empty o = next_is (Word (codes "objects")) o ≡ false
EndsChildren (With t ts) o = next_is_object o ≡ false

-- an object by itself, but for its nesting
pub record HasParts (l : Limits) (v : Option VersionTwo) (d : ℕ) (o : Object) : Type 0 where
  pub name : is_design_name o.name ≡ true
  pub attrs : Each (IsProperAttribute v) o.attrs
  pub provides : Each IsProvided o.provides
  pub needs : Each IsOpName o.needs
  pub vars : Each IsDatum o.vars
  pub bodies : Each (IsBody l d) o.bodies
  pub thread : IsProperThread l d o.thread
  pub links : Each IsLink o.links

bodies_headed : (bs : List Body) (text : List Token) → text ≡ flat_map body_tokens bs → IsHeadedBy (codes "operation") text
bodies_headed [] text h = inl h
bodies_headed (b ∷ bs) text h = inr (_, h)

thread_headed : (t : Option Statements) (text : List Token) → text ≡ thread_tokens t → IsHeadedBy (codes "thread") text
thread_headed None text h = inl h
thread_headed (Some b) text h = inr (_, h)

pub children_headed : (ts : Trees) (text : List Token) → text ≡ children_tokens ts → IsHeadedBy (codes "objects") text
children_headed Empty text h = inl h
children_headed (With t ts) text h = inr (_, h)

abbrev ends : List (List ℕ)
ends = codes "end" ∷ []

abbrev behind_objects : List (List ℕ)
behind_objects = codes "implements" ∷ ends

abbrev behind_thread : List (List ℕ)
behind_thread = codes "objects" ∷ behind_objects

abbrev behind_bodies : List (List ℕ)
behind_bodies = codes "thread" ∷ behind_thread

abbrev behind_data : List (List ℕ)
behind_data = codes "operation" ∷ behind_bodies

abbrev behind_needs : List (List ℕ)
behind_needs = codes "data" ∷ behind_data

abbrev behind_provides : List (List ℕ)
behind_provides = codes "requires" ∷ behind_needs

abbrev behind_attributes : List (List ℕ)
behind_attributes = codes "provides" ∷ behind_provides

-- words that are no names
abbrev NoNames : List (List ℕ) → Type 0
NoNames ws = Each (λ u. next_is_design_name (Some (Word u)) ≡ false) ws

no_names : NoNames behind_provides
unfolding next_is_name is_design_name
no_names = (refl, (refl, (refl, (refl, (refl, (refl, (refl, tt)))))))

attributes_stop : (xs : List Attr) → Each (λ u. EndsSection (codes "attributes") (next_by key_named) xs (Some (Word u))) behind_attributes
unfolding key_named
attributes_stop xs = section_stops (codes "attributes") (next_by key_named) behind_attributes xs
    (refl, (refl, (refl, (refl, (refl, (refl, (refl, (refl, tt)))))))) (refl, (refl, (refl, (refl, (refl, (refl, (refl, (refl, tt))))))))

thread_stops : (t : Option Statements) → Each (λ u. EndsThread t (Some (Word u))) behind_thread
thread_stops None = (refl, (refl, (refl, tt)))
thread_stops (Some b) = (tt, (tt, (tt, tt)))

pub children_stop : (ts : Trees) → Each (λ u. EndsChildren ts (Some (Word u))) behind_objects
children_stop Empty = (refl, (refl, tt))
children_stop (With t ts) = (refl, (refl, tt))

provides_stop : (xs : List Provided) → Each (λ u. EndsSection (codes "provides") next_is_design_name xs (Some (Word u))) behind_provides
provides_stop xs = section_stops (codes "provides") next_is_design_name behind_provides xs
    (refl, (refl, (refl, (refl, (refl, (refl, (refl, tt))))))) no_names

requires_stop : (xs : List OpName) → Each (λ u. EndsSection (codes "requires") next_is_design_name xs (Some (Word u))) behind_needs
requires_stop xs = section_stops (codes "requires") next_is_design_name behind_needs xs (refl, (refl, (refl, (refl, (refl, (refl, tt)))))) no_names.1

data_stop : (xs : List Datum) → Each (λ u. EndsSection (codes "data") next_is_design_name xs (Some (Word u))) behind_data
data_stop xs = section_stops (codes "data") next_is_design_name behind_data xs (refl, (refl, (refl, (refl, (refl, tt))))) no_names.1.1

links_stop : (xs : List Link) → Each (λ u. EndsSection (codes "implements") next_is_design_name xs (Some (Word u))) ends
links_stop xs = section_stops (codes "implements") next_is_design_name ends xs (refl, tt) no_names.1.1.1.1.1.1

-- an object by itself, and what stands inside it
abbrev own : Tree → Object
own (Node o kids) = o

abbrev inner : Tree → Trees
inner (Node o kids) = kids

whole_of : (t : Tree) → t ≡ Node (own t) (inner t)
whole_of (Node o kids) = refl

spelled_of : (t : Tree) → tree_tokens t ≡ object_tokens (own t) (children_tokens (inner t))
spelled_of (Node o kids) = refl

-- an object with what stands inside it
abbrev pub IsWhole : Limits → Option VersionTwo → ℕ → (Trees → Type 0) → Tree → Type 0
IsWhole l v d Kids t = HasParts l v d (own t) × Kids (inner t)

module _ (l : Limits) (v : Option VersionTwo) (d : ℕ) (block : BlockReader) (block_law : Reads (IsBlock l d) EndsBlock block)
    (Kids : Trees → Type 0) (children : TreesReader) (kid_law : Reads (IsSpelled Kids children_tokens) EndsChildren children) where
  abbrev made : Name → Kind → List Attr → List Provided → List OpName → List Datum → List Body → Option Statements → Trees → List Link → Tree
  made name kind attrs provides needs vars bodies thread kids links = Node (record {
    name = name;
    kind = kind;
    attrs = attrs;
    provides = provides;
    needs = needs;
    vars = vars;
    bodies = bodies;
    thread = thread;
    links = links;
  }) kids

  pub reads-object : Reads (IsSpelled (IsWhole l v d Kids) tree_tokens) Any (object_at (is_some v) block children)
  unfolding object_at
  reads-object = reads-same _ (IsSpelled (IsWhole l v d Kids) tree_tokens) Any (object_at (is_some v) block children)
      (λ t text g1.
      let g2 = g1.after in let g3 = g2.after in let g4 = g3.after in let g5 = g4.after in let g6 = g5.after in let g7 = g6.after
      in let g8 = g7.after in
      let g9 = g8.after in let g10 = g9.after in let g11 = g10.after in let g12 = g11.after in let g13 = g12.after in
      let P : Tree → Type 0 = λ u. IsSpelled (IsWhole l v d Kids) tree_tokens u text in
      subst P (sym g13.after.0) (
        (
          record {
            name = g2.before.0;
            attrs = g5.before.0;
            provides = g6.before.0;
            needs = g7.before.0;
            vars = g8.before.0;
            bodies = g9.before.0;
            thread = g10.before.0;
            links = g12.before.0;
          },
          g11.before.0,
        ),
        rw (
          g1.whole,
          g1.before,
          g2.whole,
          g2.before.1,
          g3.whole,
          g3.before,
          g4.whole,
          g4.before,
          g5.whole,
          g5.before.1,
          g6.whole,
          g6.before.1,
          g7.whole,
          g7.before.1,
          g8.whole,
          g8.before.1,
          g9.whole,
          g9.before.1,
          g10.whole,
          g10.before.1,
          g11.whole,
          g11.before.1,
          g12.whole,
          g12.before.1,
          g13.whole,
          g13.before,
          g13.after.1,
        ) refl,
      ))
      (λ t text h.
      let o = own t in
      let p = h.0.0 in
      rw (h.1 ∙ spelled_of t) (joins-fixed _ (Word (codes "object")) t _
      (joins-name is_design_name _ o.name t _ p.name (joins-fixed _ (Word (codes "is")) t _
      (joins-part _ o.kind (Word (kind_word o.kind) ∷ []) t _ refl
      (joins-part _ o.attrs (section_tokens (codes "attributes") attribute_tokens o.attrs) t _ (p.attrs, refl)
      (joins-part _ o.provides (section_tokens (codes "provides") provided_tokens o.provides) t _ (p.provides, refl)
      (joins-part _ o.needs (section_tokens (codes "requires") needed_tokens o.needs) t _ (p.needs, refl)
      (joins-part _ o.vars (section_tokens (codes "data") datum_tokens o.vars) t _ (p.vars, refl)
      (joins-part _ o.bodies (flat_map body_tokens o.bodies) t _ (p.bodies, refl)
      (joins-part _ o.thread (thread_tokens o.thread) t _ (p.thread, refl)
      (joins-part _ (inner t) (children_tokens (inner t)) t _ (h.0.1, refl)
      (joins-part _ o.links (section_tokens (codes "implements") link_tokens o.links) t _ (p.links, refl)
      (joins-phrase _ (end_tokens o.name) t [] (whole_of t, refl)))))))))))))))
      (andthen (reads-fixed (Word (codes "object")))
      (λ _. andthen reads-design_name (λ name. andthen (reads-fixed (Word (codes "is"))) (λ _. andthen reads-kind (λ kind.
      (on-then (codes "attributes") behind_attributes (reads-attributes v)
      (λ xs text g. section_headed (codes "attributes") attribute_tokens xs text g.1) attributes_stop (λ attrs.
      on-then (codes "provides") behind_provides reads-provides (λ xs text g. section_headed (codes "provides") provided_tokens xs text g.1)
      provides_stop (λ provides.
      on-then (codes "requires") behind_needs reads-requires (λ xs text g. section_headed (codes "requires") needed_tokens xs text g.1)
      requires_stop (λ needs.
      on-then (codes "data") behind_data reads-data (λ xs text g. section_headed (codes "data") datum_tokens xs text g.1) data_stop (λ vars.
      on-then (codes "operation") behind_bodies (reads-bodies l d block block_law) (λ xs text g. bodies_headed xs text g.1)
      (λ bs. (refl, (refl, (refl, (refl, tt))))) (λ bodies.
      on-then (codes "thread") behind_thread (reads-thread l d block block_law) (λ t text g. thread_headed t text g.1) thread_stops (λ thread.
      on-then (codes "objects") behind_objects kid_law (λ ts text g. children_headed ts text g.1) children_stop (λ kids.
      on-then (codes "implements") ends reads-implements (λ xs text g. section_headed (codes "implements") link_tokens xs text g.1)
      links_stop (λ links.
      on-end name (made name kind attrs provides needs vars bodies thread kids links)))))))))).reads)))))
