-- Two readers of designs that differ where no object may nest any more: one stops at the word of their section, and one at what stands
-- behind it.
use Rattle.std.proofs.Common.{◌≡◌, ℕ, zero, suc, ◌+◌, ◌<◌, Bool, true, false, cond, List, [], ◌∷◌, ◌++◌, length, Option, Some, None, is_some, Ok}
use Rattle.std.proofs.Common.{Err, codes, refl, sym, ap, ◌∙◌, arith, append_assoc, ◌⊎◌, inl, inr}
use Rattle.grammar.specs.Reading.{Halt, Syntax, TooDeep, Read, first, ◌>>=◌, then_at, pure_at, choose_at, from_at, many_at, deep_at, Reads, Widens}
use Rattle.grammar.proofs.Shared.Laws.{ok_parts}
use Rattle.grammar.proofs.Shared.Widening.{widens-pure, widens-then}
use Rattle.seq_tree.specs.Names.{Name}
use Rattle.seq_tree.specs.Statements.{Statements}
use Rattle.seq_tree.specs.Proper.{Limits}
use Rattle.seq_tree.specs.declared.token.Token.{Token}
use Rattle.seq_tree.specs.declared.token.Token.TheVariants.{Word}
use Rattle.ods_tree.specs.Designs.{Trees, Empty}
use Rattle.ods_tree.specs.Trees.{trees_of}
use Rattle.ods_tree.specs.Words.{is_design_name}
use Rattle.ods_tree.specs.declared.design.VersionTwo.{VersionTwo}
use Rattle.token_read.specs.Readers.{fixed_at, next_is}
use Rattle.token_read.proofs.Shared.TokenLaws.{same_is, reads-fixed}
use Rattle.seq_read.specs.Statements.{BlockReader, word, block_at}
use Rattle.seq_read.proofs.Shared.ChainLevels.{bounds}
use Rattle.seq_read.proofs.Shared.StatementWidening.{widens-block}
use Rattle.seq_read.specs.Parts.{end_tokens}
use Rattle.seq_read.proofs.Shared.TokenWidening.{widens-fixed, widens-phrase, widens-named}
use Rattle.ods_read.specs.Readers.{some_at, kind_named, end_at, body_at, bodies_at, activation_at, thread_at}
use Rattle.ods_read.specs.ObjectReaders.{TreeReader, TreesReader, next_is_object, tree_list_at, none_at, over_at, children_at, object_at, tree_with}
use Rattle.ods_read.specs.DesignReaders.{design_with}
use Rattle.ods_read.proofs.PartLaws.{EndsBlock, IsBlock, reads-kind, reads-design_name, reads-attributes, reads-provides, reads-requires}
use Rattle.ods_read.proofs.PartLaws.{reads-data, reads-locals, reads-body, reads-bodies, reads-thread, reads-costs}
use Rattle.ods_read.proofs.TreeLaws.{closed_at, reads-block, reads-children, reads-tree}
use Rattle.ods_read.proofs.WideningLaws.{widens-name, widens-locals, widens-attributes}
use Rattle.ods_read.proofs.WideningLaws.{widens-provides, widens-requires, widens-data, widens-implements, widens-version, widens-costs}
use Rattle.ods_read.proofs.WordLaws.{Right, Fine, fine-free, fine-block}
use Rattle.ods_read.proofs.DesignLaws.{reads-version}

-- what is told behind the word of a section of objects
abbrev pub told_of : List Token → Halt
told_of us = cond (next_is_object (first us)) (TooDeep (length us)) (Syntax (length us))

-- the first reader stops at the word of the section, and the second behind it
pub record Later {A : Type 0} (ts : List Token) (q c : Read Token A) : Type 0 where
  pub front : List Token
  pub back : List Token
  pub split : ts ≡ front ++ Word (codes "objects") ∷ back
  pub deep : q ≡ Err (TooDeep (suc (length back)))
  pub told : c ≡ Err (told_of back)

-- The two answer the same, and their limits never stop them at that word, or so.
abbrev pub Told : {A : Type 0} → (List Token → Read Token A) → (List Token → Read Token A) → Type 0
Told p c = (ts : List Token) → ((c ts ≡ p ts) × ((left : ℕ) → p ts ≡ Err (TooDeep left) → Right ts left)) ⊎ Later ts (p ts) (c ts)

-- what is left is the end of what there was
abbrev Suffix : {A : Type 0} → (List Token → Read Token A) → Type 0
Suffix {A} p = (ts : List Token) (x : A × List Token) → p ts ≡ Ok x → (text : List Token) × (ts ≡ text ++ x.1)

suffix : {A : Type 0} {G : A → List Token → Type 0} {Stops : A → Option Token → Type 0} {p : List Token → Read Token A} → Reads G Stops p → Suffix p
suffix one ts x e = let f = one.sound ts x.0 x.1 e in (f.text, f.split)

told-same : {A : Type 0} (p : List Token → Read Token A) → Fine p → Told p p
told-same p fine ts = inl (refl, fine ts)

right_behind : (text rest ts : List Token) (left : ℕ) → ts ≡ text ++ rest → Right rest left → Right ts left
right_behind text rest ts left e r = record {
  front = text ++ r.front;
  back = r.back;
  token = r.token;
  split = e ∙ ap (λ us. text ++ us) r.split ∙ sym (append_assoc text r.front (r.token ∷ r.back));
  place = r.place;
  other = r.other;
}

module _ {A B : Type 0} (p c : List Token → Read Token A) (f g : A → List Token → Read Token B) (one : Told p c) where
  abbrev F : A × List Token → Read Token B
  F x = f x.0 x.1

  abbrev G : A × List Token → Read Token B
  G x = g x.0 x.1

  later_then : (ts : List Token) → Later ts (p ts) (c ts) → Later ts (then_at p f ts) (then_at c g ts)
  later_then ts l = record { front = l.front; back = l.back; split = l.split; deep = ap (λ q. q >>= F) l.deep; told = ap (λ q. q >>= G) l.told }

  -- what is known of the second where the first has read something
  abbrev Behind : List Token → Type 0
  Behind ts = (x : A × List Token) → p ts ≡ Ok x → (c ts ≡ Ok x)
      → ((then_at c g ts ≡ then_at p f ts) × ((left : ℕ) → then_at p f ts ≡ Err (TooDeep left) → Right ts left))
      ⊎ Later ts (then_at p f ts) (then_at c g ts)

  told_by : (ts : List Token) → Behind ts → ((c ts ≡ p ts) × ((left : ℕ) → p ts ≡ Err (TooDeep left) → Right ts left)) → (q : Read Token A)
      → p ts ≡ q →
      ((then_at c g ts ≡ then_at p f ts) × ((left : ℕ) → then_at p f ts ≡ Err (TooDeep left) → Right ts left))
      ⊎ Later ts (then_at p f ts) (then_at c g ts)
  told_by ts behind s (Ok x) h = behind x h (s.0 ∙ h)
  told_by ts behind s (Err halt) h =
      let fails : then_at p f ts ≡ Err halt = ap (λ q. q >>= F) h in
      inl (
        ap (λ q. q >>= G) (s.0 ∙ h) ∙ sym fails,
        λ left e. s.1 left (h ∙ ap Err (let k : (let q : Read Token B = Err halt in q)
            ≡ Err (TooDeep left) = sym fails ∙ e in let same : halt ≡ TooDeep left = cc in same)),
      )

  told-then : Suffix p → ((a : A) → Told (f a) (g a)) → Told (then_at p f) (then_at c g)
  told-then suf two ts = elim (one ts) [ inl s ↦ told_by ts behind s (p ts) refl | inr l ↦ inr (later_then ts l) ] where
    behind : Behind ts
    behind x h k =
        let s = suf ts x h in
        elim (two x.0 x.1) [
          | inl e ↦ inl (
            ap (λ q. q >>= G) k ∙ e.0 ∙ sym (ap (λ q. q >>= F) h),
            λ left d. right_behind s.0 x.1 ts left s.1 (e.1 left
                (sym (ap (λ q. q >>= F) h) ∙ d)),
          )
          | inr l ↦ inr (record {
            front = s.0 ++ l.front;
            back = l.back;
            split = s.1 ∙ ap (λ us. s.0 ++ us) l.split ∙ sym (append_assoc s.0 l.front (Word (codes "objects") ∷ l.back));
            deep = ap (λ q. q >>= F) h ∙ l.deep;
            told = ap (λ q. q >>= G) k ∙ l.told;
          })
        ]

told-map : {A B : Type 0} (p c : List Token → Read Token A) (f : A → B) → Told p c
    → Told (then_at p (λ a. pure_at (f a))) (then_at c (λ a. pure_at (f a)))
told-map {A} {B} p c f one ts = elim (one ts) [
  | inl s ↦ told_by p c read read one ts behind s (p ts) refl
  | inr l ↦ inr
      (later_then p c read read one ts l)
] where
  read : A → List Token → Read Token B
  read a us = Ok (f a, us)

  behind : Behind p c read read one ts
  behind x h k =
      let reads : then_at p read ts ≡ Ok (f x.0, x.1) = ap (λ q. q >>= λ y. read y.0 y.1) h in
      inl (
        ap (λ q. q >>= λ y. read y.0 y.1) k ∙ sym reads,
        λ left d. absurd (let no : (let q : Read Token B = Ok (f x.0, x.1) in q)
            ≡ Err (TooDeep left) = sym reads ∙ d in cc),
      )

told-second : {A B : Type 0} {p : List Token → Read Token A} {f g : A → List Token → Read Token B} → Suffix p → Widens 0 p p
    → ((a : A) → Told (f a) (g a)) → Told (then_at p f) (then_at p g)
told-second {A} {B} {p} {f} {g} suf free two = told-then p p f g (told-same p (fine-free free)) suf two

told-choose : {A : Type 0} (test : Option Token → Bool) (p c : List Token → Read Token A) (a : A) → Told p c
    → Told (choose_at test p (pure_at a)) (choose_at test c (pure_at a))
told-choose {A} test p c a one ts = of (test (first ts)) where
  of : (b : Bool) → ((cond b (c ts) (pure_at a ts) ≡ cond b (p ts) (pure_at a ts))
      × ((left : ℕ) → cond b (p ts) (pure_at a ts) ≡ Err (TooDeep left) → Right ts left))
      ⊎ Later ts (cond b (p ts) (pure_at a ts)) (cond b (c ts) (pure_at a ts))
  of true = one ts
  of false = inl (refl, λ left e. absurd (let no : (let q : Read Token A = Ok (a, ts) in q) ≡ Err (TooDeep left) = e in cc))

module _ {A : Type 0} (test : Option Token → Bool) (p c : List Token → Read Token A) (one : Told p c) (suf : Suffix p) where
  abbrev turns : (List Token → Read Token A) → ℕ → List Token → Read Token (List A)
  turns r n = from_at (λ (s : Unit {0}). test) (λ s a. s) (λ s. r) n tt

  told-turns : (n : ℕ) → Told (turns p n) (turns c n)
  told-turns zero = told-same (pure_at []) (fine-free (widens-pure 0 []))
  told-turns (suc n) =
      told-choose test (then_at p (λ a. then_at (turns p n) (λ xs. pure_at (a ∷ xs))))
      (then_at c (λ a. then_at (turns c n) (λ xs. pure_at (a ∷ xs)))) []
      (told-then p c _ _ one suf (λ a. told-map (turns p n) (turns c n) (λ xs. a ∷ xs) (told-turns n)))

  told-many : Told (many_at test p) (many_at test c)
  told-many ts = told-turns (suc (length ts)) ts

  told-some : Told (some_at test p) (some_at test c)
  told-some = told-then p c _ _ one suf (λ a. told-map (many_at test p) (many_at test c) (λ more. a ∷ more) told-many)

-- AT THE LIMIT
next_split : (u : Token) (ts : List Token) → next_is u (first ts) ≡ true → (us : List Token) × (ts ≡ u ∷ us)
next_split u [] e = absurd (cc)
next_split u (t ∷ us) e = (us, ap (λ v. v ∷ us) (same_is t u e))

over_told : (us : List Token) → over_at us ≡ Err (told_of us)
unfolding over_at
over_told us = of (next_is_object (first us)) where
  of : (b : Bool) → (let q : Read Token Trees = cond b (deep_at us) (none_at us) in q) ≡ Err (cond b (TooDeep (length us)) (Syntax (length us)))
  of true = refl
  of false = refl

told-last : Told closed_at (children_at over_at)
unfolding children_at fixed_at
told-last ts = of (next_is (Word (codes "objects")) (first ts)) refl where
  at : (us : List Token) → ts ≡ Word (codes "objects") ∷ us → Later ts (deep_at ts) (then_at (word (codes "objects")) (λ _. over_at) ts)
  at us e = record { front = []; back = us; split = e; deep = rw e refl; told = rw e (over_told us) }

  of : (b : Bool) → next_is (Word (codes "objects")) (first ts) ≡ b →
      ((cond b (then_at (word (codes "objects")) (λ _. over_at) ts) (pure_at Empty ts) ≡ cond b (deep_at ts) (pure_at Empty ts))
      × ((left : ℕ) → cond b (deep_at ts) (pure_at Empty ts) ≡ Err (TooDeep left) → Right ts left))
      ⊎ Later ts (cond b (deep_at ts) (pure_at Empty ts)) (cond b (then_at (word (codes "objects")) (λ _. over_at) ts) (pure_at Empty ts))
  of true t = let s = next_split (Word (codes "objects")) ts t in inr (at s.0 s.1)
  of false t = inl (refl, λ left e. absurd (let no : (let q : Read Token Trees = Ok (Empty, ts) in q) ≡ Err (TooDeep left) = e in cc))

closed_suffix : Suffix closed_at
closed_suffix ts x e = of (next_is (Word (codes "objects")) (first ts)) e where
  of : (b : Bool) → cond b (deep_at ts) (pure_at Empty ts) ≡ Ok x → (text : List Token) × (ts ≡ text ++ x.1)
  of true h = absurd (let no : (let q : Read Token Trees = Err (TooDeep (length ts)) in q) ≡ Ok x = h in cc)
  of false h = ([], (ok_parts {a = Empty} {b = x.0} {us = ts} {vs = x.1} h).1)

-- OBJECTS, TREES AND DESIGNS
module _ (nests most : ℕ) (room : 0 < most) (v : Option VersionTwo) where
  abbrev limits : Limits
  limits = bounds is_design_name nests most

  fine-of : (d deeper : ℕ) → d + deeper ≡ nests → Fine (block_at is_design_name most deeper)
  fine-of d deeper e =
      fine-block nests most (suc deeper) (suc most) d 0 0 (block_at is_design_name most deeper) (block_at is_design_name (suc most) (suc deeper))
      (reads-block nests most deeper d room e)
      (reads-block (suc deeper) (suc most) (suc deeper) 0 (omega arith) (omega arith))
      (widens-block is_design_name most (suc most) (omega arith) deeper (suc deeper) 0 (omega arith) (omega arith) (omega arith))

  module _ (d deeper : ℕ) (e : d + deeper ≡ nests) where
    abbrev block : BlockReader
    block = block_at is_design_name most deeper

    abbrev law : Reads (IsBlock limits d) EndsBlock block
    law = reads-block nests most deeper d room e

    -- a block and the end behind it
    told-ended : {B : Type 0} (name : Name) (f : Statements → B)
        → Told (then_at block (λ b. then_at (end_at name) (λ _. pure_at (f b)))) (then_at block (λ b. then_at (end_at name) (λ _. pure_at (f b))))
    told-ended name f = told-then block block _ _ (told-same block (fine-of d deeper e)) (suffix law)
        (λ b. told-same _ (fine-free (widens-then (widens-phrase (end_tokens name)) (λ _. widens-pure 0 (f b)))))

    told-body : Told (body_at block) (body_at block)
    unfolding body_at
    told-body =
        told-second (suffix (reads-fixed (Word (codes "operation")))) (widens-fixed (Word (codes "operation")))
        (λ _. told-second (suffix reads-design_name) (widens-name 0) (λ name.
        told-second (suffix (reads-fixed (Word (codes "is")))) (widens-fixed (Word (codes "is")))
        (λ _. told-second (suffix reads-locals) (widens-locals 0) (λ locals.
        told-second (suffix (reads-fixed (Word (codes "begin")))) (widens-fixed (Word (codes "begin")))
        (λ _. told-ended name (λ b. record { name = name; locals = locals; block = b }))))))

    told-bodies : Told (bodies_at block) (bodies_at block)
    unfolding bodies_at
    told-bodies = told-many (next_is (Word (codes "operation"))) (body_at block) (body_at block) told-body (suffix (reads-body limits d block law))

    told-thread : Told (thread_at block) (thread_at block)
    unfolding thread_at activation_at
    told-thread = told-choose (next_is (Word (codes "thread"))) _ _ None
        (told-second (suffix (reads-fixed (Word (codes "thread")))) (widens-fixed (Word (codes "thread"))) (λ _. told-ended (codes "thread") Some))

    told-object : (p c : TreesReader) → Told p c → Suffix p → Told (object_at (is_some v) block p) (object_at (is_some v) block c)
    unfolding object_at
    told-object p c one suf =
        told-second (suffix (reads-fixed (Word (codes "object")))) (widens-fixed (Word (codes "object")))
        (λ _. told-second (suffix reads-design_name) (widens-name 0) (λ name.
        told-second (suffix (reads-fixed (Word (codes "is")))) (widens-fixed (Word (codes "is")))
        (λ _. told-second (suffix reads-kind) (widens-named kind_named) (λ kind.
        told-second (suffix (reads-attributes v)) (widens-attributes 0 (is_some v))
        (λ attrs. told-second (suffix reads-provides) (widens-provides 0) (λ provides.
        told-second (suffix reads-requires) (widens-requires 0) (λ needs. told-second (suffix reads-data) (widens-data 0) (λ vars.
        told-then (bodies_at block) (bodies_at block) _ _ told-bodies (suffix (reads-bodies limits d block law)) (λ bodies.
        told-then (thread_at block) (thread_at block) _ _ told-thread (suffix (reads-thread limits d block law)) (λ thread.
        told-then p c _ _ one suf (λ trees. told-same _
        (fine-free (widens-then (widens-implements 0) (λ links. widens-then (widens-phrase (end_tokens name)) (λ _. widens-pure 0 _)))))))))))))))

  told-list : (p c : TreeReader) → Told p c → Suffix p → Told (children_at (tree_list_at p)) (children_at (tree_list_at c))
  unfolding children_at tree_list_at
  told-list p c one suf =
      told-choose (next_is (Word (codes "objects"))) _ _ Empty
      (told-second (suffix (reads-fixed (Word (codes "objects")))) (widens-fixed (Word (codes "objects")))
      (λ _. told-map (some_at next_is_object p) (some_at next_is_object c) trees_of (told-some next_is_object p c one suf)))

  told-tree : (deeper e : ℕ) → suc e + deeper ≡ nests
      → Told (tree_with closed_at (is_some v) most deeper) (tree_with (children_at over_at) (is_some v) most deeper)
  unfolding tree_with
  told-tree zero e at = told-object (suc e) zero at closed_at (children_at over_at) told-last closed_suffix
  told-tree (suc deeper) e at =
      let one = reads-tree nests most room v deeper (suc e) (omega (arith, at)) in
      told-object (suc e) (suc deeper) at (children_at (tree_list_at (tree_with closed_at (is_some v) most deeper)))
      (children_at (tree_list_at (tree_with (children_at over_at) (is_some v) most deeper)))
      (told-list (tree_with closed_at (is_some v) most deeper) (tree_with (children_at over_at) (is_some v) most deeper)
      (told-tree deeper (suc e) (omega (arith, at))) (suffix one))
      (suffix (reads-children limits v (suc e) (tree_with closed_at (is_some v) most deeper)
      (reads-tree nests most room v deeper (suc e) (omega (arith, at)))))

pub told-design : (most deeper : ℕ) → 0 < most → Told (design_with closed_at most deeper) (design_with (children_at over_at) most deeper)
unfolding design_with
told-design most deeper room =
    told-second (suffix (reads-fixed (Word (codes "design")))) (widens-fixed (Word (codes "design")))
    (λ _. told-second (suffix reads-design_name) (widens-name 0) (λ name.
    told-second (suffix reads-version) (widens-version 0) (λ version. told-second (suffix reads-costs) (widens-costs 0) (λ costs.
    told-then (tree_with closed_at (is_some version) most deeper) (tree_with (children_at over_at) (is_some version) most deeper) _ _
    (told-tree (suc deeper) most room version deeper 0 (omega arith))
    (suffix (reads-tree (suc deeper) most room version deeper 0 (omega arith)))
    (λ root. told-same _ (fine-free (widens-then (widens-phrase (end_tokens name)) (λ _. widens-pure 0 _))))))))
