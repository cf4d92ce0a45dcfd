-- Reading lists, one item at a time.
use Rattle.std.proofs.Common.{◌≡◌, ◌<◌, map, true, false, List, [], ◌∷◌}
use Rattle.std.proofs.Common.{◌++◌, length, Ok, Err, codes, refl, sym, ◌∙◌, arith, append-nil}
use Rattle.std.proofs.lemmas.List.{nil_from_length}
use Rattle.std.specs.Vec.Iter.{into_iter_items, into_iter_len}
use Rattle.std.specs.declared.vec.IntoIter.{IntoIter}
use Rattle.grammar.specs.Reading.{Halt, Read, first, each_at}
use Rattle.grammar.specs.Reading as reading
use Rattle.seq_tree.specs.Operations.{Signature, Operation}
use Rattle.seq_tree.specs.Trees.{signature_of}
use Rattle.seq_tree.specs.declared.tree.OpSig.{OpSig}
use Rattle.seq_tree.specs.declared.token.Token.{Token}
use Rattle.seq_tree.specs.declared.token.Token.TheVariants.{Word}
use Rattle.ada_tree.specs.Programs as programs
use Rattle.token_read.specs.Readers.{next_is}
use Rattle.seq_read.specs.Halts.{Stops}
use Rattle.seq_read.specs.declared.halt.Halt as code
use Rattle.seq_read.specs.declared.halt.Halt.TheVariants as halt
use Rattle.seq_read.proofs.Shared.Takes.{Takes, takes-read}
use Rattle.seq_read.proofs.Shared.Turns.{with_front, front-none, front-more, front-turn, front-fails, front-ends, turn-shorter}
use Rattle.ada_read.specs.declared.heads.UnitHead.{UnitHead}
use Rattle.ada_read.specs.Heads.{Head, head_of}
use Rattle.ada_read.specs.Readers.{ada_block_at, declaration_at, declarations_at, head_at, heads_at, body_at, bodies_at, operation_at, operations_at}
use Rattle.ada_read.proofs.ParamLaws.{reads-declaration}
use Rattle.ada_read.proofs.HeadLaws.{reads-head}

-- DECLARATIONS
takes-declaration : Takes 1 declaration_at
takes-declaration = takes-read reads-declaration (λ s text g. rw g.1 (omega arith))

pub declaration-shorter : (ts : List Token) (s : Signature) (rest : List Token) → declaration_at ts ≡ Ok (s, rest) → length rest < length ts
declaration-shorter ts s rest e = turn-shorter declaration_at ts rest s takes-declaration e

pub declaration-turn : (front : List Signature) (ts : List Token) (s : Signature) (rest : List Token)
    → next_is (Word (codes "procedure")) (first ts) ≡ true → declaration_at ts ≡ Ok (s, rest)
    → with_front (front ++ s ∷ []) (declarations_at rest) ≡ with_front front (declarations_at ts)
unfolding declarations_at
declaration-turn = front-turn (next_is (Word (codes "procedure"))) declaration_at takes-declaration

pub declaration-fails : (front : List Signature) (ts : List Token) (halt : Halt) → next_is (Word (codes "procedure")) (first ts) ≡ true
    → declaration_at ts ≡ Err halt
    → with_front front (declarations_at ts) ≡ Err halt
unfolding declarations_at
declaration-fails = front-fails (next_is (Word (codes "procedure"))) declaration_at

pub declaration-ends : (front : List Signature) (ts : List Token) → next_is (Word (codes "procedure")) (first ts) ≡ false
    → with_front front (declarations_at ts) ≡ Ok (front, ts)
unfolding declarations_at
declaration-ends = front-ends (next_is (Word (codes "procedure"))) declaration_at

-- SPECIFICATIONS
takes-head : Takes 1 head_at
takes-head = takes-read reads-head (λ h text g. rw g.1 (omega arith))

pub head-shorter : (ts : List Token) (h : Head) (rest : List Token) → head_at ts ≡ Ok (h, rest) → length rest < length ts
head-shorter ts h rest e = turn-shorter head_at ts rest h takes-head e

pub head-turn : (front : List Head) (ts : List Token) (h : Head) (rest : List Token) → next_is (Word (codes "package")) (first ts) ≡ true
    → head_at ts ≡ Ok (h, rest)
    → with_front (front ++ h ∷ []) (heads_at rest) ≡ with_front front (heads_at ts)
unfolding heads_at
head-turn = front-turn (next_is (Word (codes "package"))) head_at takes-head

pub head-fails : (front : List Head) (ts : List Token) (halt : Halt) → next_is (Word (codes "package")) (first ts) ≡ true → head_at ts ≡ Err halt
    → with_front front (heads_at ts) ≡ Err halt
unfolding heads_at
head-fails = front-fails (next_is (Word (codes "package"))) head_at

pub head-ends : (front : List Head) (ts : List Token) → next_is (Word (codes "package")) (first ts) ≡ false
    → with_front front (heads_at ts) ≡ Ok (front, ts)
unfolding heads_at
head-ends = front-ends (next_is (Word (codes "package"))) head_at

-- ONE FOR EACH
module _ {X B A : Type 0} (view : X → B) (r : B → List Token → Read Token A) where
  each_turn : (all xs : List X) (front : List A) (ts : List Token) (x : X) (a : A) (rest : List Token) → all ≡ x ∷ xs → r (view x) ts ≡ Ok (a, rest) →
      with_front (front ++ a ∷ []) (each_at r (map view xs) rest) ≡ with_front front (each_at r (map view all) ts)
  each_turn all xs front ts x a rest is e = rw (is, e) (sym (front-more front a (each_at r (map view xs) rest)))

  each_fails : (all xs : List X) (front : List A) (ts : List Token) (x : X) (halt : Halt) → all ≡ x ∷ xs → r (view x) ts ≡ Err halt
      → with_front front (each_at r (map view all) ts) ≡ Err halt
  unfolding with_front
  each_fails all xs front ts x halt is e = rw (is, e) refl

  each_stops : (all xs : List X) (front : List A) (ts : List Token) (x : X) (e : code.Halt) (whole : Read Token (List A)) → all ≡ x ∷ xs
      → with_front front (each_at r (map view all) ts) ≡ whole → Stops e (r (view x) ts) → Stops e whole
  each_stops all xs front ts x (halt.Syntax left) whole is from h = sym from ∙ each_fails all xs front ts x (reading.Syntax left) is h
  each_stops all xs front ts x (halt.TooDeep left) whole is from h = sym from ∙ each_fails all xs front ts x (reading.TooDeep left) is h
  each_stops all xs front ts x halt.NoMemory whole is from h = tt

  each_ends : {Z : Type 0} (left : IntoIter X Z) (front : List A) (ts : List Token) → into_iter_len left ≡ 0
      → with_front front (each_at r (map view (into_iter_items left)) ts) ≡ Ok (front, ts)
  unfolding with_front
  each_ends left front ts none = rw (nil_from_length (into_iter_items left) (sym left.rest.ok.0 ∙ none), append-nil) refl

-- the bodies of operations
pub operation-turn : (all sigs : List OpSig) (front : List Operation) (ts : List Token) (sig : OpSig) (o : Operation) (rest : List Token)
    → all ≡ sig ∷ sigs → operation_at ada_block_at (signature_of sig) ts ≡ Ok (o, rest) →
    with_front (front ++ o ∷ []) (operations_at ada_block_at (map signature_of sigs) rest)
    ≡ with_front front (operations_at ada_block_at (map signature_of all) ts)
unfolding operations_at
operation-turn = each_turn signature_of (operation_at ada_block_at)

pub operation-stops : (all sigs : List OpSig) (front : List Operation) (ts : List Token) (sig : OpSig) (e : code.Halt)
    (whole : Read Token (List Operation)) → all ≡ sig ∷ sigs
    → with_front front (operations_at ada_block_at (map signature_of all) ts) ≡ whole
    → Stops e (operation_at ada_block_at (signature_of sig) ts) → Stops e whole
unfolding operations_at
operation-stops = each_stops signature_of (operation_at ada_block_at)

pub operation-ends : {Z : Type 0} (left : IntoIter OpSig Z) (front : List Operation) (ts : List Token) → into_iter_len left ≡ 0
    → with_front front (operations_at ada_block_at (map signature_of (into_iter_items left)) ts) ≡ Ok (front, ts)
unfolding operations_at
operation-ends = each_ends signature_of (operation_at ada_block_at)

-- the bodies of units
pub body-turn : (all heads : List UnitHead) (front : List programs.Unit) (ts : List Token) (head : UnitHead) (u : programs.Unit) (rest : List Token)
    → all ≡ head ∷ heads → body_at ada_block_at (head_of head) ts ≡ Ok (u, rest) →
    with_front (front ++ u ∷ []) (bodies_at ada_block_at (map head_of heads) rest)
    ≡ with_front front (bodies_at ada_block_at (map head_of all) ts)
unfolding bodies_at
body-turn = each_turn head_of (body_at ada_block_at)

pub body-stops : (all heads : List UnitHead) (front : List programs.Unit) (ts : List Token) (head : UnitHead) (e : code.Halt)
    (whole : Read Token (List programs.Unit)) → all ≡ head ∷ heads
    → with_front front (bodies_at ada_block_at (map head_of all) ts) ≡ whole
    → Stops e (body_at ada_block_at (head_of head) ts) → Stops e whole
unfolding bodies_at
body-stops = each_stops head_of (body_at ada_block_at)

pub body-ends : {Z : Type 0} (left : IntoIter UnitHead Z) (front : List programs.Unit) (ts : List Token) → into_iter_len left ≡ 0
    → with_front front (bodies_at ada_block_at (map head_of (into_iter_items left)) ts) ≡ Ok (front, ts)
unfolding bodies_at
body-ends = each_ends head_of (body_at ada_block_at)

pub ruleset declaration_steps = (front-none, declaration-shorter, declaration-turn, declaration-fails, declaration-ends)

pub ruleset head_steps = (front-none, head-shorter, head-turn, head-fails, head-ends)

pub ruleset operation_steps = (front-none, operation-turn, operation-ends)

pub ruleset body_steps = (front-none, body-turn, body-ends)
