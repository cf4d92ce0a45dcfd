-- Reading the lists of an object, one item after another.
use Rattle.std.proofs.Common.{◌≡◌, Bool, List, [], ◌∷◌, ◌++◌, codes, Option, Ok, Err, refl}
use Rattle.grammar.specs.Reading.{Read, ◌>>=◌, pure_at, many_at}
use Rattle.seq_tree.specs.declared.tree.OpName.{OpName}
use Rattle.seq_tree.specs.declared.token.Token.{Token}
use Rattle.seq_tree.specs.declared.token.Token.TheVariants.{Word}
use Rattle.ods_tree.specs.Designs.{Provided, Body}
use Rattle.ods_tree.specs.declared.design.Attr.{Attr}
use Rattle.ods_tree.specs.declared.design.Link.{Link}
use Rattle.token_read.specs.Readers.{next_is}
use Rattle.seq_read.specs.Statements.{BlockReader}
use Rattle.seq_read.proofs.Shared.Turns.{onward, onward-fails, onward-ends}
use Rattle.ods_read.specs.Readers.{next_by, key_named, next_is_design_name, some_at, attribute_at, attribute_list_at, provided_at}
use Rattle.ods_read.specs.Readers.{provided_list_at, needed_at, needed_list_at, link_at, link_list_at, body_at, bodies_at}

-- the items so far, and those that are left
abbrev pub gathered : {A : Type 0} → (Option Token → Bool) → (List Token → Read Token A) → List A → List Token → Read Token (List A)
gathered test r = onward test r pure_at

-- behind the first item
some-start : {A : Type 0} (test : Option Token → Bool) (r : List Token → Read Token A) (ts rest : List Token) (a : A) → r ts ≡ Ok (a, rest)
    → gathered test r (a ∷ []) rest ≡ some_at test r ts
unfolding onward
some-start test r ts rest a e = rw e refl

pub attribute-start : (units : Bool) (ts rest : List Token) (a : Attr) → attribute_at units ts ≡ Ok (a, rest)
    → gathered (next_by key_named) (attribute_at units) (a ∷ []) rest ≡ attribute_list_at units ts
unfolding attribute_list_at
attribute-start units = some-start (next_by key_named) (attribute_at units)

pub provided-start : (ts rest : List Token) (p : Provided) → provided_at ts ≡ Ok (p, rest)
    → gathered next_is_design_name provided_at (p ∷ []) rest ≡ provided_list_at ts
unfolding provided_list_at
provided-start = some-start next_is_design_name provided_at

pub needed-start : (ts rest : List Token) (o : OpName) → needed_at ts ≡ Ok (o, rest)
    → gathered next_is_design_name needed_at (o ∷ []) rest ≡ needed_list_at ts
unfolding needed_list_at
needed-start = some-start next_is_design_name needed_at

pub link-start : (ts rest : List Token) (k : Link) → link_at ts ≡ Ok (k, rest) → gathered next_is_design_name link_at (k ∷ []) rest ≡ link_list_at ts
unfolding link_list_at
link-start = some-start next_is_design_name link_at

pub body-start : (block : BlockReader) (ts : List Token) → gathered (next_is (Word (codes "operation"))) (body_at block) [] ts ≡ bodies_at block ts
unfolding bodies_at onward
body-start block ts = same (many_at (next_is (Word (codes "operation"))) (body_at block) ts) where
  same : (q : Read Token (List Body)) → (q >>= λ y. Ok ([] ++ y.0, y.1)) ≡ q
  same (Ok y) = refl
  same (Err halt) = refl

pub ruleset attribute_steps = (attribute-start, onward-fails, onward-ends)

pub ruleset provided_steps = (provided-start, onward-fails, onward-ends)

pub ruleset needed_steps = (needed-start, onward-fails, onward-ends)

pub ruleset link_steps = (link-start, onward-fails, onward-ends)

pub ruleset body_steps = (body-start, onward-fails, onward-ends)
