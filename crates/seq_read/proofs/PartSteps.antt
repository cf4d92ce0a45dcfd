-- Reading parameters and variables, one after another.
use Rattle.std.proofs.Common.{◌≡◌, Bool, List, [], ◌∷◌, ◌++◌, Ok, Err, codes, refl}
use Rattle.grammar.specs.Reading.{Read, ◌>>=◌, pure_at}
use Rattle.seq_tree.specs.Names.{Name}
use Rattle.seq_tree.specs.declared.tree.Datum.{Datum}
use Rattle.seq_tree.specs.declared.tree.Param.{Param}
use Rattle.seq_tree.specs.declared.token.Token.{Token}
use Rattle.seq_tree.specs.declared.token.Token.TheVariants.{Sign}
use Rattle.seq_tree.specs.declared.token.Mark.TheVariants.{Semicolon, Colon}
use Rattle.token_read.specs.Readers.{next_is}
use Rattle.seq_read.specs.Statements.{next_is_name}
use Rattle.seq_read.specs.Parts.{sees_by, mode_named, named_at, param_at, more_param_at, params_from_at, datum_at, data_at, more_data_at}
use Rattle.seq_read.proofs.Shared.Takes.{Takes, takes-any, takes-token, takes-pure, takes-then}
use Rattle.seq_read.proofs.Shared.TokenTakes.{takes-fixed, any-fixed, any-word, takes-name}
use Rattle.seq_read.proofs.Shared.Turns.{onward, onward-fails, onward-ends}

-- PARAMETERS
takes-param : (is_name : Name → Bool) → Takes 0 (param_at is_name)
unfolding param_at named_at
takes-param is_name =
    takes-then (takes-any 1 (takes-name is_name)) (λ name. takes-then (any-fixed (Sign Colon))
    (λ _. takes-then (takes-any 1 (takes-token (sees_by mode_named))) (λ mode.
    takes-then (any-word (codes "word")) (λ _. takes-pure (record { name = name; mode = mode })))))

pub takes-more_param : (is_name : Name → Bool) → Takes 1 (more_param_at is_name)
unfolding more_param_at
takes-more_param is_name = takes-then (takes-fixed (Sign Semicolon)) (λ _. takes-param is_name)

-- the parameters so far, and those that are left
abbrev pub params_after : (Name → Bool) → List Param → List Token → Read Token (List Param)
params_after is_name = onward (next_is (Sign Semicolon)) (more_param_at is_name) pure_at

pub params-start : (is_name : Name → Bool) (p : Param) (ts : List Token) → params_after is_name (p ∷ []) ts ≡ params_from_at is_name p ts
unfolding params_from_at onward
params-start is_name p ts = refl

-- VARIABLES
-- the variables so far, and those that are left
abbrev pub data_after : (Name → Bool) → List Datum → List Token → Read Token (List Datum)
data_after is_name = onward (next_is_name is_name) (datum_at is_name) pure_at

pub data-start : (is_name : Name → Bool) (front : List Datum) (ts : List Token) → data_after is_name front ts ≡ more_data_at is_name front ts
unfolding more_data_at data_at onward
data-start is_name front ts = refl

pub data-whole : (is_name : Name → Bool) (ts : List Token) → more_data_at is_name [] ts ≡ data_at is_name ts
unfolding more_data_at
data-whole is_name ts = same (data_at is_name ts) where
  same : (q : Read Token (List Datum)) → (q >>= λ y. Ok ([] ++ y.0, y.1)) ≡ q
  same (Ok y) = refl
  same (Err halt) = refl

pub ruleset param_steps = (params-start, onward-fails, onward-ends)

pub ruleset datum_steps = (data-start, onward-fails, onward-ends)

pub ruleset data_steps = (data-whole)
