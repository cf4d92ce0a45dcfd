-- What is left of a list of parameters or data, behind the items that are read already.
-- The object description skeleton follows Burns and Wellings 1995; its grammar is this project's own.
use Rattle.std.specs.Prelude.{List, ◌∷◌, ◌++◌}
use Rattle.grammar.specs.Reading.{Read, then_at, pure_at, many_at}
use Rattle.seq_tree.specs.declared.tree.Datum.{Datum}
use Rattle.seq_tree.specs.declared.tree.Param.{Param}
use Rattle.seq_tree.specs.declared.token.Token.{Token}
use Rattle.seq_tree.specs.declared.token.Token.TheVariants.{Sign}
use Rattle.seq_tree.specs.declared.token.Mark.TheVariants.{Semicolon}
use Rattle.token_read.specs.Readers.{next_is}
use Rattle.ods_read.specs.Readers.{more_param_at, locals_at}

-- all parameters, behind the first
unfoldable pub params_from_at : Param → List Token → Read Token (List Param)
params_from_at p = then_at (many_at (next_is (Sign Semicolon)) more_param_at) (λ ps. pure_at (p ∷ ps))

-- variables, behind those that are read already
unfoldable pub data_from_at : List Datum → List Token → Read Token (List Datum)
data_from_at front = then_at locals_at (λ more. pure_at (front ++ more))
