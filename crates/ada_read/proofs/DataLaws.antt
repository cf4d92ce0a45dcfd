-- The reader of variables reads its grammar.
use Rattle.std.proofs.Common.{◌≡◌, false, Option, codes, flat_map, refl}
use Rattle.seq_tree.specs.Lists.{Each}
use Rattle.grammar.specs.Reading.{Reads}
use Rattle.seq_tree.specs.declared.tree.Datum.{Datum}
use Rattle.seq_tree.specs.declared.token.Token.{Token}
use Rattle.ada_tree.specs.Words.{is_ada_name}
use Rattle.seq_read.specs.Statements.{next_is_name}
use Rattle.seq_read.specs.Parts.{data_at}
use Rattle.seq_read.proofs.Shared.DatumLaws as variables
pub use Rattle.seq_read.proofs.Shared.DatumLaws.{datum_tokens}

abbrev pub IsDatum : Datum → Type 0
IsDatum = variables.IsDatum is_ada_name

-- whether no variable follows
abbrev pub EndsData : Option Token → Type 0
EndsData o = next_is_name is_ada_name o ≡ false

pub reads-data : Reads (λ ds text. Each IsDatum ds × (text ≡ flat_map datum_tokens ds)) (λ ds o. EndsData o) (data_at is_ada_name)
unfolding is_ada_name
reads-data = variables.reads-data is_ada_name (codes "a") refl
