use Rattle.std.proofs.Common.{ap, ◌∙◌, sym, subst}
use Rattle.ods_tree.specs.Trees.{flat_of}
use Rattle.rt_response.specs.Tables.{IsTable}
use Rattle.law_designs.proofs.Shared.TableRanges.{sound-table}
use Rattle.explanation.proofs.finding.find_bounds.Goals as goal

pub unlimited-requires : goal.unlimited-requires
unlimited-requires c =
    rw (c.as_slice-in-Err-Miss.ensures.value, ap (λ t. t.rows) c.requires.table) (sound-table (flat_of c.args.flat.now) c.requires.sound)
