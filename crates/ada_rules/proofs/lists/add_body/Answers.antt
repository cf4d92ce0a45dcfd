use Rattle.ada_rules.specs.Lists.{names_of}
use Rattle.ada_rules.proofs.NameSteps.{joined_three}
use Rattle.ada_rules.proofs.lists.add_body.Goals as goal

pub returns : goal.returns
returns c =
    joined_three (names_of c.args.names.now.items) (names_of c.add_params.new.names.items) (names_of c.add_data.new.names.items)
    (names_of c.add_block_loops.new.names.items) _ _ _
    c.in_ok-add_params.ensures c.in_ok-add_data.ensures c.in_ok-add_block_loops.ensures
