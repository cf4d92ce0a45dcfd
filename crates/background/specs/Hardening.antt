-- How the hard part of a design is made: the kinds of its terminal objects first, then its operations.
-- Together they give the hard objects of the definitions.
use Rattle.std.specs.Prelude.{List, [], ◌∷◌, if◌then◌else◌}
use Rattle.ods_tree.specs.Designs.{Object, Tree, Node, Empty, With}
use Rattle.ods_tree.specs.declared.design.Attr.{Attr}
use Rattle.ods_tree.specs.declared.design.AttrKey.TheVariants.{Period, Deadline, ThreadBudget}
use Rattle.ods_tree.specs.declared.design.Kind.TheVariants as kind
use Rattle.background_designs.specs.Clients.{is_client, is_server}
use Rattle.background_designs.specs.HardParts.{longest}

-- the attributes of a client as a cyclic object
abbrev pub client_attributes : List Attr
client_attributes = longest Period ∷ longest Deadline ∷ longest ThreadBudget ∷ []

-- a terminal object with its kind and attributes as a hard one
abbrev pub retyped_object : Object → Object
retyped_object o =
    if is_client o then record o { kind = kind.Cyclic; attrs = client_attributes }
    else (if is_server o then record o { kind = kind.Protected } else o)

-- an object with those inside it, where it has none with such a kind and attributes
abbrev pub retyped : Tree → Tree
retyped (Node own Empty) = Node (retyped_object own) Empty
retyped (Node own (With first rest)) = Node own (With first rest)
