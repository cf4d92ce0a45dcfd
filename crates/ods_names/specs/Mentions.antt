-- The names of a design with what has them, as they are gathered, in order of writing.
-- A loop of a thread has the requests of its object as the operations whose body it is.
use Rattle.std.specs.Prelude.{ℕ, List, [], ◌∷◌, map, Option, Some, None, slice_get}
use Rattle.seq_tree.specs.Names.{Name}
use Rattle.design_rules.specs.Clashes as clashes
use Rattle.design_rules.specs.Clashes.{request_names}
use Rattle.ods_names.specs.NameLists.{names_of}
use Rattle.ods_index.specs.Walking.{object_of}
use Rattle.ods_index.specs.declared.index.Index.{Index}
use Rattle.ods_names.specs.declared.mentions.Mention.{Mention}
use Rattle.ods_names.specs.declared.mentions.Role.{Role}
use Rattle.ods_names.specs.declared.mentions.Role.TheVariants as role
use Rattle.ods_index.specs.declared.walk.Standing.{Standing}

-- the names of the requests of an object, where it is there
abbrev pub requests_of : Option Standing → List Name
requests_of None = []
requests_of (Some s) = request_names (object_of s.node.now)

-- the names of the requests of the object at a place
unfoldable pub requests_in : Index → ℕ → List Name
requests_in i place = requests_of (slice_get i.objects.items place)

-- the role of a name, by the requests of the object at each place
abbrev pub role_of : (ℕ → List Name) → Role → clashes.Role
role_of requests role.Whole = clashes.Whole
role_of requests role.Single = clashes.Single
role_of requests (role.Member place) = clashes.Member place
role_of requests (role.Parameter place op bodied) = clashes.Parameter place op.now bodied
role_of requests (role.Local place body op) = clashes.Local place body op.now
role_of requests (role.Loop place body op) = clashes.Loop place body (op.now ∷ [])
role_of requests (role.ThreadLoop place body) = clashes.Loop place body (requests place)

-- a name in a role, where these loops are open
abbrev pub mention_by : (ℕ → List Name) → Role → Name → List Name → clashes.Mention
mention_by requests r name open' = record { name = name; role = role_of requests r; open' = open' }

-- a name as it was gathered
abbrev pub mention_of : (ℕ → List Name) → Mention → clashes.Mention
mention_of requests m = mention_by requests m.role m.name.now (names_of m.open.items)

-- the names that were gathered from an index
abbrev pub gathered : Index → List Mention → List clashes.Mention
gathered i ms = map (mention_of (requests_in i)) ms
