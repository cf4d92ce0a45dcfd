-- Scaled designs as trees of objects: all `work` at so many per mille, and each THREAD_BUDGET the greatest there is.
-- What runs of such a design is the scaled flat design.
use Rattle.std.specs.Prelude.{ℕ, map, option_map, Option, None, if◌then◌else◌}
use Rattle.seq_tree.specs.Limits.{tick_limit}
use Rattle.seq_tree.specs.Names.{Name}
use Rattle.ods_tree.specs.Attributes.{has_key}
use Rattle.ods_tree.specs.Designs.{Body, Object, Tree, Trees, Node, Empty, With, Design}
use Rattle.ods_tree.specs.declared.design.Attr.{Attr}
use Rattle.ods_tree.specs.declared.design.AttrKey.TheVariants.{ThreadBudget}
use Rattle.law_scaling.specs.Working.{reworked_block}
use Rattle.law_scaling.specs.Scaling.{scaled_ticks, work_of}

-- an attribute, a budget being the greatest
abbrev pub freed : Attr → Attr
freed a = if has_key ThreadBudget a then record { key = a.key; value = tick_limit; unit = None } else a

-- the body of an operation
abbrev pub reworked_body : (ℕ → ℕ) → Body → Body
reworked_body w b = record { name = b.name; locals = b.locals; block = reworked_block w b.block }

-- an object
abbrev pub reworked_object : (Name → ℕ → ℕ) → Object → Object
reworked_object w o = record {
  name = o.name;
  kind = o.kind;
  attrs = map freed o.attrs;
  provides = o.provides;
  needs = o.needs;
  vars = o.vars;
  bodies = map (reworked_body (w o.name)) o.bodies;
  thread = option_map (reworked_block (w o.name)) o.thread;
  links = o.links;
}

-- a tree, and trees
abbrev mutual
  pub reworked_tree : (Name → ℕ → ℕ) → Tree → Tree
  reworked_tree w (Node own children) = Node (reworked_object w own) (reworked_trees w children)

  pub reworked_trees : (Name → ℕ → ℕ) → Trees → Trees
  reworked_trees w Empty = Empty
  reworked_trees w (With first rest) = With (reworked_tree w first) (reworked_trees w rest)

-- a design
abbrev pub reworked_design : (Name → ℕ → ℕ) → Design → Design
reworked_design w x = record { name = x.name; version = x.version; costs = x.costs; root = reworked_tree w x.root }

-- a design at so many per mille
abbrev pub scaled_design : ℕ → Design → Design
scaled_design k x = reworked_design (λ name. scaled_ticks k) x

-- a design with all its `work`, or that of one object alone, at so many per mille
abbrev pub scaled_design_in : Option Name → ℕ → Design → Design
scaled_design_in only k x = reworked_design (work_of only k) x
