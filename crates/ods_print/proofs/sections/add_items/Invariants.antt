use Rattle.std.proofs.Common.{◌≡◌, ◌++◌, drop}
use Rattle.ods_print.specs.Parts.{item_lines, lines_text}
use Rattle.ods_print.proofs.sections.add_items.Given as goal

-- with the lines of the items that are left, those of all have been added
abbrev pub invariant-items : goal.invariant-items
invariant-items g l =
    l.into.items ++ lines_text (item_lines l.level g.T.Item.parts (drop l.item-index l.items))
    ≡ l.initial.into.items ++ lines_text (item_lines l.level g.T.Item.parts l.items)
