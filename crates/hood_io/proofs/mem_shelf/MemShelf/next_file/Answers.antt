use Rattle.std.proofs.Common.{◌∙◌, sym, arith}
use Rattle.std.proofs.lemmas.Grind.{common_steps}
use Rattle.hood_io.proofs.Places.{file_of-Some, file_of-None}
use Rattle.hood_io.proofs.mem_shelf.MemShelf.next_file.Goals as goal

pub returns-in-Some : goal.returns-in-Some
returns-in-Some c =
    let file = file_of-Some c.args.self.now.files.items c.args.name.now c.in-Some.place c.index.result.now (sym c.place_of.ensures ∙ c.in-Some.is)
    in grind (arith, common_steps, file)

pub returns-in-None : goal.returns-in-None
returns-in-None c =
    let file = file_of-None c.args.self.now.files.items c.args.name.now (sym c.place_of.ensures ∙ c.in-None.is) in grind (arith, common_steps, file)
