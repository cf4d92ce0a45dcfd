use Rattle.std.proofs.Common.{◌∙◌, map, sym}
use Rattle.std.proofs.lemmas.Result.{on_ok_weaker}
use Rattle.name_sets.specs.Tables.{named}
use Rattle.linker.specs.Callees.{body_of}
use Rattle.linker.proofs.Entering.{adds_none, entered_before, entered_now, given, lacking}
use Rattle.linker.proofs.tables.Callees.enter.Goals as goal

pub returns-then-has : goal.returns-then-has
returns-then-has c = λ y target left left' led passes h.
    let e = given (named c.args.self.now.units c.args.unit.now) (sym c.if-has.true ∙ c.has.ensures) in
    entered_before y c.args.unit.now target left left' passes c.args.self.now.units (map body_of c.args.self.now.bodies.items) e.0 e.1 h

pub returns : goal.returns
returns c =
    let bs = map body_of c.args.self.now.bodies.items in
    on_ok_weaker c.put.result
    (λ put y target left left' led passes h.
    entered_now y c.args.unit.now target left left' passes c.args.self.now.units c.put.new.self bs bs c.args.entry (adds_none bs)
    (lacking (named c.args.self.now.units c.args.unit.now) (sym c.if-has.false ∙ c.has.ensures)) put led h)
    c.put.ensures.put
