use Rattle.std.proofs.Common.{◌≡◌, ◌∙◌, sym, ap, arith}
use Rattle.std.specs.Prelude.{drop}
use Rattle.seq_tree.specs.declared.tree.Datum.{Datum}
use Rattle.linker.specs.Slots.{vars_at}
use Rattle.linker.specs.Programs.{datum_names}
use Rattle.linker.specs.Scopes.{slots_of}
use Rattle.task_runtime.proofs.Distinct.{kept_slots}
use Rattle.task_runtime.proofs.Passing.{kept_step}
use Rattle.task_runtime.proofs.hands.keep_data.Goals as goal

pub data-preserved : goal.data-preserved
data-preserved c =
    let i = c.data.invariant in
    let ds = c.args.«data».now in
    let room = c.push_reserved.ensures.len in
    record {
      within = omega (arith, i.within);
      count = omega (arith, i.count, room);
      vars = kept_step ds c.data.at _ c.index-data-at.result c.args.slots.now.here c.data.into.items c.push_reserved.new.self.items c.data-test.true
          i.within c.index-data-at.is (sym (ap (λ (d : Datum). d.name) c.index-data-at.is)) c.get.ensures
          c.push_reserved.ensures.items i.vars;
      room = c.push_reserved.ensures.capacity ∙ i.room;
    }

pub returns-clause-kept : goal.returns-clause-kept
returns-clause-kept c = λ ns distinct.
    let none : c.data.at ≡ 0 = omega (arith, c.data-test.false) in
    c.data.invariant.vars ∙ ap (λ k. vars_at (slots_of (datum_names (drop k c.args.«data».now))) c.args.slots.now.here) none
    ∙ sym (kept_slots ns c.args.«data».now c.args.slots.now.here distinct)
