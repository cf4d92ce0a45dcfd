use Rattle.std.proofs.Common.{◌≡◌, ◌||◌, true, map, Some, slice_get, sym, ap, ◌∙◌}
use Rattle.seq_tree.specs.Names.{same_name, is_named}
use Rattle.ada_tree.specs.Naming.{breaks_naming, inner_names}
use Rattle.ada_tree.specs.Trees.{form_of, program_of, unit_of}
use Rattle.name_sets.specs.Sets.{has, has_op}
use Rattle.ada_rules.proofs.FirstLaws.{none_at_all, passes, stops, unit_at}
use Rattle.ada_rules.proofs.UnitLaws.{names_told, names_upto, inner_upto}
use Rattle.ada_rules.proofs.naming.first_by_names.Goals as goal

pub units-preserved : goal.units-preserved
units-preserved c =
    let at : slice_get (map unit_of c.as_slice-list.result.now) c.units.place ≡ Some (unit_of c.index-list-place.result) =
    unit_at c.as_slice-list.result.now c.units.place c.index-list-place.result c.units-test.true c.index-list-place.is in
    record {
      names = λ n.
          c.in_ok-breaks_names.ensures.units n ∙ ap (λ b. same_name c.index-list-place.result.name n || b) (c.units.invariant.names n)
          ∙ sym (names_upto (map unit_of c.as_slice-list.result.now) c.units.place (unit_of c.index-list-place.result) n at);
      inside = λ n.
          c.in_ok-breaks_names.ensures.inner n ∙ ap (λ b. is_named (inner_names (form_of c.index-list-place.result.form)) n || b)
          (c.units.invariant.inside n)
          ∙ sym (inner_upto (map unit_of c.as_slice-list.result.now) c.units.place (unit_of c.index-list-place.result) n at);
      before =
          passes (breaks_naming (program_of c.args.program.now)) c.as_slice-list.result.now c.units.place c.index-list-place.result
          c.in_ok-breaks_names.field-0 c.units-test.true c.index-list-place.is
          (c.in_ok-breaks_names.ensures.told
          ∙ names_told c.args.program.now c.as_slice-list.result.now c.units.place c.index-list-place.result (has c.units.units) (has c.units.inner)
          (has_op c.in_ok-offered.offered)
          c.as_slice-list.ensures.value c.units-test.true c.index-list-place.is c.units.invariant.names c.units.invariant.inside
          c.in_ok-offered.ensures)
          c.if-branch.false c.units.invariant.before;
    }

pub returns-then-branch : goal.returns-then-branch
returns-then-branch c =
    stops (breaks_naming (program_of c.args.program.now)) c.as_slice-list.result.now c.args.program.now.units.items c.units.place
    c.index-list-place.result c.in_ok-breaks_names.field-0
    c.as_slice-list.ensures.value c.units-test.true c.index-list-place.is
    (c.in_ok-breaks_names.ensures.told
    ∙ names_told c.args.program.now c.as_slice-list.result.now c.units.place c.index-list-place.result (has c.units.units) (has c.units.inner)
    (has_op c.in_ok-offered.offered)
    c.as_slice-list.ensures.value c.units-test.true c.index-list-place.is c.units.invariant.names c.units.invariant.inside c.in_ok-offered.ensures)
    c.if-branch.true c.units.invariant.before

pub returns : goal.returns
returns c =
    none_at_all (λ k u. breaks_naming (program_of c.args.program.now) k u ≡ true) c.as_slice-list.result.now c.args.program.now.units.items
    c.units.place c.as_slice-list.ensures.value c.units-test.false
    c.units.invariant.before
