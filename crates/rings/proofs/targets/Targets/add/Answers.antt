use Rattle.std.proofs.Common.{◌∙◌, ap, rules, unwrap_or}
use Rattle.std.specs.BTreeMap.Entry.{map_with_value}
use Rattle.rings.proofs.TargetSteps.{added_targets}
use Rattle.rings.proofs.targets.Targets.add.Goals as goal

pub returns : goal.returns
returns c = λ a.
    let value = c.push.new.self in
    added_targets c.args.self.now _ (map_with_value c.in_ok-self.field-0 value) value c.or_insert-targets.result.now c.new.result c.args.from
    c.args.to a (search rules) ((c.in_ok-self.ensures.update.0 value).0 a) c.in_ok-push.ensures.items
    (c.or_insert-targets.ensures.value ∙ ap (λ o. unwrap_or o c.new.result) c.in_ok-self.ensures.value) c.new.ensures.items
