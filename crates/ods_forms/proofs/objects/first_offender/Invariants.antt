use Rattle.std.proofs.Common.{◌≡◌, drop, map}
use Rattle.ods_index.specs.Judging.{head_of}
use Rattle.ods_forms.specs.ObjectFaults.{bad_objects}
use Rattle.ods_index.specs.Walking.{standing_of}
use Rattle.ods_forms.proofs.objects.first_offender.Given as goal

-- the first is among those that are left
abbrev pub invariant-objects : goal.invariant-objects
invariant-objects l = head_of (bad_objects l.rule (map standing_of (drop l.standing-index l.objects)))
    ≡ head_of (bad_objects l.rule (map standing_of l.objects))
