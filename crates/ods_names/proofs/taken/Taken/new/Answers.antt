use Rattle.std.proofs.Common.{[], ap, ◌∙◌}
use Rattle.ods_names.specs.Mentions.{requests_in}
use Rattle.ods_names.specs.Taken.{has_request}
use Rattle.ods_names.proofs.TakenSteps.{request_in}
use Rattle.ods_names.proofs.taken.Taken.new.Goals as goal

pub returns : goal.returns
unfolding requests_in
returns c = record {
  requested_in = λ p n. c.in_ok-requests.ensures p n ∙ ap (λ xs. has_request 0 xs p n) c.as_slice.ensures.value ∙ request_in
      c.args.index.now.objects.items p n;
  all_in = λ n. c.new.ensures n;
  objects_in = λ n. c.new-2.ensures n;
  members_in = λ p n. c.new-3.ensures p 0 [] n;
  bodied_in = λ p n. c.new-4.ensures p 0 [] n;
  parameters_in = λ p o n. c.new-5.ensures p 0 o n;
  bodied_parameters_in = λ p o n. c.new-6.ensures p 0 o n;
  asked_in = λ p n. c.new-7.ensures p 0 [] n;
  locals_in = λ p b n. c.new-8.ensures p b [] n;
}
