-- Lists of what calls lead to, unit by unit.
use Rattle.std.proofs.Common.{◌≡◌, ◌<◌, ◌≤◌, ◌+◌, ℕ, List, [], ◌∷◌, ◌++◌, map, drop, length, get_or, sym, ap, ◌∙◌, subst, append_assoc, append-nil}
use Rattle.std.proofs.lemmas.List.{drop_all}
use Rattle.seq_tree.specs.Trees.{offer_of, operation_of}
use Rattle.seq_tree.proofs.Shared.LoopSteps.{drop_step}
use Rattle.ada_tree.specs.Programs.{Unit}
use Rattle.ada_tree.specs.Trees.{unit_of}
use Rattle.ada_tree.specs.declared.program.Unit as code
use Rattle.design_accepts.specs.Calling.{Holds, Gains, Reaches, plain_in, shared_in, requests_in, plain_of, owners_of, shared_of, requests_of}
use Rattle.design_accepts.specs.declared.called.Called.{Called}

-- a list to which a part came
gained : {A : Type 0} (before after part rest all : List A) → after ≡ before ++ part → before ++ (part ++ rest) ≡ all → after ++ rest ≡ all
gained before after part rest all e h = ap (λ z. z ++ rest) e ∙ append_assoc before part rest ∙ h

pub reach-on : (before after : Called) (u : Unit) (left all : List Unit) → Gains before after u
    → Reaches before (u ∷ left) all → Reaches after left all
reach-on before after u left all g r = record {
  passive = gained (map operation_of before.passive.items) (map operation_of after.passive.items) (plain_in u.form) (plain_of left) (plain_of all)
      g.passive r.passive;
  owners = gained before.owners.items after.owners.items (map (λ o. u.name) (plain_in u.form)) (owners_of left) (owners_of all) g.owners r.owners;
  shared = gained (map offer_of before.shared.items) (map offer_of after.shared.items) (shared_in u.name u.form) (shared_of left) (shared_of all)
      g.shared r.shared;
  requests = gained (map offer_of before.requests.items) (map offer_of after.requests.items) (requests_in u.name u.form) (requests_of left)
      (requests_of all) g.requests r.requests;
}

whole : {A : Type 0} (xs all : List A) → xs ++ [] ≡ all → xs ≡ all
whole xs all h = sym (append-nil xs) ∙ h

pub reach-end : (c : Called) (all : List Unit) → Reaches c [] all → Holds c all
reach-end c all r = record {
  passive = whole (map operation_of c.passive.items) (plain_of all) r.passive;
  owners = whole c.owners.items (owners_of all) r.owners;
  shared = whole (map offer_of c.shared.items) (shared_of all) r.shared;
  requests = whole (map offer_of c.requests.items) (requests_of all) r.requests;
}

pub reach-step : (us : List code.Unit) (i : ℕ) (u : code.Unit) (before after : Called) → i < length us → u ≡ get_or us i u
    → Gains before after (unit_of u) → Reaches before (map unit_of (drop i us)) (map unit_of us)
    → Reaches after (map unit_of (drop (i + 1) us)) (map unit_of us)
reach-step us i u before after inside at g r =
    reach-on before after (unit_of u) (map unit_of (drop (i + 1) us)) (map unit_of us) g
    (subst (λ z. Reaches before (map unit_of z) (map unit_of us)) (drop_step us i u inside at) r)

pub reach-all : (us : List code.Unit) (i : ℕ) (c : Called) → length us ≤ i → Reaches c (map unit_of (drop i us)) (map unit_of us)
    → Holds c (map unit_of us)
reach-all us i c over r =
    reach-end c (map unit_of us) (subst (λ z. Reaches c (map unit_of z) (map unit_of us)) (drop_all i us over) r)
