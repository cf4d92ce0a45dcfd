-- A program with the table of what its calls lead to is a scene.
use Rattle.trace_text.proofs.Shared.Names.{unit_name-read}
use Rattle.std.proofs.Common.{◌≡◌, ◌≤◌, ℕ, List, [], ◌∷◌, ◌++◌, map, length, refl, sym, ap, ◌∙◌, subst}
use Rattle.std.proofs.lemmas.List.{length-map}
use Rattle.seq_tree.specs.Limits.{tick_limit}
use Rattle.seq_tree.specs.Names.{Name}
use Rattle.seq_tree.specs.Operations.{Operation}
use Rattle.seq_tree.specs.Trees.{offer_of, operation_of}
use Rattle.seq_tree.specs.declared.tree.Callable.{Callable}
use Rattle.seq_tree.specs.declared.tree.OpText.{OpText}
use Rattle.seq_eval.specs.Bounds.{most_ticks}
use Rattle.seq_eval.specs.Following.{callees}
use Rattle.ada_tree.specs.Programs.{Unit, Program}
use Rattle.ada_tree.specs.Rules.{MeetsRules}
use Rattle.guarantee.specs.Software.{leads_to, program_software}
use Rattle.trace_scripts.specs.Scenes.{IsScene, AllIn, program_in, software_of, calls_of}
use Rattle.trace_scripts.specs.declared.walks.Scene.{Scene}
use Rattle.design_accepts.specs.Calling.{Holds, plain_in, plain_of, owners_of, shared_of}
use Rattle.design_accepts.specs.Units.{IsQuick}
use Rattle.design_accepts.specs.declared.called.Called.{Called}
use Rattle.design_accepts.proofs.Listed.{all-led}

owners-part : (name : Name) (os : List Operation) (ns : List Name) (ps : List Operation) → length ns ≡ length ps
    → length (map (λ o. name) os ++ ns) ≡ length (os ++ ps)
owners-part name [] ns ps h = h
owners-part name (o ∷ os) ns ps h = let more = owners-part name os ns ps h in cc

as-many : (us : List Unit) → length (owners_of us) ≡ length (plain_of us)
as-many [] = refl
as-many (u ∷ us) = owners-part u.name (plain_in u.form) (owners_of us) (plain_of us) (as-many us)

-- the lists of a program, which the table of its calls is made of
module _ (p : Program) (c : Called) (passive : List OpText) (owners : List Name) (shared requests : List Callable) (plain : passive ≡ c.passive.items)
    (owning : owners ≡ c.owners.items) (holds : Holds c p.units)
  where
    pub as-listed : length owners ≡ length passive
    as-listed =
        ap length (owning ∙ holds.owners) ∙ as-many p.units ∙ sym (ap length (ap (map operation_of) plain ∙ holds.passive))
        ∙ length-map passive operation_of

    pub are-led : shared ≡ c.shared.items → requests ≡ c.requests.items
        → callees owners (map operation_of passive) (map offer_of shared) (map offer_of requests) ≡ leads_to (program_software p)
    are-led sharing asking =
        ap (λ z. callees z (map operation_of passive) (map offer_of shared) (map offer_of requests)) (owning ∙ holds.owners)
        ∙ ap (λ z. callees (owners_of p.units) z (map offer_of shared) (map offer_of requests)) (ap (map operation_of) plain ∙ holds.passive)
        ∙ ap (λ z. callees (owners_of p.units) (plain_of p.units) z (map offer_of requests)) (ap (map offer_of) sharing ∙ holds.shared)
        ∙ ap (λ z. callees (owners_of p.units) (plain_of p.units) (shared_of p.units) z) (ap (map offer_of) asking ∙ holds.requests)
        ∙ all-led p

pub is-scene : (s : Scene) → calls_of s ≡ leads_to (software_of s) → MeetsRules (program_in s) → IsQuick (program_in s) → IsScene s
is-scene s led meets quick = record {
  rules = meets;
  calls = led;
  ticks = subst (λ z. AllIn (λ b. (depth : ℕ) → most_ticks (program_in s).costs z depth b ≤ tick_limit) (program_in s)) (sym led) quick;
}

pub ruleset name_steps = (unit_name-read)
