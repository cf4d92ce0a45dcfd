-- An entry into an operation of an object, by what the walk of its body answers.
use Rattle.std.proofs.Common.{◌≡◌, ℕ, Bool, true, List, Option, Some, None, refl, sym, ap, ◌∙◌, bytes_eq}
use Rattle.std.specs.Bool.{Decides}
use Rattle.std.proofs.lemmas.Bool.Decides.{same_from_decides}
use Rattle.std.proofs.lemmas.Slice.Eq.{bytes_eq-Decides}
use Rattle.seq_tree.specs.Names.{Name}
use Rattle.seq_tree.specs.Operations.{Operation, out_names}
use Rattle.seq_tree.specs.Runs.{Path}
use Rattle.seq_tree.specs.Variables.{Variables, kept, reads}
use Rattle.ods_tree.specs.Flats.{Guarded}
use Rattle.law_traces.specs.Services as services
use Rattle.law_traces.specs.Services.{inside_by, last_by, charge_by}
use Rattle.trace_scripts.specs.Scenes.{IsWalk}
use Rattle.trace_scripts.specs.declared.walks.Walked.TheVariants.{Ran, Begun, Astray}
use Rattle.seq_eval.proofs.Shared.Reading.{same-names}

pub same-values : (b : Bool) (xs ys : List ℕ) → Decides b (xs ≡ ys) → b ≡ bytes_eq xs ys
same-values b xs ys h = same_from_decides b (bytes_eq xs ys) h (bytes_eq-Decides xs ys)

pub ruleset names = (same-names)

pub ruleset values = (same-values)

-- an operation that is left
pub ran-inside : (o : Option Path) (begins : Bool) (low high : ℕ) (after : Variables) → IsWalk o begins (Ran low high) after
    → (g : Guarded) (thread op : Name) (body : Operation) (gives : List ℕ) (data' : Variables) → gives ≡ reads (out_names body.sig.params) after
    → data' ≡ kept g.vars after → services.Inside thread op gives data' ≡ inside_by g thread op body o
ran-inside None begins low high after h g thread op body gives data' e f = absurd h
ran-inside (Some p) begins low high after h g thread op body gives data' e f =
    ap (λ z. services.Inside thread op z data') (e ∙ ap (reads (out_names body.sig.params)) h.1)
    ∙ ap (services.Inside thread op (reads (out_names body.sig.params) p.vars)) (f ∙ ap (kept g.vars) h.1)

pub begun-broken : (o : Option Path) (begins : Bool) (after : Variables) → IsWalk o begins Begun after
    → (g : Guarded) (thread op : Name) (body : Operation) → services.Broken ≡ inside_by g thread op body o
begun-broken None begins after h g thread op body = refl
begun-broken (Some p) begins after h g thread op body = absurd h

pub astray-broken : (o : Option Path) (begins : Bool) (after : Variables) → IsWalk o begins Astray after
    → (g : Guarded) (thread op : Name) (body : Operation) → services.Broken ≡ inside_by g thread op body o
astray-broken None begins after h g thread op body = refl
astray-broken (Some p) begins after h g thread op body = absurd h

pub ran-charge : (o : Option Path) (begins : Bool) (low high most : ℕ) (after : Variables) → IsWalk o begins (Ran low high) after
    → (let c : ℕ × ℕ = (low, high) in c) ≡ charge_by most true o
ran-charge None begins low high most after h = absurd h
ran-charge (Some p) begins low high most after h =
    let F : ℕ → ℕ → ℕ × ℕ = λ a b. (a, b) in ap (λ z. F z high) h.2 ∙ ap (F p.low) h.3

pub begun-charge : (o : Option Path) (begins : Bool) (most : ℕ) (after : Variables) → IsWalk o begins Begun after
    → (let c : ℕ × ℕ = (0, most) in c) ≡ charge_by most true o
begun-charge None begins most after h = refl
begun-charge (Some p) begins most after h = absurd h

pub astray-charge : (o : Option Path) (begins : Bool) (most : ℕ) (after : Variables) → IsWalk o begins Astray after
    → (let c : ℕ × ℕ = (0, most) in c) ≡ charge_by most true o
astray-charge None begins most after h = refl
astray-charge (Some p) begins most after h = absurd h

-- an operation that is never left
pub ran-begins : (o : Option Path) (begins : Bool) (low high : ℕ) (after : Variables) → IsWalk o begins (Ran low high) after → services.Last ≡ last_by begins
ran-begins None begins low high after h = absurd h
ran-begins (Some p) begins low high after h = ap last_by (sym h.0)

pub begun-begins : (o : Option Path) (begins : Bool) (after : Variables) → IsWalk o begins Begun after → services.Last ≡ last_by begins
begun-begins None begins after h = ap last_by (sym h)
begun-begins (Some p) begins after h = absurd h

pub astray-begins : (o : Option Path) (begins : Bool) (after : Variables) → IsWalk o begins Astray after → services.Broken ≡ last_by begins
astray-begins None begins after h = ap last_by (sym h)
astray-begins (Some p) begins after h = absurd h
