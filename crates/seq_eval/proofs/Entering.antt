-- Parameters at entry and at the end: one parameter among the others.
use Rattle.std.proofs.Common.{◌≡◌, ℕ, ◌+◌, ◌<◌, List, [], ◌∷◌, length, drop, get_or, refl, ap, ◌∙◌}
use Rattle.seq_tree.specs.Names.{Name}
use Rattle.seq_tree.specs.Operations.{out_names}
use Rattle.seq_tree.specs.Values.{handed}
use Rattle.seq_tree.specs.Variables.{Variables, entered_by}
use Rattle.seq_tree.specs.declared.tree.Mode.{Mode}
use Rattle.seq_tree.specs.declared.tree.Mode.TheVariants.{In, Out}
use Rattle.seq_tree.specs.declared.tree.Param.{Param}
use Rattle.seq_tree.proofs.Shared.LoopSteps.{drop_step}

-- a parameter for which there is no value
pub entered-none : (m : Mode) (name : Name) (others : List ℕ → Variables) → entered_by m name [] others ≡ (name, 0) ∷ others []
entered-none In name others = refl
entered-none Out name others = refl

pub handed-none : (params : List Param) (vars : Variables) → handed params [] vars ≡ []
handed-none [] vars = refl
handed-none (p ∷ ps) vars = refl

pub ruleset opening = (entered-none, handed-none)

-- the names that are handed out, from a place on
pub outs-in : (ps : List Param) (i : ℕ) (p : Param) → i < length ps → p ≡ get_or ps i p → p.mode ≡ In
    → out_names (drop i ps) ≡ out_names (drop (i + 1) ps)
outs-in ps i p inside is m = ap out_names (drop_step ps i p inside is) ∙ by p m
  where
    by : (p : Param) → p.mode ≡ In → out_names (p ∷ drop (i + 1) ps) ≡ out_names (drop (i + 1) ps)
    by p m = simp m refl

pub outs-out : (ps : List Param) (i : ℕ) (p : Param) → i < length ps → p ≡ get_or ps i p → p.mode ≡ Out
    → out_names (drop i ps) ≡ p.name ∷ out_names (drop (i + 1) ps)
outs-out ps i p inside is m = ap out_names (drop_step ps i p inside is) ∙ by p m
  where
    by : (p : Param) → p.mode ≡ Out → out_names (p ∷ drop (i + 1) ps) ≡ p.name ∷ out_names (drop (i + 1) ps)
    by p m = simp m refl

pub ruleset counting = (outs-in, outs-out)
