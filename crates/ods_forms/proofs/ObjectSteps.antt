-- The active objects without children, in other words.
use Rattle.std.proofs.Common.{◌≡◌, Bool, true, false, ◌&&◌, cond, List, [], ◌∷◌, filter, filter_map, refl, ap}
use Rattle.std.specs.List.{cons_option}
use Rattle.ods_tree.specs.Walk.{Standing, is_terminal, only_if}
use Rattle.design_rules.specs.Bodies.{is_active}
use Rattle.design_rules.specs.Broken.{V12}

-- the active ones among those without children
pub idle_ones : (ss : List Standing) → filter_map (λ s. only_if (is_active s.own.kind) (V12 s.own.name)) (filter is_terminal ss)
    ≡ filter_map (λ s. only_if (is_terminal s && is_active s.own.kind) (V12 s.own.name)) ss
idle_ones [] = refl
idle_ones (s ∷ ss) = idle_step (is_terminal s) s (filter is_terminal ss) ss (idle_ones ss) where
  idle_step : (terminal : Bool) (s : Standing) (few all : List Standing) →
      filter_map (λ s. only_if (is_active s.own.kind) (V12 s.own.name)) few
      ≡ filter_map (λ s. only_if (is_terminal s && is_active s.own.kind) (V12 s.own.name)) all →
      filter_map (λ s. only_if (is_active s.own.kind) (V12 s.own.name)) (cond terminal (s ∷ few) few)
      ≡ cons_option (only_if (terminal && is_active s.own.kind) (V12 s.own.name))
      (filter_map (λ s. only_if (is_terminal s && is_active s.own.kind) (V12 s.own.name)) all)
  idle_step true s few all e = ap (cons_option (only_if (is_active s.own.kind) (V12 s.own.name))) e
  idle_step false s few all e = e

pub ruleset object_steps = (idle_ones)
