-- Runs that follow each other, one after another.
use Rattle.std.specs.Prelude.{◌≡◌, ℕ, ◌+◌, ◌≤◌, List, [], ◌∷◌, ◌++◌, length, refl}
use Rattle.std.proofs.Common.{sym, ◌∙◌, subst, arith}
use Rattle.trace_tree.specs.declared.event.Event.{Event}
use Rattle.machine.specs.Systems.{System}
use Rattle.machine.specs.Meanings.{Running, Rest}
use Rattle.ceil_runtime.specs.Processing.{Follows}
use Rattle.ceil_runtime.specs.Reaching.{IsReached}
use Rattle.ceil_runtime.specs.Snapshots.{Snapshot}
use Rattle.ceil_runtime.specs.Stepping.{Nothing, One, Steps, Told, Two, told_of}

pub follows-none : (r : Running) → Follows r [] r
follows-none r = record { system = refl; tells = λ rest h. h; reaches = λ h. h }

-- after steps that told nothing
pub follows-then : (r r' r'' : Running) (told : List Event) → Follows r [] r' → Follows r' told r'' → Follows r told r''
follows-then r r' r'' told a b = record {
  system = b.system ∙ a.system;
  tells = λ rest h. a.tells (told ++ rest) (subst (λ (y : System). Rest y r'.state (told ++ rest)) a.system
      (b.tells rest (subst (λ (y : System). Rest y r''.state rest) (sym a.system) h)));
  reaches = λ h. subst (λ (y : System). IsReached y r''.state) a.system (b.reaches (subst (λ (y : System). IsReached y r'.state) (sym a.system)
      (a.reaches h)));
}

no_event : (e : Event) (es : List Event) → [] ≡ e ∷ es → ⊥
no_event e es h = cc

-- a step that told no event told nothing
pub told-nothing : (t : Told) (s s' : Snapshot) → [] ≡ told_of t → Steps s t s' → Steps s Nothing s'
told-nothing Nothing s s' is step = step
told-nothing (One e) s s' is step = absurd (no_event e [] is)
told-nothing (Two e f) s s' is step = absurd (no_event e (f ∷ []) is)

-- so many events are none
pub no-events : (es : List Event) → length es ≡ 0 → es ≡ []
no-events [] none = refl
no-events (e ∷ es) none = cc

-- what is left falls with steps that told nothing
pub same-left : (n : ℕ) → n ≤ n
same-left n = omega arith

pub less-left : (a b c : ℕ) → a + 0 ≤ b → b ≤ c → a ≤ c
less-left a b c h k = omega arith
