-- Steps and their depths: steps that stay within an operation, seen from inside and from outside of it.
use Rattle.std.specs.Prelude.{◌≡◌, ℕ, zero, suc, ◌+◌, Bool, true, false, cond, List, [], ◌∷◌, ◌++◌, map, filter, ◌==◌, if◌then◌else◌, refl}
use Rattle.std.proofs.Common.{sym, ◌∙◌, ap, subst, arith, zero-add}
use Rattle.std.proofs.lemmas.List.Sums.{sum_by-cons}
use Rattle.guarantee.specs.Events.{Deed, Leave}
use Rattle.guarantee.specs.Steps.{Step, Placed, closes, depth_after, depth_of, placed, before_leave, outermost}
use Rattle.guarantee.specs.Scripts.{least_by, most_by, least_inside, most_inside}
use Rattle.law_tasks.proofs.Shared.Ways.{Within, outer, least, most}
use Rattle.std.proofs.lemmas.List.{map-append}
use Rattle.std.proofs.lemmas.List.Elements.{filter-append}
use Rattle.std.proofs.lemmas.Bool.{true≢false}

-- one after another
pub within-append : (from middle to : ℕ) (ss others : List Step) → Within from middle ss → Within middle to others → Within from to (ss ++ others)
within-append from middle to [] others e more = subst (λ n. Within n to others) (sym e) more
within-append from middle to (s ∷ ss) others e more = (e.0, within-append (depth_after from s.deed) middle to ss others e.1 more)

-- a deed among others, where it stands outside all operations
abbrev pub told_at : Bool → Deed → List Deed → List Deed
told_at true d ds = d ∷ ds
told_at false d ds = ds

pub outer-cons : (depth : ℕ) (s : Step) (ss : List Step)
    → outer depth (s ∷ ss) ≡ told_at (depth_of depth s.deed == 0) s.deed (outer (depth_after depth s.deed) ss)
outer-cons depth s ss = by (depth_of depth s.deed == 0)
  where
    here : Placed
    here = record { depth = depth_of depth s.deed; step = s }

    by : (b : Bool) → map (λ x. x.deed)
        (map (λ p. p.step) (cond b (here ∷ filter (λ p. p.depth == 0) (placed (depth_after depth s.deed) ss))
        (filter (λ p. p.depth == 0) (placed (depth_after depth s.deed) ss))))
        ≡ told_at b s.deed (outer (depth_after depth s.deed) ss)
    by true = refl
    by false = refl

-- depths, and the steps outside all operations, in two parts
pub placed-append : (from middle : ℕ) (ss others : List Step) → Within from middle ss
    → placed from (ss ++ others) ≡ placed from ss ++ placed middle others
placed-append from middle [] others e = ap (λ n. placed n others) e
placed-append from middle (s ∷ ss) others e =
    ap (λ ps. record { depth = depth_of from s.deed; step = s } ∷ ps) (placed-append (depth_after from s.deed) middle ss others e.1)

pub outermost-append : (ps qs : List Placed) → outermost (ps ++ qs) ≡ outermost ps ++ outermost qs
outermost-append ps qs = ap (map (λ p. p.step)) (filter-append (λ p. p.depth == 0) ps qs) ∙ map-append (λ p. p.step) (filter (λ p. p.depth == 0) ps)
    (filter (λ p. p.depth == 0) qs)

pub outer-append : (from middle : ℕ) (ss others : List Step) → Within from middle ss
    → outer from (ss ++ others) ≡ outer from ss ++ outer middle others
outer-append from middle ss others e =
    ap (λ ps. map (λ s. s.deed) (outermost ps)) (placed-append from middle ss others e) ∙ ap (map (λ s. s.deed))
    (outermost-append (placed from ss) (placed middle others))
    ∙ map-append (λ s. s.deed) (outermost (placed from ss)) (outermost (placed middle others))

-- one operation further inside
raise_closes : (depth : ℕ) (d : Deed) → closes (suc depth) d ≡ false
raise_closes depth d = refl

raise_after : (depth : ℕ) (d : Deed) → closes depth d ≡ false → depth_after (suc depth) d ≡ suc (depth_after depth d)
raise_after zero (Leave name values) e = absurd (grind (arith, e))
raise_after (suc depth) (Leave name values) e = omega arith
raise_after depth _ e = refl

raise_of : (depth : ℕ) (d : Deed) → closes depth d ≡ false → (depth_of (suc depth) d == 0) ≡ false
raise_of zero (Leave name values) e = absurd (grind (arith, e))
raise_of (suc depth) (Leave name values) e = grind arith
raise_of depth _ e = grind arith

pub within-raise : (from to : ℕ) (ss : List Step) → Within from to ss → Within (suc from) (suc to) ss
within-raise from to [] e = ap suc e
within-raise from to (s ∷ ss) e = (
  raise_closes from s.deed,
  subst (λ n. Within n (suc to) ss) (sym (raise_after from s.deed e.0)) (within-raise
      (depth_after from s.deed) to ss e.1),
)

pub outer-raise : (from to : ℕ) (ss : List Step) → Within from to ss → outer (suc from) ss ≡ []
outer-raise from to [] e = refl
outer-raise from to (s ∷ ss) e =
    outer-cons (suc from) s ss ∙ ap (λ b. told_at b s.deed (outer (depth_after (suc from) s.deed) ss)) (raise_of from s.deed e.0)
    ∙ ap (λ n. outer n ss) (raise_after from s.deed e.0) ∙ outer-raise (depth_after from s.deed) to ss e.1

-- what belongs to an operation
pub before-open : (from to : ℕ) (ss : List Step) → Within from to ss → before_leave from ss ≡ ss
before-open from to [] e = refl
before-open from to (s ∷ ss) e =
    ap (λ b. if b then [] else s ∷ before_leave (depth_after from s.deed) ss) e.0 ∙ ap (λ xs. s ∷ xs)
    (before-open (depth_after from s.deed) to ss e.1)

pub before-closed : (from : ℕ) (ss : List Step) (s : Step) (others : List Step) → Within from 0 ss → closes 0 s.deed ≡ true
    → before_leave from (ss ++ s ∷ others) ≡ ss
before-closed from [] s others e leaves =
    ap (λ n. before_leave n (s ∷ others)) e ∙ ap (λ b. if b then [] else s ∷ before_leave (depth_after 0 s.deed) others) leaves
before-closed from (t ∷ ss) s others e leaves =
    ap (λ b. if b then [] else t ∷ before_leave (depth_after from t.deed) (ss ++ s ∷ others)) e.0
    ∙ ap (λ xs. t ∷ xs) (before-closed (depth_after from t.deed) ss s others e.1 leaves)

-- what leaves an operation is not within it
pub open-leave : (from to : ℕ) (ss others : List Step) (s : Step) → Within from 0 ss → closes 0 s.deed ≡ true → Within from to (ss ++ s ∷ others) → ⊥
open-leave from to [] others s e leaves h = true≢false (sym (ap (λ n. closes n s.deed) e ∙ leaves) ∙ h.0)
open-leave from to (t ∷ ss) others s e leaves h = open-leave (depth_after from t.deed) to ss others s e.1 leaves h.1

-- ticks of the operations that are entered
pub least-append : (ss others : List Step) → least (ss ++ others) ≡ least ss + least others
least-append [] others = sym (zero-add (least others))
least-append (s ∷ ss) others = let e : least (ss ++ others) ≡ least ss + least others = least-append ss others in omega (arith, e)

pub most-append : (ss others : List Step) → most (ss ++ others) ≡ most ss + most others
most-append [] others = sym (zero-add (most others))
most-append (s ∷ ss) others = let e : most (ss ++ others) ≡ most ss + most others = most-append ss others in omega (arith, e)

pub least-placed : (depth : ℕ) (ss : List Step) → least_inside (placed depth ss) ≡ least ss
least-placed depth [] = refl
least-placed depth (s ∷ ss) =
    sum_by-cons (λ p. least_by p.step.deed p.step.body) (record { depth = depth_of depth s.deed; step = s }) (placed (depth_after depth s.deed) ss)
    ∙ ap (λ n. least_by s.deed s.body + n) (least-placed (depth_after depth s.deed) ss)

pub most-placed : (depth : ℕ) (ss : List Step) → most_inside (placed depth ss) ≡ most ss
most-placed depth [] = refl
most-placed depth (s ∷ ss) =
    sum_by-cons (λ p. most_by p.step.deed p.step.body) (record { depth = depth_of depth s.deed; step = s }) (placed (depth_after depth s.deed) ss)
    ∙ ap (λ n. most_by s.deed s.body + n) (most-placed (depth_after depth s.deed) ss)
