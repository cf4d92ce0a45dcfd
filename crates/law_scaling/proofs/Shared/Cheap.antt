-- Where no body or thread is too dear, none is with less `work`; and a design is sound with other `work` exactly as far as it is cheap.
use Rattle.std.proofs.Common.{◌≡◌, ◌≤◌, ℕ, Bool, true, false, ◌&&◌, List, [], ◌∷◌, ◌++◌, map, flat_map, refl, ap, ◌∙◌, sym}
use Rattle.std.proofs.Common.{arith, None, append_assoc}
use Rattle.std.specs.Prelude.{find, nat_lt, nat_le}
use Rattle.std.specs.List.{AllZip, list_all}
use Rattle.std.proofs.lemmas.List.Folds.{list_all-append}
use Rattle.std.proofs.lemmas.Bool.{and_from, and_parts}
use Rattle.seq_tree.specs.Limits.{tick_limit}
use Rattle.seq_tree.specs.Names.{Name}
use Rattle.seq_tree.specs.Operations.{Operation}
use Rattle.ods_tree.specs.Flats.{Library, Guarded, Thread, Flat}
use Rattle.ods_tree.specs.Services.{flat_services}
use Rattle.ods_tree.specs.Sound.{entry_ops}
use Rattle.analysis.specs.Execution.{block_cost}
use Rattle.analysis.specs.Sound.{IsSound}
use Rattle.analysis.specs.Tables.{activation_cost}
use Rattle.law_scaling.specs.Working.{reworked_op, reworked_library, reworked_guarded, reworked_thread, reworked}
use Rattle.law_scaling.specs.Parts.{Part, body_part, thread_part, parts, first_dear, most_ticks}
use Rattle.law_scaling.proofs.Services.{body-more, activation-more}
use Rattle.law_scaling.proofs.Sections.{zip-append}

abbrev dear : Part → Bool
dear p = nat_lt most_ticks p.ticks

-- parts of one name, the first no dearer
abbrev IsNoDearer : Part → Part → Type 0
IsNoDearer p q = (p.object ≡ q.object) × (p.op ≡ q.op) × (p.ticks ≤ q.ticks)

none-less : (ps qs : List Part) → AllZip IsNoDearer ps qs → find dear qs ≡ None → find dear ps ≡ None
none-less [] qs h e = refl
none-less (p ∷ ps) [] h e = absurd h
none-less (p ∷ ps) (q ∷ qs) h e = by (dear q) refl e (none-less ps qs h.1)
  where
    by : (b : Bool) → dear q ≡ b → find dear (q ∷ qs) ≡ None → (find dear qs ≡ None → find dear ps ≡ None) → find dear (p ∷ ps) ≡ None
    by true d k rest = absurd (cc)
    by false d k rest =
        let less : p.ticks ≤ q.ticks = h.0.2 in
        let cheap : dear p ≡ false = grind (arith, less, d) in
        rw cheap (rest (rw d at k))

module _ (f : Flat) (v w : Name → ℕ → ℕ) (less : (object : Name) (n : ℕ) → v object n ≤ w object n) where
  ops-more : (name : Name) (os : List Operation) → AllZip IsNoDearer (map (body_part (reworked v f) name) (map (reworked_op (v name)) os))
      (map (body_part (reworked w f) name) (map (reworked_op (w name)) os))
  ops-more name [] = tt
  ops-more name (o ∷ os) = ((refl, refl, body-more f v w less name o.block), ops-more name os)

  libraries-more : (ls : List Library)
      → AllZip IsNoDearer (flat_map (λ l. map (body_part (reworked v f) l.name) l.ops) (map (reworked_library v) ls))
      (flat_map (λ l. map (body_part (reworked w f) l.name) l.ops) (map (reworked_library w) ls))
  libraries-more [] = tt
  libraries-more (l ∷ ls) = zip-append IsNoDearer _ _ _ _ (ops-more l.name l.ops) (libraries-more ls)

  guarded-more : (gs : List Guarded)
      → AllZip IsNoDearer (flat_map (λ g. map (body_part (reworked v f) g.name) g.ops) (map (reworked_guarded v) gs))
      (flat_map (λ g. map (body_part (reworked w f) g.name) g.ops) (map (reworked_guarded w) gs))
  guarded-more [] = tt
  guarded-more (g ∷ gs) = zip-append IsNoDearer _ _ _ _ (ops-more g.name g.ops) (guarded-more gs)

  threads-more : (ts : List Thread)
      → AllZip IsNoDearer (map (thread_part (reworked v f)) (map (reworked_thread v) ts)) (map (thread_part (reworked w f)) (map (reworked_thread w) ts))
  threads-more [] = tt
  threads-more (t ∷ ts) = ((refl, refl, activation-more f v w less t), threads-more ts)

  pub parts-more : AllZip IsNoDearer (parts (reworked v f)) (parts (reworked w f))
  parts-more =
      zip-append IsNoDearer _ _ _ _ (libraries-more f.passive) (zip-append IsNoDearer _ _ _ _ (guarded-more f.shared) (threads-more f.threads))

  -- less `work` is cheap where more is
  pub cheap-less : first_dear (reworked w f) ≡ None → first_dear (reworked v f) ≡ None
  cheap-less e = none-less (parts (reworked v f)) (parts (reworked w f)) parts-more e

both : {A : Type 0} (p : A → Bool) (xs ys : List A) → list_all p xs ≡ true → list_all p ys ≡ true → list_all p (xs ++ ys) ≡ true
both p xs ys h k = list_all-append p xs ys ∙ and_from (list_all p xs) (list_all p ys) h k

-- the tests of soundness on costs say that no part is dear
module _ (g : Flat) where
  abbrev op_cheap : Operation → Bool
  op_cheap o = nat_le (block_cost g.costs (flat_services g) o.block) tick_limit

  abbrev thread_cheap : Thread → Bool
  thread_cheap t = nat_le (activation_cost g t) tick_limit

  ops-cheap : (name : Name) (os : List Operation) (rest : List Part) → find dear (map (body_part g name) os ++ rest) ≡ None
      → (list_all op_cheap os ≡ true) × (find dear rest ≡ None)
  ops-cheap name [] rest e = (refl, e)
  ops-cheap name (o ∷ os) rest e = by (dear (body_part g name o)) refl (ops-cheap name os rest)
    where
      by : (b : Bool) → dear (body_part g name o) ≡ b
          → (find dear (map (body_part g name) os ++ rest) ≡ None → (list_all op_cheap os ≡ true) × (find dear rest ≡ None))
          → (list_all op_cheap (o ∷ os) ≡ true) × (find dear rest ≡ None)
      by true d more = absurd (let k = rw d at e in cc)
      by false d more =
          let cheap : op_cheap o ≡ true = grind (arith, d) in
          let k = more (rw d at e) in
          (and_from (op_cheap o) (list_all op_cheap os) cheap k.0, k.1)

  libraries-cheap : (ls : List Library) (rest : List Part) → find dear (flat_map (λ l. map (body_part g l.name) l.ops) ls ++ rest) ≡ None
      → (list_all (λ ops. list_all op_cheap ops) (map (λ l. l.ops) ls) ≡ true) × (find dear rest ≡ None)
  libraries-cheap [] rest e = (refl, e)
  libraries-cheap (l ∷ ls) rest e =
      let more = flat_map (λ l. map (body_part g l.name) l.ops) ls ++ rest in
      let first = ops-cheap l.name l.ops more (ap (find dear) (sym (append_assoc (map (body_part g l.name) l.ops)
      (flat_map (λ l. map (body_part g l.name) l.ops) ls) rest)) ∙ e) in
      let later = libraries-cheap ls rest first.1 in
      (and_from (list_all op_cheap l.ops) _ first.0 later.0, later.1)

  guarded-cheap : (gs : List Guarded) (rest : List Part) → find dear (flat_map (λ l. map (body_part g l.name) l.ops) gs ++ rest) ≡ None
      → (list_all (λ ops. list_all op_cheap ops) (map (λ l. l.ops) gs) ≡ true) × (find dear rest ≡ None)
  guarded-cheap [] rest e = (refl, e)
  guarded-cheap (l ∷ ls) rest e =
      let more = flat_map (λ l. map (body_part g l.name) l.ops) ls ++ rest in
      let first = ops-cheap l.name l.ops more (ap (find dear) (sym (append_assoc (map (body_part g l.name) l.ops)
      (flat_map (λ l. map (body_part g l.name) l.ops) ls) rest)) ∙ e) in
      let later = guarded-cheap ls rest first.1 in
      (and_from (list_all op_cheap l.ops) _ first.0 later.0, later.1)

  all-threads-cheap : (ts : List Thread) → find dear (map (thread_part g) ts) ≡ None → list_all thread_cheap ts ≡ true
  all-threads-cheap [] e = refl
  all-threads-cheap (t ∷ ts) e = by (dear (thread_part g t)) refl (all-threads-cheap ts)
    where
      by : (b : Bool) → dear (thread_part g t) ≡ b → (find dear (map (thread_part g) ts) ≡ None → list_all thread_cheap ts ≡ true)
          → list_all thread_cheap (t ∷ ts) ≡ true
      by true d more = absurd (let k = rw d at e in cc)
      by false d more =
          let cheap : thread_cheap t ≡ true = grind (arith, d) in
          and_from (thread_cheap t) (list_all thread_cheap ts) cheap (more (rw d at e))

  -- what soundness asks of costs
  pub costs-cheap : first_dear g ≡ None
      → (list_all (λ ops. list_all op_cheap ops) (entry_ops g) ≡ true) × (list_all thread_cheap g.threads ≡ true)
  costs-cheap e =
      let first = libraries-cheap g.passive _ e in
      let second = guarded-cheap g.shared _ first.1 in (
        both (λ ops. list_all op_cheap ops) (map (λ l. l.ops) g.passive) (map (λ l. l.ops) g.shared) first.0 second.0,
        all-threads-cheap g.threads second.1,
      )

  ops-none : (name : Name) (os : List Operation) (rest : List Part) → list_all op_cheap os ≡ true → find dear rest ≡ None
      → find dear (map (body_part g name) os ++ rest) ≡ None
  ops-none name [] rest h e = e
  ops-none name (o ∷ os) rest h e =
      let each = and_parts (op_cheap o) (list_all op_cheap os) h in
      let cheap : dear (body_part g name o) ≡ false = grind (arith, each.0) in
      rw cheap (ops-none name os rest each.1 e)

  libraries-none : (ls : List Library) (rest : List Part) → list_all (λ ops. list_all op_cheap ops) (map (λ l. l.ops) ls) ≡ true
      → find dear rest ≡ None
      → find dear (flat_map (λ l. map (body_part g l.name) l.ops) ls ++ rest) ≡ None
  libraries-none [] rest h e = e
  libraries-none (l ∷ ls) rest h e =
      let each = and_parts (list_all op_cheap l.ops) _ h in
      let more = flat_map (λ l. map (body_part g l.name) l.ops) ls ++ rest in
      ap (find dear) (append_assoc (map (body_part g l.name) l.ops) (flat_map (λ l. map (body_part g l.name) l.ops) ls) rest)
      ∙ ops-none l.name l.ops more each.0 (libraries-none ls rest each.1 e)

  guarded-none : (gs : List Guarded) (rest : List Part) → list_all (λ ops. list_all op_cheap ops) (map (λ l. l.ops) gs) ≡ true
      → find dear rest ≡ None
      → find dear (flat_map (λ l. map (body_part g l.name) l.ops) gs ++ rest) ≡ None
  guarded-none [] rest h e = e
  guarded-none (l ∷ ls) rest h e =
      let each = and_parts (list_all op_cheap l.ops) _ h in
      let more = flat_map (λ l. map (body_part g l.name) l.ops) ls ++ rest in
      ap (find dear) (append_assoc (map (body_part g l.name) l.ops) (flat_map (λ l. map (body_part g l.name) l.ops) ls) rest)
      ∙ ops-none l.name l.ops more each.0 (guarded-none ls rest each.1 e)

  threads-none : (ts : List Thread) → list_all thread_cheap ts ≡ true → find dear (map (thread_part g) ts) ≡ None
  threads-none [] h = refl
  threads-none (t ∷ ts) h =
      let each = and_parts (thread_cheap t) (list_all thread_cheap ts) h in
      let cheap : dear (thread_part g t) ≡ false = grind (arith, each.0) in
      rw cheap (threads-none ts each.1)

  -- a sound design has no part that is dear
  pub sound-cheap : IsSound g → first_dear g ≡ None
  sound-cheap h =
      let split = and_parts _ _ (sym (list_all-append (λ ops. list_all op_cheap ops) (map (λ l. l.ops) g.passive) (map (λ l. l.ops) g.shared)) ∙ h.op_costs) in
      libraries-none g.passive _ split.0 (guarded-none g.shared _ split.1 (threads-none g.threads h.thread_costs))
