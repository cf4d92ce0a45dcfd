-- What computing shows of each sample: its text is short and can be read, nothing is told of it, its bounds are those stated, its sporadic
-- threads stand in its program, and its Ada text is short.
use Rattle.std.proofs.Common.{◌≡◌, true, length, refl}
use Rattle.std.specs.Prelude.{nat_le}
use Rattle.std.specs.Fmt.{digits}
use Rattle.std.specs.List.{list_all}
use Rattle.seq_tree.specs.Limits.{text_limit, ada_limit}
use Rattle.seq_tree.specs.Lexis.{longest}
use Rattle.ods_tree.specs.Flattening.{flat}
use Rattle.ods_tree.specs.Layout.{design_text}
use Rattle.ods_tree.specs.Walk.{is_empty}
use Rattle.ods_print.specs.Writable.{is_writable}
use Rattle.ada_tree.specs.Words.{is_ada_name}
use Rattle.analysis.specs.Tables.{table}
use Rattle.design_rules.specs.Bodies.{idle_actives, bad_bodies}
use Rattle.design_rules.specs.Budgets.{bad_budgets, bad_sizes}
use Rattle.design_rules.specs.Numbers.{bad_numbers}
use Rattle.design_rules.specs.Rings.{calls_object, protected_objects, terminal_ops}
use Rattle.design_rules.proofs.Shared.Rows.{before_rings}
use Rattle.design_rules.proofs.Shared.WorkedRules.{calls_end, objects_end}
use Rattle.guarantee.specs.Programs.{program, text}
use Rattle.sample_design.specs.Samples.{from_on, from_to, sample_design}
use Rattle.law_samples.specs.Laws.{sample_bounds}
use Rattle.law_samples.proofs.Tests.{is_bounded, has_threads}

pub all_short : list_all (λ n. nat_le (length (design_text (sample_design n))) text_limit) (from_on 1 30) ≡ true
unfolding from_to digits
all_short = refl

pub all_writable : list_all (λ n. is_writable (sample_design n)) (from_on 1 30) ≡ true
unfolding from_to longest
all_writable = refl

pub all_before : list_all (λ n. is_empty (before_rings (sample_design n))) (from_on 1 30) ≡ true
unfolding from_to is_ada_name
all_before = refl

pub all_calls : list_all (λ n. list_all (calls_end (sample_design n) 1) (terminal_ops (sample_design n))) (from_on 1 30) ≡ true
unfolding from_to
all_calls = refl

pub all_objects : list_all (λ n. list_all (λ o. objects_end (calls_object (sample_design n)) (protected_objects (sample_design n)) 1 o.name)
    (protected_objects (sample_design n))) (from_on 1 30) ≡ true
unfolding from_to
all_objects = refl

pub all_numbers : list_all (λ n. is_empty (bad_numbers (sample_design n))) (from_on 1 30) ≡ true
unfolding from_to
all_numbers = refl

pub all_actives : list_all (λ n. is_empty (idle_actives (sample_design n))) (from_on 1 30) ≡ true
unfolding from_to
all_actives = refl

pub all_bodies : list_all (λ n. is_empty (bad_bodies (sample_design n))) (from_on 1 30) ≡ true
unfolding from_to
all_bodies = refl

pub all_budgets : list_all (λ n. is_empty (bad_budgets (sample_design n))) (from_on 1 30) ≡ true
unfolding from_to
all_budgets = refl

pub all_sizes : list_all (λ n. is_empty (bad_sizes (sample_design n))) (from_on 1 30) ≡ true
unfolding from_to
all_sizes = refl

pub all_bounded : list_all (λ n. is_bounded (table (flat (sample_design n))).rows (sample_bounds n)) (from_on 1 30) ≡ true
unfolding from_to
all_bounded = refl

pub all_threads_there : list_all (λ n. has_threads (program (sample_design n)) n) (from_on 1 30) ≡ true
unfolding from_to
all_threads_there = refl

pub all_texts_short : list_all (λ n. nat_le (length (text (sample_design n) (sample_bounds n))) ada_limit) (from_on 1 30) ≡ true
unfolding from_to digits
all_texts_short = refl
