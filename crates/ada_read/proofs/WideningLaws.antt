-- A reader of programs with a reader of blocks that has wider limits has wider limits itself.
use Rattle.std.proofs.Common.{ℕ, List, [], ◌∷◌, codes}
use Rattle.grammar.specs.Reading.{Widens}
use Rattle.grammar.proofs.Shared.Widening.{widens-token, widens-pure, widens-then, widens-choose, widens-many, widens-each}
use Rattle.seq_tree.specs.Names.{Name}
use Rattle.seq_tree.specs.Operations.{Signature}
use Rattle.seq_tree.specs.declared.tree.Datum.{Datum}
use Rattle.seq_tree.specs.declared.tree.Mode.TheVariants.{In}
use Rattle.seq_tree.specs.declared.tree.Param.{Param}
use Rattle.seq_tree.specs.declared.token.Token.TheVariants.{Word, Sign}
use Rattle.seq_tree.specs.declared.token.Mark.TheVariants.{LeftParen, Semicolon, Colon}
use Rattle.ada_tree.specs.Programs.{Passive, Shared, Cyclic, Sporadic}
use Rattle.ada_tree.specs.Spelling.{head_tokens, kept_token, request_token}
use Rattle.ada_tree.specs.Words.{is_ada_name}
use Rattle.token_read.specs.Readers.{sees_name, name_at, next_is}
use Rattle.seq_read.specs.Statements.{BlockReader}
use Rattle.seq_read.specs.Parts.{end_tokens, sees_by, named_at, mode_named, param_at, more_param_at, params_from_at}
use Rattle.seq_read.proofs.Shared.TokenWidening.{widens-fixed, widens-phrase, widens-number}
use Rattle.seq_read.proofs.Shared.DatumLaws.{widens-data}
use Rattle.ada_read.specs.declared.fixed_text.FixedText.{FixedText}
use Rattle.ada_read.specs.declared.fixed_text.FixedText.TheVariants as fixed
use Rattle.ada_read.specs.declared.fixed_text.CostName.{CostName}
use Rattle.ada_read.specs.declared.fixed_text.CostName.TheVariants as cost
use Rattle.ada_read.specs.FixedTexts.{fixed_tokens, cost_name}
use Rattle.ada_read.specs.Heads.{Head, PassiveHead, SharedHead, CyclicHead, SporadicHead, head_name}
use Rattle.ada_read.specs.Readers.{text_at, cost_at, costs_at, listed_at, unlisted_at, params_at, declaration_at, declarations_at, renaming_at}
use Rattle.ada_read.specs.Readers.{renamings_at, request_renaming_at, request_param_at, request_at, truth_named, cyclic_head_at, passive_head_at}
use Rattle.ada_read.specs.Readers.{shared_head_at, constants_at, sporadic_head_at, object_head_at, inner_at, head_at, heads_at, operation_at}
use Rattle.ada_read.specs.Readers.{operations_at, cyclic_at, passive_at, shared_at, keeping_at, waiting_at, serving_at, form_at, body_head_at}
use Rattle.ada_read.specs.Readers.{body_at, bodies_at, services_at, units_at, main_at, program_at}

module _ (n : ℕ) where
  -- TOKENS
  widens-text : (text : FixedText) → Widens n (text_at text) (text_at text)
  widens-text text = widens-phrase (fixed_tokens text)

  widens-name : Widens n (name_at is_ada_name) (name_at is_ada_name)
  unfolding name_at
  widens-name = widens-token n (sees_name is_ada_name)

  widens-mode : Widens n (named_at mode_named) (named_at mode_named)
  unfolding named_at
  widens-mode = widens-token n (sees_by mode_named)

  -- WHAT HAS NO LIMITS
  widens-cost : (c : CostName) → Widens n (cost_at c) (cost_at c)
  unfolding cost_at
  widens-cost c =
      widens-then (widens-fixed (Word (cost_name c))) (λ _. widens-then (widens-text fixed.Constant) (λ _. widens-then widens-number (λ k.
      widens-then (widens-fixed (Sign Semicolon)) (λ _. widens-pure n k))))

  widens-costs : Widens n costs_at costs_at
  unfolding costs_at
  widens-costs =
      widens-then (widens-cost cost.Assign) (λ assign. widens-then (widens-cost cost.Test) (λ test. widens-then (widens-cost cost.Turn) (λ turn.
      widens-then (widens-cost cost.Call) (λ call. widens-then (widens-cost cost.Null) (λ nothing. widens-then (widens-cost cost.Put) (λ put.
      widens-then (widens-cost cost.Finish) (λ finish.
      widens-pure n (record { assign = assign; test = test; turn = turn; call = call; nothing = nothing; put = put; finish = finish }))))))))

  widens-param : Widens n (param_at is_ada_name) (param_at is_ada_name)
  unfolding param_at
  widens-param =
      widens-then widens-name (λ name. widens-then (widens-fixed (Sign Colon))
      (λ _. widens-then widens-mode (λ mode. widens-then (widens-fixed (Word (codes "word"))) (λ _.
      widens-pure n (record { name = name; mode = mode })))))

  widens-more_param : Widens n (more_param_at is_ada_name) (more_param_at is_ada_name)
  unfolding more_param_at
  widens-more_param = widens-then (widens-fixed (Sign Semicolon)) (λ _. widens-param)

  widens-params_from : (p : Param) → Widens n (params_from_at is_ada_name p) (params_from_at is_ada_name p)
  unfolding params_from_at
  widens-params_from p = widens-then (widens-many (next_is (Sign Semicolon)) widens-more_param) (λ ps. widens-pure n (p ∷ ps))

  widens-listed : Widens n listed_at listed_at
  unfolding listed_at
  widens-listed =
      widens-then (widens-fixed (Sign LeftParen))
      (λ _. widens-then widens-param (λ p. widens-then (widens-params_from p) (λ ps. widens-then (widens-text fixed.Close) (λ _. widens-pure n ps))))

  widens-unlisted : Widens n unlisted_at unlisted_at
  unfolding unlisted_at
  widens-unlisted = widens-then (widens-fixed (Sign Semicolon)) (λ _. widens-pure n [])

  widens-params : Widens n params_at params_at
  unfolding params_at
  widens-params = widens-choose (next_is (Sign LeftParen)) widens-listed widens-unlisted

  widens-declaration : Widens n declaration_at declaration_at
  unfolding declaration_at
  widens-declaration =
      widens-then (widens-fixed (Word (codes "procedure")))
      (λ _. widens-then widens-name (λ name. widens-then widens-params (λ params. widens-pure n (record { name = name; params = params }))))

  widens-declarations : Widens n declarations_at declarations_at
  unfolding declarations_at
  widens-declarations = widens-many (next_is (Word (codes "procedure"))) widens-declaration

  widens-cyclic_head : (name : Name) → Widens n (cyclic_head_at name) (cyclic_head_at name)
  unfolding cyclic_head_at
  widens-cyclic_head name =
      widens-then (widens-text fixed.TaskHead)
      (λ _. widens-then widens-number (λ priority. widens-then (widens-text fixed.TaskEnd) (λ _. widens-then (widens-phrase (end_tokens name)) (λ _.
      widens-pure n (CyclicHead name priority)))))

  widens-passive_head : (name : Name) → Widens n (passive_head_at name) (passive_head_at name)
  unfolding passive_head_at
  widens-passive_head name = widens-then widens-declarations (λ sigs. widens-then (widens-phrase (end_tokens name))
      (λ _. widens-pure n (PassiveHead name sigs)))

  widens-renaming : (sig : Signature) → Widens n (renaming_at sig) (renaming_at sig)
  unfolding renaming_at
  widens-renaming sig = widens-then (widens-phrase (head_tokens sig))
      (λ _. widens-then (widens-text fixed.Renames) (λ _. widens-phrase (Word sig.name ∷ Sign Semicolon ∷ [])))

  widens-renamings : (sigs : List Signature) → Widens n (renamings_at sigs) (renamings_at sigs)
  widens-renamings [] = widens-pure n tt
  widens-renamings (sig ∷ sigs) = widens-then (widens-renaming sig) (λ _. widens-renamings sigs)

  widens-request_renaming : (sig : Signature) → Widens n (request_renaming_at sig) (request_renaming_at sig)
  unfolding request_renaming_at
  widens-request_renaming sig = widens-then (widens-phrase (head_tokens sig))
      (λ _. widens-then (widens-text fixed.RequestRenames) (λ _. widens-phrase (Word sig.name ∷ Sign Semicolon ∷ [])))

  widens-request_param : Widens n request_param_at request_param_at
  unfolding request_param_at
  widens-request_param =
      widens-then (widens-fixed (Sign LeftParen))
      (λ _. widens-then widens-name (λ name. widens-then (widens-text fixed.RequestParam)
      (λ _. widens-pure n (record { name = name; mode = In } ∷ []))))

  widens-request : Widens n request_at request_at
  unfolding request_at
  widens-request =
      widens-then (widens-fixed (Word (codes "procedure")))
      (λ _. widens-then widens-name (λ name. widens-then (widens-choose (next_is (Sign LeftParen)) widens-request_param widens-unlisted) (λ params.
      widens-pure n (record { name = name; params = params }))))

  widens-shared_head : (name : Name) → Widens n (shared_head_at name) (shared_head_at name)
  unfolding shared_head_at
  widens-shared_head name =
      widens-then (widens-text fixed.ObjectHead)
      (λ _. widens-then widens-number (λ ceiling. widens-then (widens-text fixed.Close) (λ _. widens-then widens-declarations (λ sigs.
      widens-then (widens-fixed (Word (codes "private")))
      (λ _. widens-then (widens-data is_ada_name) (λ vars. widens-then (widens-text fixed.ObjectEnd) (λ _. widens-then (widens-renamings sigs) (λ _.
      widens-then (widens-phrase (end_tokens name)) (λ _. widens-pure n (SharedHead name ceiling sigs vars))))))))))

  widens-truth : Widens n (named_at truth_named) (named_at truth_named)
  unfolding named_at
  widens-truth = widens-token n (sees_by truth_named)

  widens-constants : (name : Name) (ceiling : ℕ) (op : Signature) → Widens n (constants_at name ceiling op) (constants_at name ceiling op)
  unfolding constants_at
  widens-constants name ceiling op =
      widens-then (widens-text fixed.TaskHead)
      (λ _. widens-then widens-number (λ priority. widens-then (widens-text fixed.Separation) (λ _. widens-then widens-number (λ separation.
      widens-then (widens-text fixed.Jitter)
      (λ _. widens-then widens-number (λ jitter. widens-then (widens-text fixed.External) (λ _. widens-then widens-truth (λ external.
      widens-then (widens-fixed (Sign Semicolon)) (λ _. widens-then (widens-phrase (end_tokens name))
      (λ _. widens-pure n (SporadicHead name priority ceiling op separation jitter external)))))))))))

  widens-sporadic_head : (name : Name) → Widens n (sporadic_head_at name) (sporadic_head_at name)
  unfolding sporadic_head_at
  widens-sporadic_head name =
      widens-then (widens-text fixed.RequestHead)
      (λ _. widens-then widens-number (λ ceiling. widens-then (widens-text fixed.Close) (λ _. widens-then widens-request (λ op.
      widens-then (widens-text fixed.Entry) (λ _. widens-then (widens-request_renaming op) (λ _. widens-constants name ceiling op))))))

  widens-object_head : (name : Name) → Widens n (object_head_at name) (object_head_at name)
  unfolding object_head_at
  widens-object_head name =
      widens-then (widens-fixed (Word (codes "protected"))) (λ _. widens-choose (next_is (Word (codes "hrt_object"))) (widens-shared_head name)
      (widens-sporadic_head name))

  widens-inner : (name : Name) → Widens n (inner_at name) (inner_at name)
  unfolding inner_at
  widens-inner name =
      widens-choose (next_is (Word (codes "task"))) (widens-cyclic_head name)
      (widens-choose (next_is (Word (codes "protected"))) (widens-object_head name) (widens-passive_head name))

  widens-head : Widens n head_at head_at
  unfolding head_at
  widens-head =
      widens-then (widens-fixed (Word (codes "package")))
      (λ _. widens-then widens-name (λ name. widens-then (widens-fixed (Word (codes "is"))) (λ _. widens-inner name)))

  widens-heads : Widens n heads_at heads_at
  unfolding heads_at
  widens-heads = widens-many (next_is (Word (codes "package"))) widens-head

  widens-keeping : (op : Signature) → Widens n (keeping_at op) (keeping_at op)
  unfolding keeping_at
  widens-keeping op =
      widens-then (widens-text fixed.RequestBody) (λ _. widens-then (widens-phrase (head_tokens op)) (λ _. widens-then (widens-text fixed.Keep) (λ _.
      widens-then (widens-phrase (kept_token op.params ∷ [])) (λ _. widens-then (widens-text fixed.Opened)
      (λ _. widens-then (widens-fixed (Word op.name)) (λ _. widens-text fixed.Wait))))))

  widens-waiting : (ps : List Param) → Widens n (waiting_at ps) (waiting_at ps)
  unfolding waiting_at
  widens-waiting ps =
      widens-then (widens-fixed (request_token ps)) (λ _. widens-then (widens-text fixed.Waiting)
      (λ _. widens-then (widens-fixed (request_token ps)) (λ _. widens-text fixed.Close)))

  widens-body_head : (name : Name) → Widens n (body_head_at name) (body_head_at name)
  unfolding body_head_at
  widens-body_head name = widens-then (widens-text fixed.PackageBody)
      (λ _. widens-then (widens-fixed (Word name)) (λ _. widens-fixed (Word (codes "is"))))

  widens-services : Widens n services_at services_at
  unfolding services_at
  widens-services = widens-then (widens-text fixed.Opening)
      (λ _. widens-then widens-costs (λ costs. widens-then (widens-text fixed.Services) (λ _. widens-pure n costs)))

  widens-main : (name : Name) → Widens n (main_at name) (main_at name)
  unfolding main_at
  widens-main name = widens-then (widens-fixed (Word (codes "with"))) (λ _. widens-then (widens-fixed (Word name)) (λ _. widens-text fixed.Main))

  -- WHAT HAS THE LIMITS OF BLOCKS
  module _ (block wider : BlockReader) (widens : Widens n block wider) where
    widens-operation : (sig : Signature) → Widens n (operation_at block sig) (operation_at wider sig)
    unfolding operation_at
    widens-operation sig =
        widens-then (widens-phrase (head_tokens sig)) (λ _. widens-then (widens-fixed (Word (codes "is")))
        (λ _. widens-then (widens-data is_ada_name) (λ locals. widens-then (widens-fixed (Word (codes "begin"))) (λ _.
        widens-then widens (λ b. widens-then (widens-phrase (end_tokens sig.name))
        (λ _. widens-pure n (record { sig = sig; locals = locals; block = b })))))))

    widens-cyclic : (priority : ℕ) → Widens n (cyclic_at block priority) (cyclic_at wider priority)
    unfolding cyclic_at
    widens-cyclic priority =
        widens-then (widens-data is_ada_name) (λ vars. widens-then (widens-text fixed.TaskBody)
        (λ _. widens-then widens-number (λ offset. widens-then (widens-text fixed.Delay) (λ _.
        widens-then widens-number (λ period. widens-then (widens-text fixed.Close)
        (λ _. widens-then widens (λ b. widens-then (widens-text fixed.TaskLoop) (λ _.
        widens-pure n (Cyclic priority offset period vars b)))))))))

    widens-operations : (sigs : List Signature) → Widens n (operations_at block sigs) (operations_at wider sigs)
    unfolding operations_at
    widens-operations sigs = widens-each widens-operation sigs

    widens-passive : (sigs : List Signature) → Widens n (passive_at block sigs) (passive_at wider sigs)
    unfolding passive_at
    widens-passive sigs = widens-then (widens-operations sigs) (λ ops. widens-pure n (Passive ops))

    widens-shared : (ceiling : ℕ) (sigs : List Signature) (vars : List Datum)
        → Widens n (shared_at block ceiling sigs vars) (shared_at wider ceiling sigs vars)
    unfolding shared_at
    widens-shared ceiling sigs vars =
        widens-then (widens-text fixed.ObjectBody) (λ _. widens-then (widens-operations sigs)
        (λ ops. widens-then (widens-text fixed.ObjectEnd) (λ _. widens-pure n (Shared ceiling vars ops))))

    widens-serving : (op : Signature) → Widens n (serving_at block op) (serving_at wider op)
    unfolding serving_at
    widens-serving op =
        widens-then (widens-keeping op) (λ _. widens-then (widens-waiting op.params)
        (λ _. widens-then widens (λ b. widens-then (widens-text fixed.TaskLoop) (λ _. widens-pure n b))))

    widens-form : (h : Head) → Widens n (form_at block h) (form_at wider h)
    unfolding form_at
    widens-form (PassiveHead name sigs) = widens-passive sigs
    widens-form (SharedHead name ceiling sigs vars) = widens-shared ceiling sigs vars
    widens-form (CyclicHead name priority) = widens-cyclic priority
    widens-form (SporadicHead name priority ceiling op separation jitter external) =
        widens-then (widens-data is_ada_name) (λ vars. widens-then (widens-serving op)
        (λ b. widens-pure n (Sporadic priority ceiling op separation jitter external vars b)))

    widens-body : (h : Head) → Widens n (body_at block h) (body_at wider h)
    unfolding body_at
    widens-body h =
        widens-then (widens-body_head (head_name h))
        (λ _. widens-then (widens-form h) (λ form. widens-then (widens-phrase (end_tokens (head_name h))) (λ _.
        widens-pure n (record { name = head_name h; form = form }))))

    widens-bodies : (hs : List Head) → Widens n (bodies_at block hs) (bodies_at wider hs)
    unfolding bodies_at
    widens-bodies hs = widens-each widens-body hs

    widens-units : (name : Name) → Widens n (units_at block name) (units_at wider name)
    unfolding units_at
    widens-units name =
        widens-then widens-heads (λ hs. widens-then (widens-phrase (end_tokens name))
        (λ _. widens-then (widens-body_head name) (λ _. widens-then (widens-bodies hs) (λ us.
        widens-then (widens-phrase (end_tokens name)) (λ _. widens-pure n us)))))

    pub widens-program : Widens n (program_at block) (program_at wider)
    unfolding program_at
    widens-program =
        widens-then widens-services (λ costs. widens-then widens-name
        (λ name. widens-then (widens-fixed (Word (codes "is"))) (λ _. widens-then (widens-units name) (λ us.
        widens-then (widens-main name) (λ _. widens-pure n (record { name = name; costs = costs; units = us }))))))
