-- Examples: the text of a design, and what flattening makes of the mine pump.
use Rattle.std.specs.Prelude.{◌≡◌, List, [], ◌∷◌, map, flat_map, Some, Ok, codes, refl}
use Rattle.seq_tree.specs.Calls.{block_calls}
use Rattle.seq_tree.specs.Lexis.{tokens, plain, tokens_after, front_by, start_of, name_front, number_front, longest}
use Rattle.seq_tree.specs.Marks.{mark_of}
use Rattle.seq_tree.specs.declared.token.Token.{Token}
use Rattle.ods_tree.specs.Designs.{Tree}
use Rattle.ods_tree.specs.Spelling.{DesignLine, part_token, provided_line, tree_lines, back_lines, cost_lines}
use Rattle.ods_tree.specs.Layout.{parts_text}
use Rattle.ods_tree.specs.declared.design.Constraint.TheVariants.{Paer}
use Rattle.ods_tree.specs.Walk.{objects, own_of}
use Rattle.ods_tree.specs.Links.{resolve}
use Rattle.ods_tree.specs.Flattening.{flat}
use Rattle.ods_tree.proofs.Shared.Short.{v_in}
use Rattle.ods_tree.proofs.Shared.Mine.{mine, pump_controller, water_handler, data_logger, alarm_console}

-- a printed line
printed : parts_text (provided_line 2 (record { sig = record { name = codes "set"; params = v_in ∷ [] }; constraint = Some Paer })).parts
    ≡ codes "set (v : in word) PAER;"
printed = refl

-- the tokens of lines, and of a tree
abbrev tokens_of_lines : List DesignLine → List Token
tokens_of_lines lines = flat_map (λ l. map part_token l.parts) lines

abbrev tokens_of : Tree → List Token
tokens_of t = tokens_of_lines (tree_lines 1 t)

-- the tokens of a tree are those of its text
water_handler_spelled : Ok (tokens_of water_handler)
    ≡ plain (tokens (codes "OBJECT water_handler IS SPORADIC ATTRIBUTES SEPARATION = 6000; DEADLINE = 200; THREAD_BUDGET = 20; ARRIVAL_JITTER = 5; PROVIDES water (high : in Word) ASER; REQUIRES motor.set_pump; data_logger.log; THREAD motor.set_pump (high); data_logger.log (high); END THREAD; END water_handler;"))
unfolding tokens tokens_after front_by start_of name_front number_front longest mark_of
water_handler_spelled = refl

data_logger_spelled : Ok (tokens_of data_logger)
    ≡ plain (tokens (codes "OBJECT data_logger IS PROTECTED PROVIDES log (v : in Word) PAER; DATA count : Word := 0; last : Word := 0; OPERATION log IS BEGIN count := count + 1; last := v; Work (2); END log; END data_logger;"))
unfolding tokens tokens_after front_by start_of name_front number_front longest mark_of
data_logger_spelled = refl

alarm_console_spelled : Ok (tokens_of alarm_console)
    ≡ plain (tokens (codes "OBJECT alarm_console IS SPORADIC ATTRIBUTES SEPARATION = 80; DEADLINE = 50; THREAD_BUDGET = 10; PROVIDES alert (v : in Word) ASER; THREAD Put (v); Work (4); END THREAD; END alarm_console;"))
unfolding tokens tokens_after front_by start_of name_front number_front longest mark_of
alarm_console_spelled = refl

end_spelled : Ok (tokens_of_lines (back_lines 1 (own_of pump_controller)))
    ≡ plain (tokens (codes "IMPLEMENTS set_safety BY motor.set_safety; END pump_controller;"))
unfolding tokens tokens_after front_by start_of name_front number_front longest mark_of
end_spelled = refl

costs_spelled : Ok (tokens_of_lines (cost_lines mine.costs))
    ≡ plain (tokens (codes "COSTS ASSIGN = 1; TEST = 1; TURN = 1; CALL = 2; NULL = 1; PUT = 1; FINISH = 1; END COSTS;"))
unfolding tokens tokens_after front_by start_of name_front number_front longest mark_of
costs_spelled = refl

-- flattened order
in_order : map (λ s. s.own.name) (objects mine)
    ≡ codes "mine_control" ∷ codes "pump_controller" ∷ codes "motor" ∷ codes "water_handler" ∷ codes "flow_sensor"
    ∷ codes "environment_monitor" ∷ codes "ch4_status" ∷ codes "ch4_sensor" ∷ codes "co_sensor" ∷ codes "air_flow" ∷ codes "data_logger"
    ∷ codes "alarm_console" ∷ []
in_order = refl

-- a call of an object with children means the operation of a child
linked : resolve mine (record { object = codes "pump_controller"; op = codes "set_safety" })
    ≡ record { object = codes "motor"; op = codes "set_safety" }
linked = refl

-- the threads, and the calls of the first
thread_names : map (λ t. t.name) (flat mine).threads
    ≡ codes "water_handler" ∷ codes "flow_sensor" ∷ codes "ch4_sensor" ∷ codes "co_sensor" ∷ codes "air_flow" ∷ codes "alarm_console" ∷ []
thread_names = refl

shared_names : map (λ g. g.name) (flat mine).shared ≡ codes "motor" ∷ codes "ch4_status" ∷ codes "data_logger" ∷ []
shared_names = refl

called_objects : map (λ t. map (λ c. c.object) (block_calls t.block)) (flat mine).threads
    ≡ (codes "motor" ∷ codes "data_logger" ∷ []) ∷ (codes "motor" ∷ codes "data_logger" ∷ [])
    ∷ (codes "ch4_status" ∷ codes "motor" ∷ codes "alarm_console" ∷ codes "motor" ∷ []) ∷ (codes "data_logger" ∷ [])
    ∷ (codes "ch4_status" ∷ []) ∷ [] ∷ []
called_objects = refl
