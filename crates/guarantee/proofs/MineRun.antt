-- The mine pump on the machine of its design: the trace of its first 100 ticks is allowed, step by step.
use Rattle.std.specs.Prelude.{ℕ, false, List, [], ◌∷◌, Some, None, codes}
use Rattle.std.proofs.Common.{refl, inl, inr, lit≤, lit<}
use Prim.Native.String.{String}
use Rattle.seq_tree.specs.Variables.{Variables}
use Rattle.seq_tree.specs.declared.tree.OpName.{OpName}
use Rattle.seq_tree.specs.Runs as ru
use Rattle.seq_tree.specs.Runs.{Path, silent}
use Rattle.ods_tree.proofs.Shared.Mine.{mine}
use Rattle.guarantee.specs.Events as ev
use Rattle.guarantee.specs.Events.{Event}
use Rattle.guarantee.specs.Software.{software}
use Rattle.guarantee.specs.Arrivals.{Arrivals}
use Rattle.guarantee.specs.Steps.{Step}
use Rattle.guarantee.specs.Allowed.{Allows}
use Rattle.guarantee.proofs.Ordered.{in_order}

abbrev none : Path
none = silent 0 []

abbrev op : String → String → OpName
op object name = record { object = codes object; op = codes name }

abbrev way : List ru.Action → Variables → ℕ → ℕ → Path
way script vars low high = record { script = script; left = false; vars = vars; low = low; high = high }

abbrev step : ℕ → ev.Deed → Path → Step
step time deed body = record { time = time; deed = deed; body = body }

-- a request of water at 30
abbrev water : Arrivals
water = record { until = 100; work = []; items = record { time = 30; task = codes "water_handler"; value = Some 1 } ∷ [] }

abbrev trace : List Event
trace =
    ev.By 0 (codes "flow_sensor") (ev.Release None)
    ∷ ev.By 0 (codes "ch4_sensor") (ev.Release None)
    ∷ ev.By 0 (codes "co_sensor") (ev.Release None)
    ∷ ev.By 0 (codes "air_flow") (ev.Release None)
    ∷ ev.By 9 (codes "ch4_sensor") (ev.Enter (op "ch4_status" "write") (7 ∷ []))
    ∷ ev.By 10 (codes "ch4_sensor") (ev.Leave (op "ch4_status" "write") [])
    ∷ ev.By 13 (codes "ch4_sensor") (ev.Enter (op "motor" "set_safety") (0 ∷ []))
    ∷ ev.By 15 (codes "ch4_sensor") (ev.Leave (op "motor" "set_safety") [])
    ∷ ev.By 16 (codes "ch4_sensor") (ev.End 16)
    ∷ ev.By 25 (codes "co_sensor") (ev.Enter (op "data_logger" "log") (3 ∷ []))
    ∷ ev.By 29 (codes "co_sensor") (ev.Leave (op "data_logger" "log") [])
    ∷ ev.By 30 (codes "co_sensor") (ev.End 14)
    ∷ ev.By 30 (codes "water_handler") (ev.Arrive (Some 1))
    ∷ ev.By 30 (codes "water_handler") (ev.Release (Some 1))
    ∷ ev.By 36 (codes "air_flow") (ev.Enter (op "ch4_status" "read") [])
    ∷ ev.By 37 (codes "air_flow") (ev.Leave (op "ch4_status" "read") (7 ∷ []))
    ∷ ev.By 39 (codes "air_flow") (ev.End 9)
    ∷ ev.By 41 (codes "water_handler") (ev.Enter (op "motor" "set_pump") (1 ∷ []))
    ∷ ev.By 43 (codes "water_handler") (ev.Leave (op "motor" "set_pump") [])
    ∷ ev.By 45 (codes "water_handler") (ev.Enter (op "data_logger" "log") (1 ∷ []))
    ∷ ev.By 49 (codes "water_handler") (ev.Leave (op "data_logger" "log") [])
    ∷ ev.By 50 (codes "water_handler") (ev.End 11)
    ∷ ev.By 57 (codes "flow_sensor") (ev.Enter (op "motor" "state") [])
    ∷ ev.By 58 (codes "flow_sensor") (ev.Leave (op "motor" "state") (1 ∷ []))
    ∷ ev.By 60 (codes "flow_sensor") (ev.Enter (op "data_logger" "log") (1 ∷ []))
    ∷ ev.By 64 (codes "flow_sensor") (ev.Leave (op "data_logger" "log") [])
    ∷ ev.By 65 (codes "flow_sensor") (ev.End 15)
    ∷ ev.By 80 (codes "ch4_sensor") (ev.Release None)
    ∷ ev.By 89 (codes "ch4_sensor") (ev.Enter (op "ch4_status" "write") (14 ∷ []))
    ∷ ev.By 90 (codes "ch4_sensor") (ev.Leave (op "ch4_status" "write") [])
    ∷ ev.By 93 (codes "ch4_sensor") (ev.Enter (op "motor" "set_safety") (0 ∷ []))
    ∷ ev.By 95 (codes "ch4_sensor") (ev.Leave (op "motor" "set_safety") [])
    ∷ ev.By 96 (codes "ch4_sensor") (ev.End 16)
    ∷ ev.By 100 (codes "co_sensor") (ev.Release None)
    ∷ ev.By 100 (codes "air_flow") (ev.Release None)
    ∷ ev.Horizon 100 ∷ []

mine_allowed : Allows mine water trace
mine_allowed = record {
  written = record {
    order = in_order (software mine).tasks 100 0 trace refl;
    bodies = (none ∷ none ∷ none ∷ none ∷ (way [] ((codes "v", 7) ∷ (codes "level", 7) ∷ []) 1 1) ∷ none
        ∷ (way [] ((codes "s", 0) ∷ (codes "pump", 0) ∷ (codes "unsafe", 0) ∷ []) 2 2) ∷ none ∷ none
        ∷ (way [] ((codes "v", 3) ∷ (codes "count", 1) ∷ (codes "last", 3) ∷ []) 3 4) ∷ none ∷ none ∷ none ∷ none
        ∷ (way [] ((codes "v", 7) ∷ (codes "level", 7) ∷ []) 1 1) ∷ none ∷ none
        ∷ (way [] ((codes "want", 1) ∷ (codes "pump", 1) ∷ (codes "unsafe", 0) ∷ []) 2 2) ∷ none
        ∷ (way [] ((codes "v", 1) ∷ (codes "count", 2) ∷ (codes "last", 1) ∷ []) 3 4) ∷ none ∷ none
        ∷ (way [] ((codes "v", 1) ∷ (codes "pump", 1) ∷ (codes "unsafe", 0) ∷ []) 1 1) ∷ none
        ∷ (way [] ((codes "v", 1) ∷ (codes "count", 3) ∷ (codes "last", 1) ∷ []) 3 4) ∷ none ∷ none ∷ none
        ∷ (way [] ((codes "v", 14) ∷ (codes "level", 14) ∷ []) 1 1) ∷ none
        ∷ (way [] ((codes "s", 0) ∷ (codes "pump", 1) ∷ (codes "unsafe", 0) ∷ []) 2 2) ∷ []);
    threads = (
      (
        refl,
        (inl (
          (way (ru.Enter (op "motor" "set_pump") (1 ∷ []) ∷ ru.Leave (op "motor" "set_pump") []
              ∷ ru.Enter (op "data_logger" "log") (1 ∷ []) ∷ ru.Leave (op "data_logger" "log") [] ∷ []) ((codes "high", 1) ∷ []) 4 4),
          record {
            run = (8, (_, ([], refl, refl), (_, (_, ([], refl, refl), (_, refl, refl)), refl)), refl);
            script = (step 41 (ev.Enter (op "motor" "set_pump") (1 ∷ [])) (way [] ((codes "want", 1) ∷ (codes "pump", 1) ∷ (codes "unsafe", 0)
                ∷ []) 2 2) ∷ step 43 (ev.Leave (op "motor" "set_pump") []) none
                ∷ step 45 (ev.Enter (op "data_logger" "log") (1 ∷ [])) (way [] ((codes "v", 1) ∷ (codes "count", 2) ∷ (codes "last", 1) ∷ []) 3 4)
                ∷ step 49 (ev.Leave (op "data_logger" "log") []) none ∷ []);
            end = step 50 (ev.End 11) none;
            used = 11;
            steps = refl;
            shows = refl;
            ends = refl;
            since = lit≤ tt;
          },
          record { at_least = lit≤ tt; at_most = lit≤ tt },
          tt,
        )),
      ),
      (
        (
          refl,
          (inl (
            (way (ru.Enter (op "motor" "state") [] ∷ ru.Leave (op "motor" "state") (1 ∷ []) ∷ ru.Enter (op "data_logger" "log") (1 ∷ [])
                ∷ ru.Leave (op "data_logger" "log") [] ∷ []) ((codes "p", 1) ∷ []) 5 9),
            record {
              run = (
                8,
                (
                  _,
                  refl,
                  (
                    _,
                    (
                      _,
                      (
                        (1 ∷ []),
                        refl,
                        refl,
                      ),
                      (_, (_, ([], refl, refl), (_, refl, refl)), refl),
                    ),
                    refl,
                  ),
                ),
                refl,
              );
              script = (step 57 (ev.Enter (op "motor" "state") []) (way [] ((codes "v", 1) ∷ (codes "pump", 1) ∷ (codes "unsafe", 0) ∷ []) 1 1)
                  ∷ step 58 (ev.Leave (op "motor" "state") (1 ∷ [])) none
                  ∷ step 60 (ev.Enter (op "data_logger" "log") (1 ∷ [])) (way [] ((codes "v", 1) ∷ (codes "count", 3) ∷ (codes "last", 1) ∷ []) 3 4)
                  ∷ step 64 (ev.Leave (op "data_logger" "log") []) none ∷ []);
              end = step 65 (ev.End 15) none;
              used = 15;
              steps = refl;
              shows = refl;
              ends = refl;
              since = lit≤ tt;
            },
            record { at_least = lit≤ tt; at_most = lit≤ tt },
            tt,
          )),
        ),
        (
          (
            refl,
            (inl (
              (way (ru.Enter (op "ch4_status" "write") (7 ∷ []) ∷ ru.Leave (op "ch4_status" "write") []
                  ∷ ru.Enter (op "motor" "set_safety") (0 ∷ []) ∷ ru.Leave (op "motor" "set_safety") [] ∷ []) ((codes "reading", 7) ∷ []) 7 12),
              record {
                run = (
                  8,
                  (
                    _,
                    refl,
                    (
                      _,
                      (
                        _,
                        refl,
                        (
                          _,
                          (
                            _,
                            ([], refl, refl),
                            (
                              _,
                              (
                                _,
                                (_, (_, ([], refl, refl), (_, refl, refl)), refl),
                                (
                                  _,
                                  refl,
                                  refl,
                                ),
                              ),
                              refl,
                            ),
                          ),
                          refl,
                        ),
                      ),
                      refl,
                    ),
                  ),
                  refl,
                );
                script = (step 9 (ev.Enter (op "ch4_status" "write") (7 ∷ [])) (way [] ((codes "v", 7) ∷ (codes "level", 7) ∷ []) 1 1)
                    ∷ step 10 (ev.Leave (op "ch4_status" "write") []) none
                    ∷ step 13 (ev.Enter (op "motor" "set_safety") (0 ∷ []))
                    (way [] ((codes "s", 0) ∷ (codes "pump", 0) ∷ (codes "unsafe", 0) ∷ []) 2 2)
                    ∷ step 15 (ev.Leave (op "motor" "set_safety") []) none ∷ []);
                end = step 16 (ev.End 16) none;
                used = 16;
                steps = refl;
                shows = refl;
                ends = refl;
                since = lit≤ tt;
              },
              record { at_least = lit≤ tt; at_most = lit≤ tt },
              (inl (
                (way (ru.Enter (op "ch4_status" "write") (14 ∷ []) ∷ ru.Leave (op "ch4_status" "write") []
                    ∷ ru.Enter (op "motor" "set_safety") (0 ∷ []) ∷ ru.Leave (op "motor" "set_safety") [] ∷ []) ((codes "reading", 14) ∷ []) 7 12),
                record {
                  run = (
                    8,
                    (
                      _,
                      refl,
                      (
                        _,
                        (
                          _,
                          refl,
                          (
                            _,
                            (
                              _,
                              ([], refl, refl),
                              (
                                _,
                                (
                                  _,
                                  (_, (_, ([], refl, refl), (_, refl, refl)), refl),
                                  (
                                    _,
                                    refl,
                                    refl,
                                  ),
                                ),
                                refl,
                              ),
                            ),
                            refl,
                          ),
                        ),
                        refl,
                      ),
                    ),
                    refl,
                  );
                  script = (step 89 (ev.Enter (op "ch4_status" "write") (14 ∷ [])) (way [] ((codes "v", 14) ∷ (codes "level", 14) ∷ []) 1 1)
                      ∷ step 90 (ev.Leave (op "ch4_status" "write") []) none
                      ∷ step 93 (ev.Enter (op "motor" "set_safety") (0 ∷ []))
                      (way [] ((codes "s", 0) ∷ (codes "pump", 1) ∷ (codes "unsafe", 0) ∷ []) 2 2)
                      ∷ step 95 (ev.Leave (op "motor" "set_safety") []) none ∷ []);
                  end = step 96 (ev.End 16) none;
                  used = 16;
                  steps = refl;
                  shows = refl;
                  ends = refl;
                  since = lit≤ tt;
                },
                record { at_least = lit≤ tt; at_most = lit≤ tt },
                tt,
              )),
            )),
          ),
          (
            (
              refl,
              (inl (
                (way (ru.Enter (op "data_logger" "log") (3 ∷ [])
                    ∷ ru.Leave (op "data_logger" "log") [] ∷ []) ((codes "reading", 3) ∷ []) 4 9),
                record {
                  run = (
                    8,
                    (
                      _,
                      refl,
                      (
                        _,
                        (
                          _,
                          refl,
                          (
                            _,
                            (
                              _,
                              ([], refl, refl),
                              (_, refl, refl),
                            ),
                            refl,
                          ),
                        ),
                        refl,
                      ),
                    ),
                    refl,
                  );
                  script = (step 25 (ev.Enter (op "data_logger" "log") (3 ∷ [])) (way [] ((codes "v", 3) ∷ (codes "count", 1) ∷ (codes "last", 3)
                      ∷ []) 3 4) ∷ step 29 (ev.Leave (op "data_logger" "log") []) none ∷ []);
                  end = step 30 (ev.End 14) none;
                  used = 14;
                  steps = refl;
                  shows = refl;
                  ends = refl;
                  since = lit≤ tt;
                },
                record { at_least = lit≤ tt; at_most = lit≤ tt },
                (inr (
                  record {
                    script = [];
                    begins = (
                      (ru.Enter (op "data_logger" "log") (6 ∷ []) ∷ ru.Leave (op "data_logger" "log") [] ∷ []),
                      (
                        (way (ru.Enter (op "data_logger" "log") (6 ∷ []) ∷ ru.Leave (op "data_logger" "log") [] ∷ [])
                            ((codes "reading", 6) ∷ []) 4 9),
                        (
                          8,
                          (_, refl, (_, (_, refl, (_, (_, ([], refl, refl), (_, refl, refl)), refl)), refl)),
                          refl,
                        ),
                        refl,
                      ),
                    );
                    shows = refl;
                  },
                  refl,
                )),
              )),
            ),
            (
              (
                refl,
                (inl (
                  (way (ru.Enter (op "ch4_status" "read") []
                      ∷ ru.Leave (op "ch4_status" "read") (7 ∷ []) ∷ []) ((codes "level", 7) ∷ []) 4 7),
                  record {
                    run = (
                      8,
                      (
                        _,
                        refl,
                        (
                          _,
                          (
                            _,
                            (
                              (7 ∷ []),
                              refl,
                              refl,
                            ),
                            (_, (_, (_, refl, refl), (_, refl, refl)), refl),
                          ),
                          refl,
                        ),
                      ),
                      refl,
                    );
                    script = (step 36 (ev.Enter (op "ch4_status" "read") []) (way [] ((codes "v", 7) ∷ (codes "level", 7) ∷ []) 1 1)
                        ∷ step 37 (ev.Leave (op "ch4_status" "read") (7 ∷ [])) none ∷ []);
                    end = step 39 (ev.End 9) none;
                    used = 9;
                    steps = refl;
                    shows = refl;
                    ends = refl;
                    since = lit≤ tt;
                  },
                  record { at_least = lit≤ tt; at_most = lit≤ tt },
                  (inr (
                    record {
                      script = [];
                      begins = (
                        (ru.Enter (op "ch4_status" "read") [] ∷ ru.Leave (op "ch4_status" "read") (0 ∷ []) ∷ []),
                        (
                          (way (ru.Enter (op "ch4_status" "read") [] ∷ ru.Leave (op "ch4_status" "read") (0 ∷ []) ∷ [])
                              ((codes "level", 0) ∷ []) 4 7),
                          (
                            8,
                            (_, refl, (_, (_, ((0 ∷ []), refl, refl), (_, (_, (_, refl, refl), (_, refl, refl)), refl)), refl)),
                            refl,
                          ),
                          refl,
                        ),
                      );
                      shows = refl;
                    },
                    refl,
                  )),
                )),
              ),
              ((refl, tt), tt),
            ),
          ),
        ),
      ),
    );
    objects = (
      (
        refl,
        refl,
        record {
          operation = _;
          stands = refl;
          runs = record {
            run = (
              8,
              (
                _,
                refl,
                (
                  _,
                  (
                    _,
                    (_, refl, refl),
                    (
                      _,
                      refl,
                      refl,
                    ),
                  ),
                  refl,
                ),
              ),
              refl,
            );
            shows = refl;
          };
          gives = refl;
        },
        (
          refl,
          refl,
          record {
            operation = _;
            stands = refl;
            runs = record { run = (8, (_, (_, (_, refl, (_, refl, refl)), refl), (_, refl, refl)), refl); shows = refl };
            gives = refl;
          },
          (
            refl,
            refl,
            record {
              operation = _;
              stands = refl;
              runs = record {
                run = (8, (_, refl, (_, refl, refl)), refl);
                shows = refl;
              };
              gives = refl;
            },
            (
              refl,
              refl,
              record {
                operation = _;
                stands = refl;
                runs = record { run = (8, (_, refl, (_, (_, (_, refl, refl), (_, refl, refl)), refl)), refl); shows = refl };
                gives = refl;
              },
              tt,
            ),
          ),
        ),
      ),
      (
        (
          refl,
          refl,
          record {
            operation = _;
            stands = refl;
            runs = record { run = (8, (_, refl, (_, refl, refl)), refl); shows = refl };
            gives = refl;
          },
          (
            refl,
            refl,
            record {
              operation = _;
              stands = refl;
              runs = record { run = (8, (_, refl, (_, refl, refl)), refl); shows = refl };
              gives = refl;
            },
            (
              refl,
              refl,
              record {
                operation = _;
                stands = refl;
                runs = record {
                  run = (8, (_, refl, (_, refl, refl)), refl);
                  shows = refl;
                };
                gives = refl;
              },
              tt,
            ),
          ),
        ),
        (
          (
            refl,
            refl,
            record {
              operation = _;
              stands = refl;
              runs = record { run = (8, (_, refl, (_, (_, refl, (_, (_, refl, (_, refl, refl)), refl)), refl)), refl); shows = refl };
              gives = refl;
            },
            (
              refl,
              refl,
              record {
                operation = _;
                stands = refl;
                runs = record {
                  run = (
                    8,
                    (
                      _,
                      refl,
                      (
                        _,
                        (
                          _,
                          refl,
                          (
                            _,
                            (
                              _,
                              refl,
                              (_, refl, refl),
                            ),
                            refl,
                          ),
                        ),
                        refl,
                      ),
                    ),
                    refl,
                  );
                  shows = refl;
                };
                gives = refl;
              },
              (
                refl,
                refl,
                record {
                  operation = _;
                  stands = refl;
                  runs = record { run = (8, (_, refl, (_, (_, refl, (_, (_, refl, (_, refl, refl)), refl)), refl)), refl); shows = refl };
                  gives = refl;
                },
                tt,
              ),
            ),
          ),
          tt,
        ),
      ),
    );
  };
  periodic = (
    tt,
    (
      (lit≤ tt, refl, refl, lit< tt),
      (
        (lit≤ tt, refl, refl, (lit≤ tt, refl, refl, lit< tt)),
        (
          (
            lit≤ tt,
            refl,
            refl,
            (
              lit≤ tt,
              refl,
              refl,
              lit< tt,
            ),
          ),
          ((lit≤ tt, refl, refl, (lit≤ tt, refl, refl, lit< tt)), (tt, tt)),
        ),
      ),
    ),
  );
  arrivals = refl;
  requested = ((refl, refl, tt), (tt, (tt, (tt, (tt, (tt, tt))))));
}
