use Rattle.hrthood_top.proofs.thread_lines.add_thread.Goals as goal

pub returns-in-Solved : goal.returns-in-Solved
returns-in-Solved c = rw c.in-Solved.is c.add_terms.ensures
