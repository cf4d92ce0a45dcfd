use Rattle.hrthood_top.proofs.design_lines.put_rule.Goals as goal

pub returns-in-V06-clause-puts : goal.returns-in-V06-clause-puts
returns-in-V06-clause-puts g c = rw c.in-V06.is c.put_use.ensures.puts

pub returns-in-V07-clause-puts : goal.returns-in-V07-clause-puts
returns-in-V07-clause-puts g c = rw c.in-V07.is c.put_use-in-V07.ensures.puts

pub returns-in-V08-clause-puts : goal.returns-in-V08-clause-puts
returns-in-V08-clause-puts g c = rw c.in-V08.is c.put_use-in-V08.ensures.puts

pub returns-in-V09Objects-clause-puts : goal.returns-in-V09Objects-clause-puts
returns-in-V09Objects-clause-puts g c = rw c.in-V09Objects.is c.put_named-in-V09Objects.ensures.puts

pub returns-in-V09Starts-clause-puts : goal.returns-in-V09Starts-clause-puts
returns-in-V09Starts-clause-puts g c = rw c.in-V09Starts.is c.put_named-in-V09Starts.ensures.puts

pub returns-in-V12-clause-puts : goal.returns-in-V12-clause-puts
returns-in-V12-clause-puts g c = rw c.in-V12.is c.put_named-in-V12.ensures.puts

pub returns-in-V15Threads-clause-puts : goal.returns-in-V15Threads-clause-puts
returns-in-V15Threads-clause-puts g c = rw c.in-V15Threads.is c.put_count.ensures.puts

pub returns-in-V15Objects-clause-puts : goal.returns-in-V15Objects-clause-puts
returns-in-V15Objects-clause-puts g c = rw c.in-V15Objects.is c.put_count-in-V15Objects.ensures.puts

pub returns-in-V16-clause-puts : goal.returns-in-V16-clause-puts
returns-in-V16-clause-puts g c = rw c.in-V16.is c.put_start.ensures.puts

pub returns-in-V17Tick-clause-puts : goal.returns-in-V17Tick-clause-puts
returns-in-V17Tick-clause-puts g c = rw c.in-V17Tick.is c.put_all-in-V17Tick.ensures.puts

pub returns-in-V17Priorities-clause-puts : goal.returns-in-V17Priorities-clause-puts
returns-in-V17Priorities-clause-puts g c = rw c.in-V17Priorities.is c.put_all-in-V17Priorities.ensures.puts

pub returns-in-V17-clause-puts : goal.returns-in-V17-clause-puts
returns-in-V17-clause-puts g c = rw c.in-V17.is c.put_named-in-V17.ensures.puts
