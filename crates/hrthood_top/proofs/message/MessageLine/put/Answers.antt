use Rattle.hrthood_top.proofs.message.MessageLine.put.Goals as goal

pub returns-in-ReadFault-clause-puts : goal.returns-in-ReadFault-clause-puts
returns-in-ReadFault-clause-puts g c =
    let puts = c.put_each-in-ReadFault.ensures.puts in
    rw c.in-ReadFault.is (rw (c.as_slice-in-ReadFault.ensures, c.as_bytes.ensures.value, c.as_slice-in-ReadFault-2.ensures) at puts)
