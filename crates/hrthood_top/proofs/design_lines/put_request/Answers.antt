use Rattle.hrthood_top.proofs.design_lines.put_request.Goals as goal

pub returns-clause-puts : goal.returns-clause-puts
returns-clause-puts g c =
    let first = rw (c.as_slice.ensures, c.as_slice-2.ensures, c.as_slice-3.ensures) at c.put_each.ensures.puts in
    rw (c.bytes.ensures.bytes, c.bytes-2.ensures.bytes) at first
