use Rattle.hrthood_top.proofs.design_lines.put_over.Goals as goal

pub returns-clause-puts : goal.returns-clause-puts
returns-clause-puts g c =
    let first = rw (c.as_slice.ensures, c.bytes.ensures.bytes, c.as_slice-2.ensures, c.as_slice-3.ensures, c.as_slice-4.ensures) at
    c.put_each.ensures.puts in
    rw (c.as_bytes.ensures.value, c.format.ensures.text, c.as_bytes-2.ensures.value, c.format-2.ensures.text) at first
