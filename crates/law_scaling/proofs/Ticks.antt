-- Ticks at so many per mille do not fall where the per mille grows, and at one per mille are none above what they were.
use Rattle.std.proofs.Common.{◌≤◌, ℕ, ◌*◌, arith}
use Rattle.std.specs.Int.{div_ceil}
use Rattle.rt_response.proofs.Shared.Least.{div_ceil-mono}
use Rattle.law_scaling.specs.Scaling.{scaled_ticks}

pub ticks-grow : (j k n : ℕ) → j ≤ k → scaled_ticks j n ≤ scaled_ticks k n
ticks-grow j k n h =
    let product : n * j ≤ n * k = grind (arith, h) in
    let up : div_ceil (n * j) 1000 ≤ div_ceil (n * k) 1000 = div_ceil-mono (n * j) (n * k) 1000 product in
    omega (arith, up)

pub ticks-least : (n : ℕ) → scaled_ticks 1 n ≤ n
ticks-least n = omega arith
