-- Change requests §1, "PDB lines out", and §5, "Halves to even in written numbers": f64 values rounded to decimals; and §9, "PDB lines in": decimals
-- as f64 values. Assumes nothing.
use Rattle.std.specs.Prelude.{ℕ, suc, ◌+◌, ◌*◌, ◌/◌, ◌%◌, ◌^◌, Bool, cond, ltb, Float}
use Rattle.std.specs.Float.{nan, inf, fin, binary64}
use Rattle.std.specs.Float.Ieee.{up, down, of_bits, to_bits, round}

-- "A binary value exactly halfway goes to the even last digit": the even one of q and q + 1
abbrev pub at_half : ℕ → ℕ
at_half q = q + q % 2

-- the whole number nearest to a / b: the quotient or the next, by how twice the remainder compares with the divisor
unfoldable pub nearest_whole : ℕ → ℕ → ℕ
nearest_whole a b =
    let q = a / b in
    let r = a % b in
    cond (ltb (r * 2) b) q (cond (ltb b (r * 2)) (suc q) (at_half q))

-- "from the exact value of the f64": its size, m * up e / down e, in units of 1 / unit, as a whole number of them
unfoldable pub in_units : ℕ → Float → ℕ
in_units unit nan = 0
in_units unit (inf s) = 0
in_units unit (fin s m e) = nearest_whole (m * up e * unit) (down e)

-- "for any count of decimals": an f64, given by its bits, to d of them is this many times 10 ^ -d, its sign aside
abbrev pub rounded : ℕ → ℕ → ℕ
rounded d b = in_units (10 ^ d) (of_bits binary64 b)

-- Change request §9, "Decimals become the nearest f64, halves to even": that of n times 10 ^ -d, with a minus where s is true. `round` is the rounding of a
-- fraction by which the logic's IEEE 754 defines every operation; halfway it takes the even one
abbrev pub nearest_bits : ℕ → Bool → ℕ → ℕ
nearest_bits d s n = to_bits binary64 (round binary64 s n (10 ^ d))
