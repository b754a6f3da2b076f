-- Change request §7, to be read beside IEEE 754's clause on binary interchange formats: the class of each pattern of 64 bits, by its fields, and
-- the class of each value. That a pattern has the class of the value that it stands for is the law `class-value`. Assumes nothing.
use Rattle.std.specs.Prelude.{ℕ, ◌-◌, ◌/◌, ◌%◌, ◌^◌, Bool, true, false, cond, negsuc, eqb, Float}
use Rattle.std.specs.Float.{nan, inf, fin}
use Rattle.std.specs.Float.Ieee.{lt}
use Rattle.machine.specs.declared.FloatClass.{FloatClass}
use Rattle.machine.specs.declared.FloatClass.TheVariants.{Zero, Subnormal, Normal, Infinite, NotANumber}

-- "zero, subnormal, normal, infinite, not a number": the exponent's field is all ones, zero or neither, and the fraction's is zero or not
unfoldable pub class_of_fields : ℕ → ℕ → FloatClass
class_of_fields exponent fraction =
    cond (eqb exponent (2 ^ 11 - 1)) (cond (eqb fraction 0) Infinite NotANumber)
    (cond (eqb exponent 0) (cond (eqb fraction 0) Zero Subnormal) Normal)

-- "Each of the 2^64 patterns": from the highest bit down 1 of sign, 11 of exponent, 52 of fraction; the sign has no part in it
unfoldable pub class_of : ℕ → FloatClass
class_of bits = class_of_fields (bits / 2 ^ 52 % 2 ^ 11) (bits % 2 ^ 52)

-- 2 ^ -1022, the least number that is normal
abbrev pub least_normal : Float
least_normal = fin false 1 (negsuc 1021)

-- the class of a value, which is not a number, an infinity, or m * 2 ^ e with a sign: a number other than zero is subnormal where its magnitude lies
-- below the least normal one
unfoldable pub class_of_value : Float → FloatClass
class_of_value nan = NotANumber
class_of_value (inf sign) = Infinite
class_of_value (fin sign m e) = cond (eqb m 0) Zero (cond (lt (fin false m e) least_normal) Subnormal Normal)

-- "finite are exactly the first three"
abbrev pub finite_class : FloatClass → Bool
finite_class Zero = true
finite_class Subnormal = true
finite_class Normal = true
finite_class Infinite = false
finite_class NotANumber = false
