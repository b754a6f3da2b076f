-- `floats::close` meets its contract: the library's `abs` drops the sign. Assumes nothing.
use Rattle.std.proofs.Common.{Float, ap, false, negsuc, refl, ◌∙◌, ◌≡◌}
use lib.Ieee.{nan, inf, fin, binary64, of_bits, lt, sub}
use Rattle.std.specs.Float.{float_with_sign}
use Rattle.machine.specs.Query.{drop_sign, close}
use Rattle.floats.proofs.close.Goals as goal

dropped : (d : Float) → float_with_sign false d ≡ drop_sign d
unfolding float_with_sign drop_sign
dropped nan = refl
dropped (inf s) = refl
dropped (fin s m e) = refl

pub returns : goal.returns
unfolding close of_bits
returns c = ap (λ (d : Float). lt d (fin false 1 (negsuc 51))) (c.abs.ensures.value ∙ dropped (sub binary64 c.args.a c.args.b))
