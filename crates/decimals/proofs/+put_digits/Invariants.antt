-- `decimals::put_digits` falls in the number of places.
use Rattle.decimals.proofs.+put_digits.Given as goal

abbrev pub decreases-put_digits : goal.decreases-put_digits
decreases-put_digits l = l.places
