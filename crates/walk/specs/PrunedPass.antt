-- One pass over records that looks below none at which a test fails. Its state is the site of the last record at which the test
-- held, as far as that stands above the next. Assumes nothing.
use Rattle.std.specs.Prelude.{ℕ, suc, Bool, cond, List, [], ◌∷◌, length, ltb, eqb}
use Rattle.machine.specs.Lists.{keep}
use Rattle.machine.specs.Record.{Words, kind}
use Rattle.machine.specs.Find.{Site}
use Rattle.laws.specs.Scan.{above, site_of}

-- how many levels of a site are known
abbrev pub depth : Site → ℕ
depth s = length s.numbers

-- a record too deep for the state is passed over; one at which h fails isn't entered, so that those below it are too deep
unfoldable pub pruned_pass : (Site → Bool) → ℕ → Site → List Words → List Site
pruned_pass h n s [] = []
pruned_pass h n s (r ∷ rs) =
    cond (ltb (suc (depth s)) (kind r)) (pruned_pass h (suc n) s rs)
    (cond (h (site_of n s r)) (keep (eqb (kind r) 5) (site_of n s r) (pruned_pass h (suc n) (site_of n s r) rs))
    (pruned_pass h (suc n) (above (kind r) s) rs))
