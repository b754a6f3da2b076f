-- `lookup::is_wanted` goes by the level. Assumes nothing.
use Rattle.std.proofs.Common.{rules}
use Rattle.lookup.proofs.Serials.{wanted-atom, wanted-elsewhere, wanted-outside, wanted-inside, wanted-span}
use Rattle.lookup.proofs.is_wanted.Goals as goal

pub returns-then-level-eq0 : goal.returns-then-level-eq0
returns-then-level-eq0 c = search (rules, wanted-atom)

pub returns-then-spans_serial : goal.returns-then-spans_serial
returns-then-spans_serial c = search (rules, wanted-inside)

pub returns-else-spans_serial : goal.returns-else-spans_serial
returns-else-spans_serial c = search (rules, wanted-outside)

pub returns-else-same_optional : goal.returns-else-same_optional
returns-else-same_optional c = search (rules, wanted-elsewhere)

pub returns : goal.returns
returns c = search (rules, wanted-span)
