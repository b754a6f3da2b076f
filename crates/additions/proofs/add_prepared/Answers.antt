-- `additions::add_prepared` meets its contract: each return is a law's. Assumes nothing.
use Rattle.std.proofs.Common.{rules, sym, ◌∙◌}
use Rattle.laws.specs.Exits.{placed}
use Rattle.additions.proofs.Laws.{atom-nowhere, atom-unnamed, atom-bad, atom-ready}
use Rattle.additions.proofs.add_prepared.Goals as goal

pub returns-in_default : goal.returns-in_default
returns-in_default c = search (rules, atom-nowhere)

pub put_atom-requires : goal.put_atom-requires
put_atom-requires c =
    record {
      good = c.requires.good;
      valid = c.requires.valid;
      span_held = placed _ _ _ c.model_span.ensures c.in-Ok.is;
      values_good = sym c.good_values.ensures ∙ c.if-good_values.true;
    }

pub returns-then-good_values : goal.returns-then-good_values
returns-then-good_values c =
    record { cursor_valid = c.put_atom.ensures.cursor_valid; store_after = atom-ready _ c.requires.good _ _ _ c.model_span.ensures _ _ c.in-Ok.is _ c.in-Ok-prepared.is c.put_atom.ensures.store_after }

pub returns-else-good_values : goal.returns-else-good_values
returns-else-good_values c = search (rules, atom-bad)

pub returns-in-Err : goal.returns-in-Err
returns-in-Err c = search (rules, atom-unnamed)
