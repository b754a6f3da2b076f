-- `additions::prepare` meets its contract: the first name that is bad ends it. Assumes nothing.
use Rattle.std.proofs.Common.{rules, ◌∙◌}
use Rattle.laws.specs.Exits.{exit-err}
use Rattle.additions.proofs.Laws.{bad-chain, bad-code, bad-conformer, bad-location, bad-atom-name, all-ready}
use Rattle.additions.proofs.prepare.Goals as goal

pub returns-in_err-chain : goal.returns-in_err-chain
returns-in_err-chain c = search (rules, bad-chain)

pub returns-in_err-code : goal.returns-in_err-code
returns-in_err-code c = search (rules, bad-code)

pub returns-in_err-conformer : goal.returns-in_err-conformer
returns-in_err-conformer c =
    exit-err _ _ c.from_residual-in_err-conformer.ensures.1
    ∙ bad-conformer _ _ _ _ _ _ _ _ _ c.prepare_chain_id.ensures c.accept.ensures _ c.in_ok-chain.was
    _ _ c.prepare_optional_code.ensures c.accept-2.ensures _ c.in_ok-code.was
    _ _ c.prepare_identifier_uppercase.ensures c.accept-3.ensures _ c.in_err-conformer.was

pub returns-in_err-location : goal.returns-in_err-location
returns-in_err-location c =
    exit-err _ _ c.from_residual-in_err-location.ensures.1
    ∙ bad-location _ _ _ _ _ _ _ _ _ c.prepare_chain_id.ensures c.accept.ensures _ c.in_ok-chain.was
    _ _ c.prepare_optional_code.ensures c.accept-2.ensures _ c.in_ok-code.was
    _ _ c.prepare_identifier_uppercase.ensures c.accept-3.ensures _ c.in_ok-conformer.was
    _ _ c.prepare_optional_location-prepared.ensures c.accept-4.ensures _ c.in_err-location.was

pub returns-in_err-name : goal.returns-in_err-name
returns-in_err-name c =
    exit-err _ _ c.from_residual-in_err-name.ensures.1
    ∙ bad-atom-name _ _ _ _ _ _ _ _ _ c.prepare_chain_id.ensures c.accept.ensures _ c.in_ok-chain.was
    _ _ c.prepare_optional_code.ensures c.accept-2.ensures _ c.in_ok-code.was
    _ _ c.prepare_identifier_uppercase.ensures c.accept-3.ensures _ c.in_ok-conformer.was
    _ _ c.prepare_optional_location-prepared.ensures c.accept-4.ensures _ c.in_ok-location.was
    _ _ c.prepare_atom_name.ensures c.accept-5.ensures _ c.in_err-name.was

pub returns : goal.returns
returns c =
    all-ready _ _ _ _ _ _ _ _ _ c.prepare_chain_id.ensures c.accept.ensures _ c.in_ok-chain.was
    _ _ c.prepare_optional_code.ensures c.accept-2.ensures _ c.in_ok-code.was
    _ _ c.prepare_identifier_uppercase.ensures c.accept-3.ensures _ c.in_ok-conformer.was
    _ _ c.prepare_optional_location-prepared.ensures c.accept-4.ensures _ c.in_ok-location.was
    _ _ c.prepare_atom_name.ensures c.accept-5.ensures _ c.in_ok-name.was
