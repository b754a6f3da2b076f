-- `insertion::spot_of` meets its contract: each level that is found leads one level down. Assumes nothing.
use Rattle.std.proofs.Common.{rules}
use Rattle.insertion.proofs.Laws.{spot-within, no-chain, no-residue, no-conformer, all-stand}
use Rattle.insertion.specs.Pick.{chain_key, residue_key}
use Rattle.insertion.proofs.spot_of.Goals as goal

pub returns-in_default : goal.returns-in_default
returns-in_default c =
    let both =
    no-chain _ _ _ _ _ _ c.requires.within _ c.chain_span.ensures c.in_default.is
    in
    record { spot_value = both.0; lands = both.1 }

pub residue_span-residues-requires : goal.residue_span-residues-requires
residue_span-residues-requires c = search (rules, spot-within)

pub returns-in_default-residues : goal.returns-in_default-residues
returns-in_default-residues c =
    let both =
    no-residue _ _ _ _ _ _ c.requires.within _ c.chain_span.ensures _ _ c.in-Some.is _ c.residue_span-residues.ensures c.in_default-residues.is
    in
    record { spot_value = both.0; lands = both.1 }

pub conformer_span-conformers-requires : goal.conformer_span-conformers-requires
conformer_span-conformers-requires c =
    let new = c.args.new in
    let chain = spot-within _ (chain_key new.chain) _ _ _ c.chain_span.ensures _ _ c.in-Some.is c.requires.within in
    spot-within _ (residue_key new.residue new.code) _ _ _ c.residue_span-residues.ensures _ _ c.in-Some-residues.is chain

pub returns-in_default-conformers : goal.returns-in_default-conformers
returns-in_default-conformers c =
    let both =
    no-conformer _ _ _ _ _ _ c.requires.within _ c.chain_span.ensures _ _ c.in-Some.is _ c.residue_span-residues.ensures _ _ c.in-Some-residues.is _
    c.conformer_span-conformers.ensures c.in_default-conformers.is
    in
    record { spot_value = both.0; lands = both.1 }

pub returns : goal.returns
returns c =
    let both =
    all-stand _ _ _ _ _ _ c.requires.within _ c.chain_span.ensures _ _ c.in-Some.is _ c.residue_span-residues.ensures _ _ c.in-Some-residues.is _
    c.conformer_span-conformers.ensures _ _ c.in-Some-conformers.is
    in
    record { spot_value = both.0; lands = both.1 }
