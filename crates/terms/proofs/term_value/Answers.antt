-- `terms::term_value` meets its contract: a term's arm is the level that it asks for, or the two lower ones, which decide it. Assumes nothing.
use Rattle.machine.specs.Query.{Names}
use Rattle.terms.proofs.Records.{model-arm, chain-arm, residue-arm, lower-false, lower-arm}
use borrow.Enum.Refused.{opened}
use Rattle.terms.proofs.term_value.Goals as goal

pub returns-in-ModelSerialNumber : goal.returns-in-ModelSerialNumber
returns-in-ModelSerialNumber c =
    let a = c.args in
    let names : Names = record { residues = a.residues.now; atoms = a.atoms.now } in
    model-arm names a.words.now a.at a.low a.high a.t (c.model_value.ensures names) c.between.ensures c.in-ModelSerialNumber.in-ModelSerialNumber-own.keys1

pub returns-in-ChainId : goal.returns-in-ChainId
returns-in-ChainId c =
    let a = c.args in
    let names : Names = record { residues = a.residues.now; atoms = a.atoms.now } in
    chain-arm names a.words.now a.at a.low a.high a.t (c.chain_value.ensures names) c.between-in-ChainId.ensures c.in-ChainId.in-ChainId-own.keys2

pub returns-in-ResidueSerialNumber : goal.returns-in-ResidueSerialNumber
returns-in-ResidueSerialNumber c =
    let a = c.args in
    let names : Names = record { residues = a.residues.now; atoms = a.atoms.now } in
    residue-arm names a.words.now a.at a.low a.high a.t (c.residue_value.ensures names) c.between-in-ResidueSerialNumber.ensures c.in-ResidueSerialNumber.in-ResidueSerialNumber-own.keys3

pub returns-in-False : goal.returns-in-False
returns-in-False c =
    let a = c.args in
    let names : Names = record { residues = a.residues.now; atoms = a.atoms.now } in
    lower-false names a.words.now a.at a.low a.high a.t (opened c.in_default.in_default-own.keys4) (c.atom_value-last.ensures a.residues.now) c.between-in_default.ensures c.in-False.is

pub returns-in_default-last : goal.returns-in_default-last
returns-in_default-last c =
    let a = c.args in
    let names : Names = record { residues = a.residues.now; atoms = a.atoms.now } in
    lower-arm names a.words.now a.at a.low a.high a.t (opened c.in_default.in_default-own.keys4) (c.atom_value-last.ensures a.residues.now) c.between-in_default.ensures c.narrowed.ensures (c.conformer_value-above.ensures a.atoms.now) c.between-known.ensures
