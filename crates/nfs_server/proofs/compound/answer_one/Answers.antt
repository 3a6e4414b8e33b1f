use Rattle.std.proofs.Common.{◌≡◌, ◌∙◌, true, false, ap, sym}
use Rattle.nfs_server.specs.Answering.{is_ok}
use Rattle.nfs_server.proofs.Refused.{refusal_ends}
use Rattle.nfs_server.proofs.compound.answer_one.Goals as goal
use Rattle.nfs_xdr.specs.declared.op_result.OpResult.{OpResult}
use Rattle.nfs_xdr.specs.OpResult.{status_of}

pub returns-in-Some-clause-continues : goal.returns-in-Some-clause-continues
returns-in-Some-clause-continues g c = λ continues.
    let ends = ap (λ (r : OpResult). is_ok (status_of r)) c.refusal-in-Some.ensures.value ∙ refusal_ends c.opnum_in-opnum.result c.in-Some.refusal in
    let apart : true ≡ false = sym continues ∙ ends in absurd cc
