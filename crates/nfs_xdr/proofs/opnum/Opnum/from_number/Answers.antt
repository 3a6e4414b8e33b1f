use Rattle.std.proofs.Common.{◌∙◌}
use Rattle.nfs_xdr.proofs.Opnums.{by_place}
use Rattle.nfs_xdr.proofs.opnum.Opnum.from_number.Goals as goal

pub returns : goal.returns
returns c = c.then_some.ensures ∙ rw (c.number.ensures, c.min.ensures, c.saturating_sub-place.ensures) (by_place c.args.number)
