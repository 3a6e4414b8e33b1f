use Rattle.std.proofs.Common.{sym, ◌∙◌}
use Rattle.nfs_operations.proofs.Listings.{are_same}
use Rattle.nfs_operations.proofs.readdir.Listing.is_same.Goals as goal

pub returns : goal.returns
returns c =
    let same =
    are_same c.as_slice-these.result.now c.as_slice-those.result.now c.loop-i.i c.if-these-those.false c.loop-i-test.false c.loop-i.invariant in
    sym c.as_slice-these.ensures ∙ same ∙ c.as_slice-those.ensures
