use Rattle.std.proofs.Common.{arith}
use Rattle.nfs_state.proofs.PageLists.{length-concat}
use Rattle.nfs_state.proofs.pages.Pages.grow.Goals as goal

pub returns-clause-room : goal.returns-clause-room
returns-clause-room c =
    omega (arith, length-concat c.add_zeros.new.pages.items (c.add_zeros.ensures.whole c.self.invariant), c.in_ok-add_zeros.ensures.room, c.div_ceil.ensures)
