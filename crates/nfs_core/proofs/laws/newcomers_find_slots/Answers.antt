use Rattle.std.proofs.Common.{◌<◌, arith}
use Rattle.nfs_core.proofs.Journals.{Lawful-confirm, Lawful-length}
use Rattle.nfs_core.proofs.laws.newcomers_find_slots.Goals as goal
use Rattle.nfs_owners.specs.declared.slots.TheConstants.{GENERATIONS}

pub returns : goal.returns
returns c = λ journal state id lawful.
    let left : state.clients.last_confirm < GENERATIONS =
    omega (arith, Lawful-confirm journal state lawful, Lawful-length journal state lawful) in
    c.no_number_is_left.ensures state.clients id (c.lawful_is_safe.ensures.safe journal state lawful).records left
