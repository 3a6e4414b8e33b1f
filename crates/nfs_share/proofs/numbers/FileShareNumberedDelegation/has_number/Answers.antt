use Rattle.std.proofs.Common.{◌∙◌, ap}
use Rattle.std.specs.Prelude.{is_some}
use Rattle.nfs_share.specs.Delegations.{is_delegation_numbered}
use Rattle.nfs_share.proofs.DelegationOrder.{some_or_any}
use Rattle.nfs_share.proofs.numbers.FileShareNumberedDelegation.has_number.Goals as goal

pub returns : goal.returns
returns c =
    c.is_some.ensures ∙ ap is_some c.delegation_with_number.ensures
    ∙ some_or_any (is_delegation_numbered c.args.number) c.args.self.now.delegations
