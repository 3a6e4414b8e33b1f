use Rattle.std.proofs.Common.{arith}
use Rattle.nfs_share.specs.Delegations.{is_lent_to, without_lent}
use Rattle.nfs_share.specs.Opens.{is_of_client, without}
use Rattle.nfs_share.proofs.AllOpens.{all_changed, changes_one_more}
use Rattle.nfs_share.proofs.opens.remove_client_in.Goals as goal

pub loop-file-preserved : goal.loop-file-preserved
loop-file-preserved c = record {
  opens =
      changes_one_more (λ f. f.opens) (without (is_of_client c.args.client)) c.args.files.now c.loop-file.files c.loop-file.file-index c.file-item.result c.remove_client.new.self
      (omega arith) c.loop-file.auto.files c.loop-file.invariant.opens c.remove_client.ensures.opens;
  delegations =
      changes_one_more (λ f. f.delegations) (without_lent (is_lent_to c.args.client)) c.args.files.now c.loop-file.files c.loop-file.file-index c.file-item.result c.remove_client.new.self
      (omega arith) c.loop-file.auto.files c.loop-file.invariant.delegations c.remove_client.ensures.delegations;
}

pub returns-clause-opens : goal.returns-clause-opens
returns-clause-opens c =
    all_changed (λ f. f.opens) (without (is_of_client c.args.client)) c.args.files.now c.loop-file.files c.loop-file.file-index c.loop-file-test.false c.loop-file.invariant.opens

pub returns-clause-delegations : goal.returns-clause-delegations
returns-clause-delegations c =
    all_changed (λ f. f.delegations) (without_lent (is_lent_to c.args.client)) c.args.files.now c.loop-file.files c.loop-file.file-index c.loop-file-test.false c.loop-file.invariant.delegations
