use Rattle.std.proofs.Common.{arith}
use Rattle.nfs_share.specs.Opens.{is_of, without}
use Rattle.nfs_share.proofs.AllOpens.{all_changed, changes_one_more, keeps_room, leaves_one_more}
use Rattle.nfs_share.proofs.opens.remove_owner_in.Goals as goal

pub loop-file-preserved : goal.loop-file-preserved
loop-file-preserved c = record {
  opens =
      changes_one_more (λ f. f.opens) (without (is_of c.args.owner.now)) c.args.files.now c.loop-file.files c.loop-file.file-index c.file-item.result c.remove_owner.new.self
      (omega arith) c.loop-file.auto.files c.loop-file.invariant.opens c.remove_owner.ensures.opens;
  delegations =
      leaves_one_more (λ f. f.delegations) c.args.files.now c.loop-file.files c.loop-file.file-index c.file-item.result c.remove_owner.new.self
      (omega arith) c.loop-file.invariant.delegations c.remove_owner.ensures.delegations;
  room = λ node room.
      keeps_room (λ f. f.room) c.loop-file.files c.loop-file.file-index node c.file-item.result c.remove_owner.new.self c.remove_owner.ensures.room
      (c.loop-file.invariant.room node room);
  lending = λ node room.
      keeps_room (λ f. f.lending_room) c.loop-file.files c.loop-file.file-index node c.file-item.result c.remove_owner.new.self c.remove_owner.ensures.lending
      (c.loop-file.invariant.lending node room);
}

pub returns-clause-opens : goal.returns-clause-opens
returns-clause-opens c =
    all_changed (λ f. f.opens) (without (is_of c.args.owner.now)) c.args.files.now c.loop-file.files c.loop-file.file-index c.loop-file-test.false c.loop-file.invariant.opens

pub returns-clause-room : goal.returns-clause-room
returns-clause-room c = c.loop-file.invariant.room

pub returns-clause-delegations : goal.returns-clause-delegations
returns-clause-delegations c = c.loop-file.invariant.delegations

pub returns-clause-lending : goal.returns-clause-lending
returns-clause-lending c = c.loop-file.invariant.lending
