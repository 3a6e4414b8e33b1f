use Rattle.std.proofs.Common.{refl, rules}
use Rattle.nfs_owners.specs.Kept.{kept_seen}
use Rattle.nfs_owners.specs.declared.kept.Verdict.TheVariants.{Replay}
use Rattle.nfs_rules.proofs.Sequencing.{on_err, replay_sendable}
use Rattle.nfs_rules.proofs.sequence.judge.Goals as goal

pub returns-in_ok-clone-in-Replay-clause-sendable : goal.returns-in_ok-clone-in-Replay-clause-sendable
returns-in_ok-clone-in-Replay-clause-sendable c =
    replay_sendable (kept_seen c.args.kept.now c.args.call) _ c.args.request.now.op c.args.request.now.filehandle c.in_ok-clone-in-Replay.field-0 c.requires c.in-Replay.ensures.0 (search (rules, c.in-Replay.ensures.1))

pub returns-in_err-clone-in-Replay-clause-memory : goal.returns-in_err-clone-in-Replay-clause-memory
returns-in_err-clone-in-Replay-clause-memory c = on_err c.from_residual.result (c.in-Replay.answer.now, (Replay c.in-Replay.answer, c.in-Replay.ensures, refl))
