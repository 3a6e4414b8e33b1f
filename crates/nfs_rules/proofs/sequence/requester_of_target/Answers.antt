use Rattle.std.proofs.Common.{◌∙◌, Ok, sym, ap}
use Rattle.std.specs.Prelude.{option_map}
use Rattle.nfs_rules.specs.Finding.{found_seen, target_seen}
use Rattle.nfs_state.specs.Room.{state_of}
use Rattle.nfs_rules.specs.Sequences.{requester_of_target}
use Rattle.nfs_rules.proofs.Sequencing.{closer_known}
use Rattle.nfs_rules.proofs.sequence.requester_of_target.Goals as goal

pub returns-in-None-clause-requester : goal.returns-in-None-clause-requester
returns-in-None-clause-requester c = λ journal agrees.
    let state = state_of c.args.tables.now in
    let id = c.args.stateid in
    c.closer_of.ensures
    ∙ sym (closer_known journal id c.args.seqid c.args.tables.now.owners.owners agrees)
    ∙ ap (requester_of_target journal state id c.args.seqid) (sym (ap target_seen c.in-Ok.is ∙ ap (λ f. Ok (option_map found_seen f)) c.in-None.is))
