use Rattle.nfs_core.proofs.laws.lawful_is_safe.Goals as goal
use Rattle.nfs_core.proofs.FileBytes.{Lawful-bytes}
use Rattle.nfs_core.proofs.LiveLaws.{Lawful-numbered, Lawful-run}
use Rattle.nfs_core.proofs.Safety.{Laws, Lawful-safe}
use Rattle.nfs_core.proofs.SoundKept.{Lawful-kept}
use Rattle.nfs_core.proofs.SoundPlaces.{Lawful-files, Lawful-lists}

pub returns : goal.returns
returns c =
    let opens = c.opens_stay_compatible.ensures in
    let locks = c.locks_stay_compatible.ensures in
    let apart = c.delegations_stay_apart.ensures in
    let single = c.delegations_stay_single.ensures in
    let laws : Laws = record {
      opens = record {
        try_open = opens.try_open;
        advance = opens.advance;
        downgrade = opens.downgrade;
        removal = opens.removal;
      };
      locks = record { begin = locks.begin; change = locks.change; removal = locks.removal };
      apart = record {
        try_open = apart.try_open;
        advance = apart.advance;
        downgrade = apart.downgrade;
        removal = apart.removal;
        recall = apart.recall;
        give_back = apart.give_back;
        lend = apart.lend;
      };
      single = record { recall = single.recall; give_back = single.give_back; lend = single.lend };
      runs = c.first_change_has_place.ensures;
    } in
    record {
      safe = Lawful-safe laws;
      kept = Lawful-kept;
      numbered = Lawful-numbered laws;
      run = Lawful-run laws;
      lists = Lawful-lists;
      files = Lawful-files laws;
      bytes = Lawful-bytes laws;
    }
