use Rattle.std.proofs.Common.{rules}
use Rattle.std.proofs.lemmas.List.{map-append}
use Rattle.nfs_rpc.proofs.Finding.{found_last, found_open}
use Rattle.nfs_rpc.proofs.unfinished.end_fragment.Goals as goal

pub returns-in_ok-reserve-in-InBody-eq0-true-clause-found :
    goal.returns-in_ok-reserve-in-InBody-eq0-true-clause-found
returns-in_ok-reserve-in-InBody-eq0-true-clause-found c = λ text f.
    rw (c.push_back_reserved.ensures.items, c.in_ok-reserve-in-InBody-eq0-true.ensures.items, c.replace.ensures.value, map-append, c.replace.ensures.after, c.new.ensures.items)
    (found_last text _ _ c.args.bodies.now.items c.args.first (search rules) c.requires.fits f)

pub returns-in-InBody-eq0-false-clause-found : goal.returns-in-InBody-eq0-false-clause-found
returns-in-InBody-eq0-false-clause-found c = λ text f. found_open text _ _ c.args.bodies.now.items c.args.first (search rules) f
