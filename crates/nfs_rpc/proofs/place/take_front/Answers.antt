use Rattle.std.proofs.Common.{take, subst, arith}
use Rattle.std.proofs.lemmas.List.{length-take-le}
use Rattle.nfs_rpc.specs.declared.place.Place.{Place}
use Rattle.nfs_rpc.specs.Records.{IsAt}
use Rattle.nfs_rpc.proofs.Standing.{at_body}
use Rattle.nfs_rpc.proofs.place.take_front.Goals as goal

pub returns-in-InHeader-clause-at_text : goal.returns-in-InHeader-clause-at_text
returns-in-InHeader-clause-at_text c = λ text a.
    c.after_part.ensures.at_text text c.args.bodies.now.items (subst (λ (p : Place). IsAt text c.args.bodies.now.items p) c.in-InHeader.is a)

pub returns-in_ok-extend_from_slice-in-InBody-clause-at_text :
    goal.returns-in_ok-extend_from_slice-in-InBody-clause-at_text
returns-in_ok-extend_from_slice-in-InBody-clause-at_text c = λ text a.
    rw (c.in_ok-extend_from_slice-in-InBody.ensures.items)
    (at_body text c.args.bodies.now.items (take c.min-count-in-InBody.result c.args.piece.now) c.in-InBody.wanted c.min-count-in-InBody.result c.in-InBody.is_last
    (length-take-le c.min-count-in-InBody.result c.args.piece.now (omega arith)) (omega arith) (subst (λ (p : Place). IsAt text c.args.bodies.now.items p) c.in-InBody.is a))
