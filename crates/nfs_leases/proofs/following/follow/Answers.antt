-- Opening one lease leaves the other opened.
use Rattle.std.proofs.Common.{◌∙◌, ◌||◌, ◌==◌, ap, subst}
use Rattle.nfs_owners.specs.Slots.{is_earlier}
use Rattle.nfs_leases.specs.BookEvent.{Open}
use Rattle.nfs_leases.specs.BookOf.{CanFollow}
use Rattle.nfs_leases.proofs.following.follow.Goals as goal

pub retire-requires : goal.retire-requires
retire-requires g c =
    let book = c.args.book.now in
    let can = subst (CanFollow (g.B.LeaseBook.is_open book) (g.B.LeaseBook.was_opened book)) c.in-Replaces.is c.requires in
    record {
      opened =
          g.met.B.LeaseBook.opened_follows book (Open c.in-Replaces.comes c.args.moment) c.open-in-Replaces.new.self
          c.open-in-Replaces.ensures.happens c.in-Replaces.goes
          ∙ ap
          (λ b.
          b || (c.in-Replaces.goes == c.in-Replaces.comes) || is_earlier c.in-Replaces.goes c.in-Replaces.comes)
          can.1;
    }
