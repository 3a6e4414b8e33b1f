use Rattle.std.proofs.Common.{◌≡◌, ℕ, refl, ap, sym, ◌∙◌}
use Rattle.nfs_leases.specs.declared.closing.Closing.{Closing}
use Rattle.nfs_leases.specs.declared.closing.Closing.TheVariants as closing
use Rattle.nfs_leases.specs.declared.lease_state.LeaseState.TheVariants as lease_state
use Rattle.nfs_leases.specs.BookEvent.{Look, Close}
use Rattle.nfs_leases.specs.PlainBook.{PlainBook, Happens, lease_of}
use Rattle.nfs_leases.proofs.laws.seen_leases_close.Goals as goal

closes : (old mid new : PlainBook) (client seen now : ℕ) (answer : Closing)
    → Happens old (Look client (lease_state.Open seen)) mid
    → Happens mid (Close client seen now answer) new
    → answer ≡ closing.Closed
closes old mid new client seen now closing.Closed look close = refl
closes old mid new client seen now closing.Changed look close =
    absurd (close.0 (ap (λ (book : PlainBook). lease_of book client) look.1 ∙ sym look.0))

pub returns : goal.returns
returns c = closes
