-- Books that have the leases of a core's clients.
use Rattle.std.specs.Prelude.{◌≡◌, ℕ, Bool, false, IsFalse, IsTrue}
use Rattle.std.proofs.Common.{sym, ◌∙◌}
use Rattle.nfs_core.specs.Server.{Server}
use Rattle.nfs_owners.specs.Registry.{is_live}
use Rattle.nfs_leases.specs.BookOf.{IsBookOf}

false_not_true : (b : Bool) → b ≡ false → IsTrue b → ⊥
false_not_true b h k = cc

-- A book in which no lease was opened is the book of a core that no client is live in.
pub fresh_book_agrees : (is_open was_opened : ℕ → Bool) (lease : ℕ) (server : Server)
    → lease ≡ server.journal.lease
    → ((client : ℕ) → is_open client ≡ false) → ((client : ℕ) → was_opened client ≡ false)
    → ((client : ℕ) → IsFalse (is_live client server.stored.clients))
    → IsBookOf is_open was_opened lease server
fresh_book_agrees is_open was_opened lease server same closed fresh nobody = record {
  lasts = same;
  live = λ client. closed client ∙ sym (nobody client);
  past = λ client h. absurd (false_not_true (was_opened client) (fresh client) h);
}
