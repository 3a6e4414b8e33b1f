-- clientid4 (RFC 7530, section 9.1.1) is the u64 epoch x 2^32 + number: its upper four bytes are the epoch, and its
-- lower four the number.
use Rattle.std.specs.Prelude.{ℕ, Bool, ◌==◌, ◌&&◌, Option, Some, None, if◌then◌else◌}
use Rattle.std.proofs.Common.{refl}
use Rattle.nfs_forms.specs.declared.client_id.ClientId.{ClientId}
use Rattle.xdr.specs.Form.{Form, ◌and◌, of, u32}

-- typedef uint64_t clientid4;
unfoldable pub client_id : Form ClientId
client_id = of (λ p. record { epoch = p.0; number = p.1 }) (λ c. (c.epoch, c.number))
    (λ p. refl) (λ c. refl)
    (u32 and u32)

-- the two clientids are the same
abbrev pub is_same_client : ClientId → ClientId → Bool
is_same_client a b = (a.epoch == b.epoch) && (a.number == b.number)

-- the number of the clientid's client, if it is one of this epoch
abbrev pub number_in : ℕ → ClientId → Option ℕ
number_in epoch client = if client.epoch == epoch then Some client.number else None
